-- The rows of an option whose first values pass a test, for arguments without a fault.
use Rattle.std.proofs.Common.{◌≡◌, ◌⊎◌, inl, inr, refl, subst, Bool, true, false, List, [], ◌∷◌, ◌++◌, Option, Some, None, if◌then◌else◌}
use Rattle.std.specs.Prelude.{find, option_and_then, slice_get}
use Rattle.std.specs.Option.{option_map_or}
use Rattle.std.specs.Str.{bytes_eq}
use Rattle.clap.proofs.ValueTestLemmas.{accepts-Accepts}
use Rattle.clap.specs.Facts.{explicit_source}
use Rattle.clap.specs.Kinds.{value_kinds}
use Rattle.clap.specs.Takes.{is_given}
use Rattle.clap.specs.ValueTests.{accepts}
use Rattle.clap.specs.Values.{Accepts, refused_kind}
use Rattle.clap.specs.Walk.{Row, Rule, Text, default_rows, first_of, has_row, more_values, reading_by, with_default, with_values, without}
use Rattle.clap.specs.declared.builder.value_parser.Reading.{Reading}
use Rattle.clap.specs.declared.builder.value_parser.ValueParser.{ValueParser}
use Rattle.clap.specs.declared.parser.matches.ValueSource.{ValueSource}

module _ (id : Text) (Passes : Text → Type 0) where
  -- there is a first value, and it passes
  abbrev pub HasFirst : List Text → Type 0
  HasFirst [] = ⊥
  HasFirst (v ∷ values) = Passes v

  -- each row of the option has a first value that passes
  abbrev pub AllPass : List Row → Type 0
  AllPass [] = Unit {0}
  AllPass (r ∷ rows) = (bytes_eq r.id id ≡ true → HasFirst r.values) × AllPass rows

  first_stays : (values more : List Text) → HasFirst values → HasFirst (values ++ more)
  first_stays [] more h = absurd h
  first_stays (v ∷ values) more h = h

  without_pass : (name : Text) (rows : List Row) → AllPass rows → AllPass (without name rows)
  without_pass name [] h = tt
  without_pass name (r ∷ rows) h = go (bytes_eq r.id name) (without_pass name rows h.1)
    where
      go : (t : Bool) → AllPass (without name rows) → AllPass (if t then rows else r ∷ without name rows)
      go true rest = h.1
      go false rest = (h.0, rest)

  values_pass : (name : Text) (how : Reading) (source : ValueSource) (values : List Text) (rows : List Row) → (bytes_eq name id ≡ true → HasFirst values)
      → AllPass rows → AllPass (with_values name how source values rows)
  values_pass name how source values [] first h = (first, tt)
  values_pass name how source values (r ∷ rows) first h = go (bytes_eq r.id name) (values_pass name how source values rows first h.1)
    where
      go : (t : Bool) → AllPass (with_values name how source values rows)
          → AllPass (if t then more_values source values r ++ rows else r ∷ with_values name how source values rows)
      go true rest = ((λ same. first_stays r.values values (h.0 same)), h.1)
      go false rest = (h.0, rest)

  -- a use that replaces the value
  pub set_pass : (name : Text) (how : Reading) (source : ValueSource) (values : List Text) (rows : List Row) → (bytes_eq name id ≡ true → HasFirst values)
      → AllPass rows → AllPass (with_values name how source values (without name rows))
  set_pass name how source values rows first h = values_pass name how source values (without name rows) first (without_pass name rows h)

  first_text : (values : List Text) → HasFirst values → (text : Text) × (slice_get values 0 ≡ Some text) × Passes text
  first_text [] h = absurd h
  first_text (v ∷ values) h = (v, refl, h)

  found_first : (rows : List Row) (r : Row) → AllPass rows → find (λ r. bytes_eq r.id id) rows ≡ Some r → HasFirst r.values
  found_first [] r h e = cc
  found_first (x ∷ rows) r h e = go (bytes_eq x.id id) refl e (found_first rows r h.1)
    where
      go : (t : Bool) → bytes_eq x.id id ≡ t → (if t then Some x else find (λ r. bytes_eq r.id id) rows) ≡ Some r
          → (find (λ r. bytes_eq r.id id) rows ≡ Some r → HasFirst r.values) → HasFirst r.values
      go true same e rest = let one : x ≡ r = cc in subst (λ (r : Row). HasFirst r.values) one (h.0 same)
      go false same e rest = rest e

  -- the first row of the option has its value
  pub given_first : (rows : List Row) → AllPass rows → is_given id rows ≡ true → (text : Text) × (first_of id rows ≡ Some text) × Passes text
  given_first rows h given = go (find (λ r. bytes_eq r.id id) rows) refl given
    where
      go : (o : Option Row) → find (λ r. bytes_eq r.id id) rows ≡ o → option_map_or (λ r. explicit_source r.source) o false ≡ true
          → (text : Text) × (option_and_then (λ r. slice_get r.values 0) o ≡ Some text) × Passes text
      go None e given = cc
      go (Some r) e given = first_text r.values (found_first rows r h e)

  -- the option has no row, or its first row has its value
  pub first_if_any : (rows : List Row) → AllPass rows → (first_of id rows ≡ None) ⊎ ((text : Text) × (first_of id rows ≡ Some text) × Passes text)
  first_if_any rows h = go (find (λ r. bytes_eq r.id id) rows) refl
    where
      go : (o : Option Row) → find (λ r. bytes_eq r.id id) rows ≡ o
          → (option_and_then (λ r. slice_get r.values 0) o ≡ None) ⊎ ((text : Text) × (option_and_then (λ r. slice_get r.values 0) o ≡ Some text) × Passes text)
      go None e = inl refl
      go (Some r) e = inr (first_text r.values (found_first rows r h e))

-- an argument with no defaults gets none
pub no_default : (rows : List Row) (a : Rule) → a.defaults ≡ [] → with_default rows a ≡ rows
no_default rows a none = go (has_row a.id rows)
  where
    go : (t : Bool) → (if t then rows else default_rows a.id (reading_by a) a.defaults rows) ≡ rows
    go true = refl
    go false = rw none refl

-- a value with no kind of error is accepted
pub no_kind_accepted : (ignore_case : Bool) (parser : ValueParser) (text : Text) → value_kinds ignore_case parser text ≡ [] → Accepts ignore_case parser text
no_kind_accepted ignore_case parser text e = accepts-Accepts ignore_case parser text (go (accepts ignore_case parser text) e)
  where
    go : (t : Bool) → (if t then [] else refused_kind parser ∷ []) ≡ [] → t ≡ true
    go true e = refl
    go false e = cc
