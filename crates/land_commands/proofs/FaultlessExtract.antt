-- Arguments of `extract` in which `clap` finds no fault name an extract.
use Rattle.std.proofs.Common.{◌≡◌, ◌⊎◌, ◌||◌, inl, inr, ap, refl, sym, subst, ℕ, ℤ, pos, negsuc, Bool, true, false, List, [], ◌∷◌, ◌++◌, Option, Some, None, codes, map}
use Rattle.std.specs.Prelude.{◌≤ℤ◌}
use Rattle.std.specs.Borrow.{Bor}
use Rattle.std.specs.List.{list_any}
use Rattle.std.specs.Str.{bytes_eq}
use Rattle.std.specs.Str.Parse.{signed_digits_value}
use Rattle.std.proofs.lemmas.Slice.Eq.{bytes_eq-Decides}
use Rattle.std.proofs.lemmas.Bool.{or_cases, or_parts}
use Rattle.clap.specs.Faults.{level_fault}
use Rattle.clap.specs.Simple.{filled, help_rule, rows_at}
use Rattle.clap.specs.Values.{Accepts}
use Rattle.clap.specs.Walk.{Row, Rule, Text, first_of, nothing_held, rows_after, texts}
use Rattle.clap.specs.declared.builder.value_parser.ValueParser.{ValueParser}
use Rattle.clap.specs.declared.builder.value_parser.ValueParser.TheVariants as parser
use Rattle.land_commands.proofs.BuiltCommands.{extract_built}
use Rattle.land_commands.proofs.GivenOptions.{Each, HasNoDefault, Keeps, given_passes, help_keeps, option_keeps, passes_if_any, required_given}
use Rattle.land_commands.proofs.NumberRows.{AllPass}
use Rattle.land_commands.specs.Words.Choices.{AreChoiceWords, Places, kind_word, kind_words, role_word, role_words}
use Rattle.land_commands.specs.Words.Names.{HasOptionalNumber, IsCommandIn}
use Rattle.land_commands.specs.Words.Options.{moment_parser, option_rule, party_parser}
use Rattle.land_commands.specs.Words.PlainCommands.{PlainCommand, to_extract}
use Rattle.land_commands.specs.declared.words.choices.Choices.{Choices}
use Rattle.land_core.specs.Numbers.{last_moment}
use Rattle.land_core.specs.declared.kind.Kind.{Kind}
use Rattle.land_core.specs.declared.kind.Kind.TheVariants as kind
use Rattle.land_core.specs.declared.role.Role.{Role}
use Rattle.land_core.specs.declared.role.Role.TheVariants as role

-- a number that is not below 1 is a natural number
pub count_of : (z : ℤ) → pos 1 ≤ℤ z → (n : ℕ) × (z ≡ pos n)
count_of (pos n) h = (n, refl)
count_of (negsuc n) h = absurd h.le

-- ---- several options

-- an option of a command
pub record OptionShape : Type 0 where
  pub name : Text
  pub is_required : Bool
  pub values : ValueParser

abbrev pub told : Text → Bool → ValueParser → OptionShape
told name is_required values = record { name = name; is_required = is_required; values = values }

abbrev pub rule_told : OptionShape → Rule
rule_told o = filled (option_rule o.name o.is_required o.values)

module _ (name : Text) (Passes : Text → Type 0) where
  -- the values that the options with this name accept pass
  abbrev Suits : List OptionShape → Type 0
  Suits [] = Unit {0}
  Suits (o ∷ options) = (bytes_eq o.name name ≡ true → (text : Text) → Accepts false o.values text → Passes text) × Suits options

  suits_keep : (options : List OptionShape) → Suits options → Each (Keeps (AllPass name Passes)) (map rule_told options ++ filled help_rule ∷ [])
  suits_keep [] suits = (help_keeps _, tt)
  suits_keep (o ∷ options) suits = (option_keeps name Passes o.name o.is_required o.values suits.0, suits_keep options suits.1)

  -- options with other names
  others_suit : (options : List OptionShape) → list_any (λ o. bytes_eq o.name name) options ≡ false → Suits options
  others_suit [] e = tt
  others_suit (o ∷ options) e =
      let parts = or_parts (bytes_eq o.name name) _ e in
      let other = parts.0 in
      ((λ same. cc), others_suit options parts.1)

  -- one option with this name among others
  one_suits : (before : List OptionShape) (o : OptionShape) (after : List OptionShape) → list_any (λ o. bytes_eq o.name name) before ≡ false
      → list_any (λ o. bytes_eq o.name name) after ≡ false → ((text : Text) → Accepts false o.values text → Passes text) → Suits (before ++ o ∷ after)
  one_suits [] o after e f h = ((λ same. h), others_suit after f)
  one_suits (x ∷ before) o after e f h =
      let parts = or_parts (bytes_eq x.name name) _ e in
      let other = parts.0 in
      ((λ same. cc), one_suits before o after parts.1 f h)

  pub one_keeps : (before : List OptionShape) (o : OptionShape) (after : List OptionShape) → list_any (λ o. bytes_eq o.name name) before ≡ false
      → list_any (λ o. bytes_eq o.name name) after ≡ false → ((text : Text) → Accepts false o.values text → Passes text)
      → Each (Keeps (AllPass name Passes)) (map rule_told (before ++ o ∷ after) ++ filled help_rule ∷ [])
  one_keeps before o after e f h = suits_keep (before ++ o ∷ after) (one_suits before o after e f h)

-- ---- options with a fixed set of words

pub any_text : (text : Text) (words : List (Bor Text)) → list_any (λ word. bytes_eq word.now text) words ≡ list_any (λ word. bytes_eq word text) (texts words)
any_text text [] = refl
any_text text (word ∷ words) = ap (λ b. bytes_eq word.now text || b) (any_text text words)

-- the value is the word of one of these
module _ {A : Type 0} (spell : A → Text) where
  spelled_so : (all : List A) (text : Text) → list_any (λ a. bytes_eq (spell a) text) all ≡ true → (a : A) × (text ≡ spell a)
  spelled_so [] text e = cc
  spelled_so (a ∷ all) text e = go (or_cases (bytes_eq (spell a) text) _ e) (spelled_so all text)
    where
      go : (bytes_eq (spell a) text ≡ true) ⊎ (list_any (λ a. bytes_eq (spell a) text) all ≡ true)
          → (list_any (λ a. bytes_eq (spell a) text) all ≡ true → (a : A) × (text ≡ spell a)) → (a : A) × (text ≡ spell a)
      go (inl h) rest = (a, sym ((bytes_eq-Decides (spell a) text).0 h))
      go (inr h) rest = rest h

chosen_text : (places : Places) (words : List Text) (text : Text) → texts places.now ≡ words → Accepts false (parser.Names places) text
    → list_any (λ word. bytes_eq word text) words ≡ true
chosen_text places words text e accepted =
    subst (λ (words : List Text). list_any (λ word. bytes_eq word text) words ≡ true) e
    (subst (λ b. b ≡ true) (any_text text places.now) accepted)

role_chosen : (places : Places) (text : Text) → texts places.now ≡ role_words → Accepts false (parser.Names places) text
    → (role : Role) × (text ≡ role_word role)
role_chosen places text e accepted =
    spelled_so role_word
    (role.Citizen ∷ role.Conveyancer ∷ role.Notary ∷ role.Bank ∷ role.CertifiedSurveyor ∷ role.StateAdministrator ∷ []) text
    (chosen_text places role_words text e accepted)

kind_chosen : (places : Places) (text : Text) → texts places.now ≡ kind_words → Accepts false (parser.Names places) text
    → (kind : Kind) × (text ≡ kind_word kind)
kind_chosen places text e accepted =
    spelled_so kind_word (kind.Party ∷ kind.Unit ∷ kind.Parcel ∷ kind.Rrr ∷ kind.Source ∷ kind.Mutation ∷ []) text
    (chosen_text places kind_words text e accepted)

-- ---- the command

abbrev pub file_shape : OptionShape
file_shape = told (codes "file") true parser.String

abbrev clock_shape : OptionShape
clock_shape = told (codes "clock") true moment_parser

abbrev party_shape : OptionShape
party_shape = told (codes "party") true party_parser

abbrev role_shape : Places → OptionShape
role_shape roles = told (codes "role") true (parser.Names roles)

abbrev kind_shape : Places → OptionShape
kind_shape kinds = told (codes "kind") true (parser.Names kinds)

abbrev pub at_told : OptionShape
at_told = told (codes "at") false moment_parser

-- an optional option has a moment, or is absent
pub moment_if_any : (rows : List Row) → (first_of (codes "at") rows ≡ None) ⊎ ((text : Text) × (first_of (codes "at") rows ≡ Some text) × Accepts false moment_parser text)
    → (at : Option ℤ) × HasOptionalNumber rows (codes "at") (pos 0) last_moment at
moment_if_any rows (inl none) = (None, none)
moment_if_any rows (inr (text, found, accepted)) =
    (Some (signed_digits_value 10 text), record { text = text; found = found; in_range = accepted; value = refl })

module _ (choices : Choices) (spelled : AreChoiceWords choices) (words : List Text)
    (faultless : level_fault (extract_built choices) [] nothing_held words false [] ≡ []) where
  no_defaults : Each HasNoDefault (extract_built choices).rules
  no_defaults = (refl, (refl, (refl, (refl, (refl, (refl, (refl, tt)))))))

  abbrev rows : List Row
  rows = rows_after (extract_built choices).rules [] words

  abbrev Given : Text → (Text → Type 0) → Type 0
  Given name Passes = (text : Text) × (first_of name rows ≡ Some text) × Passes text

  file_given : Given (codes "file") (Accepts false parser.String)
  file_given =
      given_passes (extract_built choices) no_defaults words faultless (codes "file") (Accepts false parser.String)
      (one_keeps (codes "file") (Accepts false parser.String) [] file_shape (clock_shape ∷ party_shape ∷ role_shape choices.roles ∷ kind_shape choices.kinds ∷ at_told ∷ []) refl refl (λ text h. h))
      ((required_given (extract_built choices) no_defaults words faultless).0 refl)

  clock_given : Given (codes "clock") (Accepts false moment_parser)
  clock_given =
      given_passes (extract_built choices) no_defaults words faultless (codes "clock") (Accepts false moment_parser)
      (one_keeps (codes "clock") (Accepts false moment_parser) (file_shape ∷ []) clock_shape (party_shape ∷ role_shape choices.roles ∷ kind_shape choices.kinds ∷ at_told ∷ []) refl refl (λ text h. h))
      ((required_given (extract_built choices) no_defaults words faultless).1.0 refl)

  party_given : Given (codes "party") (Accepts false party_parser)
  party_given =
      given_passes (extract_built choices) no_defaults words faultless (codes "party") (Accepts false party_parser)
      (one_keeps (codes "party") (Accepts false party_parser) (file_shape ∷ clock_shape ∷ []) party_shape (role_shape choices.roles ∷ kind_shape choices.kinds ∷ at_told ∷ []) refl refl (λ text h. h))
      ((required_given (extract_built choices) no_defaults words faultless).1.1.0 refl)

  role_given : Given (codes "role") (Accepts false (parser.Names choices.roles))
  role_given =
      given_passes (extract_built choices) no_defaults words faultless (codes "role") (Accepts false (parser.Names choices.roles))
      (one_keeps (codes "role") (Accepts false (parser.Names choices.roles)) (file_shape ∷ clock_shape ∷ party_shape ∷ []) (role_shape choices.roles) (kind_shape choices.kinds ∷ at_told ∷ []) refl refl (λ text h. h))
      ((required_given (extract_built choices) no_defaults words faultless).1.1.1.0 refl)

  kind_given : Given (codes "kind") (Accepts false (parser.Names choices.kinds))
  kind_given =
      given_passes (extract_built choices) no_defaults words faultless (codes "kind") (Accepts false (parser.Names choices.kinds))
      (one_keeps (codes "kind") (Accepts false (parser.Names choices.kinds)) (file_shape ∷ clock_shape ∷ party_shape ∷ role_shape choices.roles ∷ []) (kind_shape choices.kinds) (at_told ∷ []) refl refl (λ text h. h))
      ((required_given (extract_built choices) no_defaults words faultless).1.1.1.1.0 refl)

  at_if_any : (at : Option ℤ) × HasOptionalNumber rows (codes "at") (pos 0) last_moment at
  at_if_any =
      moment_if_any rows
      (passes_if_any (extract_built choices) no_defaults words faultless (codes "at") (Accepts false moment_parser)
      (one_keeps (codes "at") (Accepts false moment_parser) (file_shape ∷ clock_shape ∷ party_shape ∷ role_shape choices.roles ∷ kind_shape choices.kinds ∷ []) at_told [] refl refl (λ text h. h)))

  -- arguments of `extract` without a fault have a file, a clock, a party, a role and a kind, and a moment if `--at` is given
  pub extract_named : (order : PlainCommand) × IsCommandIn (Some (rows_at (extract_built choices) words)) order
  extract_named =
      let clock = clock_given in
      let party = party_given in
      let number = count_of (signed_digits_value 10 party.0) party.2.2 in
      let role = role_chosen choices.roles role_given.0 spelled.roles role_given.2 in
      let kind = kind_chosen choices.kinds kind_given.0 spelled.kinds kind_given.2 in (
        to_extract file_given.0 (signed_digits_value 10 clock.0) number.0 role.0 kind.0 at_if_any.0,
        (
          rows,
          refl,
          (
            file_given.1,
            record { text = clock.0; found = clock.1; in_range = clock.2; value = refl },
            (
              record { text = party.0; found = party.1; in_range = party.2; value = number.1 },
              subst (λ (text : Text). first_of (codes "role") rows ≡ Some text) role.1 role_given.1,
            ),
            subst (λ (text : Text). first_of (codes "kind") rows ≡ Some text) kind.1 kind_given.1,
            at_if_any.1,
          ),
        ),
      )
