-- Options of arguments without a fault: those that are required are given, and their first values pass.
use Rattle.std.proofs.Common.{◌≡◌, ◌∙◌, ◌⊎◌, ◌&&◌, not, ap, refl, sym, subst, Bool, true, false, List, [], ◌∷◌, Some, None, cond, length}
use Rattle.std.specs.Prelude.{find, fold}
use Rattle.std.specs.List.{list_any}
use Rattle.std.specs.Str.{bytes_eq}
use Rattle.std.proofs.lemmas.Bool.{or_parts}
use Rattle.clap.specs.Faults.{defaults_fault, level_fault, repeat_fault, settle_fault, use_fault, walk_fault}
use Rattle.clap.specs.Kinds.{check_kinds, range_kinds, value_kinds}
use Rattle.clap.specs.Simple.{Shape, filled, help_rule}
use Rattle.clap.specs.Takes.{is_given}
use Rattle.clap.specs.Values.{Accepts}
use Rattle.clap.specs.Walk.{Row, Rule, Text, finished, first_of, nothing_held, rows_after, settled, used, walk, walk_from, with_default}
use Rattle.clap.specs.declared.builder.value_parser.ValueParser.{ValueParser}
use Rattle.clap.specs.declared.parser.matches.ValueSource.TheVariants.{CommandLine}
use Rattle.land_commands.proofs.NumberRows.{AllPass, first_if_any, given_first, no_default, no_kind_accepted, set_pass}
use Rattle.land_commands.proofs.WalkKeeps.{both_none, settle_keeps, walk_keeps}
use Rattle.land_commands.specs.Words.Options.{option_rule}

-- a condition on each of these arguments
abbrev pub Each : (Rule → Type 0) → List Rule → Type 0
Each P [] = Unit {0}
Each P (a ∷ rules) = P a × Each P rules

each_found : (P : Rule → Type 0) (p : Rule → Bool) (rules : List Rule) (a : Rule) → Each P rules → find p rules ≡ Some a → P a
each_found P p [] a each e = cc
each_found P p (x ∷ rules) a each e = go (p x) e (each_found P p rules a each.1)
  where
    go : (t : Bool) → cond t (Some x) (find p rules) ≡ Some a → (find p rules ≡ Some a → P a) → P a
    go true e rest = let one : x ≡ a = cc in subst P one each.0
    go false e rest = rest e

-- a use of the argument without a fault preserves the condition on the rows
abbrev pub Keeps : (List Row → Type 0) → Rule → Type 0
Keeps Good a = (again : Bool) (values : List Text) (rows : List Row) → use_fault again a values rows ≡ [] → Good rows → Good (used a values rows)

-- the argument has no default value
abbrev pub HasNoDefault : Rule → Type 0
HasNoDefault a = a.defaults ≡ []

-- a required argument is given
abbrev pub IsGiven : List Row → Rule → Type 0
IsGiven rows a = a.required ≡ true → is_given a.id rows ≡ true

-- after a use of an option, the first values of this and the other options still pass
pub option_keeps : (name : Text) (Passes : Text → Type 0) (used_name : Text) (is_required : Bool) (parser : ValueParser)
    → (bytes_eq used_name name ≡ true → (text : Text) → Accepts false parser text → Passes text)
    → Keeps (AllPass name Passes) (filled (option_rule used_name is_required parser))
option_keeps name Passes used_name is_required parser passes again [] rows e h = cc
option_keeps name Passes used_name is_required parser passes again (v ∷ values) rows e h =
    let action = (both_none (range_kinds 1 1 (length (v ∷ values))) _ e).1 in
    let each = (both_none (repeat_fault again used_name rows) _ action).1 in
    let first = (both_none (value_kinds false parser v) _ each).0 in
    set_pass name Passes used_name _ CommandLine (v ∷ values) rows (λ same. passes same v (no_kind_accepted false parser v first)) h

-- a use of `--help` is always a fault
no_help : (again : Bool) (values : List Text) (rows : List Row) → use_fault again (filled help_rule) values rows ≡ [] → ⊥
no_help again values rows e = let bad = (both_none (range_kinds 0 0 (length values)) _ e).1 in cc

pub help_keeps : (Good : List Row → Type 0) → Keeps Good (filled help_rule)
help_keeps Good again values rows e h = absurd (no_help again values rows e)

-- without default values the rows are unchanged
defaults_unchanged : (rules : List Rule) (rows : List Row) → Each HasNoDefault rules → fold with_default rows rules ≡ rows
defaults_unchanged [] rows none = refl
defaults_unchanged (a ∷ rules) rows none = ap (λ r. fold with_default r rules) (no_default rows a none.0) ∙ defaults_unchanged rules rows none.1

given_where : (required given : Bool) → (required && not given) ≡ false → required ≡ true → given ≡ true
given_where true true e r = refl
given_where true false e r = cc
given_where false given e r = cc

each_given : (rows : List Row) (rules : List Rule) → list_any (λ a. a.required && not (is_given a.id rows)) rules ≡ false → Each (IsGiven rows) rules
each_given rows [] e = tt
each_given rows (a ∷ rules) e =
    let parts = or_parts (a.required && not (is_given a.id rows)) _ e in
    (given_where a.required (is_given a.id rows) parts.0, each_given rows rules parts.1)

none_wanted : (help command negates wanted : Bool) → check_kinds help command (not (negates && false) && wanted) ≡ [] → wanted ≡ false
none_wanted help command negates false e = refl
none_wanted true command negates true e = cc
none_wanted false true negates true e = cc
none_wanted false false true true e = cc
none_wanted false false false true e = cc

module _ (s : Shape) (none : Each HasNoDefault s.rules) (words : List Text) (faultless : level_fault s [] nothing_held words false [] ≡ []) where
  -- required options are given
  pub required_given : Each (IsGiven (rows_after s.rules [] words)) s.rules
  required_given =
      let end = (walk s.rules [] nothing_held words).held in
      let walked = both_none (walk_fault s [] (walk_from nothing_held) words) _ faultless in
      let settles = both_none (settle_fault s.rules s.args_override_self end) _ walked.1 in
      let checks = (both_none (defaults_fault (settled s.rules end).rows s.rules) _ settles.1).1 in
      each_given (finished s.rules end) s.rules (none_wanted _ _ s.subcommand_negates_reqs _ checks)

  -- the first values of an option pass
  all_pass : (name : Text) (Passes : Text → Type 0) → Each (Keeps (AllPass name Passes)) s.rules → AllPass name Passes (rows_after s.rules [] words)
  all_pass name Passes each =
      let end = (walk s.rules [] nothing_held words).held in
      let walked = both_none (walk_fault s [] (walk_from nothing_held) words) _ faultless in
      let settles = both_none (settle_fault s.rules s.args_override_self end) _ walked.1 in
      let kept = walk_keeps s (AllPass name Passes) keeps [] (walk_from nothing_held) words walked.0 tt in
      let settled_kept = settle_keeps s (AllPass name Passes) keeps s.args_override_self end settles.0 kept in
      subst (AllPass name Passes) (sym (defaults_unchanged s.rules (settled s.rules end).rows none)) settled_kept
    where
      keeps : (p : Rule → Bool) (a : Rule) → find p s.rules ≡ Some a → Keeps (AllPass name Passes) a
      keeps p a found = each_found (Keeps (AllPass name Passes)) p s.rules a each found

  -- an option that is given has a first value, which passes
  pub given_passes : (name : Text) (Passes : Text → Type 0) → Each (Keeps (AllPass name Passes)) s.rules → is_given name (rows_after s.rules [] words) ≡ true
      → (text : Text) × (first_of name (rows_after s.rules [] words) ≡ Some text) × Passes text
  given_passes name Passes each given = given_first name Passes (rows_after s.rules [] words) (all_pass name Passes each) given

  -- an option has no value, or its first value passes
  pub passes_if_any : (name : Text) (Passes : Text → Type 0) → Each (Keeps (AllPass name Passes)) s.rules
      → (first_of name (rows_after s.rules [] words) ≡ None)
      ⊎ ((text : Text) × (first_of name (rows_after s.rules [] words) ≡ Some text) × Passes text)
  passes_if_any name Passes each = first_if_any name Passes (rows_after s.rules [] words) (all_pass name Passes each)
