-- What a caller's own name and own entries tell of its interest in a unit, without the other names of its
-- circle and without the other entries of the unit.
use Rattle.std.proofs.Common.{◌≡◌, ◌&&◌, ◌||◌, ◌∙◌, ℕ, ℤ, Bool, true, false, not, cond, nat_eq, List, [], ◌∷◌, filter, Some, refl, sym, ap, ap₂}
use Rattle.std.proofs.lemmas.Bool.{and_parts, false≢true}
use Rattle.std.proofs.lemmas.Bool.Decides.{Decides-eqb}
use Rattle.std.specs.Cmp.{nat_cmp_total}
use Rattle.std.specs.FinMap as map
use Rattle.std.specs.FinMap.{nat_cmp-IsAntisymmetric}
use Rattle.std.specs.List.{list_any}
use Rattle.land_core.proofs.Booleans.{or_nothing, or_true}
use Rattle.land_core.proofs.Reflection.{entries-entries_where}
use Rattle.land_core.specs.Entries.{some}
use Rattle.land_core.specs.Role.{is_role}
use Rattle.land_core.specs.Units.{is_right_of}
use Rattle.land_core.specs.declared.caller.Caller.{Caller}
use Rattle.land_core.specs.declared.register.Register.{Register}
use Rattle.land_core.specs.declared.role.Role.{Role}
use Rattle.land_core.specs.declared.role.Role.TheVariants as roles
use Rattle.land_core.specs.declared.rrr.Class.{Class}
use Rattle.land_core.specs.declared.rrr.Class.TheVariants as class
use Rattle.land_core.specs.declared.rrr.RightType.TheVariants.{Ownership}
use Rattle.land_core.specs.declared.rrr.RrrRecord.{RrrRecord}
use Rattle.land_rules.specs.Circles.{circle_of, is_name_of, principals_of}
use Rattle.land_rules.specs.Denials.Interests.{Entries, entries_in_unit, interest_at, interest_of, is_mortgage_for, is_ownership_under, is_right_under, shows_entry}
use Rattle.land_rules.specs.Relations.{holds_under_name, is_member_of, is_mortgage_class, is_right}
use Rattle.land_rules.specs.declared.denials.interests.Interest.{Interest}
use Rattle.land_rules.specs.declared.denials.interests.Interest.TheVariants.{NoInterest, Holder, Owner, Creditor}
use Rattle.land_select_queries.proofs.Containing.{any_decides}
use Rattle.land_select_queries.proofs.Records.{kept_by_filter}
use Rattle.land_select_queries.proofs.Standing.{entry_found}
use Rattle.land_select_queries.proofs.Views.{plain}
use Rattle.land_select_queries.specs.Lookups.Parts.{ReadsPart}
use Rattle.sqlite_trees.specs.Tree.{Trees}

-- ---- more names

or_more : (a b c d : Bool) → (a ≡ true → b ≡ true) → (c ≡ true → d ≡ true) → (a || c) ≡ true → (b || d) ≡ true
or_more true b c d one rest h = ap (λ it. it || d) (one refl)
or_more false true c d one rest h = refl
or_more false false c d one rest h = rest h

and_more : (a b c : Bool) → (b ≡ true → c ≡ true) → (a && b) ≡ true → (a && c) ≡ true
and_more true b c more h = more h
and_more false b c more h = h

any_more : {X : Type 0} (p q : X → Bool) → ((x : X) → p x ≡ true → q x ≡ true) → (xs : List X) → list_any p xs ≡ true → list_any q xs ≡ true
any_more p q more [] h = h
any_more p q more (x ∷ xs) h = or_more (p x) (q x) (list_any p xs) (list_any q xs) (more x) (any_more p q more xs) h

abbrev of_citizen : (holds owns : Bool) → Interest
of_citizen holds owns = cond holds (cond owns Owner Holder) NoInterest

holder_is_no_owner : Holder ≡ Owner → ⊥
holder_is_no_owner e = cc

nobody_is_no_owner : NoInterest ≡ Owner → ⊥
nobody_is_no_owner e = cc

owner_more : (holds owns more_holds more_owns : Bool) → (holds ≡ true → more_holds ≡ true) → (owns ≡ true → more_owns ≡ true) → of_citizen holds owns ≡ Owner → of_citizen more_holds more_owns ≡ Owner
owner_more true true more_holds more_owns one other is = ap₂ of_citizen (one refl) (other refl)
owner_more true false more_holds more_owns one other is = absurd (holder_is_no_owner is)
owner_more false owns more_holds more_owns one other is = absurd (nobody_is_no_owner is)

module _ (p q : ℕ → Bool) (more : (named : ℕ) → p named ≡ true → q named ≡ true) (entries : Entries) where
  some_more : (is_of : Class → Bool) → some (λ n e. is_of e.class && p e.party) entries ≡ true → some (λ n e. is_of e.class && q e.party) entries ≡ true
  some_more is_of =
      any_more (λ e. is_of e.1.class && p e.1.party) (λ e. is_of e.1.class && q e.1.party) (λ e. and_more (is_of e.1.class) (p e.1.party) (q e.1.party) (more e.1.party)) (map.entries entries)

  more_of_role : (party : ℕ) (role : Role) → interest_of p (record { party = party; role = role }) entries ≡ Owner → interest_of q (record { party = party; role = role }) entries ≡ Owner
  more_of_role party roles.Citizen is =
      owner_more (some (λ n e. is_right_under p e) entries) (some (λ n e. is_ownership_under p e) entries) (some (λ n e. is_right_under q e) entries) (some (λ n e. is_ownership_under q e) entries) (some_more is_right) (some_more (is_right_of Ownership)) is
  more_of_role party roles.Conveyancer is = is
  more_of_role party roles.Notary is = is
  more_of_role party roles.Bank is = is
  more_of_role party roles.CertifiedSurveyor is = is
  more_of_role party roles.StateAdministrator is = is

  -- an owner under some names is an owner under more names
  pub more_names : (caller : Caller) → interest_of p caller entries ≡ Owner → interest_of q caller entries ≡ Owner
  more_names caller is = more_of_role caller.party caller.role is

-- the caller is in its own circle, so its own name is a name of the circle
pub own_name : (r : Register) (party named : ℕ) → list_any (nat_eq named) (party ∷ []) ≡ true → is_name_of r (circle_of r party) named ≡ true
own_name r party named is = go (nat_eq named party) (is_member_of r party named) (list_any (λ p. holds_under_name r p named) (principals_of r party)) is
  where
    go : (a b c : Bool) → (a || false) ≡ true → ((a || b) || c) ≡ true
    go true b c h = refl
    go false b c h = absurd (false≢true h)

-- so an owner under its own name is an owner
pub own_decides : (r : Register) (caller : Caller) (entries : Entries) → interest_of (λ named. list_any (nat_eq named) (caller.party ∷ [])) caller entries ≡ Owner
    → interest_of (is_name_of r (circle_of r caller.party)) caller entries ≡ Owner
own_decides r caller entries is = more_names (λ named. list_any (nat_eq named) (caller.party ∷ [])) (is_name_of r (circle_of r caller.party)) (own_name r caller.party) entries caller is

-- ---- an own entry

-- an ownership is a right
right_owned : (c : Class) → is_right_of Ownership c ≡ true → is_right c ≡ true
right_owned (class.Right type share) h = refl
right_owned (class.Restriction words) h = absurd (false≢true h)
right_owned (class.Responsibility words) h = absurd (false≢true h)
right_owned (class.Mortgage amount currency rank) h = absurd (false≢true h)

module _ (r : Register) (n : ℕ) (e : RrrRecord) (there : map.get r.rrrs n ≡ Some e) where
  -- an existing entry is one of its unit
  some_in_unit : (passes : RrrRecord → Bool) → passes e ≡ true → some (λ n e. passes e) (entries_in_unit r e.unit) ≡ true
  some_in_unit passes is =
      ap (list_any (λ x. passes x.1)) (entries-entries_where nat_cmp_total nat_cmp-IsAntisymmetric (λ n x. nat_eq x.unit e.unit) r.rrrs)
      ∙ (any_decides (λ x. passes x.1) (λ x. passes x.1 ≡ true) (filter (λ x. nat_eq x.1.unit e.unit) (map.entries r.rrrs)) (λ x among. plain (passes x.1))).1
      ((n, e), kept_by_filter (λ x. nat_eq x.1.unit e.unit) (map.entries r.rrrs) (n, e) (entry_found r.rrrs n e there) ((Decides-eqb e.unit e.unit).1 refl), is)

  of_citizen_shown : (party : ℕ) → is_ownership_under (λ named. nat_eq named party) e ≡ true → shows_entry (interest_at r (record { party = party; role = roles.Citizen }) e.unit) party e ≡ true
  of_citizen_shown party is =
      let both = and_parts (is_right_of Ownership e.class) (nat_eq e.party party) is in
      let named = own_name r party e.party (or_nothing (nat_eq e.party party) ∙ both.1) in
      let is_name = is_name_of r (circle_of r party) in
      ap₂ (λ holds owns. shows_entry (of_citizen holds owns) party e)
      (some_in_unit (λ x. is_right_under is_name x) (ap₂ (λ a b. a && b) (right_owned e.class both.0) named))
      (some_in_unit (λ x. is_ownership_under is_name x) (ap₂ (λ a b. a && b) both.0 named))

  of_bank_shown : (party : ℕ) → is_mortgage_for party e ≡ true → shows_entry (interest_at r (record { party = party; role = roles.Bank }) e.unit) party e ≡ true
  of_bank_shown party is =
      ap (λ credits. shows_entry (cond credits Creditor NoInterest) party e) (some_in_unit (λ x. is_mortgage_for party x) is)
      ∙ ap (λ own. not (is_mortgage_class e.class) || own) (and_parts (is_mortgage_class e.class) (nat_eq e.party party) is).1
      ∙ or_true (not (is_mortgage_class e.class))

  shown_to_role : (party : ℕ) (role : Role)
      → ((is_role role roles.Citizen && is_ownership_under (λ named. nat_eq named party) e) || (is_role role roles.Bank && is_mortgage_for party e)) ≡ true
      → shows_entry (interest_at r (record { party = party; role = role }) e.unit) party e ≡ true
  shown_to_role party roles.Citizen h = of_citizen_shown party (sym (or_nothing (is_ownership_under (λ named. nat_eq named party) e)) ∙ h)
  shown_to_role party roles.Bank h = of_bank_shown party h
  shown_to_role party roles.Conveyancer h = absurd (false≢true h)
  shown_to_role party roles.Notary h = absurd (false≢true h)
  shown_to_role party roles.CertifiedSurveyor h = absurd (false≢true h)
  shown_to_role party roles.StateAdministrator h = absurd (false≢true h)

  -- the own entry of a caller is shown by its interest in the unit
  pub own_shown : (caller : Caller)
      → ((is_role caller.role roles.Citizen && is_ownership_under (λ named. nat_eq named caller.party) e) || (is_role caller.role roles.Bank && is_mortgage_for caller.party e)) ≡ true
      → shows_entry (interest_at r caller e.unit) caller.party e ≡ true
  own_shown caller h = shown_to_role caller.party caller.role h

-- whether the caller's interest shows an entry, if the tables hold it at a number
abbrev pub IsShownIfFound : Caller → RrrRecord → (t : ℤ) → Trees → Bool → Type 0
IsShownIfFound caller e t db it = (number : ℕ) → ReadsPart (λ r. map.get r.rrrs number) t db (Some e) → ReadsPart (λ r. shows_entry (interest_at r caller e.unit) caller.party e) t db it
