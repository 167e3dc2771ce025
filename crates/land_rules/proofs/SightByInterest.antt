-- The interest of a citizen or a bank in a unit decides which of its entries are visible, and for a citizen
-- which mutations that refer to it.
use Rattle.std.proofs.Common.{◌≡◌, ◌↔◌, inl, inr, ℕ, Bool, true, false, not, ◌&&◌, ◌||◌, cond, nat_eq, List, [], ◌∷◌, filter, Option, Some, None, is_some, refl, sym, ap, ap₂, subst, ◌∙◌}
use Rattle.std.proofs.lemmas.Bool.{eqb-true, false≢true, and_parts}
use Rattle.std.proofs.lemmas.Bool.Decides.{Decides-eqb}
use Rattle.std.proofs.lemmas.Map.Views.{Contains-from_any, list_any-from_Contains}
use Rattle.std.specs.Cmp.{nat_cmp_total, nat_eq_equiv}
use Rattle.std.specs.FinMap as map
use Rattle.std.specs.FinMap.{nat_cmp-IsAntisymmetric}
use Rattle.std.specs.List.{Contains, list_any}
use Rattle.std.specs.Option.{option_map_or}
use Rattle.std.specs.Ordering.{nat_cmp}
use Rattle.land_core.proofs.Booleans.{or_true, and_true, or_nothing, same_tests}
use Rattle.land_core.proofs.FiniteMaps.{none_is_not_some}
use Rattle.land_core.proofs.Pairs.{list_any_same}
use Rattle.land_core.proofs.Reflection.{entries-entries_where, some_passes}
use Rattle.land_core.specs.Contents.{refers_to_unit_where}
use Rattle.land_core.specs.Entries.{has, some}
use Rattle.land_core.specs.Laws.{SoundnessByNumber}
use Rattle.land_core.specs.Register.{empty_register, is_mutation_where}
use Rattle.land_core.specs.Units.{is_right_of}
use Rattle.land_core.specs.declared.caller.Caller.{Caller}
use Rattle.land_core.specs.declared.content.Content.{Content}
use Rattle.land_core.specs.declared.content.Content.TheVariants as content
use Rattle.land_core.specs.declared.kind.Kind.{Kind}
use Rattle.land_core.specs.declared.kind.Kind.TheVariants as kind
use Rattle.land_core.specs.declared.mutation.MutationRecord.{MutationRecord}
use Rattle.land_core.specs.declared.register.Register.{Register}
use Rattle.land_core.specs.declared.role.Role.{Role}
use Rattle.land_core.specs.declared.role.Role.TheVariants as roles
use Rattle.land_core.specs.declared.rrr.Class.{Class}
use Rattle.land_core.specs.declared.rrr.RightType.TheVariants.{Ownership}
use Rattle.land_core.specs.declared.rrr.RrrRecord.{RrrRecord}
use Rattle.land_rules.proofs.InCircles.{held_by_names, owned_by_names}
use Rattle.land_rules.specs.Circles.{circle_of, is_held_by, is_name_of, is_owned_by, is_visible_to_circle, names_held_by}
use Rattle.land_rules.specs.Denials.Interests.{AreNamesOf, Entries, InterestsDecideSight, NamesDecideInterests, entries_in_unit, interest_at, interest_of, is_shown_by_interest, names_visible_unit, sees_by_interest, shows_entry, shows_unit}
use Rattle.land_rules.specs.Laws.{IsSoundOrNothing}
use Rattle.land_rules.specs.Relations.{is_held_mortgage, is_creditor_on, is_mortgage_class, is_right, is_rrr_where, is_visible_to_creditor}
use Rattle.land_rules.specs.Rules.{is_allowed, is_visible_to_bank, sees}
use Rattle.land_rules.specs.declared.denials.interests.Interest.{Interest}
use Rattle.land_rules.specs.declared.denials.interests.Interest.TheVariants.{NoInterest, Holder, Owner, Creditor}
use Rattle.land_rules.specs.declared.verdict.Verdict.TheVariants.{Allowed, Denied}

-- ---- conditions

and_assoc : (a b c : Bool) → (a && (b && c)) ≡ ((a && b) && c)
and_assoc true b c = refl
and_assoc false b c = refl

-- a consequence of a condition adds nothing to it
implied : (a b : Bool) → (b ≡ true → a ≡ true) → (a && b) ≡ b
implied true b h = refl
implied false true h = h refl
implied false false h = refl

-- a condition twice is the condition once
again : (a b : Bool) → ((a && b) && a) ≡ (a && b)
again true b = and_true b
again false b = refl

-- a role's rule and rule 27 allow an object that satisfies both conditions
pub passes_both : (a b : Bool) (k : ℕ) → is_allowed (cond (not a) (Denied k) (cond (not b) (Denied 27) Allowed)) ≡ (a && b)
passes_both true true k = refl
passes_both true false k = refl
passes_both false b k = refl

module _ {X : Type 0} where
  -- an item that satisfies one condition satisfies another exactly if an item satisfies both
  any_of : (p q : X → Bool) (xs : List X) → list_any p (filter q xs) ≡ list_any (λ x. q x && p x) xs
  any_of p q [] = refl
  any_of p q (x ∷ xs) = go (q x) (any_of p q xs)
    where
      go : (b : Bool) → list_any p (filter q xs) ≡ list_any (λ x. q x && p x) xs → list_any p (cond b (x ∷ filter q xs) (filter q xs)) ≡ ((b && p x) || list_any (λ x. q x && p x) xs)
      go true rest = ap (λ c. p x || c) rest
      go false rest = rest

-- ---- the entries of a unit

-- the unit of an entry exists
abbrev pub UnitsStand : Register → Type 0
UnitsStand r = (n : ℕ) (e : RrrRecord) → map.get r.rrrs n ≡ Some e → has r.units e.unit ≡ true

none_there : UnitsStand empty_register
none_there n e is = absurd (none_is_not_some (sym (map.get-empty nat_cmp n) ∙ is))

pub units_stand : SoundnessByNumber → (r : Register) → IsSoundOrNothing r → UnitsStand r
units_stand look_ups r (inl sound) = λ n e is. (((look_ups r).0 sound).entries n e is).unit
units_stand look_ups r (inr none) = subst UnitsStand (sym none) none_there

module _ (r : Register) (refers : UnitsStand r) (is_of : Class → Bool) (is_his : ℕ → Bool) (unit : ℕ) where
  -- an entry of a class under a name
  abbrev is_one : RrrRecord → Bool
  is_one e = is_of e.class && is_his e.party

  abbrev is_one_there : RrrRecord → Bool
  is_one_there e = nat_eq e.unit unit && is_of e.class && is_his e.party

  some_there : some (λ n e. is_one e) (entries_in_unit r unit) ≡ some (λ n e. is_one_there e) r.rrrs
  some_there =
      ap (list_any (λ e. is_one e.1)) (entries-entries_where nat_cmp_total nat_cmp-IsAntisymmetric (λ n e. nat_eq e.unit unit) r.rrrs)
      ∙ any_of (λ e. is_one e.1) (λ e. nat_eq e.1.unit unit) (map.entries r.rrrs)
      ∙ list_any_same (λ e. nat_eq e.1.unit unit && is_one e.1) (λ e. is_one_there e.1) (λ e. and_assoc (nat_eq e.1.unit unit) (is_of e.1.class) (is_his e.1.party)) (map.entries r.rrrs)

  -- a unit with an entry exists
  unit_there : some (λ n e. is_one_there e) r.rrrs ≡ true → has r.units unit ≡ true
  unit_there h =
      let it = some_passes nat_cmp_total nat_cmp-IsAntisymmetric (λ n e. is_one_there e) r.rrrs h in
      let both = and_parts (nat_eq it.value.unit unit && is_of it.value.class) (is_his it.value.party) it.passes in
      let same : it.value.unit ≡ unit = (Decides-eqb it.value.unit unit).0 (and_parts (nat_eq it.value.unit unit) (is_of it.value.class) both.0).0 in
      subst (λ u. has r.units u ≡ true) same (refers it.key it.value it.there)

  pub in_unit : (has r.units unit && some (λ n e. is_one_there e) r.rrrs) ≡ some (λ n e. is_one e) (entries_in_unit r unit)
  in_unit = implied (has r.units unit) (some (λ n e. is_one_there e) r.rrrs) unit_there ∙ sym some_there

-- ---- the objects that an interest makes visible

abbrev of_citizen : (holds owns : Bool) → Interest
of_citizen holds owns = cond holds (cond owns Owner Holder) NoInterest

abbrev of_bank : Bool → Interest
of_bank credits = cond credits Creditor NoInterest

unit_to_citizen : (holds owns : Bool) → holds ≡ shows_unit (of_citizen holds owns)
unit_to_citizen true true = refl
unit_to_citizen true false = refl
unit_to_citizen false owns = refl

unit_to_bank : (credits : Bool) → credits ≡ shows_unit (of_bank credits)
unit_to_bank true = refl
unit_to_bank false = refl

entry_to_citizen : (holds owns : Bool) (party : ℕ) (e : RrrRecord) → (holds && (not (is_mortgage_class e.class) || owns)) ≡ shows_entry (of_citizen holds owns) party e
entry_to_citizen true true party e = or_true (not (is_mortgage_class e.class))
entry_to_citizen true false party e = or_nothing (not (is_mortgage_class e.class))
entry_to_citizen false owns party e = refl

entry_to_bank : (credits : Bool) (party : ℕ) (e : RrrRecord) → (credits && is_visible_to_creditor party e) ≡ shows_entry (of_bank credits) party e
entry_to_bank true party e = refl
entry_to_bank false party e = refl

-- an existing record is visible or it is not
told_of : {X : Type 0} (told shown : X → Bool) → ((x : X) → told x ≡ shown x) → (o : Option X) → (option_map_or told o false && is_some o) ≡ option_map_or shown o false
told_of told shown same None = refl
told_of told shown same (Some x) = and_true (told x) ∙ same x

-- conditions that are equal on units are equal on the mutations that refer to them
named_alike : (p q : ℕ → Bool) → ((unit : ℕ) → p unit ≡ q unit) → (c : Content) → refers_to_unit_where p c ≡ refers_to_unit_where q c
named_alike p q same (content.Transfer it) = same it.unit
named_alike p q same (content.Subdivision it) = same it.unit
named_alike p q same (content.Merger it) = ap₂ (λ a b. a || b) (same it.unit) (list_any_same p q same it.others)
named_alike p q same (content.Mortgage it) = same it.unit
named_alike p q same (content.Discharge it) = same it.unit

module _ (r : Register) (refers : UnitsStand r) (p : ℕ) where
  abbrev citizen : Caller
  citizen = record { party = p; role = roles.Citizen }

  abbrev bank : Caller
  bank = record { party = p; role = roles.Bank }

  abbrev is_name : ℕ → Bool
  is_name named = is_name_of r (circle_of r p) named

  abbrev holds : ℕ → Bool
  holds unit = some (λ n e. is_right e.class && is_name e.party) (entries_in_unit r unit)

  abbrev owns : ℕ → Bool
  owns unit = some (λ n e. is_right_of Ownership e.class && is_name e.party) (entries_in_unit r unit)

  abbrev credits : ℕ → Bool
  credits unit = some (λ n e. is_mortgage_class e.class && nat_eq e.party p) (entries_in_unit r unit)

  holder : (unit : ℕ) → is_held_by r (circle_of r p) unit ≡ holds unit
  holder unit = held_by_names r (circle_of r p) unit ∙ in_unit r refers is_right is_name unit

  owner : (unit : ℕ) → is_owned_by r (circle_of r p) unit ≡ owns unit
  owner unit = owned_by_names r (circle_of r p) unit ∙ in_unit r refers (is_right_of Ownership) is_name unit

  creditor : (unit : ℕ) → is_creditor_on r p unit ≡ credits unit
  creditor unit = in_unit r refers is_mortgage_class (λ q. nat_eq q p) unit

  unit_of_citizen : (unit : ℕ) → sees r citizen kind.Unit unit ≡ shows_unit (interest_at r citizen unit)
  unit_of_citizen unit =
      passes_both (is_held_by r (circle_of r p) unit) (has r.units unit) 11
      ∙ ap (λ b. b && has r.units unit) (held_by_names r (circle_of r p) unit)
      ∙ again (has r.units unit) (some (λ n e. nat_eq e.unit unit && is_right e.class && is_name e.party) r.rrrs)
      ∙ in_unit r refers is_right is_name unit ∙ unit_to_citizen (holds unit) (owns unit)

  unit_of_bank : (unit : ℕ) → sees r bank kind.Unit unit ≡ shows_unit (interest_at r bank unit)
  unit_of_bank unit = passes_both (is_creditor_on r p unit) (has r.units unit) 15 ∙ again (has r.units unit) (some (λ n e. is_held_mortgage p unit e) r.rrrs) ∙ creditor unit ∙ unit_to_bank (credits unit)

  told_to_citizen : (e : RrrRecord) → is_visible_to_circle r (circle_of r p) e ≡ shows_entry (interest_at r citizen e.unit) p e
  told_to_citizen e = ap₂ (λ a b. a && (not (is_mortgage_class e.class) || b)) (holder e.unit) (owner e.unit) ∙ entry_to_citizen (holds e.unit) (owns e.unit) p e

  told_to_bank : (e : RrrRecord) → is_visible_to_bank r bank e ≡ shows_entry (interest_at r bank e.unit) p e
  told_to_bank e = ap (λ a. a && is_visible_to_creditor p e) (unit_of_bank e.unit ∙ sym (unit_to_bank (credits e.unit))) ∙ entry_to_bank (credits e.unit) p e

  entry_of_citizen : (n : ℕ) → sees r citizen kind.Rrr n ≡ is_shown_by_interest r citizen kind.Rrr n
  entry_of_citizen n =
      passes_both (is_rrr_where (is_visible_to_circle r (circle_of r p)) r n) (has r.rrrs n) 12
      ∙ told_of (is_visible_to_circle r (circle_of r p)) (λ e. shows_entry (interest_at r citizen e.unit) p e) told_to_citizen (map.get r.rrrs n)

  entry_of_bank : (n : ℕ) → sees r bank kind.Rrr n ≡ is_shown_by_interest r bank kind.Rrr n
  entry_of_bank n =
      passes_both (is_rrr_where (is_visible_to_bank r bank) r n) (has r.rrrs n) 16
      ∙ told_of (is_visible_to_bank r bank) (λ e. shows_entry (interest_at r bank e.unit) p e) told_to_bank (map.get r.rrrs n)

  names_to_citizen : (m : MutationRecord) → names_held_by r (circle_of r p) m ≡ names_visible_unit r citizen m
  names_to_citizen m =
      named_alike (is_held_by r (circle_of r p)) (λ unit. shows_unit (interest_at r citizen unit)) (λ unit. holder unit ∙ unit_to_citizen (holds unit) (owns unit)) m.content

  mutation_of_citizen : (n : ℕ) → sees r citizen kind.Mutation n ≡ is_shown_by_interest r citizen kind.Mutation n
  mutation_of_citizen n =
      passes_both (is_mutation_where (names_held_by r (circle_of r p)) r n) (has r.mutations n) 14
      ∙ told_of (names_held_by r (circle_of r p)) (names_visible_unit r citizen) names_to_citizen (map.get r.mutations n)

  by_role : (role : Role) (k : Kind) (n : ℕ) → sees_by_interest role k ≡ true → sees r (record { party = p; role = role }) k n ≡ is_shown_by_interest r (record { party = p; role = role }) k n
  by_role roles.Citizen kind.Unit n h = unit_of_citizen n
  by_role roles.Citizen kind.Rrr n h = entry_of_citizen n
  by_role roles.Citizen kind.Mutation n h = mutation_of_citizen n
  by_role roles.Bank kind.Unit n h = unit_of_bank n
  by_role roles.Bank kind.Rrr n h = entry_of_bank n
  by_role role kind.Party n h = absurd (false≢true h)
  by_role role kind.Parcel n h = absurd (false≢true h)
  by_role role kind.Source n h = absurd (false≢true h)
  by_role roles.Bank kind.Mutation n h = absurd (false≢true h)
  by_role roles.Conveyancer kind.Mutation n h = absurd (false≢true h)
  by_role roles.Notary kind.Mutation n h = absurd (false≢true h)
  by_role roles.CertifiedSurveyor kind.Mutation n h = absurd (false≢true h)
  by_role roles.StateAdministrator kind.Mutation n h = absurd (false≢true h)
  by_role roles.Conveyancer kind.Unit n h = absurd (false≢true h)
  by_role roles.Conveyancer kind.Rrr n h = absurd (false≢true h)
  by_role roles.Notary kind.Unit n h = absurd (false≢true h)
  by_role roles.Notary kind.Rrr n h = absurd (false≢true h)
  by_role roles.CertifiedSurveyor kind.Unit n h = absurd (false≢true h)
  by_role roles.CertifiedSurveyor kind.Rrr n h = absurd (false≢true h)
  by_role roles.StateAdministrator kind.Unit n h = absurd (false≢true h)
  by_role roles.StateAdministrator kind.Rrr n h = absurd (false≢true h)

pub interests_decide_sight : SoundnessByNumber → InterestsDecideSight
interests_decide_sight look_ups at premise caller k number h = by_role at (units_stand look_ups at premise) caller.party caller.role k number h

-- ---- the names

-- if two conditions on names are equal, they select the same entries
module _ (p : ℕ) (one other : ℕ → Bool) (same : (named : ℕ) → one named ≡ other named) (entries : Entries) where
  some_alike : (is_of : Class → Bool) → some (λ n e. is_of e.class && one e.party) entries ≡ some (λ n e. is_of e.class && other e.party) entries
  some_alike is_of = list_any_same (λ e. is_of e.1.class && one e.1.party) (λ e. is_of e.1.class && other e.1.party) (λ e. ap (λ b. is_of e.1.class && b) (same e.1.party)) (map.entries entries)

  interests_alike : interest_of one (record { party = p; role = roles.Citizen }) entries ≡ interest_of other (record { party = p; role = roles.Citizen }) entries
  interests_alike = ap₂ of_citizen (some_alike is_right) (some_alike (is_right_of Ownership))

among_them : (r : Register) (p : ℕ) (names : List ℕ) → ((named : ℕ) → Contains names named ↔ (is_name_of r (circle_of r p) named ≡ true)) → (named : ℕ) → list_any (nat_eq named) names ≡ is_name_of r (circle_of r p) named
among_them r p names are named =
    same_tests (list_any (nat_eq named) names) (is_name_of r (circle_of r p) named) (λ h. (are named).0 (Contains-from_any eqb-true named names h)) (λ h. list_any-from_Contains nat_eq_equiv named names ((are named).1 h))

by_names : (r : Register) (p : ℕ) (role : Role) (names : List ℕ) → AreNamesOf r (record { party = p; role = role }) names → (entries : Entries)
    → interest_of (λ named. list_any (nat_eq named) names) (record { party = p; role = role }) entries ≡ interest_of (is_name_of r (circle_of r p)) (record { party = p; role = role }) entries
by_names r p roles.Citizen names are entries = interests_alike p (λ named. list_any (nat_eq named) names) (is_name_of r (circle_of r p)) (among_them r p names (are refl)) entries
by_names r p roles.Conveyancer names are entries = refl
by_names r p roles.Notary names are entries = refl
by_names r p roles.Bank names are entries = refl
by_names r p roles.CertifiedSurveyor names are entries = refl
by_names r p roles.StateAdministrator names are entries = refl

pub names_decide_interests : NamesDecideInterests
names_decide_interests at caller names are entries = by_names at caller.party caller.role names are entries
