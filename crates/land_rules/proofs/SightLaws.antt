-- Proves the laws on visibility by holdings, ended entries, mortgages and lodgings.
use Rattle.std.proofs.Common.{◌≡◌, ℕ, Bool, true, false, ◌||◌, ◌&&◌, not, cond, Option, Some, None, refl, sym, ap, ◌∙◌, subst}
use Rattle.std.specs.Prelude.{◌≢◌, is_some, nat_eq}
use Rattle.std.specs.Option.{option_map_or}
use Rattle.std.specs.Cmp.{nat_cmp_total}
use Rattle.std.specs.FinMap as map
use Rattle.std.specs.FinMap.{nat_cmp-IsAntisymmetric}
use Rattle.std.proofs.lemmas.Bool.{false≢true, and_from, and_parts, and_right, eq-eqb, eqb-true, ne_eqb, or_right}
use Rattle.land_core.proofs.Reflection.{some_at, some_passes, none_passes}
use Rattle.land_core.specs.Entries.{has, some}
use Rattle.land_core.specs.Register.{stands, is_member, is_mutation_where}
use Rattle.land_core.specs.Units.{is_right_of}
use Rattle.land_core.specs.declared.caller.Caller.{Caller}
use Rattle.land_core.specs.declared.kind.Kind.TheVariants as kind
use Rattle.land_core.specs.declared.mutation.MutationRecord.{MutationRecord}
use Rattle.land_core.specs.declared.register.Register.{Register}
use Rattle.land_core.specs.declared.role.Role.{Role}
use Rattle.land_core.specs.declared.role.Role.TheVariants.{Citizen, Conveyancer, Notary, Bank, CertifiedSurveyor, StateAdministrator}
use Rattle.land_core.specs.declared.rrr.Class.{Class}
use Rattle.land_core.specs.declared.rrr.Class.TheVariants.{Right, Restriction, Responsibility, Mortgage}
use Rattle.land_core.specs.declared.rrr.RightType.TheVariants.{Ownership}
use Rattle.land_core.specs.declared.rrr.RrrRecord.{RrrRecord}
use Rattle.land_rules.proofs.SomeOf.{any_at, none_at_all}
use Rattle.land_rules.specs.Circles.{circle_of, is_group_of, is_held_by, is_in_circle, is_owned_by, is_visible_to_circle}
use Rattle.land_rules.specs.Laws.{MembersSeeGroups, citizen}
use Rattle.land_rules.specs.Relations.{holds_under_name, is_held_mortgage, is_creditor_on, is_held_ownership, is_held_right, is_holder, is_lodger_of, has_pending_mutation_on, is_member_of, is_mortgage_class, is_owner, is_pending_on, is_right, is_visible_to_creditor}
use Rattle.land_rules.specs.Rules.{first_denial, is_allowed, sees_only_present, is_party_in_sight, is_visible_to_bank, is_unit_in_sight, rrr_rules, sees, unit_rules}
use Rattle.land_rules.specs.SightLaws.{BanksSeeByTheirMortgages, CircleHoldsNothingOfClass, ConveyancersSeeByTheirLodgings, EndedEntriesGiveNoSight, HasEntryOfClass, HasLodged, HasPending, HoldsNothingOfClass, IsNameOfOthers, IsVisibleEntryOfBank, LodgersSeeTheirMutations, MembersAreHolders, OnlyOwnersSeeMortgages, bank, conveyancer}
use Rattle.land_rules.specs.declared.verdict.Verdict.{Verdict}
use Rattle.land_rules.specs.declared.verdict.Verdict.TheVariants.{Allowed, Denied}

-- ---- conditions

all_three : (a b c : Bool) → a ≡ true → b ≡ true → c ≡ true → (a && b && c) ≡ true
all_three true true true e f g = refl
all_three true true false e f g = absurd (false≢true g)
all_three true false c e f g = absurd (false≢true f)
all_three false b c e f g = absurd (false≢true e)

-- a conjunction fails if its last part fails whenever the others hold
last_fails : (a b c : Bool) → (a ≡ true → b ≡ true → c ≡ false) → (a && b && c) ≡ false
last_fails true true c h = h refl refl
last_fails true false c h = refl
last_fails false b c h = refl

-- ---- the verdict on a citizen that may make requests is that of the sight rules

pub may_make_request : (stands holds past : Bool) (v : Verdict) → (stands && holds) ≡ true → cond (not stands) (Denied 1) (cond (not holds) (Denied 2) (cond (past && false) (Denied 3) v)) ≡ v
may_make_request true true true v e = refl
may_make_request true true false v e = refl
may_make_request true false past v e = absurd (false≢true e)
may_make_request false holds past v e = absurd (false≢true e)

shown_by : (passes there : Bool) (k : ℕ) → passes ≡ true → there ≡ true → cond (not passes) (Denied k) (cond (not there) (Denied 27) Allowed) ≡ Allowed
shown_by true true k e f = refl
shown_by true false k e f = absurd (false≢true f)
shown_by false there k e f = absurd (false≢true e)

module _ (at : Register) (party : ℕ) where
  -- a member of a group has the rights under its name, and a party has none under the names of others
  holds_as_member : (group named : ℕ) → is_member at group party ≡ true → named ≡ group → holds_under_name at party named ≡ true
  holds_as_member group named member is = or_right (nat_eq named party) (is_member at named party) (subst (λ (g : ℕ). is_member at g party ≡ true) (sym is) member)

  holds_as_other : (named : ℕ) → IsNameOfOthers at party named → holds_under_name at party named ≡ false
  holds_as_other named h = ap (λ b. b || is_member at named party) (ne_eqb named party h.other) ∙ h.outside

  member_is_holder : (group unit : ℕ) → is_member at group party ≡ true → stands at kind.Unit unit ≡ true → HasEntryOfClass is_right at group unit → is_holder at party unit ≡ true
  member_is_holder group unit member there it =
      and_from _ _ there (some_at nat_cmp_total nat_cmp-IsAntisymmetric (λ n e. is_held_right at party unit e) at.rrrs it.number it.entry it.stands.there
      (all_three _ _ _ (eq-eqb it.entry.unit unit it.stands.of_unit) it.class (holds_as_member group it.entry.party member it.name)))

  no_holder : (unit : ℕ) → HoldsNothingOfClass is_right at party unit → is_holder at party unit ≡ false
  no_holder unit none =
      and_right _ _ (none_passes nat_cmp_total nat_cmp-IsAntisymmetric (λ n e. is_held_right at party unit e) at.rrrs (λ n e there.
      last_fails _ _ _ (λ here right. holds_as_other e.party (none n e (record { there = there; of_unit = eqb-true e.unit unit here }) right))))

  no_owner : (unit : ℕ) → HoldsNothingOfClass (is_right_of Ownership) at party unit → is_owner at party unit ≡ false
  no_owner unit none =
      and_right _ _ (none_passes nat_cmp_total nat_cmp-IsAntisymmetric (λ n e. is_held_ownership at party unit e) at.rrrs (λ n e there.
      last_fails _ _ _ (λ here right. holds_as_other e.party (none n e (record { there = there; of_unit = eqb-true e.unit unit here }) right))))

  -- an ownership is a right
  right_from_ownership : (class : Class) → is_right_of Ownership class ≡ true → is_right class ≡ true
  right_from_ownership (Right type share) h = refl
  right_from_ownership (Restriction words) h = absurd (false≢true h)
  right_from_ownership (Responsibility words) h = absurd (false≢true h)
  right_from_ownership (Mortgage amount currency rank) h = absurd (false≢true h)

  pub owner_is_holder : (unit : ℕ) → is_owner at party unit ≡ true → is_holder at party unit ≡ true
  owner_is_holder unit h =
      let parts = and_parts _ _ h in
      let it = some_passes nat_cmp_total nat_cmp-IsAntisymmetric (λ n e. is_held_ownership at party unit e) at.rrrs parts.1 in
      let tests = and_parts _ _ it.passes in
      and_from _ _ parts.0 (some_at nat_cmp_total nat_cmp-IsAntisymmetric (λ n e. is_held_right at party unit e) at.rrrs it.key it.value it.there
      (all_three _ _ _ (and_parts _ _ tests.0).0 (right_from_ownership it.value.class (and_parts _ _ tests.0).1) tests.1))

-- ---- a relation of a member of its circle decides a citizen's verdict

module _ (at : Register) (party : ℕ) where
  unit_shown : (one unit : ℕ) → is_in_circle at party one ≡ true → is_holder at one unit ≡ true → first_denial (unit_rules at (citizen party) unit) ≡ Allowed
  unit_shown one unit among h =
      shown_by (is_held_by at (circle_of at party) unit) (stands at kind.Unit unit) 11 (any_at (λ p. is_holder at p unit) one (circle_of at party) among h) (and_parts _ _ h).0

  unit_denied : (unit : ℕ) → CircleHoldsNothingOfClass is_right at party unit → first_denial (unit_rules at (citizen party) unit) ≡ Denied 11
  unit_denied unit none =
      ap (λ b. cond (not b) (Denied 11) (cond (not (stands at kind.Unit unit)) (Denied 27) Allowed))
      (none_at_all (λ p. is_holder at p unit) (circle_of at party) (λ one among. no_holder at one unit (none one among)))

  -- the verdict on an existing entry
  entry_told : (number : ℕ) (e : RrrRecord) → map.get at.rrrs number ≡ Some e
      → first_denial (rrr_rules at (citizen party) number) ≡ cond (not (is_visible_to_circle at (circle_of at party) e)) (Denied 12) Allowed
  entry_told number e there = ap (λ o. cond (not (option_map_or (is_visible_to_circle at (circle_of at party)) o false)) (Denied 12) (cond (not (is_some o)) (Denied 27) Allowed)) there

  entry_shown : (number : ℕ) (e : RrrRecord) → map.get at.rrrs number ≡ Some e → is_visible_to_circle at (circle_of at party) e ≡ true
      → first_denial (rrr_rules at (citizen party) number) ≡ Allowed
  entry_shown number e there told = entry_told number e there ∙ ap (λ b. cond (not b) (Denied 12) Allowed) told

  entry_denied : (number : ℕ) (e : RrrRecord) → map.get at.rrrs number ≡ Some e → is_visible_to_circle at (circle_of at party) e ≡ false
      → first_denial (rrr_rules at (citizen party) number) ≡ Denied 12
  entry_denied number e there told = entry_told number e there ∙ ap (λ b. cond (not b) (Denied 12) Allowed) told

  held : (one unit : ℕ) (e : RrrRecord) → is_in_circle at party one ≡ true → is_holder at one unit ≡ true → e.unit ≡ unit → is_held_by at (circle_of at party) e.unit ≡ true
  held one unit e among holder of_unit = any_at (λ p. is_holder at p e.unit) one (circle_of at party) among (subst (λ (n : ℕ). is_holder at one n ≡ true) (sym of_unit) holder)

  told_no_mortgage : (one unit : ℕ) (e : RrrRecord) → is_in_circle at party one ≡ true → is_holder at one unit ≡ true → e.unit ≡ unit → is_mortgage_class e.class ≡ false
      → is_visible_to_circle at (circle_of at party) e ≡ true
  told_no_mortgage one unit e among holder of_unit class =
      and_from _ _ (held one unit e among holder of_unit) (ap (λ b. not b || is_owned_by at (circle_of at party) e.unit) class)

  told_as_owner : (one unit : ℕ) (e : RrrRecord) → is_in_circle at party one ≡ true → is_owner at one unit ≡ true → e.unit ≡ unit
      → is_visible_to_circle at (circle_of at party) e ≡ true
  told_as_owner one unit e among owner of_unit =
      let owns : is_owner at one e.unit ≡ true = subst (λ (n : ℕ). is_owner at one n ≡ true) (sym of_unit) owner in
      and_from _ _ (held one unit e among (owner_is_holder at one unit owner) of_unit) (or_right _ _ (any_at (λ p. is_owner at p e.unit) one (circle_of at party) among owns))

  not_told : (unit : ℕ) (e : RrrRecord) → CircleHoldsNothingOfClass (is_right_of Ownership) at party unit → e.unit ≡ unit → is_mortgage_class e.class ≡ true
      → is_visible_to_circle at (circle_of at party) e ≡ false
  not_told unit e none of_unit class =
      and_right _ _ (ap (λ b. not b || is_owned_by at (circle_of at party) e.unit) class
      ∙ subst (λ (n : ℕ). is_owned_by at (circle_of at party) n ≡ false) (sym of_unit)
      (none_at_all (λ p. is_owner at p unit) (circle_of at party) (λ one among. no_owner at one unit (none one among))))

-- a citizen sees a party in its circle, a group with a member of its circle, and the parties of visible
-- entries
told_as_group : (among grouped in_sight : Bool) → grouped ≡ true → (among || grouped || in_sight) ≡ true
told_as_group true grouped in_sight e = refl
told_as_group false grouped in_sight e = ap (λ b. b || in_sight) e

told_by_none : (among grouped in_sight : Bool) → among ≡ false → grouped ≡ false → in_sight ≡ false → (among || grouped || in_sight) ≡ false
told_by_none true grouped in_sight e f g = absurd (false≢true (sym e))
told_by_none false true in_sight e f g = absurd (false≢true (sym f))
told_by_none false false in_sight e f g = g

pub members_see : MembersSeeGroups
members_see now at party group moment past there role = record {
  member = λ one among member stands_then.
      may_make_request _ _ past _ (and_from _ _ there role)
      ∙ shown_by _ (stands at kind.Party group) 13
      (told_as_group (is_in_circle at party group) (is_group_of at (circle_of at party) group) (is_party_in_sight at (citizen party) group)
      (any_at (λ p. is_member_of at p group) one (circle_of at party) among member)) stands_then;
  other = λ outside no_group out_of_sight.
      may_make_request _ _ past _ (and_from _ _ there role)
      ∙ ap (λ b. cond (not b) (Denied 13) (cond (not (stands at kind.Party group)) (Denied 27) Allowed))
      (told_by_none (is_in_circle at party group) (is_group_of at (circle_of at party) group) (is_party_in_sight at (citizen party) group) outside no_group out_of_sight);
}

pub members_are_holders : MembersAreHolders
members_are_holders now at party one group unit moment past asks among member there it =
    let holder = member_is_holder at one group unit member there it in
    record {
      holder = holder;
      unit_shown = may_make_request _ _ past _ asks ∙ unit_shown at party one unit among holder;
      entries_shown = λ number e is class. may_make_request _ _ past _ asks ∙ entry_shown at party number e is.there (told_no_mortgage at party one unit e among holder is.of_unit class);
    }

pub ended_entries : EndedEntriesGiveNoSight
ended_entries now at party unit moment past asks none = may_make_request _ _ past _ asks ∙ unit_denied at party unit none

pub owners_alone : OnlyOwnersSeeMortgages
owners_alone now at party unit number e moment past asks is class = record {
  owner = λ one among owner. may_make_request _ _ past _ asks ∙ entry_shown at party number e is.there (told_as_owner at party one unit e among owner is.of_unit);
  other = λ none. may_make_request _ _ past _ asks ∙ entry_denied at party number e is.there (not_told at party unit e none is.of_unit class);
}

-- ---- banks

-- a visible record satisfies its condition
unit_passes : (there has : Bool) → is_allowed (cond (not (there && has)) (Denied 15) (cond (not there) (Denied 27) Allowed)) ≡ (there && has)
unit_passes true true = refl
unit_passes true false = refl
unit_passes false has = refl

record_passes : {V : Type 0} (passes : V → Bool) (found : Option V) (k : ℕ)
    → is_allowed (cond (not (option_map_or passes found false)) (Denied k) (cond (not (is_some found)) (Denied 27) Allowed)) ≡ option_map_or passes found false
record_passes passes None k = refl
record_passes passes (Some v) k = elim (passes v) as (λ b. is_allowed (cond (not b) (Denied k) Allowed) ≡ b) [ true ↦ refl | false ↦ refl ]

module _ (at : Register) (party : ℕ) where
  sees_unit : (unit : ℕ) → sees at (bank party) kind.Unit unit ≡ is_creditor_on at party unit
  sees_unit unit = unit_passes (stands at kind.Unit unit) (some (λ n e. is_held_mortgage party unit e) at.rrrs)

  has_mortgage : (unit : ℕ) → is_creditor_on at party unit ≡ true → (stands at kind.Unit unit ≡ true) × HasEntryOfClass is_mortgage_class at party unit
  has_mortgage unit h =
      let parts = and_parts _ _ h in
      let it = some_passes nat_cmp_total nat_cmp-IsAntisymmetric (λ n e. is_held_mortgage party unit e) at.rrrs parts.1 in
      let tests = and_parts _ _ it.passes in
      let more = and_parts _ _ tests.0 in (
        parts.0,
        record {
          number = it.key;
          entry = it.value;
          stands = record { there = it.there; of_unit = eqb-true it.value.unit unit more.0 };
          class = more.1;
          name = eqb-true it.value.party party tests.1;
        },
      )

  is_creditor : (unit : ℕ) → stands at kind.Unit unit ≡ true → HasEntryOfClass is_mortgage_class at party unit → is_creditor_on at party unit ≡ true
  is_creditor unit there it =
      and_from _ _ there (some_at nat_cmp_total nat_cmp-IsAntisymmetric (λ n e. is_held_mortgage party unit e) at.rrrs it.number it.entry it.stands.there
      (all_three _ _ _ (eq-eqb it.entry.unit unit it.stands.of_unit) it.class (eq-eqb it.entry.party party it.name)))

  sees_entry : (number : ℕ) → sees at (bank party) kind.Rrr number ≡ option_map_or (is_visible_to_bank at (bank party)) (map.get at.rrrs number) false
  sees_entry number = record_passes (is_visible_to_bank at (bank party)) (map.get at.rrrs number) 16

  -- the mortgages of other creditors are not visible
  own_from : (mortgage own : Bool) → (not mortgage || own) ≡ true → mortgage ≡ true → own ≡ true
  own_from true own h e = h
  own_from false own h e = absurd (false≢true e)

  own_back : (mortgage own : Bool) → (mortgage ≡ true → own ≡ true) → (not mortgage || own) ≡ true
  own_back true own h = h refl
  own_back false own h = refl

  is_open : (number : ℕ) → sees at (bank party) kind.Rrr number ≡ true → IsVisibleEntryOfBank at party number
  is_open number h = found (map.get at.rrrs number) refl (sym (sees_entry number) ∙ h)
    where
      found : (o : Option RrrRecord) → map.get at.rrrs number ≡ o → option_map_or (is_visible_to_bank at (bank party)) o false ≡ true → IsVisibleEntryOfBank at party number
      found None e h = absurd (false≢true h)
      found (Some entry) e h =
          let parts = and_parts (is_unit_in_sight at (bank party) entry.unit) (is_visible_to_creditor party entry) h in
          record {
            entry = entry;
            there = e;
            in_sight = parts.0;
            own = λ class. eqb-true entry.party party (own_from (is_mortgage_class entry.class) _ parts.1 class);
          }

  sees_open : (number : ℕ) → IsVisibleEntryOfBank at party number → sees at (bank party) kind.Rrr number ≡ true
  sees_open number it =
      sees_entry number ∙ ap (λ o. option_map_or (is_visible_to_bank at (bank party)) o false) it.there
      ∙ and_from _ _ it.in_sight (own_back (is_mortgage_class it.entry.class) _ (λ class. eq-eqb it.entry.party party (it.own class)))

pub banks_see : BanksSeeByTheirMortgages
banks_see at party = record {
  units = λ unit. (λ h. has_mortgage at party unit (sym (sees_unit at party unit) ∙ h), λ h. sees_unit at party unit ∙ is_creditor at party unit h.0 h.1);
  entries = λ number. (is_open at party number, sees_open at party number);
}

-- ---- lodgers

module _ (at : Register) (party : ℕ) where
  -- in the roles that see what they lodged
  pub sees_lodged : (role : Role) (number : ℕ) → let caller : Caller = record { party = party; role = role } in
      sees_only_present caller ≡ true → sees at caller kind.Mutation number ≡ is_mutation_where (is_lodger_of party) at number
  sees_lodged Citizen number h = absurd (false≢true h)
  sees_lodged Conveyancer number h = record_passes (is_lodger_of party) (map.get at.mutations number) 22
  sees_lodged Notary number h = absurd (false≢true h)
  sees_lodged Bank number h = record_passes (is_lodger_of party) (map.get at.mutations number) 18
  sees_lodged CertifiedSurveyor number h = record_passes (is_lodger_of party) (map.get at.mutations number) 25
  sees_lodged StateAdministrator number h = absurd (false≢true h)

  has_lodged : (number : ℕ) → is_mutation_where (is_lodger_of party) at number ≡ true → HasLodged at party number
  has_lodged number h = found (map.get at.mutations number) refl h
    where
      found : (o : Option MutationRecord) → map.get at.mutations number ≡ o → option_map_or (is_lodger_of party) o false ≡ true → HasLodged at party number
      found None e h = absurd (false≢true h)
      found (Some m) e h = record { mutation = m; there = e; lodger = eqb-true m.lodger party h }

  is_lodged : (number : ℕ) → HasLodged at party number → is_mutation_where (is_lodger_of party) at number ≡ true
  is_lodged number it = ap (λ o. option_map_or (is_lodger_of party) o false) it.there ∙ eq-eqb it.mutation.lodger party it.lodger

  -- a conveyancer sees a unit exactly if it exists and one of its undecided mutations refers to it
  lodger_passes : (lodged there : Bool) → is_allowed (cond (not lodged) (Denied 19) (cond (not there) (Denied 27) Allowed)) ≡ (there && lodged)
  lodger_passes true true = refl
  lodger_passes true false = refl
  lodger_passes false true = refl
  lodger_passes false false = refl

  sees_lodged_on : (unit : ℕ) → sees at (conveyancer party) kind.Unit unit ≡ (stands at kind.Unit unit && has_pending_mutation_on at party unit)
  sees_lodged_on unit = lodger_passes (has_pending_mutation_on at party unit) (has at.units unit)

  has_pending : (unit : ℕ) → has_pending_mutation_on at party unit ≡ true → HasPending at party unit
  has_pending unit h =
      let it = some_passes nat_cmp_total nat_cmp-IsAntisymmetric (λ n m. is_pending_on party unit m) at.mutations h in
      let tests = and_parts _ _ it.passes in
      let own = and_parts _ _ tests.0 in
      record {
        number = it.key;
        lodged = record { mutation = it.value; there = it.there; lodger = eqb-true it.value.lodger party own.1 };
        undecided = own.0;
        names = tests.1;
      }

  is_pending : (unit : ℕ) → HasPending at party unit → has_pending_mutation_on at party unit ≡ true
  is_pending unit it =
      some_at nat_cmp_total nat_cmp-IsAntisymmetric (λ n m. is_pending_on party unit m) at.mutations it.number it.lodged.mutation it.lodged.there
      (and_from _ _ (and_from _ _ it.undecided (eq-eqb it.lodged.mutation.lodger party it.lodged.lodger)) it.names)

pub lodgers_see : LodgersSeeTheirMutations
lodgers_see at caller present number =
    let seen = sees_lodged at caller.party caller.role number present in
    (λ h. has_lodged at caller.party number (sym seen ∙ h), λ it. seen ∙ is_lodged at caller.party number it)

pub conveyancers_see : ConveyancersSeeByTheirLodgings
conveyancers_see at party unit = (
  λ h. let parts = and_parts _ _ (sym (sees_lodged_on at party unit) ∙ h) in (parts.0, has_pending at party unit parts.1),
  λ it. sees_lodged_on at party unit ∙ and_from _ _ it.0 (is_pending at party unit it.1),
)
