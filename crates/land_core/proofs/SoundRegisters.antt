-- Lemmas from soundness to lookups and back.
use Rattle.std.proofs.Common.{◌≡◌, ℕ, ◌<◌, Bool, true, false, cond, ◌||◌, ◌&&◌, not, Option, Some, None, refl, sym, ap, ◌∙◌, arith}
use Rattle.std.specs.Option.{option_map_or}
use Rattle.std.specs.Ordering.{nat_cmp, eq_by_cmp, is_eq}
use Rattle.std.specs.Cmp.{nat_cmp_total, tied_itself}
use Rattle.std.specs.FinMap as map
use Rattle.std.specs.FinMap.{FinMap, nat_cmp-IsAntisymmetric}
use Rattle.std.proofs.lemmas.Bool.{false≢true, not-false, or_parts}
use Rattle.std.proofs.lemmas.Bool.Decides.{nat_tests}
use Rattle.land_core.proofs.FiniteMaps.{none_is_not_some}
use Rattle.land_core.proofs.FiniteSets.{grants_total, exact_grants}
use Rattle.land_core.proofs.Reflection.{Passes, some_passes, some_at, none_passes, none_at, list_any-map}
use Rattle.land_core.specs.Entries.{some}
use Rattle.land_core.specs.Grants.{grants_in}
use Rattle.land_core.specs.Members.{Members, are_group_shares}
use Rattle.land_core.specs.Register.{has_single_party, has_group, is_single, shares_of}
use Rattle.land_core.specs.Role.{is_role}
use Rattle.land_core.specs.Soundness.{IsSound, has_fault, exceeds_last_number, is_used, has_unused, has_unused_number, has_dangling_grant, has_dangling_members, has_dangling_member, has_dangling_parcel, has_dangling_rrr, has_dangling_mutation, has_dangling_mandate, are_dangling_members, has_broken_group, has_administrator}
use Rattle.land_core.specs.declared.party.PartyRecord.{PartyRecord}
use Rattle.land_core.specs.declared.register.Register.{Register}
use Rattle.land_core.specs.declared.role.Role.TheVariants.{StateAdministrator}
use Rattle.land_core.specs.declared.roles.Grant.{Grant}
use Rattle.land_core.specs.declared.soundness.Unsound.TheVariants.{Reference, Administrator}
use Rattle.land_fraction.specs.Ratio.{Ratio}

-- a register without a fault of reference: none of its eight conditions holds
pub record Refers (r : Register) : Type 0 where
  pub room : exceeds_last_number r ≡ false
  pub numbers : has_unused_number r ≡ false
  pub grants : has_dangling_grant r ≡ false
  pub members : has_dangling_members r ≡ false
  pub parcels : has_dangling_parcel r ≡ false
  pub rrrs : has_dangling_rrr r ≡ false
  pub mutations : has_dangling_mutation r ≡ false
  pub mandates : has_dangling_mandate r ≡ false

pub refers : (r : Register) → has_fault Reference r ≡ false → Refers r
refers r h =
    let mandates = or_parts (exceeds_last_number r || has_unused_number r || has_dangling_grant r || has_dangling_members r || has_dangling_parcel r || has_dangling_rrr r || has_dangling_mutation r) (has_dangling_mandate r) h in
    let mutations = or_parts (exceeds_last_number r || has_unused_number r || has_dangling_grant r || has_dangling_members r || has_dangling_parcel r || has_dangling_rrr r) (has_dangling_mutation r) mandates.0 in
    let rrrs = or_parts (exceeds_last_number r || has_unused_number r || has_dangling_grant r || has_dangling_members r || has_dangling_parcel r) (has_dangling_rrr r) mutations.0 in
    let parcels = or_parts (exceeds_last_number r || has_unused_number r || has_dangling_grant r || has_dangling_members r) (has_dangling_parcel r) rrrs.0 in
    let members = or_parts (exceeds_last_number r || has_unused_number r || has_dangling_grant r) (has_dangling_members r) parcels.0 in
    let grants = or_parts (exceeds_last_number r || has_unused_number r) (has_dangling_grant r) members.0 in
    let numbers = or_parts (exceeds_last_number r) (has_unused_number r) grants.0 in
    record { room = numbers.0; numbers = numbers.1; grants = grants.1; members = members.1; parcels = parcels.1; rrrs = rrrs.1; mutations = mutations.1; mandates = mandates.1 }

pub refers_back : (r : Register) → Refers r → has_fault Reference r ≡ false
refers_back r h =
    ap (λ b. b || has_unused_number r || has_dangling_grant r || has_dangling_members r || has_dangling_parcel r || has_dangling_rrr r || has_dangling_mutation r || has_dangling_mandate r) h.room
    ∙ ap (λ b. b || has_dangling_grant r || has_dangling_members r || has_dangling_parcel r || has_dangling_rrr r || has_dangling_mutation r || has_dangling_mandate r) h.numbers
    ∙ ap (λ b. b || has_dangling_members r || has_dangling_parcel r || has_dangling_rrr r || has_dangling_mutation r || has_dangling_mandate r) h.grants
    ∙ ap (λ b. b || has_dangling_parcel r || has_dangling_rrr r || has_dangling_mutation r || has_dangling_mandate r) h.members
    ∙ ap (λ b. b || has_dangling_rrr r || has_dangling_mutation r || has_dangling_mandate r) h.parcels
    ∙ ap (λ b. b || has_dangling_mutation r || has_dangling_mandate r) h.rrrs
    ∙ ap (λ b. b || has_dangling_mandate r) h.mutations
    ∙ h.mandates

-- numbers in use of each map that has objects
pub record AreUsed (r : Register) : Type 0 where
  pub parties : has_unused r r.parties ≡ false
  pub units : has_unused r r.units ≡ false
  pub parcels : has_unused r r.parcels ≡ false
  pub rrrs : has_unused r r.rrrs ≡ false
  pub sources : has_unused r r.sources ≡ false
  pub mutations : has_unused r r.mutations ≡ false

pub are_used : (r : Register) → has_unused_number r ≡ false → AreUsed r
are_used r h =
    let mutations = or_parts (has_unused r r.parties || has_unused r r.units || has_unused r r.parcels || has_unused r r.rrrs || has_unused r r.sources) (has_unused r r.mutations) h in
    let sources = or_parts (has_unused r r.parties || has_unused r r.units || has_unused r r.parcels || has_unused r r.rrrs) (has_unused r r.sources) mutations.0 in
    let rrrs = or_parts (has_unused r r.parties || has_unused r r.units || has_unused r r.parcels) (has_unused r r.rrrs) sources.0 in
    let parcels = or_parts (has_unused r r.parties || has_unused r r.units) (has_unused r r.parcels) rrrs.0 in
    let units = or_parts (has_unused r r.parties) (has_unused r r.units) parcels.0 in
    record { parties = units.0; units = units.1; parcels = parcels.1; rrrs = rrrs.1; sources = sources.1; mutations = mutations.1 }

pub are_used_back : (r : Register) → AreUsed r → has_unused_number r ≡ false
are_used_back r h =
    ap (λ b. b || has_unused r r.units || has_unused r r.parcels || has_unused r r.rrrs || has_unused r r.sources || has_unused r r.mutations) h.parties
    ∙ ap (λ b. b || has_unused r r.parcels || has_unused r r.rrrs || has_unused r r.sources || has_unused r r.mutations) h.units
    ∙ ap (λ b. b || has_unused r r.rrrs || has_unused r r.sources || has_unused r r.mutations) h.parcels
    ∙ ap (λ b. b || has_unused r r.sources || has_unused r r.mutations) h.rrrs
    ∙ ap (λ b. b || has_unused r r.mutations) h.sources
    ∙ h.mutations

-- nothing in an empty map passes a test
pub none_in_empty : {V : Type 0} (p : ℕ → V → Bool) → some p map.empty ≡ false
none_in_empty p = none_passes nat_cmp_total nat_cmp-IsAntisymmetric p map.empty (λ n v is. absurd (none_is_not_some (sym (map.get-empty nat_cmp n) ∙ is)))

pub loose_from : (r : Register) → ((g : Grant) → map.get r.roles g ≡ Some tt → has_single_party r g.party ≡ true) → has_dangling_grant r ≡ false
unfolding grants_in
loose_from r h =
    list_any-map (λ (g : Grant). not (has_single_party r g.party)) (λ e. e.0) (map.entries r.roles)
    ∙ none_passes grants_total exact_grants (λ g u. not (has_single_party r g.party)) r.roles (λ g u is. ap not (h g is))

pub single_from : (r : Register) → has_dangling_grant r ≡ false → (g : Grant) → map.get r.roles g ≡ Some tt → has_single_party r g.party ≡ true
unfolding grants_in
single_from r none g is =
    not-false _ (none_at grants_total exact_grants (λ g u. not (has_single_party r g.party)) r.roles g tt
    (sym (list_any-map (λ (g : Grant). not (has_single_party r g.party)) (λ e. e.0) (map.entries r.roles)) ∙ none) is)

pub administrator_from : (r : Register) → has_administrator r ≡ true → Passes (λ (g : Grant) (u : Unit {0}). is_role g.role StateAdministrator) r.roles
unfolding grants_in
administrator_from r h =
    some_passes grants_total exact_grants (λ g u. is_role g.role StateAdministrator) r.roles
    (sym (list_any-map (λ (g : Grant). is_role g.role StateAdministrator) (λ e. e.0) (map.entries r.roles)) ∙ h)

pub administrator_at : (r : Register) (g : Grant) → map.get r.roles g ≡ Some tt → is_role g.role StateAdministrator ≡ true → has_administrator r ≡ true
unfolding grants_in
administrator_at r g is role =
    list_any-map (λ (g : Grant). is_role g.role StateAdministrator) (λ e. e.0) (map.entries r.roles)
    ∙ some_at grants_total exact_grants (λ g u. is_role g.role StateAdministrator) r.roles g tt is role

-- the numbers of records are in use, if the fault does not hold
pub used_from : {V : Type 0} (r : Register) (records : FinMap nat_cmp V) → has_unused r records ≡ false → (n : ℕ) (v : V) → map.get records n ≡ Some v → is_used r n ≡ true
used_from r records none n v is = not-false _ (none_at nat_cmp_total nat_cmp-IsAntisymmetric (λ n v. not (is_used r n)) records n v none is)

pub unused_from : {V : Type 0} (r : Register) (records : FinMap nat_cmp V) → ((n : ℕ) (v : V) → map.get records n ≡ Some v → is_used r n ≡ true) → has_unused r records ≡ false
unused_from r records h = none_passes nat_cmp_total nat_cmp-IsAntisymmetric (λ n v. not (is_used r n)) records (λ n v is. ap not (h n v is))

-- the members of a number are those of a group, and single parties
pub record AreTight (r : Register) (group : ℕ) (members : Members) : Type 0 where
  pub grouped : has_group r group ≡ true
  pub single : (n : ℕ) (share : Ratio) → map.get members n ≡ Some share → has_single_party r n ≡ true

tight_from : (r : Register) (group : ℕ) (members : Members) → AreTight r group members → are_dangling_members r group members ≡ false
tight_from r group members h =
    ap (λ b. not b || has_dangling_member r members) h.grouped
    ∙ none_passes nat_cmp_total nat_cmp-IsAntisymmetric (λ n share. not (has_single_party r n)) members (λ n share is. ap not (h.single n share is))

pub loose_members_from : (r : Register) → ((group : ℕ) (members : Members) → map.get r.members group ≡ Some members → AreTight r group members) → has_dangling_members r ≡ false
loose_members_from r h = none_passes nat_cmp_total nat_cmp-IsAntisymmetric (λ group members. are_dangling_members r group members) r.members (λ group members is. tight_from r group members (h group members is))

pub members_from : (r : Register) → has_dangling_members r ≡ false → (group : ℕ) (members : Members) → map.get r.members group ≡ Some members → AreTight r group members
members_from r none group members is =
    let parts = or_parts (not (has_group r group)) (has_dangling_member r members) (none_at nat_cmp_total nat_cmp-IsAntisymmetric (λ group members. are_dangling_members r group members) r.members group members none is) in
    record {
      grouped = not-false _ parts.0;
      single = λ n share at. not-false _ (none_at nat_cmp_total nat_cmp-IsAntisymmetric (λ n share. not (has_single_party r n)) members n share parts.1 at);
    }

-- the shares of groups sum to 1, if no group is broken
abbrev is_broken : Register → ℕ → PartyRecord → Bool
is_broken r n p = not (is_single p.kind) && not (are_group_shares (shares_of r n))

pub unbroken_from : (r : Register) → ((n : ℕ) (p : PartyRecord) → map.get r.parties n ≡ Some p → is_single p.kind ≡ false → are_group_shares (shares_of r n) ≡ true) → has_broken_group r ≡ false
unbroken_from r h =
    none_passes nat_cmp_total nat_cmp-IsAntisymmetric (is_broken r) r.parties (λ n p is.
    elim (is_single p.kind) as (λ b. is_single p.kind ≡ b → (not b && not (are_group_shares (shares_of r n))) ≡ false) [
      | true ↦ λ single. refl
      | false ↦ λ group. ap not (h n p is group)
    ] refl)

pub whole_from : (r : Register) → has_broken_group r ≡ false → (n : ℕ) (p : PartyRecord) → map.get r.parties n ≡ Some p → is_single p.kind ≡ false → are_group_shares (shares_of r n) ≡ true
whole_from r none n p is group =
    not-false _ (sym (ap (λ b. not b && not (are_group_shares (shares_of r n))) group) ∙ none_at nat_cmp_total nat_cmp-IsAntisymmetric (is_broken r) r.parties n p none is)

-- a single party that exists has a record
pub record HasRecord (r : Register) (n : ℕ) : Type 0 where
  pub party : PartyRecord
  pub there : map.get r.parties n ≡ Some party

pub stands_from : (r : Register) (n : ℕ) → has_single_party r n ≡ true → HasRecord r n
stands_from r n h = found (map.get r.parties n) refl h
  where
    found : (o : Option PartyRecord) → map.get r.parties n ≡ o → option_map_or (λ (p : PartyRecord). is_single p.kind) o false ≡ true → HasRecord r n
    found None e h = absurd (false≢true h)
    found (Some p) e h = record { party = p; there = e }

pub used_bounds : (r : Register) (n : ℕ) → is_used r n ≡ true → (0 < n) × (n < r.next)
used_bounds r n h = (grind (arith, nat_tests), grind (arith, nat_tests))

unit_is : (u : Unit {0}) → u ≡ tt
unit_is u = refl

-- a sound register has an administrator, so its next number is above 0
pub next_above_zero : (r : Register) → IsSound r → 0 < r.next
next_above_zero r sound =
    let parts = refers r (sound Reference) in
    let one = administrator_from r (not-false _ (sound Administrator)) in
    let stands = stands_from r one.key.party (single_from r parts.grants one.key (one.there ∙ ap Some (unit_is one.value))) in
    let bounds = used_bounds r one.key.party (used_from r r.parties (are_used r parts.numbers).parties one.key.party stands.party stands.there) in
    omega arith

-- a number is not apart from itself
pub apart_itself : (n : ℕ) → eq_by_cmp nat_cmp n n ≡ false → ⊥
apart_itself n h = false≢true (sym h ∙ ap is_eq (tied_itself nat_cmp_total n))

-- inserting a single party leaves single parties single
pub single_put : (r new : Register) (number : ℕ) (party : PartyRecord) → new.parties ≡ map.insert r.parties number party → is_single party.kind ≡ true
    → (n : ℕ) → ((eq_by_cmp nat_cmp n number ≡ false) → has_single_party r n ≡ true) → has_single_party new n ≡ true
single_put r new number party is single n h =
    ap (λ o. option_map_or (λ (p : PartyRecord). is_single p.kind) o false) (ap (λ m. map.get m n) is ∙ map.get-insert nat_cmp_total r.parties number party n)
    ∙ elim (eq_by_cmp nat_cmp n number) as (λ b. eq_by_cmp nat_cmp n number ≡ b → option_map_or (λ (p : PartyRecord). is_single p.kind) (cond b (Some party) (map.get r.parties n)) false ≡ true) [
      | true ↦ λ at. single
      | false ↦ λ apart. h apart
    ] refl
