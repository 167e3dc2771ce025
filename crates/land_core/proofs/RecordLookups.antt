-- Proof that soundness is equivalent to conditions on lookups.
use Rattle.std.proofs.Common.{◌≡◌, ◌≢◌, ℕ, ◌<◌, ◌≤◌, Bool, true, false, not, ◌||◌, ◌&&◌, nat_eq, nat_lt, List, [], ◌∷◌, length, Option, Some, None, is_some, refl, sym, ap, ◌∙◌, subst, arith}
use Rattle.std.proofs.lemmas.Bool.{false≢true, lt-ltb, le-ltb, ltb-true, ltb-false, eqb-true, eq-eqb, and_from, and_parts, false_from_ne_true, not-false, not-true, or_from, or_parts}
use Rattle.std.proofs.lemmas.Bool.Decides.{nat_tests}
use Rattle.std.specs.Cmp.{nat_cmp_total}
use Rattle.std.proofs.lemmas.Slice.Eq.{bytes_eq-Decides}
use Rattle.std.specs.Str.{bytes_eq}
use Rattle.std.specs.FinMap as map
use Rattle.std.specs.FinMap.{FinMap, nat_cmp-IsAntisymmetric}
use Rattle.std.specs.Ordering.{nat_cmp}
use Rattle.land_core.proofs.LooseMandates.{loose_mandates_from, mandates_from}
use Rattle.land_core.proofs.Reflection.{none_at, none_passes, some_at, some_passes}
use Rattle.land_core.proofs.SoundRegisters.{are_used, are_used_back, administrator_at, administrator_from, loose_from, loose_members_from, members_from, refers, refers_back, single_from, unbroken_from, unused_from, used_bounds, used_from, whole_from}
use Rattle.land_core.specs.Contents.{is_well_formed_content}
use Rattle.land_core.specs.Entries.{has, some}
use Rattle.land_core.specs.Grants.{grant_to}
use Rattle.land_core.specs.Laws.{AreGroupShares, EntryRefers, GoTogether, HasOwner, HasParcel, IsInUse, IsSoundByNumber, IsSoundUnit, MandateRefers, MutationRefers, ParcelRefers, SoundnessByNumber}
use Rattle.land_core.specs.Mandates.{mandate_between}
use Rattle.land_core.specs.Members.{are_group_shares, is_group_size, is_yes}
use Rattle.land_core.specs.Mutations.{have_same_reference}
use Rattle.land_core.specs.Numbers.{last_next}
use Rattle.land_core.specs.Register.{has_single_party, holds, shares_of}
use Rattle.land_core.specs.Role.{is_role, role_index, role_at, role_at_place}
use Rattle.land_core.specs.Soundness.{IsSound, clashes_with_later, has_clash, has_reused_reference, is_dangling_mandate, is_dangling_mutation, is_rank_out_of_range, shares_reference_with_later, is_used}
use Rattle.land_core.specs.Units.{are_of_one_rank, are_of_one_type, are_whole_or_none, do_clash, has_owner, has_parcel, has_whole_shares, is_right_in, is_right_of, is_type, parcel_count, rank_of, rrr_count, type_of, type_shares}
use Rattle.land_core.specs.declared.mandates.Mandate.{Mandate}
use Rattle.land_core.specs.declared.mutation.MutationRecord.{MutationRecord}
use Rattle.land_core.specs.declared.parcel.ParcelRecord.{ParcelRecord}
use Rattle.land_core.specs.declared.register.Register.{Register}
use Rattle.land_core.specs.declared.role.Role.{Role}
use Rattle.land_core.specs.declared.role.Role.TheVariants.{StateAdministrator}
use Rattle.land_core.specs.declared.rrr.Class.{Class}
use Rattle.land_core.specs.declared.rrr.Class.TheVariants.{Right, Restriction, Responsibility, Mortgage}
use Rattle.land_core.specs.declared.rrr.RightType.{RightType}
use Rattle.land_core.specs.declared.rrr.RightType.TheVariants.{Ownership, Lease, Usufruct}
use Rattle.land_core.specs.declared.rrr.RrrRecord.{RrrRecord}
use Rattle.land_core.specs.declared.soundness.Unsound.TheVariants.{Reference, Shares, Group, Bare, Crowded, Twice, Rank, Administrator, Reused, Memory}
use Rattle.land_core.specs.declared.unit.UnitRecord.{UnitRecord}
use Rattle.land_fraction.specs.Laws.{WholenessLaw}
use Rattle.land_fraction.specs.Ratio.{Ratio}
use Rattle.land_fraction.specs.Wholeness.{IsWhole, wholeness}
use Rattle.land_fraction.specs.declared.lists.Whole.{Whole}
use Rattle.land_fraction.specs.declared.lists.Whole.TheVariants.{Yes, No, TooFine}

-- no entry passes a test if and only if no value of a key does
at : {V : Type 0} (p : ℕ → V → Bool) (m : FinMap nat_cmp V) → some p m ≡ false → (n : ℕ) (v : V) → map.get m n ≡ Some v → p n v ≡ false
at p m none n v is = none_at nat_cmp_total nat_cmp-IsAntisymmetric p m n v none is

each : {V : Type 0} (p : ℕ → V → Bool) (m : FinMap nat_cmp V) → ((n : ℕ) (v : V) → map.get m n ≡ Some v → p n v ≡ false) → some p m ≡ false
each p m h = none_passes nat_cmp_total nat_cmp-IsAntisymmetric p m h

in_use : (r : Register) (n : ℕ) → is_used r n ≡ true → IsInUse r n
in_use r n h = let it = used_bounds r n h in record { positive = it.0; below = it.1 }

used : (r : Register) (n : ℕ) → IsInUse r n → is_used r n ≡ true
used r n h = and_from (nat_lt 0 n) (nat_lt n r.next) (lt-ltb 0 n h.positive) (lt-ltb n r.next h.below)

-- types of rights are equal if the test passes
pub one_type : (a b : RightType) → is_type a b ≡ true → a ≡ b
one_type Ownership Ownership h = refl
one_type Ownership Lease h = absurd (false≢true h)
one_type Ownership Usufruct h = absurd (false≢true h)
one_type Lease Ownership h = absurd (false≢true h)
one_type Lease Lease h = refl
one_type Lease Usufruct h = absurd (false≢true h)
one_type Usufruct Ownership h = absurd (false≢true h)
one_type Usufruct Lease h = absurd (false≢true h)
one_type Usufruct Usufruct h = refl

pub type_itself : (a : RightType) → is_type a a ≡ true
type_itself Ownership = refl
type_itself Lease = refl
type_itself Usufruct = refl

-- rights of one type, and mortgages of one rank
types_from : (a b : Option RightType) → are_of_one_type a b ≡ true → (type : RightType) × (a ≡ Some type) × (b ≡ Some type)
types_from (Some x) (Some y) h = (y, ap Some (one_type x y h), refl)
types_from (Some x) None h = absurd (false≢true h)
types_from None b h = absurd (false≢true h)

types_to : (type : RightType) (a b : Option RightType) → a ≡ Some type → b ≡ Some type → are_of_one_type a b ≡ true
types_to type a b x y = ap (λ o. are_of_one_type o b) x ∙ ap (are_of_one_type (Some type)) y ∙ type_itself type

ranks_from : (a b : Option ℕ) → are_of_one_rank a b ≡ true → (rank : ℕ) × (a ≡ Some rank) × (b ≡ Some rank)
ranks_from (Some x) (Some y) h = (y, ap Some (eqb-true x y h), refl)
ranks_from (Some x) None h = absurd (false≢true h)
ranks_from None b h = absurd (false≢true h)

ranks_to : (rank : ℕ) (a b : Option ℕ) → a ≡ Some rank → b ≡ Some rank → are_of_one_rank a b ≡ true
ranks_to rank a b x y = ap (λ o. are_of_one_rank o b) x ∙ ap (are_of_one_rank (Some rank)) y ∙ eq-eqb rank rank refl

-- two entries of a unit are compatible if they do not clash
together : (e f : RrrRecord) → e.unit ≡ f.unit → do_clash e f ≡ false → GoTogether e f
together e f unit h =
    let one = are_of_one_type (type_of e.class) (type_of f.class) in
    let rank = are_of_one_rank (rank_of e.class) (rank_of f.class) in
    let parts = or_parts (nat_eq e.party f.party && one) rank (sym (ap (λ t. t && (nat_eq e.party f.party && one || rank)) (eq-eqb e.unit f.unit unit)) ∙ h) in
    record {
      rights = λ type party x y. false≢true (sym parts.0 ∙ and_from (nat_eq e.party f.party) one (eq-eqb e.party f.party party) (types_to type (type_of e.class) (type_of f.class) x y));
      ranks = λ place x y. false≢true (sym parts.1 ∙ ranks_to place (rank_of e.class) (rank_of f.class) x y);
    }

turned : (e f : RrrRecord) → GoTogether f e → GoTogether e f
turned e f h = record {
  rights = λ type party x y. h.rights type (sym party) y x;
  ranks = λ rank x y. h.ranks rank y x;
}

apart : (e f : RrrRecord) → (e.unit ≡ f.unit → GoTogether e f) → do_clash e f ≡ false
apart e f h = false_from_ne_true (do_clash e f) (λ clash.
    let one = are_of_one_type (type_of e.class) (type_of f.class) in
    let rank = are_of_one_rank (rank_of e.class) (rank_of f.class) in
    let parts = and_parts (nat_eq e.unit f.unit) (nat_eq e.party f.party && one || rank) clash in
    let go = h (eqb-true e.unit f.unit parts.0) in
    let rights : (nat_eq e.party f.party && one) ≡ false = false_from_ne_true (nat_eq e.party f.party && one) (λ it.
    let those = and_parts (nat_eq e.party f.party) one it in
    let type = types_from (type_of e.class) (type_of f.class) those.1 in
    go.rights type.0 (eqb-true e.party f.party those.0) type.1 type.2) in
    let ranks : rank ≡ false = false_from_ne_true rank (λ it. let place = ranks_from (rank_of e.class) (rank_of f.class) it in go.ranks place.0 place.1 place.2) in
    false≢true (sym (or_from (nat_eq e.party f.party && one) rank rights ranks) ∙ parts.1))

-- an entry that is a right of a type
right_from : (type : RightType) (class : Class) → is_right_of type class ≡ true → type_of class ≡ Some type
right_from type (Right other share) h = ap Some (one_type other type h)
right_from type (Restriction words) h = absurd (false≢true h)
right_from type (Responsibility words) h = absurd (false≢true h)
right_from type (Mortgage amount currency rank) h = absurd (false≢true h)

right_to : (type : RightType) (class : Class) → type_of class ≡ Some type → is_right_of type class ≡ true
right_to type (Right other share) h = let is : other ≡ type = cc in ap (λ t. is_type t type) is ∙ type_itself type
right_to type (Restriction words) h = absurd (none h)
  where
    none : None ≡ Some type → ⊥
    none e = cc
right_to type (Responsibility words) h = absurd (none h)
  where
    none : None ≡ Some type → ⊥
    none e = cc
right_to type (Mortgage amount currency rank) h = absurd (none h)
  where
    none : None ≡ Some type → ⊥
    none e = cc

-- parcels, owners and counts of a unit
parcel_from : (r : Register) (unit : ℕ) → has_parcel r unit ≡ true → HasParcel r unit
parcel_from r unit h =
    let it = some_passes nat_cmp_total nat_cmp-IsAntisymmetric (λ n p. nat_eq p.unit unit) r.parcels h in
    record { number = it.key; parcel = it.value; there = it.there; in_unit = eqb-true it.value.unit unit it.passes }

parcel_to : (r : Register) (unit : ℕ) → HasParcel r unit → has_parcel r unit ≡ true
parcel_to r unit h = some_at nat_cmp_total nat_cmp-IsAntisymmetric (λ n p. nat_eq p.unit unit) r.parcels h.number h.parcel h.there (eq-eqb h.parcel.unit unit h.in_unit)

owner_from : (r : Register) (unit : ℕ) → has_owner r unit ≡ true → HasOwner r unit
owner_from r unit h =
    let it = some_passes nat_cmp_total nat_cmp-IsAntisymmetric (λ n e. is_right_in unit Ownership e) r.rrrs h in
    let parts = and_parts (nat_eq it.value.unit unit) (is_right_of Ownership it.value.class) it.passes in
    record { number = it.key; entry = it.value; there = it.there; in_unit = eqb-true it.value.unit unit parts.0; owns = right_from Ownership it.value.class parts.1 }

owner_to : (r : Register) (unit : ℕ) → HasOwner r unit → has_owner r unit ≡ true
owner_to r unit h =
    some_at nat_cmp_total nat_cmp-IsAntisymmetric (λ n e. is_right_in unit Ownership e) r.rrrs h.number h.entry h.there
    (and_from (nat_eq h.entry.unit unit) (is_right_of Ownership h.entry.class) (eq-eqb h.entry.unit unit h.in_unit) (right_to Ownership h.entry.class h.owns))

size_from : (n : ℕ) → is_group_size n ≡ true → (2 ≤ n) × (n ≤ 64)
size_from n h = (grind (arith, nat_tests), grind (arith, nat_tests))

size_to : (n : ℕ) → 2 ≤ n → n ≤ 64 → is_group_size n ≡ true
size_to n least most = grind (arith, nat_tests)

-- the value of a grant that exists
granted : (o : Option (Unit {0})) → is_some o ≡ true → o ≡ Some tt
granted None h = absurd (false≢true h)
granted (Some u) h = refl

administers : (role : Role) → is_role role StateAdministrator ≡ true → role ≡ StateAdministrator
administers role h = sym (role_at_place role) ∙ ap role_at (eqb-true (role_index role) 5 h)

-- the references of a parcel and of an entry exist
parcel_refers : (r : Register) (p : ParcelRecord) → not (has r.units p.unit && has r.sources p.source) ≡ false → ParcelRefers r p
parcel_refers r p h = let it = and_parts (has r.units p.unit) (has r.sources p.source) (not-false _ h) in record { unit = it.0; source = it.1 }

entry_refers : (r : Register) (e : RrrRecord) → not (has r.units e.unit && has r.parties e.party && has r.sources e.source) ≡ false → EntryRefers r e
entry_refers r e h =
    let it = and_parts (has r.units e.unit && has r.parties e.party) (has r.sources e.source) (not-false _ h) in
    let first = and_parts (has r.units e.unit) (has r.parties e.party) it.0 in
    record { unit = first.0; party = first.1; source = it.1 }

mutation_refers : (r : Register) (m : MutationRecord) → is_dangling_mutation r m ≡ false → MutationRefers r m
mutation_refers r m h =
    let it = and_parts (has r.parties m.lodger && has r.sources m.source) (is_well_formed_content m.content) (not-false _ h) in
    let first = and_parts (has r.parties m.lodger) (has r.sources m.source) it.0 in
    record { lodger = first.0; source = first.1; content = it.1 }

mutation_fast : (r : Register) (m : MutationRecord) → MutationRefers r m → is_dangling_mutation r m ≡ false
mutation_fast r m h =
    ap not (and_from (has r.parties m.lodger && has r.sources m.source) (is_well_formed_content m.content) (and_from (has r.parties m.lodger) (has r.sources m.source) h.lodger h.source) h.content)

mandate_refers : (r : Register) (m : Mandate) → is_dangling_mandate r m ≡ false → MandateRefers r m.principal m.agent
mandate_refers r m h =
    let it = and_parts (has_single_party r m.principal && has_single_party r m.agent) (not (nat_eq m.principal m.agent)) (not-false _ h) in
    let single = and_parts (has_single_party r m.principal) (has_single_party r m.agent) it.0 in
    record {
      principal_single = single.0;
      agent_single = single.1;
      apart = λ same. false≢true (sym (not-true (nat_eq m.principal m.agent) it.1) ∙ eq-eqb m.principal m.agent same);
    }

mandate_tight : (r : Register) (m : Mandate) → MandateRefers r m.principal m.agent → is_dangling_mandate r m ≡ false
mandate_tight r m h =
    let apart = false_from_ne_true (nat_eq m.principal m.agent) (λ same. h.apart (eqb-true m.principal m.agent same)) in
    ap not (and_from (has_single_party r m.principal && has_single_party r m.agent) (not (nat_eq m.principal m.agent))
    (and_from (has_single_party r m.principal) (has_single_party r m.agent) h.principal_single h.agent_single) (ap not apart))

-- pairs of mutations, the lesser number first or last
references_from : (r : Register) → has_reused_reference r ≡ false → (m n : ℕ) (it other : MutationRecord) → map.get r.mutations m ≡ Some it → map.get r.mutations n ≡ Some other → m ≢ n
    → it.lodger ≡ other.lodger → it.reference ≢ other.reference
references_from r none m n it other is that apart lodger reference =
    elim (nat_lt m n) as (λ b. nat_lt m n ≡ b → ⊥) [
      | true ↦ λ before. clash m n it other is that before lodger reference
      | false ↦ λ after.
          let le : n ≤ m = ltb-false m n after in
          let lt : n < m = omega arith in
          clash n m other it that is (lt-ltb n m lt) (sym lodger) (sym reference)
    ] refl
  where
    clash : (m n : ℕ) (it other : MutationRecord) → map.get r.mutations m ≡ Some it → map.get r.mutations n ≡ Some other → nat_lt m n ≡ true → it.lodger ≡ other.lodger → it.reference ≡ other.reference → ⊥
    clash m n it other is that before lodger reference =
        false≢true (sym (at (λ n other. nat_lt m n && have_same_reference it other) r.mutations (at (λ m it. shares_reference_with_later r m it) r.mutations none m it is) n other that)
        ∙ and_from (nat_lt m n) (have_same_reference it other) before (and_from (nat_eq it.lodger other.lodger) (bytes_eq it.reference other.reference) (eq-eqb it.lodger other.lodger lodger) ((bytes_eq-Decides it.reference other.reference).1 reference)))

reference_to : (n m : ℕ) (it other : MutationRecord) → (n ≢ m → it.lodger ≡ other.lodger → it.reference ≢ other.reference) → (nat_lt n m && have_same_reference it other) ≡ false
reference_to n m it other h = false_from_ne_true (nat_lt n m && have_same_reference it other) (λ both_hold.
    let parts = and_parts (nat_lt n m) (have_same_reference it other) both_hold in
    let before : n < m = ltb-true n m parts.0 in
    let apart : n ≢ m = omega arith in
    let same = and_parts (nat_eq it.lodger other.lodger) (bytes_eq it.reference other.reference) parts.1 in
    h apart (eqb-true it.lodger other.lodger same.0) ((bytes_eq-Decides it.reference other.reference).0 same.1))

-- pairs of entries, the lesser number first or last
pairs_from : (r : Register) → has_clash r ≡ false → (m n : ℕ) (e f : RrrRecord) → map.get r.rrrs m ≡ Some e → map.get r.rrrs n ≡ Some f → m ≢ n → e.unit ≡ f.unit → GoTogether e f
pairs_from r none m n e f is that other unit =
    elim (nat_lt m n) as (λ b. nat_lt m n ≡ b → GoTogether e f) [
      | true ↦ λ before. together e f unit (sym (ap (λ t. t && do_clash e f) before) ∙ in_order m n e f is that)
      | false ↦ λ after.
          let le : n ≤ m = ltb-false m n after in
          let lt : n < m = omega arith in
          turned e f (together f e (sym unit) (sym (ap (λ t. t && do_clash f e) (lt-ltb n m lt)) ∙ in_order n m f e that is))
    ] refl
  where
    in_order : (m n : ℕ) (e f : RrrRecord) → map.get r.rrrs m ≡ Some e → map.get r.rrrs n ≡ Some f → (nat_lt m n && do_clash e f) ≡ false
    in_order m n e f is that = at (λ n f. nat_lt m n && do_clash e f) r.rrrs (at (λ m e. clashes_with_later r m e) r.rrrs none m e is) n f that

pair_to : (n m : ℕ) (e f : RrrRecord) → (n ≢ m → e.unit ≡ f.unit → GoTogether e f) → (nat_lt n m && do_clash e f) ≡ false
pair_to n m e f h = false_from_ne_true (nat_lt n m && do_clash e f) (λ it.
    let parts = and_parts (nat_lt n m) (do_clash e f) it in
    let before : n < m = ltb-true n m parts.0 in
    let other : n ≢ m = omega arith in
    false≢true (sym (apart e f (h other)) ∙ parts.1))

rank_to : (r : Register) (o : Option ℕ) → ((rank : ℕ) → o ≡ Some rank → IsInUse r rank) → is_rank_out_of_range r o ≡ false
rank_to r None h = refl
rank_to r (Some rank) h = ap not (used r rank (h rank refl))

-- shares sum to 1 if the function returns `Yes`
module _ (law : WholenessLaw) where
  whole_from_yes : (shares : List Ratio) → is_yes (wholeness shares) ≡ true → IsWhole shares
  whole_from_yes shares h = (law shares Yes).1 (sym (is_it (wholeness shares) h))
    where
      is_it : (whole : Whole) → is_yes whole ≡ true → whole ≡ Yes
      is_it Yes h = refl
      is_it No h = absurd (false≢true h)
      is_it TooFine h = absurd (false≢true h)

  yes_from_whole : (shares : List Ratio) → IsWhole shares → is_yes (wholeness shares) ≡ true
  yes_from_whole shares h = ap is_yes (sym ((law shares Yes).0 h))

  group_from : (shares : List Ratio) → are_group_shares shares ≡ true → AreGroupShares shares
  group_from shares h =
      let parts = and_parts (is_group_size (length shares)) (is_yes (wholeness shares)) h in
      let size = size_from (length shares) parts.0 in
      record { least = size.0; most = size.1; whole = whole_from_yes shares parts.1 }

  group_to : (shares : List Ratio) → AreGroupShares shares → are_group_shares shares ≡ true
  group_to shares h = and_from (is_group_size (length shares)) (is_yes (wholeness shares)) (size_to (length shares) h.least h.most) (yes_from_whole shares h.whole)

  whole_from_none : (shares : List Ratio) → are_whole_or_none shares ≡ true → shares ≢ [] → IsWhole shares
  whole_from_none [] h some = absurd (some refl)
  whole_from_none (share ∷ shares) h some = whole_from_yes (share ∷ shares) h

  none_from_whole : (shares : List Ratio) → (shares ≢ [] → IsWhole shares) → are_whole_or_none shares ≡ true
  none_from_whole [] h = refl
  none_from_whole (share ∷ shares) h = yes_from_whole (share ∷ shares) (h some)
    where
      some : (share ∷ shares) ≡ [] → ⊥
      some e = cc

  shares_from : (r : Register) (n : ℕ) → has_whole_shares r n ≡ true → (type : RightType) → are_whole_or_none (type_shares r n type) ≡ true
  shares_from r n h type =
      let both_types = and_parts (are_whole_or_none (type_shares r n Ownership) && are_whole_or_none (type_shares r n Lease)) (are_whole_or_none (type_shares r n Usufruct)) h in
      let first = and_parts (are_whole_or_none (type_shares r n Ownership)) (are_whole_or_none (type_shares r n Lease)) both_types.0 in
      of_type type first.0 first.1 both_types.1
    where
      of_type : (type : RightType) → are_whole_or_none (type_shares r n Ownership) ≡ true → are_whole_or_none (type_shares r n Lease) ≡ true → are_whole_or_none (type_shares r n Usufruct) ≡ true
          → are_whole_or_none (type_shares r n type) ≡ true
      of_type Ownership a b c = a
      of_type Lease a b c = b
      of_type Usufruct a b c = c

  shares_to : (r : Register) (n : ℕ) → ((type : RightType) → are_whole_or_none (type_shares r n type) ≡ true) → has_whole_shares r n ≡ true
  shares_to r n h =
      and_from (are_whole_or_none (type_shares r n Ownership) && are_whole_or_none (type_shares r n Lease)) (are_whole_or_none (type_shares r n Usufruct))
      (and_from (are_whole_or_none (type_shares r n Ownership)) (are_whole_or_none (type_shares r n Lease)) (h Ownership) (h Lease)) (h Usufruct)

  unit_from : (r : Register) → IsSound r → (n : ℕ) (u : UnitRecord) → map.get r.units n ≡ Some u → IsSoundUnit r n u
  unit_from r sound n u is =
      let bare = and_parts (has_parcel r n) (has_owner r n) (not-false _ (at (λ n u. not (has_parcel r n && has_owner r n)) r.units (sound Bare) n u is)) in
      let crowded = or_parts (nat_lt 256 (parcel_count r n)) (nat_lt 256 (rrr_count r n)) (at (λ n u. nat_lt 256 (parcel_count r n) || nat_lt 256 (rrr_count r n)) r.units (sound Crowded) n u is) in
      let parts = at (λ n u. u.checked && not (has_whole_shares r n)) r.units (sound Shares) n u is in
      record {
        parcel = parcel_from r n bare.0;
        owner = owner_from r n bare.1;
        parcels = ltb-false 256 (parcel_count r n) crowded.0;
        entries = ltb-false 256 (rrr_count r n) crowded.1;
        whole = λ checked type some. whole_from_none (type_shares r n type)
            (shares_from r n (not-false _ (sym (ap (λ t. t && not (has_whole_shares r n)) checked) ∙ parts)) type) some;
      }

  unit_in_parts : (r : Register) (n : ℕ) (u : UnitRecord) → IsSoundUnit r n u → (u.checked && not (has_whole_shares r n)) ≡ false
  unit_in_parts r n u h =
      elim u.checked as (λ b. u.checked ≡ b → (b && not (has_whole_shares r n)) ≡ false) [
        | true ↦ λ checked. ap not (shares_to r n (λ type. none_from_whole (type_shares r n type) (h.whole checked type)))
        | false ↦ λ free. refl
      ] refl

  -- soundness implies the conditions on lookups
  look_ups_from : (r : Register) → IsSound r → IsSoundByNumber r
  look_ups_from r sound =
      let parts = refers r (sound Reference) in
      let numbers = are_used r parts.numbers in
      let administrator = administrator_from r (not-false _ (sound Administrator)) in
      record {
        room = ltb-false last_next r.next parts.room;
        numbers_of_parties = λ n v is. in_use r n (used_from r r.parties numbers.parties n v is);
        numbers_of_units = λ n v is. in_use r n (used_from r r.units numbers.units n v is);
        numbers_of_parcels = λ n v is. in_use r n (used_from r r.parcels numbers.parcels n v is);
        numbers_of_entries = λ n v is. in_use r n (used_from r r.rrrs numbers.rrrs n v is);
        numbers_of_sources = λ n v is. in_use r n (used_from r r.sources numbers.sources n v is);
        numbers_of_mutations = λ n v is. in_use r n (used_from r r.mutations numbers.mutations n v is);
        roles = λ party role h. single_from r parts.grants (grant_to party role) (granted (map.get r.roles (grant_to party role)) h);
        members = λ group members is. let it = members_from r parts.members group members is in record { grouped = it.grouped; single = it.single };
        parcels = λ n p is. parcel_refers r p (at (λ n p. not (has r.units p.unit && has r.sources p.source)) r.parcels parts.parcels n p is);
        entries = λ n e is. entry_refers r e (at (λ n e. not (has r.units e.unit && has r.parties e.party && has r.sources e.source)) r.rrrs parts.rrrs n e is);
        mutations = λ n m is. mutation_refers r m (at (λ n m. is_dangling_mutation r m) r.mutations parts.mutations n m is);
        mandates = λ principal agent h.
            let it = mandate_between principal agent in mandate_refers r it (mandates_from r parts.mandates it (granted (map.get r.mandates it) h));
        groups = λ n p is group. group_from (shares_of r n) (whole_from r (sound Group) n p is group);
        units = unit_from r sound;
        pairs = pairs_from r (sound Twice);
        ranks = λ n e rank is at_rank. in_use r rank (not-false _ (sym (ap (is_rank_out_of_range r) at_rank) ∙ at (λ n e. is_rank_out_of_range r (rank_of e.class)) r.rrrs (sound Rank) n e is));
        references = references_from r (sound Reused);
        administrator = (
          administrator.key.party,
          subst (λ (role : Role). holds r administrator.key.party role ≡ true) (administers administrator.key.role administrator.passes) (ap is_some administrator.there),
        );
      }

  -- the conditions on lookups imply soundness
  look_ups_to : (r : Register) → IsSoundByNumber r → IsSound r
  look_ups_to r h Reference =
      refers_back r (record {
        room = le-ltb last_next r.next h.room;
        numbers = are_used_back r (record {
          parties = unused_from r r.parties (λ n v is. used r n (h.numbers_of_parties n v is));
          units = unused_from r r.units (λ n v is. used r n (h.numbers_of_units n v is));
          parcels = unused_from r r.parcels (λ n v is. used r n (h.numbers_of_parcels n v is));
          rrrs = unused_from r r.rrrs (λ n v is. used r n (h.numbers_of_entries n v is));
          sources = unused_from r r.sources (λ n v is. used r n (h.numbers_of_sources n v is));
          mutations = unused_from r r.mutations (λ n v is. used r n (h.numbers_of_mutations n v is));
        });
        grants = loose_from r (λ g is. h.roles g.party g.role (ap is_some is));
        members = loose_members_from r (λ group members is. let it = h.members group members is in record { grouped = it.grouped; single = it.single });
        parcels = each (λ n p. not (has r.units p.unit && has r.sources p.source)) r.parcels (λ n p is.
            let it = h.parcels n p is in ap not (and_from (has r.units p.unit) (has r.sources p.source) it.unit it.source));
        rrrs = each (λ n e. not (has r.units e.unit && has r.parties e.party && has r.sources e.source)) r.rrrs (λ n e is.
            let it = h.entries n e is in
            ap not (and_from (has r.units e.unit && has r.parties e.party) (has r.sources e.source) (and_from (has r.units e.unit) (has r.parties e.party) it.unit it.party) it.source));
        mutations = each (λ n m. is_dangling_mutation r m) r.mutations (λ n m is. mutation_fast r m (h.mutations n m is));
        mandates = loose_mandates_from r (λ m is. mandate_tight r m (h.mandates m.principal m.agent (ap is_some is)));
      })
  look_ups_to r h Shares = each (λ n u. u.checked && not (has_whole_shares r n)) r.units (λ n u is. unit_in_parts r n u (h.units n u is))
  look_ups_to r h Group = unbroken_from r (λ n p is group. group_to (shares_of r n) (h.groups n p is group))
  look_ups_to r h Bare =
      each (λ n u. not (has_parcel r n && has_owner r n)) r.units (λ n u is.
      let it = h.units n u is in ap not (and_from (has_parcel r n) (has_owner r n) (parcel_to r n it.parcel) (owner_to r n it.owner)))
  look_ups_to r h Crowded =
      each (λ n u. nat_lt 256 (parcel_count r n) || nat_lt 256 (rrr_count r n)) r.units (λ n u is.
      let it = h.units n u is in
      or_from (nat_lt 256 (parcel_count r n)) (nat_lt 256 (rrr_count r n)) (le-ltb 256 (parcel_count r n) it.parcels) (le-ltb 256 (rrr_count r n) it.entries))
  look_ups_to r h Twice =
      each (λ n e. clashes_with_later r n e) r.rrrs (λ n e is. each (λ m f. nat_lt n m && do_clash e f) r.rrrs (λ m f later. pair_to n m e f (h.pairs n m e f is later)))
  look_ups_to r h Rank = each (λ n e. is_rank_out_of_range r (rank_of e.class)) r.rrrs (λ n e is. rank_to r (rank_of e.class) (λ rank at_rank. h.ranks n e rank is at_rank))
  look_ups_to r h Administrator =
      ap not (administrator_at r (grant_to h.administrator.0 StateAdministrator) (granted (map.get r.roles (grant_to h.administrator.0 StateAdministrator)) h.administrator.1) refl)
  look_ups_to r h Reused =
      each (λ n m. shares_reference_with_later r n m) r.mutations (λ n m is. each (λ k other. nat_lt n k && have_same_reference m other) r.mutations (λ k other later.
      reference_to n k m other (h.references n k m other is later)))
  look_ups_to r h Memory = refl

  pub by_look_ups : SoundnessByNumber
  by_look_ups r = (look_ups_from r, look_ups_to r)
