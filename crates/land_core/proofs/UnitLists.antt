-- Lemmas that relate the lists by unit to the whole register.
use Rattle.std.proofs.Common.{◌≡◌, ℕ, Bool, true, false, cond, not, ◌||◌, ◌&&◌, nat_eq, nat_lt, List, [], ◌∷◌, length, suc, Option, Some, None, is_some, refl, sym, ap, ◌∙◌, subst}
use Rattle.std.proofs.Math.Dec.{eqb-suc-zero}
use Rattle.std.proofs.lemmas.Bool.{false≢true, eqb-true, eq-eqb, and_parts, not-false}
use Rattle.std.specs.Cmp.{nat_cmp_total}
use Rattle.std.specs.FinMap as map
use Rattle.std.specs.FinMap.{FinMap, nat_cmp-IsAntisymmetric}
use Rattle.std.specs.List.{filter_map, list_any, cons_option}
use Rattle.std.specs.Ordering.{nat_cmp}
use Rattle.std.specs.Prelude.{filter}
use Rattle.std.proofs.lemmas.Cmp.{nat_eq_equiv}
use Rattle.land_core.proofs.Booleans.{or_true, or_nothing, same_tests}
use Rattle.land_core.proofs.Pairs.{later_pairs, list_any_same, some_pair}
use Rattle.land_core.proofs.Reflection.{none_at, some_at, some_passes}
use Rattle.land_core.specs.ByUnit.{IsByUnit, claim_in, claim_of, claimed_share, claimed_shares, claims_in, do_claims_clash, have_clash, is_bare, is_claim_of, is_crowded, lacks_whole_shares, items_of_unit, under}
use Rattle.land_core.specs.Entries.{some, has}
use Rattle.land_core.specs.Soundness.{has_bare_unit, has_clash, has_crowded_unit, has_dangling_rrr, has_unit_without_whole_shares}
use Rattle.land_core.specs.Units.{are_of_one_rank, are_of_one_type, are_whole_or_none, do_clash, has_owner, has_parcel, has_whole_shares, is_right_in, is_right_of, parcel_count, rrr_count, share_in_unit, is_type, rank_of, share_of, type_of, type_shares}
use Rattle.land_core.specs.declared.register.Register.{Register}
use Rattle.land_core.specs.declared.rrr.Class.{Class}
use Rattle.land_core.specs.declared.rrr.Class.TheVariants.{Right, Restriction, Responsibility, Mortgage}
use Rattle.land_core.specs.declared.rrr.RightType.{RightType}
use Rattle.land_core.specs.declared.rrr.RightType.TheVariants.{Ownership, Lease, Usufruct}
use Rattle.land_core.specs.declared.rrr.RrrRecord.{RrrRecord}
use Rattle.land_core.specs.declared.soundness.by_unit.ByUnit.{ByUnit}
use Rattle.land_core.specs.declared.unit.UnitRecord.{UnitRecord}

module _ {X Y : Type 0} (place : X → ℕ) (says : X → Y) (unit : ℕ) where
  -- the list of a unit has as many items as the unit
  pub length-items_of_unit : (xs : List X) → length (items_of_unit place says unit xs) ≡ length (filter (λ x. nat_eq (place x) unit) xs)
  length-items_of_unit [] = refl
  length-items_of_unit (x ∷ xs) =
      let rest = length-items_of_unit xs in
      elim (nat_eq (place x) unit) as (λ b. length (cons_option (cond b (Some (says x)) None) (items_of_unit place says unit xs)) ≡ length (cond b (x ∷ filter (λ x. nat_eq (place x) unit) xs) (filter (λ x. nat_eq (place x) unit) xs))) [
        | true ↦ ap (λ n. suc n) rest
        | false ↦ rest
      ]

  -- the list of a unit is empty if and only if the unit has no items
  pub none_placed : (xs : List X) → nat_eq (length (items_of_unit place says unit xs)) 0 ≡ not (list_any (λ x. nat_eq (place x) unit) xs)
  none_placed [] = refl
  none_placed (x ∷ xs) =
      let rest = none_placed xs in
      elim (nat_eq (place x) unit) as (λ b. nat_eq (length (cons_option (cond b (Some (says x)) None) (items_of_unit place says unit xs))) 0 ≡ not (b || list_any (λ x. nat_eq (place x) unit) xs)) [
        | true ↦ eqb-suc-zero (length (items_of_unit place says unit xs))
        | false ↦ rest
      ]

  -- an item of the list passes a test if and only if an item of the unit does
  pub list_any-items_of_unit : (test : Y → Bool) (xs : List X) → list_any test (items_of_unit place says unit xs) ≡ list_any (λ x. nat_eq (place x) unit && test (says x)) xs
  list_any-items_of_unit test [] = refl
  list_any-items_of_unit test (x ∷ xs) =
      let rest = list_any-items_of_unit test xs in
      elim (nat_eq (place x) unit) as (λ b. list_any test (cons_option (cond b (Some (says x)) None) (items_of_unit place says unit xs)) ≡ (b && test (says x) || list_any (λ x. nat_eq (place x) unit && test (says x)) xs)) [
        | true ↦ ap (λ c. test (says x) || c) rest
        | false ↦ rest
      ]

  -- a filtered list of the items is that of the unit
  pub filter_map-items_of_unit : {Z : Type 0} (take : Y → Option Z) (xs : List X) → filter_map take (items_of_unit place says unit xs) ≡ filter_map (λ x. cond (nat_eq (place x) unit) (take (says x)) None) xs
  filter_map-items_of_unit take [] = refl
  filter_map-items_of_unit take (x ∷ xs) =
      let rest = filter_map-items_of_unit take xs in
      elim (nat_eq (place x) unit) as (λ b. filter_map take (cons_option (cond b (Some (says x)) None) (items_of_unit place says unit xs)) ≡ cons_option (cond b (take (says x)) None) (filter_map (λ x. cond (nat_eq (place x) unit) (take (says x)) None) xs)) [
        | true ↦ ap (cons_option (take (says x))) rest
        | false ↦ rest
      ]

-- takings that agree take alike
pub filter_map_same : {X Y : Type 0} (p q : X → Option Y) → ((x : X) → p x ≡ q x) → (xs : List X) → filter_map p xs ≡ filter_map q xs
filter_map_same p q h [] = refl
filter_map_same p q h (x ∷ xs) = ap (λ o. cons_option o (filter_map p xs)) (h x) ∙ ap (cons_option (q x)) (filter_map_same p q h xs)

-- a claim is a right of a type if and only if its entry is
right_claimed : (type : RightType) (party : ℕ) (class : Class) → is_claim_of type (claim_in party class) ≡ is_right_of type class
right_claimed type party (Right other share) = refl
right_claimed type party (Restriction words) = refl
right_claimed type party (Responsibility words) = refl
right_claimed type party (Mortgage amount currency rank) = refl

share_claimed : (type : RightType) (party : ℕ) (class : Class) → claimed_share type (claim_in party class) ≡ share_of type class
share_claimed type party (Right other share) = refl
share_claimed type party (Restriction words) = refl
share_claimed type party (Responsibility words) = refl
share_claimed type party (Mortgage amount currency rank) = refl

no_type : (a b : Bool) → (a && false || b) ≡ b
no_type true b = refl
no_type false b = refl

-- two claims clash if and only if two entries of one unit do
clash_claimed : (p q : ℕ) (c d : Class) → (nat_eq p q && are_of_one_type (type_of c) (type_of d) || are_of_one_rank (rank_of c) (rank_of d)) ≡ do_claims_clash (claim_in p c) (claim_in q d)
clash_claimed p q (Right type share) (Right other part) = or_nothing (nat_eq p q && is_type type other)
clash_claimed p q (Right type share) (Restriction words) = no_type (nat_eq p q) false
clash_claimed p q (Right type share) (Responsibility words) = no_type (nat_eq p q) false
clash_claimed p q (Right type share) (Mortgage amount currency rank) = no_type (nat_eq p q) false
clash_claimed p q (Restriction words) d = no_type (nat_eq p q) false
clash_claimed p q (Responsibility words) d = no_type (nat_eq p q) false
clash_claimed p q (Mortgage amount currency rank) (Right other part) = no_type (nat_eq p q) false
clash_claimed p q (Mortgage amount currency rank) (Restriction words) = no_type (nat_eq p q) false
clash_claimed p q (Mortgage amount currency rank) (Responsibility words) = no_type (nat_eq p q) false
clash_claimed p q (Mortgage amount currency rank) (Mortgage other money place) = no_type (nat_eq p q) (nat_eq rank place)

-- a test of keys that uses the lists is the test that uses the register
some_same : {V : Type 0} (p q : ℕ → V → Bool) → ((n : ℕ) (v : V) → p n v ≡ q n v) → (m : FinMap nat_cmp V) → some p m ≡ some q m
some_same p q h m = list_any_same (λ e. p e.0 e.1) (λ e. q e.0 e.1) (λ e. h e.0 e.1) (map.entries m)

-- an entry clashes with the later ones of its unit
in_its_unit : (e : ℕ × RrrRecord) (es : List (ℕ × RrrRecord)) → list_any (do_claims_clash (claim_of e.1)) (claims_in es e.1.unit) ≡ list_any (λ f. do_clash e.1 f.1) es
in_its_unit e es =
    list_any-items_of_unit (λ f. f.1.unit) (λ f. claim_of f.1) e.1.unit (do_claims_clash (claim_of e.1)) es
    ∙ list_any_same (λ f. nat_eq f.1.unit e.1.unit && do_claims_clash (claim_of e.1) (claim_of f.1)) (λ f. do_clash e.1 f.1)
    (λ f.
    ap (λ t. t && do_claims_clash (claim_of e.1) (claim_of f.1)) (nat_eq_equiv.symm f.1.unit e.1.unit)
    ∙ ap (λ t. nat_eq e.1.unit f.1.unit && t) (sym (clash_claimed e.1.party f.1.party e.1.class f.1.class))) es

-- the claims of a unit clash only if entries do
from_unit : (unit : ℕ) (es : List (ℕ × RrrRecord)) → have_clash (claims_in es unit) ≡ true → some_pair do_clash es ≡ true
from_unit unit [] h = absurd (false≢true h)
from_unit unit (e ∷ es) h =
    elim (nat_eq e.1.unit unit) as (λ b. nat_eq e.1.unit unit ≡ b → have_clash (cons_option (cond b (Some (claim_of e.1)) None) (claims_in es unit)) ≡ true → (list_any (λ f. do_clash e.1 f.1) es || some_pair do_clash es) ≡ true) [
      | true ↦ λ here h.
          let is : list_any (do_claims_clash (claim_of e.1)) (claims_in es unit) ≡ list_any (λ f. do_clash e.1 f.1) es = subst (λ (u : ℕ). list_any (do_claims_clash (claim_of e.1)) (claims_in es u) ≡ list_any (λ f. do_clash e.1 f.1) es) (eqb-true e.1.unit unit here) (in_its_unit e es) in
          elim (list_any (λ f. do_clash e.1 f.1) es) as (λ b. (b || have_clash (claims_in es unit)) ≡ true → (b || some_pair do_clash es) ≡ true) [
            | true ↦ λ h. refl
            | false ↦ λ h. from_unit unit es h
          ] (ap (λ b. b || have_clash (claims_in es unit)) (sym is) ∙ h)
      | false ↦ λ there h. ap (λ b. list_any (λ f. do_clash e.1 f.1) es || b) (from_unit unit es h) ∙ or_true _
    ] refl h

-- if entries clash, the claims of the unit of one of them do
record ClashesIn (es : List (ℕ × RrrRecord)) : Type 0 where
  unit : ℕ
  has : list_any (λ e. nat_eq e.1.unit unit) es ≡ true
  clash : have_clash (claims_in es unit) ≡ true

to_unit : (es : List (ℕ × RrrRecord)) → some_pair do_clash es ≡ true → ClashesIn es
to_unit [] h = absurd (false≢true h)
to_unit (e ∷ es) h =
    elim (list_any (λ f. do_clash e.1 f.1) es) as (λ b. list_any (λ f. do_clash e.1 f.1) es ≡ b → (b || some_pair do_clash es) ≡ true → ClashesIn (e ∷ es)) [
      | true ↦ λ first h. record {
        unit = e.1.unit;
        has = ap (λ b. b || list_any (λ f. nat_eq f.1.unit e.1.unit) es) (eq-eqb e.1.unit e.1.unit refl);
        clash =
            ap (λ b. have_clash (cons_option (cond b (Some (claim_of e.1)) None) (claims_in es e.1.unit))) (eq-eqb e.1.unit e.1.unit refl)
            ∙ ap (λ b. b || have_clash (claims_in es e.1.unit)) (in_its_unit e es ∙ first);
      }
      | false ↦ λ none h.
          let it = to_unit es h in
          record {
            unit = it.unit;
            has = ap (λ b. nat_eq e.1.unit it.unit || b) it.has ∙ or_true _;
            clash = elim (nat_eq e.1.unit it.unit) as (λ b. have_clash (cons_option (cond b (Some (claim_of e.1)) None) (claims_in es it.unit)) ≡ true) [
              | true ↦ ap (λ b. list_any (do_claims_clash (claim_of e.1)) (claims_in es it.unit) || b) it.clash ∙ or_true _
              | false ↦ it.clash
            ];
          }
    ] refl h

-- of two tests one is not passed
not_both : (a b : Bool) → (not a || not b) ≡ not (a && b)
not_both true b = refl
not_both false b = refl

-- the value of a key that exists
record Has {V : Type 0} (m : FinMap nat_cmp V) (n : ℕ) : Type 0 where
  value : V
  there : map.get m n ≡ Some value

has_from : {V : Type 0} (m : FinMap nat_cmp V) (n : ℕ) → has m n ≡ true → Has m n
has_from {V} m n h = found (map.get m n) refl h
  where
    found : (o : Option V) → map.get m n ≡ o → is_some o ≡ true → Has m n
    found None e h = absurd (false≢true h)
    found (Some v) e h = record { value = v; there = e }

module _ (b : ByUnit) (r : Register) (listed : IsByUnit b r) where
  owner_listed : (unit : ℕ) → list_any (is_claim_of Ownership) (under b.claims unit) ≡ has_owner r unit
  owner_listed unit =
      ap (list_any (is_claim_of Ownership)) (listed.claims unit)
      ∙ list_any-items_of_unit (λ e. e.1.unit) (λ e. claim_of e.1) unit (is_claim_of Ownership) (map.entries r.rrrs)
      ∙ list_any_same (λ (e : ℕ × RrrRecord). nat_eq e.1.unit unit && is_claim_of Ownership (claim_of e.1)) (λ e. is_right_in unit Ownership e.1)
      (λ e. ap (λ t. nat_eq e.1.unit unit && t) (right_claimed Ownership e.1.party e.1.class)) (map.entries r.rrrs)

  no_parcel_listed : (unit : ℕ) → nat_eq (length (under b.parcels unit)) 0 ≡ not (has_parcel r unit)
  no_parcel_listed unit = ap (λ xs. nat_eq (length xs) 0) (listed.parcels unit) ∙ none_placed (λ e. e.1.unit) (λ e. e.0) unit (map.entries r.parcels)

  pub bare_same : some (λ n (u : UnitRecord). is_bare b n) r.units ≡ has_bare_unit r
  bare_same = some_same (λ n (u : UnitRecord). is_bare b n) (λ n (u : UnitRecord). not (has_parcel r n && has_owner r n)) (λ n u.
      ap (λ t. t || not (list_any (is_claim_of Ownership) (under b.claims n))) (no_parcel_listed n)
      ∙ ap (λ t. not (has_parcel r n) || not t) (owner_listed n)
      ∙ not_both (has_parcel r n) (has_owner r n)) r.units

  pub crowded_same : some (λ n (u : UnitRecord). is_crowded b n) r.units ≡ has_crowded_unit r
  crowded_same = some_same (λ n (u : UnitRecord). is_crowded b n) (λ n (u : UnitRecord). nat_lt 256 (parcel_count r n) || nat_lt 256 (rrr_count r n)) (λ n u.
      ap (λ k. nat_lt 256 k || nat_lt 256 (length (under b.claims n))) (ap length (listed.parcels n) ∙ length-items_of_unit (λ e. e.1.unit) (λ e. e.0) n (map.entries r.parcels))
      ∙ ap (λ k. nat_lt 256 (parcel_count r n) || nat_lt 256 k) (ap length (listed.claims n) ∙ length-items_of_unit (λ e. e.1.unit) (λ e. claim_of e.1) n (map.entries r.rrrs))) r.units

  shares_listed : (unit : ℕ) (type : RightType) → filter_map (claimed_share type) (under b.claims unit) ≡ type_shares r unit type
  shares_listed unit type =
      ap (filter_map (claimed_share type)) (listed.claims unit)
      ∙ filter_map-items_of_unit (λ e. e.1.unit) (λ e. claim_of e.1) unit (claimed_share type) (map.entries r.rrrs)
      ∙ filter_map_same (λ (e : ℕ × RrrRecord). cond (nat_eq e.1.unit unit) (claimed_share type (claim_of e.1)) None) (λ e. share_in_unit unit type e.1)
      (λ e. ap (λ o. cond (nat_eq e.1.unit unit) o None) (share_claimed type e.1.party e.1.class)) (map.entries r.rrrs)

  whole_listed : (unit : ℕ) → lacks_whole_shares b unit ≡ not (has_whole_shares r unit)
  whole_listed unit =
      ap (λ it. not (are_whole_or_none it && are_whole_or_none (claimed_shares Lease (under b.claims unit)) && are_whole_or_none (claimed_shares Usufruct (under b.claims unit)))) (shares_listed unit Ownership)
      ∙ ap (λ it. not (are_whole_or_none (type_shares r unit Ownership) && are_whole_or_none it && are_whole_or_none (claimed_shares Usufruct (under b.claims unit)))) (shares_listed unit Lease)
      ∙ ap (λ it. not (are_whole_or_none (type_shares r unit Ownership) && are_whole_or_none (type_shares r unit Lease) && are_whole_or_none it)) (shares_listed unit Usufruct)

  pub parts_same : some (λ n u. u.checked && lacks_whole_shares b n) r.units ≡ has_unit_without_whole_shares r
  parts_same = some_same (λ n u. u.checked && lacks_whole_shares b n) (λ n u. u.checked && not (has_whole_shares r n)) (λ n u. ap (λ t. u.checked && t) (whole_listed n)) r.units

  clashes : has_clash r ≡ some_pair do_clash (map.entries r.rrrs)
  clashes = later_pairs do_clash r.rrrs

  -- if each entry is in a unit that exists, the two tests for clashes agree
  pub clash_same : has_dangling_rrr r ≡ false → some (λ n (u : UnitRecord). have_clash (under b.claims n)) r.units ≡ has_clash r
  clash_same refers = same_tests _ _ to back
    where
      to : some (λ n (u : UnitRecord). have_clash (under b.claims n)) r.units ≡ true → has_clash r ≡ true
      to h =
          let it = some_passes nat_cmp_total nat_cmp-IsAntisymmetric (λ n (u : UnitRecord). have_clash (under b.claims n)) r.units h in
          clashes ∙ from_unit it.key (map.entries r.rrrs) (ap have_clash (sym (listed.claims it.key)) ∙ it.passes)

      back : has_clash r ≡ true → some (λ n (u : UnitRecord). have_clash (under b.claims n)) r.units ≡ true
      back h =
          let it = to_unit (map.entries r.rrrs) (sym clashes ∙ h) in
          let entry = some_passes nat_cmp_total nat_cmp-IsAntisymmetric (λ n e. nat_eq e.unit it.unit) r.rrrs it.has in
          let tight = not-false _ (none_at nat_cmp_total nat_cmp-IsAntisymmetric (λ n e. not (has r.units e.unit && has r.parties e.party && has r.sources e.source)) r.rrrs entry.key entry.value refers entry.there) in
          let stands = (and_parts _ _ (and_parts _ _ tight).0).0 in
          let unit = has_from r.units it.unit (subst (λ (n : ℕ). has r.units n ≡ true) (eqb-true entry.value.unit it.unit entry.passes) stands) in
          some_at nat_cmp_total nat_cmp-IsAntisymmetric (λ n (u : UnitRecord). have_clash (under b.claims n)) r.units it.unit unit.value unit.there (ap have_clash (listed.claims it.unit) ∙ it.clash)
