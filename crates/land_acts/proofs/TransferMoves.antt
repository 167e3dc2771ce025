-- A share moves from one right to another: the properties of the register that do not depend on the shares.
use Rattle.std.proofs.Common.{◌≡◌, ◌≢◌, ℕ, ◌+◌, Bool, true, false, cond, ◌&&◌, Option, Some, None, List, [], refl, sym, ap, ◌∙◌, subst, arith}
use Rattle.std.specs.Prelude.{nat_eq}
use Rattle.std.specs.Int.{◌∣◌}
use Rattle.std.specs.List.{filter_map}
use Rattle.std.specs.Ordering.{nat_cmp, eq_by_cmp}
use Rattle.std.specs.FinMap as map
use Rattle.std.specs.FinMap.{FinMap}
use Rattle.land_acts.proofs.Numbers.{one_number}
use Rattle.land_acts.proofs.TransferShares.{IsHeldAt, IsHeldBy, multiple_at, multiple_from, same_some}
use Rattle.land_acts.proofs.TransferSums.{DifferAt, apart_from, length-weighed, part_of, parts-weighed, weigh, weigh-filter_map, weigh_map, weighed, weight_of}
use Rattle.land_acts.specs.Mutations.Transferring.{right_entry}
use Rattle.land_acts.specs.declared.mutations.transfer.HeldRight.{HeldRight}
use Rattle.land_core.proofs.FiniteMaps.{none_is_not_some, nothing_from_length}
use Rattle.land_core.specs.Units.{is_type, share_in_unit, share_of, type_of}
use Rattle.land_core.specs.declared.register.Register.{Register}
use Rattle.land_core.specs.declared.rrr.Class.{Class}
use Rattle.land_core.specs.declared.rrr.Class.TheVariants as class
use Rattle.land_core.specs.declared.rrr.RightType.{RightType}
use Rattle.land_core.specs.declared.rrr.RrrRecord.{RrrRecord}
use Rattle.land_fraction.specs.Ratio.{Ratio}
use Rattle.land_fraction.specs.Wholeness.{IsCommonMultiple, IsWhole}

-- the entry of a right with its remaining share, if there is one
abbrev pub right_left : (unit party : ℕ) → RightType → (source : ℕ) → Option Ratio → Option RrrRecord
right_left unit party type source None = None
right_left unit party type source (Some share) = Some (right_entry unit party type share source)

-- the receiver's right before: either none at the number and none of the type, or this one
abbrev pub IsBefore : Register → (unit receiver : ℕ) → RightType → (number : ℕ) → Option HeldRight → Type 0
IsBefore r unit receiver type number None =
    (map.get r.rrrs number ≡ None) × ((n : ℕ) (e : RrrRecord) → map.get r.rrrs n ≡ Some e → e.unit ≡ unit → e.party ≡ receiver → type_of e.class ≢ Some type)
IsBefore r unit receiver type number (Some to) = IsHeldBy r.rrrs unit receiver type to × (to.number ≡ number)

-- the entries after the transfer
pub record IsMoved (r : Register) (rrrs : FinMap nat_cmp RrrRecord) (unit receiver source : ℕ) (from : HeldRight) (left : Option Ratio) (number : ℕ) (share : Ratio) (to : Option HeldRight) : Type 0 where
  pub first : IsHeldAt r.rrrs unit from
  pub differ : DifferAt r.rrrs rrrs from.number number
  pub at_first : map.get rrrs from.number ≡ right_left unit from.party from.right_type source left
  pub at_second : map.get rrrs number ≡ Some (right_entry unit receiver from.right_type share source)
  pub second : IsBefore r unit receiver from.right_type number to

-- ---- the share of a right in a unit

nested : {X : Type 0} (a b : Bool) (x : Option X) → cond a (cond b x None) None ≡ cond (a && b) x None
nested true b x = refl
nested false b x = refl

pub share_at : (n : ℕ) (t : RightType) (e : RrrRecord) (unit : ℕ) (type : RightType) (share : Ratio) → e.unit ≡ unit → e.class ≡ class.Right type share
    → share_in_unit n t e ≡ cond (nat_eq unit n && is_type type t) (Some share) None
share_at n t e unit type share in_unit is =
    ap (λ (u : ℕ). cond (nat_eq u n) (share_of t e.class) None) in_unit ∙ ap (λ (c : Class). cond (nat_eq unit n) (share_of t c) None) is
    ∙ nested (nat_eq unit n) (is_type type t) (Some share)

weight_by : (value : Ratio → ℕ) (b : Bool) (share : Ratio) → weight_of value (cond b (Some share) None) ≡ cond b (value share) 0
weight_by value true share = refl
weight_by value false share = refl

no_weight : {X : Type 0} (o : Option X) → weight_of (λ x. 0) o ≡ 0
no_weight None = refl
no_weight (Some x) = refl

module _ (r : Register) (rrrs : FinMap nat_cmp RrrRecord) (unit receiver source : ℕ) (from : HeldRight) (left : Option Ratio) (number : ℕ) (share : Ratio) (to : Option HeldRight)
    (moved : IsMoved r rrrs unit receiver source from left number share to) where
  -- properties of the changed entries and of the others
  pub each_entry : (P : ℕ → RrrRecord → Type 0) → ((s : Ratio) → left ≡ Some s → P from.number (right_entry unit from.party from.right_type s source))
      → P number (right_entry unit receiver from.right_type share source)
      → ((n : ℕ) (e : RrrRecord) → n ≢ from.number → n ≢ number → map.get r.rrrs n ≡ Some e → P n e)
      → (n : ℕ) (e : RrrRecord) → map.get rrrs n ≡ Some e → P n e
  each_entry P first second other n e is =
      elim (eq_by_cmp nat_cmp n from.number) as (λ b. eq_by_cmp nat_cmp n from.number ≡ b → P n e) [
        | true ↦ λ at.
            let same : n ≡ from.number = one_number n from.number at in
            subst (λ (k : ℕ). P k e) (sym same) (at_left left refl (sym moved.at_first ∙ (ap (map.get rrrs) (sym same) ∙ is)))
        | false ↦ λ off.
            elim (eq_by_cmp nat_cmp n number) as (λ b. eq_by_cmp nat_cmp n number ≡ b → P n e) [
              | true ↦ λ at.
                  let same : n ≡ number = one_number n number at in
                  subst (λ (k : ℕ). P k e) (sym same) (subst (λ (x : RrrRecord). P number x) (same_some (sym moved.at_second ∙ (ap (map.get rrrs) (sym same) ∙ is))) second)
              | false ↦ λ away.
                  other n e (apart_from n from.number off) (apart_from n number away) (sym (moved.differ.elsewhere n (apart_from n from.number off) (apart_from n number away)) ∙ is)
            ] refl
      ] refl
    where
      at_left : (o : Option Ratio) → left ≡ o → right_left unit from.party from.right_type source o ≡ Some e → P from.number e
      at_left None at e_is = absurd (none_is_not_some e_is)
      at_left (Some s) at e_is = subst (λ (x : RrrRecord). P from.number x) (same_some e_is) (first s at)

  -- the weights of all entries, if those of the changed ones follow from their shares
  pub measured : (w : RrrRecord → ℕ) (value : Ratio → ℕ) → ((e : RrrRecord) (s : Ratio) → e.unit ≡ unit → e.class ≡ class.Right from.right_type s → w e ≡ value s)
      → weigh_map w rrrs + (value from.share + weight_of (λ held. value held.share) to) ≡ weigh_map w r.rrrs + (weight_of value left + value share)
  measured w value says =
      let sum = weighed r.rrrs rrrs from.number number moved.differ w in
      let first_before : weight_of w (map.get r.rrrs from.number) ≡ value from.share = ap (weight_of w) moved.first.there ∙ says moved.first.entry from.share moved.first.in_unit moved.first.class in
      let second_before : weight_of w (map.get r.rrrs number) ≡ weight_of (λ held. value held.share) to = before to moved.second in
      let first_after : weight_of w (map.get rrrs from.number) ≡ weight_of value left = ap (weight_of w) moved.at_first ∙ kept left in
      let second_after : weight_of w (map.get rrrs number) ≡ value share = ap (weight_of w) moved.at_second ∙ says (right_entry unit receiver from.right_type share source) share refl refl in
      omega (arith, sum, first_before, second_before, first_after, second_after)
    where
      before : (o : Option HeldRight) → IsBefore r unit receiver from.right_type number o → weight_of w (map.get r.rrrs number) ≡ weight_of (λ held. value held.share) o
      before None h = ap (weight_of w) h.0
      before (Some held) h =
          ap (weight_of w) (ap (map.get r.rrrs) (sym h.1) ∙ h.0.held_right.there)
          ∙ says h.0.held_right.entry held.share h.0.held_right.in_unit (h.0.held_right.class ∙ ap (λ (t : RightType). class.Right t held.share) h.0.of_type)

      kept : (o : Option Ratio) → weight_of w (right_left unit from.party from.right_type source o) ≡ weight_of value o
      kept None = refl
      kept (Some s) = says (right_entry unit from.party from.right_type s source) s refl refl

  -- sums over the shares of a type in a unit
  abbrev shares_in : FinMap nat_cmp RrrRecord → (n : ℕ) → RightType → List Ratio
  shares_in m n t = filter_map (λ e. share_in_unit n t e.1) (map.entries m)

  pub moved_sum : (value : Ratio → ℕ) (n : ℕ) (t : RightType) (b : Bool) → (nat_eq unit n && is_type from.right_type t) ≡ b
      → weigh value (shares_in rrrs n t) + (cond b (value from.share) 0 + weight_of (λ (held : HeldRight). cond b (value held.share) 0) to)
      ≡ weigh value (shares_in r.rrrs n t) + (weight_of (λ s. cond b (value s) 0) left + cond b (value share) 0)
  moved_sum value n t b test =
      let all = measured (λ e. weight_of value (share_in_unit n t e)) (λ s. cond b (value s) 0) says in
      let new_list = weigh-filter_map value (λ (e : ℕ × RrrRecord). share_in_unit n t e.1) (map.entries rrrs) in
      let old_list = weigh-filter_map value (λ (e : ℕ × RrrRecord). share_in_unit n t e.1) (map.entries r.rrrs) in
      omega (arith, all, new_list, old_list)
    where
      says : (e : RrrRecord) (s : Ratio) → e.unit ≡ unit → e.class ≡ class.Right from.right_type s → weight_of value (share_in_unit n t e) ≡ cond b (value s) 0
      says e s in_unit is =
          ap (weight_of value) (share_at n t e unit from.right_type s in_unit is) ∙ ap (λ c. weight_of value (cond c (Some s) None)) test ∙ weight_by value b s

  -- the number of entries of a unit
  pub moved_count : (n : ℕ)
      → weigh_map (λ e. cond (nat_eq e.unit n) 1 0) rrrs + (cond (nat_eq unit n) 1 0 + weight_of (λ (held : HeldRight). cond (nat_eq unit n) 1 0) to)
      ≡ weigh_map (λ e. cond (nat_eq e.unit n) 1 0) r.rrrs + (weight_of (λ (s : Ratio). cond (nat_eq unit n) 1 0) left + cond (nat_eq unit n) 1 0)
  moved_count n = measured (λ e. cond (nat_eq e.unit n) 1 0) (λ s. cond (nat_eq unit n) 1 0) (λ e s in_unit is. ap (λ (u : ℕ). cond (nat_eq u n) 1 0) in_unit)

  -- ---- shares of another type or in another unit are unchanged

  module _ (n : ℕ) (t : RightType) (other : (nat_eq unit n && is_type from.right_type t) ≡ false) where
    same_sum : (value : Ratio → ℕ) → weigh value (shares_in rrrs n t) ≡ weigh value (shares_in r.rrrs n t)
    same_sum value =
        let sum = moved_sum value n t false other in
        let none_before = no_weight to in
        let none_after = no_weight left in
        omega (arith, sum, none_before, none_after)

    no_share : (party : ℕ) (s got : Ratio) → share_in_unit n t (right_entry unit party from.right_type s source) ≡ Some got → ⊥
    no_share party s got is =
        none_is_not_some (sym (share_at n t (right_entry unit party from.right_type s source) unit from.right_type s refl refl ∙ ap (λ b. cond b (Some s) None) other) ∙ is)

    same_multiple : (m : ℕ) → IsCommonMultiple m (shares_in r.rrrs n t) → IsCommonMultiple m (shares_in rrrs n t)
    same_multiple m h =
        let each = each_entry (λ k e. (got : Ratio) → share_in_unit n t e ≡ Some got → got.denominator ∣ m)
        (λ s at got is. absurd (no_share from.party s got is))
        (λ got is. absurd (no_share receiver share got is))
        (λ k e off away is got taken. multiple_at r.rrrs n t m h k e got is taken) in
        multiple_from rrrs n t m h.positive (λ k e got is taken. each k e is got taken)

    pub other_whole : IsWhole (shares_in r.rrrs n t) → IsWhole (shares_in rrrs n t)
    other_whole whole = (
      whole.0,
      whole.1,
      same_multiple whole.0 whole.2,
      parts-weighed whole.0 (shares_in rrrs n t) ∙ same_sum (part_of whole.0) ∙ sym (parts-weighed whole.0 (shares_in r.rrrs n t)) ∙ whole.3,
    )

    pub none_other : shares_in r.rrrs n t ≡ [] → shares_in rrrs n t ≡ []
    none_other none =
        nothing_from_length (shares_in rrrs n t)
        (length-weighed (shares_in rrrs n t) ∙ same_sum (λ s. 1) ∙ ap (λ (shares : List Ratio). weigh (λ s. 1) shares) none)
