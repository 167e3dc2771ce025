-- Sums over the entries of a finite map, and how they change if two entries change.
use Rattle.std.proofs.Common.{◌≡◌, ◌≢◌, ℕ, ◌+◌, ◌*◌, ◌/◌, Bool, true, false, cond, not, Option, Some, None, List, [], ◌∷◌, length, refl, sym, ap, ◌∙◌, subst, arith}
use Rattle.std.specs.Prelude.{filter}
use Rattle.std.specs.List.{filter_map, cons_option, AllByRecursion}
use Rattle.std.specs.Ordering.{nat_cmp, eq_by_cmp, is_lt}
use Rattle.std.specs.Cmp.{nat_cmp_total}
use Rattle.std.specs.FinMap as map
use Rattle.std.specs.FinMap.{FinMap, find, is_sorted, nat_cmp-IsAntisymmetric}
use Rattle.std.specs.FinMap.Entries.{below_all}
use Rattle.std.proofs.lemmas.Bool.{false≢true, eq-eqb, and_parts}
use Rattle.std.proofs.lemmas.List.Recursion.{is_sum_by}
use Rattle.land_acts.proofs.EndedEntries.{entries_removed}
use Rattle.land_acts.proofs.Numbers.{one_number, tied_number}
use Rattle.land_core.proofs.Booleans.{T_true}
use Rattle.land_core.proofs.FiniteMaps.{none_is_not_some}
use Rattle.land_core.proofs.Orders.{less_apart}
use Rattle.land_fraction.specs.Ratio.{Ratio}
use Rattle.land_fraction.specs.Wholeness.{parts_of}

-- ---- different numbers

pub apart_from : (n k : ℕ) → eq_by_cmp nat_cmp n k ≡ false → n ≢ k
apart_from n k apart same = false≢true (sym apart ∙ (tied_number n k ∙ eq-eqb n k same))

pub apart_to : (n k : ℕ) → n ≢ k → eq_by_cmp nat_cmp n k ≡ false
apart_to n k apart = elim (eq_by_cmp nat_cmp n k) as (λ b. eq_by_cmp nat_cmp n k ≡ b → b ≡ false) [ true ↦ λ at. absurd (apart (one_number n k at)) | false ↦ λ at. refl ] refl

-- ---- sums over lists

-- the total weight of all items
abbrev pub weigh : {X : Type 0} → (X → ℕ) → List X → ℕ
weigh w [] = 0
weigh w (x ∷ xs) = w x + weigh w xs

-- the weight of an item if there is one
abbrev pub weight_of : {X : Type 0} → (X → ℕ) → Option X → ℕ
weight_of w None = 0
weight_of w (Some x) = w x

pub weigh-filter_map : {X Y : Type 0} (value : Y → ℕ) (take : X → Option Y) (xs : List X) → weigh value (filter_map take xs) ≡ weigh (λ x. weight_of value (take x)) xs
weigh-filter_map value take [] = refl
weigh-filter_map {X} {Y} value take (x ∷ xs) =
    let rest = weigh-filter_map value take xs in
    elim (take x) as (λ (o : Option Y). weigh value (cons_option o (filter_map take xs)) ≡ weight_of value o + weigh (λ x. weight_of value (take x)) xs) [
      | None ↦ omega (arith, rest)
      | Some y ↦ omega (arith, rest)
    ]

pub length-filter : {X : Type 0} (p : X → Bool) (xs : List X) → length (filter p xs) ≡ weigh (λ x. cond (p x) 1 0) xs
length-filter p [] = refl
length-filter {X} p (x ∷ xs) =
    let rest = length-filter p xs in
    elim (p x) as (λ b. length (cond b (x ∷ filter p xs) (filter p xs)) ≡ cond b 1 0 + weigh (λ x. cond (p x) 1 0) xs) [ true ↦ omega (arith, rest) | false ↦ omega (arith, rest) ]

pub length-weighed : {X : Type 0} (xs : List X) → length xs ≡ weigh (λ x. 1) xs
length-weighed [] = refl
length-weighed (x ∷ xs) = let rest = length-weighed xs in omega (arith, rest)

-- a share as a count of m equal parts
abbrev pub part_of : ℕ → Ratio → ℕ
part_of m share = share.numerator * (m / share.denominator)

pub parts-weighed : (m : ℕ) (shares : List Ratio) → parts_of m shares ≡ weigh (part_of m) shares
parts-weighed m shares = sym (is_sum_by (weigh (part_of m)) (part_of m) refl (λ share rest. refl) shares)

-- ---- sums over maps

abbrev pub weigh_map : {V : Type 0} → (V → ℕ) → FinMap nat_cmp V → ℕ
weigh_map w m = weigh (λ e. w e.1) (map.entries m)

abbrev others : {V : Type 0} → ℕ → List (ℕ × V) → List (ℕ × V)
others k es = filter (λ e. not (eq_by_cmp nat_cmp k e.0)) es

all_others : {V : Type 0} (k : ℕ) (es : List (ℕ × V)) → below_all nat_cmp k es ≡ true → others k es ≡ es
all_others k [] h = refl
all_others {V} k (e ∷ es) h =
    let parts = and_parts (is_lt (nat_cmp k e.0)) (below_all nat_cmp k es) h in
    ap (λ b. cond (not b) (e ∷ others k es) (others k es)) (less_apart (nat_cmp k e.0) parts.0) ∙ ap (λ (it : List (ℕ × V)). e ∷ it) (all_others k es parts.1)

split : {V : Type 0} (w : V → ℕ) (k : ℕ) (es : List (ℕ × V)) → is_sorted nat_cmp es ≡ true → weigh (λ e. w e.1) es ≡ weigh (λ e. w e.1) (others k es) + weight_of w (find nat_cmp k es)
split w k [] s = refl
split {V} w k (e ∷ es) s =
    let parts = and_parts (below_all nat_cmp e.0 es) (is_sorted nat_cmp es) s in
    let rest = split w k es parts.1 in
    elim (eq_by_cmp nat_cmp k e.0) as (λ b. eq_by_cmp nat_cmp k e.0 ≡ b → w e.1 + weigh (λ e. w e.1) es ≡ weigh (λ e. w e.1) (cond (not b) (e ∷ others k es) (others k es)) + weight_of w (cond b (Some e.1) (find nat_cmp k es))) [
      | true ↦ λ at.
          let same : weigh (λ e. w e.1) (others k es) ≡ weigh (λ e. w e.1) es =
          ap (λ (it : List (ℕ × V)). weigh (λ e. w e.1) it) (all_others k es (subst (λ (n : ℕ). below_all nat_cmp n es ≡ true) (sym (one_number k e.0 at)) parts.0)) in
          omega (arith, same)
      | false ↦ λ at. omega (arith, rest)
    ] refl

-- the contribution of an entry to the sum
pub without_one : {V : Type 0} (w : V → ℕ) (m : FinMap nat_cmp V) (k : ℕ) → weigh_map w m ≡ weigh_map w (map.remove m k) + weight_of w (map.get m k)
without_one {V} w m k =
    split w k (map.entries m) (T_true _ (map.entries_sorted m))
    ∙ ap (λ (it : List (ℕ × V)). weigh (λ e. w e.1) it + weight_of w (find nat_cmp k (map.entries m))) (sym (entries_removed m k))
    ∙ ap (λ (o : Option V). weigh_map w (map.remove m k) + weight_of w o) (sym (map.get-entries m k))

-- two maps that differ at only two numbers
pub record DifferAt {V : Type 0} (m new : FinMap nat_cmp V) (k j : ℕ) : Type 0 where
  pub apart : k ≢ j
  pub elsewhere : (n : ℕ) → n ≢ k → n ≢ j → map.get new n ≡ map.get m n

module _ {V : Type 0} (m new : FinMap nat_cmp V) (k j : ℕ) (h : DifferAt m new k j) where
  rest_same : map.remove (map.remove new k) j ≡ map.remove (map.remove m k) j
  rest_same = map.same_map nat_cmp_total nat_cmp-IsAntisymmetric _ _ (λ q.
      at_both new q ∙ same q ∙ sym (at_both m q))
    where
      at_both : (it : FinMap nat_cmp V) (q : ℕ) → map.get (map.remove (map.remove it k) j) q ≡ cond (eq_by_cmp nat_cmp q j) None (cond (eq_by_cmp nat_cmp q k) None (map.get it q))
      at_both it q = map.get-remove nat_cmp_total (map.remove it k) j q ∙ ap (cond (eq_by_cmp nat_cmp q j) None) (map.get-remove nat_cmp_total it k q)

      same : (q : ℕ) → cond (eq_by_cmp nat_cmp q j) None (cond (eq_by_cmp nat_cmp q k) None (map.get new q)) ≡ cond (eq_by_cmp nat_cmp q j) None (cond (eq_by_cmp nat_cmp q k) None (map.get m q))
      same q =
          elim (eq_by_cmp nat_cmp q j) as (λ b. eq_by_cmp nat_cmp q j ≡ b → cond b None (cond (eq_by_cmp nat_cmp q k) None (map.get new q)) ≡ cond b None (cond (eq_by_cmp nat_cmp q k) None (map.get m q))) [
            | true ↦ λ at. refl
            | false ↦ λ off.
                elim (eq_by_cmp nat_cmp q k) as (λ b. eq_by_cmp nat_cmp q k ≡ b → cond b None (map.get new q) ≡ cond b None (map.get m q)) [
                  | true ↦ λ at. refl
                  | false ↦ λ away. h.elsewhere q (apart_from q k away) (apart_from q j off)
                ] refl
          ] refl

  still : (it : FinMap nat_cmp V) → map.get (map.remove it k) j ≡ map.get it j
  still it = map.get-remove nat_cmp_total it k j ∙ ap (λ b. cond b None (map.get it j)) (apart_to j k (λ e. h.apart (sym e)))

  pub weighed : (w : V → ℕ)
      → weigh_map w new + (weight_of w (map.get m k) + weight_of w (map.get m j)) ≡ weigh_map w m + (weight_of w (map.get new k) + weight_of w (map.get new j))
  weighed w =
      let new_first = without_one w new k in
      let new_second = without_one w (map.remove new k) j in
      let new_still : weight_of w (map.get (map.remove new k) j) ≡ weight_of w (map.get new j) = ap (weight_of w) (still new) in
      let old_first = without_one w m k in
      let old_second = without_one w (map.remove m k) j in
      let old_still : weight_of w (map.get (map.remove m k) j) ≡ weight_of w (map.get m j) = ap (weight_of w) (still m) in
      let same : weigh_map w (map.remove (map.remove new k) j) ≡ weigh_map w (map.remove (map.remove m k) j) = ap (weigh_map w) rest_same in
      omega (arith, new_first, new_second, new_still, old_first, old_second, old_still, same)

-- ---- a property of each entry of a list is one of a found entry

pub found_all : {V : Type 0} (P : ℕ × V → Type 0) (es : List (ℕ × V)) → AllByRecursion P es → (k : ℕ) (v : V) → find nat_cmp k es ≡ Some v → P (k, v)
found_all P [] all k v is = absurd (none_is_not_some is)
found_all {V} P (e ∷ es) all k v is =
    elim (eq_by_cmp nat_cmp k e.0) as (λ b. eq_by_cmp nat_cmp k e.0 ≡ b → cond b (Some e.1) (find nat_cmp k es) ≡ Some v → P (k, v)) [
      | true ↦ λ at same. subst (λ (n : ℕ). P (n, v)) (sym (one_number k e.0 at)) (subst (λ (x : V). P (e.0, x)) (value same) all.0)
      | false ↦ λ at later. found_all P es all.1 k v later
    ] refl is
  where
    value : Some e.1 ≡ Some v → e.1 ≡ v
    value same = cc

pub at_each : {V : Type 0} (P : ℕ × V → Type 0) (m : FinMap nat_cmp V) → AllByRecursion P (map.entries m) → (k : ℕ) (v : V) → map.get m k ≡ Some v → P (k, v)
at_each P m all k v is = found_all P (map.entries m) all k v (sym (map.get-entries m k) ∙ is)
