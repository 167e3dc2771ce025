use Rattle.std.proofs.Common.{◌≡◌, ◌↔◌, true, List, ℤ, refl, subst, IsPermutation}
use Rattle.std.specs.List.Sorted.{IsStrictlySortedBy}
use Rattle.std.specs.Ordering.{int_cmp}
use Rattle.land_tables_rows.proofs.RowidOrders.{apart_in_order, rising_apart}
use Rattle.land_tables_rows.proofs.rowids.apart.are_apart.Goals as goal

pub returns-then-is_rising : goal.returns-then-is_rising
returns-then-is_rising c = (λ _. rising_apart c.args.ids.now (c.is_rising.ensures.0 c.if-is_rising.true), λ _. refl)

pub returns : goal.returns
returns c =
    let sorted = c.sort_unstable.new.self.items in
    let copy : c.in_ok-sorted.sorted.items ≡ c.args.ids.now = c.in_ok-sorted.ensures.items_if_clones_equal (λ x y same. same) in
    let it = apart_in_order c.args.ids.now sorted (subst (λ (l : List ℤ). IsPermutation l sorted) copy c.sort_unstable.ensures.permutation) c.sort_unstable.ensures.sorted in
    let told = subst (λ (l : List ℤ). (c.is_rising-2.result ≡ true) ↔ IsStrictlySortedBy int_cmp l) c.as_slice.ensures.value c.is_rising-2.ensures in
    (λ e. it.0 (told.0 e), λ apart. told.1 (it.1 apart))
