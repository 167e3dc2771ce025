use Rattle.std.proofs.lemmas.List.Filters.{dedup_is}
use Rattle.std.proofs.lemmas.List.Kept.{Contains-dedup_nat, Contains-from_dedup}
use Rattle.std.proofs.lemmas.List.Sorted.{Contains-permutation, IsPermutation-sym}
use Rattle.std.proofs.lemmas.Map.Keys.{IsStrictlyIncreasing-dedup}
use Rattle.land_select_queries.proofs.joins.running.sort_unique.Goals as goal

pub returns-clause-ascending : goal.returns-clause-ascending
returns-clause-ascending c =
    let is = dedup_is _ _ _ c.dedup.ensures.filtered in
    rw (c.from_vec.ensures, is) (IsStrictlyIncreasing-dedup _ c.in_ok-sort.ensures.sorted)

pub returns-clause-same : goal.returns-clause-same
returns-clause-same c =
    let is = dedup_is _ _ _ c.dedup.ensures.filtered in
    let order = c.sort.ensures.permutation in
    rw (c.from_vec.ensures, is) (λ n. (
      (λ has. Contains-permutation _ _ n (IsPermutation-sym _ _ order) (Contains-from_dedup _ _ n has)),
      (λ has. Contains-dedup_nat _ n (Contains-permutation _ _ n order has)),
    ))
