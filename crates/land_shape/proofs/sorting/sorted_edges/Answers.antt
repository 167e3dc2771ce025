use Rattle.std.proofs.Common.{sym}
use Rattle.std.proofs.lemmas.List.Sorted.{IsPermutation-map, ranks_by}
use Rattle.land_shape.specs.Edges.{edge_of, edges}
use Rattle.land_shape.specs.Matching.{is_same_edge}
use Rattle.land_shape.specs.Walks.{edge_before}
use Rattle.land_shape.proofs.Balance.{as_counts}
use Rattle.land_shape.proofs.Order.{edge_total}
use Rattle.land_shape.proofs.SortLemmas.{rises_from_sorted, rises_map, tally-permutation}
use Rattle.land_shape.proofs.sorting.sorted_edges.Goals as goal

pub returns-clause-rise : goal.returns-clause-rise
returns-clause-rise c =
    let xs = c.sort_unstable.new.self.items in
    rises_map edge_of edge_before xs (rises_from_sorted (λ a b. edge_before (edge_of a) (edge_of b)) (ranks_by edge_total edge_of) xs c.sort_unstable.ensures.sorted)

pub returns-clause-same : goal.returns-clause-same
returns-clause-same c =
    let xs = c.args.list.items in let ys = c.sort_unstable.new.self.items in
    as_counts (edges ys) (edges xs) (λ z. sym (tally-permutation is_same_edge z (edges xs) (edges ys) (IsPermutation-map edge_of xs ys c.sort_unstable.ensures.permutation)))
