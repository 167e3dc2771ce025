use Rattle.std.proofs.lemmas.List.Sorted.{IsPermutation-map, IsPermutation-sym, ranks_by}
use Rattle.land_shape.specs.Simple.{place_of, places}
use Rattle.land_shape.specs.Walks.{is_before}
use Rattle.land_shape.proofs.Order.{place_total}
use Rattle.land_shape.proofs.SortLemmas.{rises_from_sorted, rises_map, one_of_permutation}
use Rattle.land_shape.proofs.sorting.sorted_points.Goals as goal

pub returns-clause-rise : goal.returns-clause-rise
returns-clause-rise c =
    let xs = c.sort_unstable.new.self.items in
    rises_map place_of is_before xs (rises_from_sorted (λ a b. is_before (place_of a) (place_of b)) (ranks_by place_total place_of) xs c.sort_unstable.ensures.sorted)

pub returns-clause-all : goal.returns-clause-all
returns-clause-all c =
    let xs = c.args.points.items in let ys = c.sort_unstable.new.self.items in
    λ p m. one_of_permutation (places xs) (places ys) (IsPermutation-map place_of xs ys c.sort_unstable.ensures.permutation) p m

pub returns-clause-alone : goal.returns-clause-alone
returns-clause-alone c =
    let xs = c.args.points.items in let ys = c.sort_unstable.new.self.items in
    λ p m. one_of_permutation (places ys) (places xs) (IsPermutation-sym (places xs) (places ys) (IsPermutation-map place_of xs ys c.sort_unstable.ensures.permutation)) p m
