use Rattle.std.proofs.Common.{◌≡◌, true, take}
use Rattle.std.specs.List.{AllByRecursion}
use Rattle.land_select.proofs.Listing.{IsTightUntil}
use Rattle.land_select_queries.specs.Lookups.Ranges.{is_within}
use Rattle.land_select.proofs.objects.range_of.Given as goal

-- the numbers before the current one are in the range, which is tight
abbrev pub invariant-loop-number : goal.invariant-loop-number
invariant-loop-number l =
    AllByRecursion (λ n. is_within l.first l.last n ≡ true) (take l.number-index l.numbers)
    × IsTightUntil (take l.number-index l.numbers) l.first l.last
