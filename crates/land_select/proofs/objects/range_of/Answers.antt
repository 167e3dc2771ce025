use Rattle.std.proofs.Common.{rules}
use Rattle.land_select.proofs.Listing.{one_more_tight, one_more_within}
use Rattle.land_select.proofs.objects.range_of.Goals as goal

pub loop-number-preserved : goal.loop-number-preserved
loop-number-preserved c = (
  one_more_within c.args.numbers.now c.loop-number.number-index c.loop-number.first c.loop-number.last c.min-first.result c.max-last.result
      (search rules) (search rules) (search rules) (search rules) (search rules) c.loop-number.invariant.0,
  one_more_tight c.args.numbers.now c.loop-number.number-index c.loop-number.first c.loop-number.last c.min-first.result c.max-last.result
      (search rules) (search rules) (search rules) (search rules) (search rules) (search rules) (search rules) (search rules) c.loop-number.invariant.1,
)
