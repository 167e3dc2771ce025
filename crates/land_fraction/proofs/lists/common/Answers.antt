use Rattle.std.proofs.Common.{◌+◌, arith, None, Some, subst, ℕ}
use Rattle.land_fraction.specs.Divisor.{IsLeastMultiple}
use Rattle.land_fraction.proofs.Multiples.{least_of_none, least_of_more, too_fine_from, common_from}
use Rattle.land_fraction.proofs.Wholes.{the_common}
use Rattle.land_fraction.proofs.lists.common.Goals as goal

pub loop-share-init : goal.loop-share-init
loop-share-init c = (least_of_none, omega arith)

pub returns-then-multiple-gt-MAX_DENOMINATOR-clause-meaning :
    goal.returns-then-multiple-gt-MAX_DENOMINATOR-clause-meaning
returns-then-multiple-gt-MAX_DENOMINATOR-clause-meaning c =
    let step : IsLeastMultiple c.loop-share.multiple c.share-item.result.denominator c.least_multiple-multiple.result =
    subst (λ (d : ℕ). IsLeastMultiple c.loop-share.multiple d c.least_multiple-multiple.result) c.denominator.ensures.value c.least_multiple-multiple.ensures in
    too_fine_from c.least_multiple-multiple.result (c.loop-share.share-index + 1) c.args.shares.now
    (least_of_more c.loop-share.multiple _ _ c.args.shares.now c.share-item.result c.loop-share-test.true c.share-item.is c.denominator.ensures.lowest.lowest.positive step c.loop-share.invariant.0)
    (omega arith)

pub returns-then-multiple-gt-MAX_DENOMINATOR-clause-value :
    goal.returns-then-multiple-gt-MAX_DENOMINATOR-clause-value
returns-then-multiple-gt-MAX_DENOMINATOR-clause-value c = the_common c.args.shares.now None (returns-then-multiple-gt-MAX_DENOMINATOR-clause-meaning c)

pub loop-share-preserved : goal.loop-share-preserved
loop-share-preserved c =
    let step : IsLeastMultiple c.loop-share.multiple c.share-item.result.denominator c.least_multiple-multiple.result =
    subst (λ (d : ℕ). IsLeastMultiple c.loop-share.multiple d c.least_multiple-multiple.result) c.denominator.ensures.value c.least_multiple-multiple.ensures in (
      least_of_more c.loop-share.multiple _ _ c.args.shares.now c.share-item.result c.loop-share-test.true c.share-item.is c.denominator.ensures.lowest.lowest.positive step c.loop-share.invariant.0,
      omega arith,
    )

pub returns-clause-meaning : goal.returns-clause-meaning
returns-clause-meaning c = common_from c.loop-share.multiple c.loop-share.share-index c.args.shares.now (omega arith) c.loop-share.invariant.0 c.loop-share.invariant.1

pub returns-clause-value : goal.returns-clause-value
returns-clause-value c = the_common c.args.shares.now (Some _) (returns-clause-meaning c)
