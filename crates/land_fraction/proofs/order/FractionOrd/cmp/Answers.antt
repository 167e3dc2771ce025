use Rattle.std.proofs.Common.{◌∙◌}
use Rattle.land_fraction.proofs.Orders.{order_of-fractions}
use Rattle.land_fraction.proofs.order.FractionOrd.cmp.Goals as goal

pub returns-clause-exact : goal.returns-clause-exact
returns-clause-exact c =
    rw (c.numerator.ensures.value, c.denominator.ensures.value, c.numerator-2.ensures.value, c.denominator-2.ensures.value) at c.cmp.ensures

pub returns-clause-order : goal.returns-clause-order
returns-clause-order c =
    returns-clause-exact c ∙ order_of-fractions c.args.self.now c.args.other.now c.numerator.ensures.lowest c.numerator-2.ensures.lowest
