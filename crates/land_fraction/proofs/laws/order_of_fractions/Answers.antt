use Rattle.std.proofs.Common.{sym}
use Rattle.land_fraction.proofs.Orders.{order_of-fractions}
use Rattle.land_fraction.proofs.laws.order_of_fractions.Goals as goal

pub returns : goal.returns
returns c = λ f g h k. sym (order_of-fractions f g h k)
