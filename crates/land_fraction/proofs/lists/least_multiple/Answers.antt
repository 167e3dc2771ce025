use Rattle.std.proofs.Math.Nat.{pos_of_dvd_of_pos}
use Rattle.land_fraction.proofs.Multiples.{least_multiple-is}
use Rattle.land_fraction.proofs.lists.least_multiple.Goals as goal

pub nonzero_div-result : goal.nonzero_div-result
nonzero_div-result c = pos_of_dvd_of_pos c.greatest_divisor.ensures.first c.requires.first

pub returns : goal.returns
returns c = least_multiple-is c.args.a c.args.b c.greatest_divisor.result c.requires.first c.greatest_divisor.ensures
