use Rattle.std.proofs.Common.{sym, refl, Ok}
use Rattle.land_fraction.proofs.Fractions.{the_answer}
use Rattle.land_fraction.proofs.laws.fractions_stay.Goals as goal

pub returns : goal.returns
returns c = λ f h. sym (the_answer f (Ok f) (h.proper, h, refl))
