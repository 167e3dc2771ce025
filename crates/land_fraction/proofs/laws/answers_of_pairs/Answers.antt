use Rattle.std.proofs.Common.{subst, sym, Result}
use Rattle.land_fraction.specs.Ratio.{Ratio}
use Rattle.land_fraction.specs.Answer.{IsFractionOrFault}
use Rattle.land_fraction.specs.declared.fault.FractionFault.{FractionFault}
use Rattle.land_fraction.proofs.Fractions.{the_answer, answered}
use Rattle.land_fraction.proofs.laws.answers_of_pairs.Goals as goal

pub returns : goal.returns
returns c = λ p r. (the_answer p r, λ e. subst (λ (a : Result Ratio FractionFault). IsFractionOrFault p a) (sym e) (answered p))
