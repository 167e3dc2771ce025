use Rattle.std.proofs.Common.{subst, sym, Option, ℕ}
use Rattle.land_fraction.specs.Wholeness.{IsCommon}
use Rattle.land_fraction.proofs.Wholes.{the_common, common_of-is}
use Rattle.land_fraction.proofs.laws.common_of_lists.Goals as goal

pub returns : goal.returns
returns c = λ shares common. (the_common shares common, λ e. subst (λ (o : Option ℕ). IsCommon shares o) (sym e) (common_of-is shares))
