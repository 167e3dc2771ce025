use Rattle.std.proofs.Common.{subst, sym}
use Rattle.land_fraction.specs.Wholeness.{IsWholeness}
use Rattle.land_fraction.specs.declared.lists.Whole.{Whole}
use Rattle.land_fraction.proofs.Wholes.{the_wholeness, wholeness-is}
use Rattle.land_fraction.proofs.laws.wholeness_of_lists.Goals as goal

pub returns : goal.returns
returns c = λ shares whole. (the_wholeness shares whole, λ e. subst (λ (w : Whole). IsWholeness shares w) (sym e) (wholeness-is shares))
