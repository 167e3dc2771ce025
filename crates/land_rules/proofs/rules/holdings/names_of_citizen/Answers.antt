use Rattle.std.proofs.Common.{◌∙◌}
use Rattle.std.proofs.lemmas.Result.{IfOk-weaker}
use Rattle.land_rules.proofs.Interests.{names_of_circle}
use Rattle.land_rules.proofs.rules.holdings.names_of_citizen.Goals as goal

pub returns : goal.returns
returns c =
    IfOk-weaker c.names_of.result _ _ (λ it are named. are named ∙ names_of_circle c.args.at.now c.args.party c.in_ok-circle.circle c.in_ok-circle.ensures named)
    c.names_of.ensures
