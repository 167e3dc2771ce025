use Rattle.std.proofs.Common.{sym, ◌∙◌}
use Rattle.land_rules.proofs.InCircles.{is_principal}
use Rattle.land_rules.proofs.circles.is_principal.Goals as goal

pub returns : goal.returns
returns c = c.contains.ensures ∙ sym (is_principal c.args.at.now c.args.party c.args.number)
