use Rattle.std.proofs.Common.{sym, ◌∙◌}
use Rattle.land_rules.proofs.CitizenSight.{sees_held}
use Rattle.land_rules.proofs.rules.lists.sees_unit.Goals as goal

pub returns-in-Citizen : goal.returns-in-Citizen
returns-in-Citizen c =
    c.contains.ensures ∙ c.requires.held c.in-Citizen.is c.args.number
    ∙ sym (sees_held c.args.at.now c.args.caller c.in-Citizen.is c.args.number)
