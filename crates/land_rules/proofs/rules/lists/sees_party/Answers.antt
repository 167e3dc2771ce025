use Rattle.std.proofs.Common.{◌&&◌, ◌||◌, sym, ap₂, ◌∙◌}
use Rattle.land_rules.proofs.CitizenSight.{sees_named}
use Rattle.land_rules.specs.Rules.{is_party_in_sight}
use Rattle.land_rules.proofs.rules.lists.sees_party.Goals as goal

pub returns-then-is_name_of_caller : goal.returns-then-is_name_of_caller
returns-then-is_name_of_caller c =
    let met = is_party_in_sight c.args.at.now c.args.caller c.args.number in
    c.if-is_name_of_caller.true
    ∙ sym (sees_named c.args.at.now c.args.caller c.requires.role c.args.number
    ∙ ap₂ (λ there named. there && (named || met)) (sym c.stands.ensures ∙ c.if-stands.true) (sym c.is_name_of_caller.ensures ∙ c.if-is_name_of_caller.true))

pub returns-else-is_name_of_caller : goal.returns-else-is_name_of_caller
returns-else-is_name_of_caller c =
    let met = is_party_in_sight c.args.at.now c.args.caller c.args.number in
    c.contains.ensures ∙ c.requires.met c.args.number
    ∙ sym (sees_named c.args.at.now c.args.caller c.requires.role c.args.number
    ∙ ap₂ (λ there named. there && (named || met)) (sym c.stands.ensures ∙ c.if-stands.true) (sym c.is_name_of_caller.ensures ∙ c.if-is_name_of_caller.false))
