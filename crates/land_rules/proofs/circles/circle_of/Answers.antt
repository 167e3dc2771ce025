use Rattle.std.proofs.Common.{rules, ◌≡◌, ◌||◌, ◌&&◌, nat_eq, ◌∙◌}
use Rattle.std.specs.List.{list_any}
use Rattle.land_core.specs.Mandates.{mandates_in}
use Rattle.land_rules.proofs.Interests.{circle_held}
use Rattle.land_rules.specs.Holdings.{has_number}
use Rattle.land_rules.proofs.circles.circle_of.Goals as goal

pub returns : goal.returns
returns c = λ number.
    let by_mandates : has_number c.loop-mandate.circle number
    ≡ (nat_eq c.args.party number || list_any (λ m. nat_eq m.agent c.args.party && nat_eq m.principal number) (mandates_in c.args.at.now.mandates)) = search rules in
    by_mandates ∙ circle_held c.args.at.now c.args.party number
