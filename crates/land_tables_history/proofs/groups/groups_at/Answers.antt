use Rattle.std.proofs.Common.{rules, ◌≡◌, ◌∙◌, arith}
use Rattle.std.proofs.lemmas.Grind.{common_steps}
use Rattle.land_tables_history.proofs.GroupOrders.{grouped}
use Rattle.land_tables_history.specs.Groups.{groups_at}
use Rattle.land_tables_history.specs.Standing.{current_values}
use Rattle.land_tables_history.proofs.groups.groups_at.Goals as goal

pub returns-clause-stands : goal.returns-clause-stands
returns-clause-stands c groups have p =
    let value : c.loop-version.groups ≡ groups_at c.args.at c.args.versions.now = first_of (search rules, grind (arith, common_steps)) in
    value ∙ grouped groups (current_values c.args.at c.args.versions.now) have p
