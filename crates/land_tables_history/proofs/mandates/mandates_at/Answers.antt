use Rattle.std.proofs.Common.{rules, ◌≡◌, ◌∙◌, arith}
use Rattle.std.proofs.lemmas.Grind.{common_steps}
use Rattle.land_tables_history.proofs.Orders.{mandated}
use Rattle.land_tables_history.specs.Standing.{mandates_at}
use Rattle.land_tables_history.proofs.mandates.mandates_at.Goals as goal

pub returns-clause-stands : goal.returns-clause-stands
returns-clause-stands c m p =
    let value : c.loop-version.mandates ≡ mandates_at c.args.at c.args.versions.now = first_of (search rules, grind (arith, common_steps)) in
    value ∙ mandated c.args.at c.args.versions.now m p
