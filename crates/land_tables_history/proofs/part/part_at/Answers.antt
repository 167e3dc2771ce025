use Rattle.std.proofs.Common.{rules, ◌≡◌, ◌∙◌, arith}
use Rattle.std.proofs.lemmas.Grind.{common_steps}
use Rattle.land_tables_history.proofs.Orders.{given}
use Rattle.land_tables_history.specs.Standing.{part_at}
use Rattle.land_tables_history.proofs.part.part_at.Goals as goal

pub returns-clause-stands : goal.returns-clause-stands
returns-clause-stands g c m p =
    let value : c.loop-version.part ≡ part_at c.args.at c.args.versions.now = first_of (search rules, grind (arith, common_steps)) in
    value ∙ given c.args.at c.args.versions.now m p
