use Rattle.std.proofs.Common.{rules}
use Rattle.land_tables_history.proofs.Registers.{stood, through}
use Rattle.land_tables_history.specs.History.{register_of_history}
use Rattle.land_tables_history.proofs.register.register_at.Goals as goal

pub returns-clause-stands : goal.returns-clause-stands
returns-clause-stands c register have stands =
    through (register_of_history c.args.at c.args.history.now c.args.next) (search rules) (stood c.args.at c.args.history.now c.args.next register have stands)
