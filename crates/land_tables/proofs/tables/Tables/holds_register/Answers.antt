use Rattle.std.proofs.Common.{subst}
use Rattle.land_tables.proofs.Editions.{register_held}
use Rattle.land_tables.specs.TablesState.{IsTablesState}
use Rattle.sqlite.specs.Held.{state}
use Rattle.land_tables.proofs.tables.Tables.holds_register.Goals as goal

pub returns : goal.returns
returns g c live = register_held (state g.S.Store c.args.self.now.conn) ((subst (IsTablesState g.S.Store) c.self.view_is c.self.invariant).office live).register
