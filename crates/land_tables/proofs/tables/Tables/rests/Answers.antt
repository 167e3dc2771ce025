use Rattle.std.proofs.Common.{subst}
use Rattle.land_tables.proofs.Written.{rests}
use Rattle.land_tables.specs.TablesState.{IsTablesState}
use Rattle.land_tables.proofs.tables.Tables.rests.Goals as goal

pub returns : goal.returns
returns g c =
    let S = g.S.Store in
    rests S c.args.self.now (λ db stays may. g.met.S.Store.settled c.args.self.now.conn.store db stays may) (subst (IsTablesState S) c.self.view_is c.self.invariant)
