use Rattle.std.proofs.Common.{subst₂, sym}
use Rattle.land_commands.specs.Filed.{ServesTables}
use Rattle.land_commands.proofs.file_commands.serve_tables.Goals as goal

-- the tables returned are those of the keeper
pub returns : goal.returns
returns g c =
    let call = c.serve_connections-served in
    subst₂ (λ from to. ServesTables g.S.Store g.C.Clock.reads c.args.connections (g.L.Connections.coming c.args.listener.now) (g.L.Connections.coming call.new.listener) from c.args.clock.now to call.new.clock call.result)
    c.new-keeper.ensures (sym c.into_tables.ensures) (record {
      told = call.ensures.closed;
      was = call.ensures.was;
      served = call.ensures.served;
    })
