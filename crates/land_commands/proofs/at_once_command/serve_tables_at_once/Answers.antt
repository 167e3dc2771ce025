use Rattle.std.proofs.Common.{subst₂, sym}
use Rattle.land_commands.specs.Filed.{ServesTablesAtOnce}
use Rattle.land_commands.proofs.at_once_command.serve_tables_at_once.Goals as goal

-- the tables returned are those of the keeper
pub returns : goal.returns
returns g c =
    let call = c.serve_at_once-served in
    subst₂ (λ from to. ServesTablesAtOnce g.S.Store g.C.Clock.reads c.args.connections (g.L.ConnectionSource.coming c.args.source.now) (g.L.ConnectionSource.coming call.new.source)
    (record { old = g.L.ConnectionSource.ended c.args.source.now; new = g.L.ConnectionSource.ended call.new.source }) from c.args.clock.now to call.new.clock call.result)
    c.new-keeper.ensures (sym c.into_tables.ensures) (record {
      told = call.ensures.closed;
      was = call.ensures.was;
      served = call.ensures.served;
    })
