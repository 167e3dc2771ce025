use Rattle.std.proofs.Common.{inl, inr, subst}
use Rattle.std.specs.Prelude.{OnOk}
use Rattle.land_commands.proofs.Filings.{made_and_closed}
use Rattle.land_commands.proofs.file_commands.create_register.Goals as goal

-- the register was created, and its file is closed or not
pub returns-in-Ok : goal.returns-in-Ok
returns-in-Ok g c =
    made_and_closed g.H.Store.Store (g.H.Host.holds c.args.file.now) g.H.Host.is_closed c.in-Ok.tables c.close.result (record {
      was = c.in_ok-conn.conn;
      shows = c.in_ok-conn.ensures.shows;
      created = c.in-Ok.ensures.created;
      survives = c.in-Ok.ensures.crash_after;
    }) (subst (λ conn. OnOk c.close.result (g.H.Host.is_closed conn)) c.into_connection.ensures c.close.ensures.closed) c.close.ensures.fault

-- the store was opened, and no register was created in it
pub returns : goal.returns
returns g c =
    inr (inl (record {
      was = c.in_ok-conn.conn;
      left = c.in-Err.field-0-0;
      why = c.in-Err.fault;
      shows = c.in_ok-conn.ensures.shows;
      kept = c.in-Err.ensures.kept;
      told = c.from.ensures;
    }))
