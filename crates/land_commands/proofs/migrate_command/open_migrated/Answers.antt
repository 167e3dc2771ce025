use Rattle.std.proofs.Common.{inr}
use Rattle.land_commands.proofs.migrate_command.open_migrated.Goals as goal

-- the store was opened and migrated
pub returns-in-Ok : goal.returns-in-Ok
returns-in-Ok g c = record {
  was = c.in_ok-conn.conn;
  shows = c.in_ok-conn.ensures.shows;
  migrated = c.in-Ok.ensures.migrated;
  survives = c.in-Ok.ensures.crash_after;
}

-- the store was opened and rejected
pub returns : goal.returns
returns g c =
    inr (record {
      was = c.in_ok-conn.conn;
      left = c.in-Err.field-0-0;
      why = c.in-Err.fault;
      shows = c.in_ok-conn.ensures.shows;
      refused = c.in-Err.ensures.refused;
      same = c.in-Err.ensures.same;
      either = c.in-Err.ensures.either;
      told = c.from.ensures;
    })
