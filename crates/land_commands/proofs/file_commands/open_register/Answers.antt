use Rattle.std.proofs.Common.{inr}
use Rattle.land_commands.proofs.file_commands.open_register.Goals as goal

-- the store was opened and rejected
pub returns-clause-finding : goal.returns-clause-finding
returns-clause-finding g c =
    inr (record {
      was = c.in_ok-conn.conn;
      left = c.in-Err.field-0-0;
      why = c.in-Err.refusal;
      shows = c.in_ok-conn.ensures.shows;
      refused = c.in-Err.ensures.refused;
      same = c.in-Err.ensures.same;
      told = c.from.ensures;
    })
