use Rattle.std.proofs.Common.{inr}
use Rattle.land_commands.proofs.digest_command.open_contents.Goals as goal

-- the store was opened and is a register
pub returns-in-Ok : goal.returns-in-Ok
returns-in-Ok g c = record {
  opened = record { was = c.in_ok-conn.conn; shows = c.in_ok-conn.ensures.shows; adopted = c.in-Ok.ensures.adopted };
  finds = c.in-Ok.ensures.finds;
  passes = c.in-Ok.ensures.passes;
}

-- the store was opened and rejected
pub returns : goal.returns
returns g c =
    inr (record {
      was = c.in_ok-conn.conn;
      left = c.in-Err.field-0-0;
      why = c.in-Err.refusal;
      shows = c.in_ok-conn.ensures.shows;
      refused = c.in-Err.ensures.refused;
      same = c.in-Err.ensures.same;
      told = c.from.ensures;
    })
