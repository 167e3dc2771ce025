use Rattle.std.proofs.Common.{false}
use Rattle.std.specs.Prelude.{pos}
use Rattle.land_tables.proofs.Begun.{begun_rests, err_either, err_untouched, same_either}
use Rattle.sqlite.specs.Held.{state}
use Rattle.land_tables.proofs.tables.Tables.create.Goals as goal

pub returns-then-not-is_autocommit-clause-either : goal.returns-then-not-is_autocommit-clause-either
returns-then-not-is_autocommit-clause-either g c = same_either (state g.S.Store c.args.conn) (λ db stays may. g.met.S.Store.settled c.args.conn.store db stays may)

pub returns-in-Err-clause-either : goal.returns-in-Err-clause-either
returns-in-Err-clause-either g c =
    err_either (state g.S.Store c.args.conn) (state g.S.Store c.create_tables.new.conn) (λ db stays may. g.met.S.Store.settled c.args.conn.store db stays may) c.in-Err.ensures.crash

pub returns-in-Err-clause-untouched : goal.returns-in-Err-clause-untouched
returns-in-Err-clause-untouched g c =
    err_untouched (state g.S.Store c.args.conn) (state g.S.Store c.create_tables.new.conn) c.in-Err.fault (λ db stays may. g.met.S.Store.settled c.create_tables.new.conn.store db stays may) c.in-Err.ensures.untouched

pub returns-in-Ok-clause-rests : goal.returns-in-Ok-clause-rests
returns-in-Ok-clause-rests g c = begun_rests g.S.Store (record { conn = c.create_tables.new.conn; last = pos 0; next = 2; is_closed = false }) (λ db stays may. g.met.S.Store.settled c.create_tables.new.conn.store db stays may) c.in-Ok.ensures.made
