use Rattle.land_pool.proofs.Turning.{no_turn, turn_open, turn_complete, turn_broken}
use Rattle.land_pool.proofs.pool.serve_key.Goals as goal
use Rattle.std.proofs.Common.{◌∙◌}

pub returns-in-None-clause-served : goal.returns-in-None-clause-served
returns-in-None-clause-served g c trust =
    no_turn g.L.Reader.Read.remaining g.L.Writer.Write.contents g.L.ConnectionSource.fresh g.C.Clock.reads _ c.args.pool.now c.try_remove.new.self _ c.in-None.ensures.absent

pub returns-in-Open-clause-served : goal.returns-in-Open-clause-served
returns-in-Open-clause-served g c trust =
    turn_open g.L.Reader.Read.remaining g.L.Writer.Write.contents g.L.ConnectionSource.fresh g.C.Clock.reads _ _ c.args.pool.now c.try_remove.new.self c.insert_reserved.new.self
    c.args.key c.insert_reserved.result c.in-Some.connection c.serve_turn.new.connection _ c.in-Some.ensures.value c.serve_turn.ensures.number c.in-Some.ensures.updates
    (c.insert_reserved.ensures.key ∙ c.in-Some.ensures.key_is_next) c.insert_reserved.ensures.updates (c.in-Open.ensures.served trust)

pub returns-in-Complete-clause-served : goal.returns-in-Complete-clause-served
returns-in-Complete-clause-served g c trust =
    turn_complete g.L.Reader.Read.remaining g.L.Writer.Write.contents g.L.ConnectionSource.fresh g.C.Clock.reads _ _ c.args.pool.now c.try_remove.new.self
    c.args.key c.in-Some.connection c.serve_turn.new.connection _ _ c.in-Some.ensures.value c.serve_turn.ensures.number c.in-Some.ensures.updates
    c.close.ensures.ended (c.in-Complete.ensures.served trust)

pub returns-in-Broken-clause-served : goal.returns-in-Broken-clause-served
returns-in-Broken-clause-served g c trust =
    turn_broken g.L.Reader.Read.remaining g.L.Writer.Write.contents g.L.ConnectionSource.fresh g.C.Clock.reads _ _ c.args.pool.now c.try_remove.new.self
    c.args.key c.in-Some.connection c.serve_turn.new.connection _ _ c.in-Some.ensures.value c.serve_turn.ensures.number c.in-Some.ensures.updates
    c.close-in-Broken.ensures.ended (c.in-Broken.ensures.served trust)
