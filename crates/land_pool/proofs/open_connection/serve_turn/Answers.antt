use Rattle.std.proofs.Common.{◌++◌}
use Rattle.std.specs.Io.KnownBytes.{prepend_known}
use Rattle.land_pool.proofs.Turned.{broken}
use Rattle.land_pool.proofs.open_connection.serve_turn.Goals as goal

pub returns-in-Complete-flush-clause-served : goal.returns-in-Complete-flush-clause-served
returns-in-Complete-flush-clause-served g c trust from at =
    let it = c.in-Open.ensures.served trust from at in (
      it.0,
      (
        it.1.0,
        it.1.1,
        it.1.2,
        λ bytes old xs fits. c.in-Complete-flush.ensures.sent g.L.Reader.Read.remaining bytes old (xs ++ it.1.0) (it.1.3 bytes old xs fits),
      ),
      it.2,
    )

pub returns-in-Broken-flush-clause-served : goal.returns-in-Broken-flush-clause-served
returns-in-Broken-flush-clause-served g c trust from at =
    let it = c.in-Open.ensures.served trust from at in (
      it.0,
      (
        it.1.0,
        it.1.1,
        it.1.2,
        λ bytes old xs fits. c.in-Broken-flush.ensures.sent g.L.Reader.Read.remaining bytes old (xs ++ it.1.0) (it.1.3 bytes old xs fits),
      ),
      it.2,
    )

pub returns-clause-served : goal.returns-clause-served
returns-clause-served g c trust from at =
    let it = c.in-Open.ensures.served trust from at in (
      it.0,
      (
        it.1.0,
        it.1.1,
        it.1.2,
        λ bytes old xs fits. c.in-Open-flush.ensures.sent g.L.Reader.Read.remaining bytes old (xs ++ it.1.0) (it.1.3 bytes old xs fits),
      ),
      it.2,
    )

pub returns-then-has_failed-clause-served : goal.returns-then-has_failed-clause-served
returns-then-has_failed-clause-served g c trust from at =
    let it = c.in-Open.ensures.served trust from at in (
      it.0,
      (
        it.1.0,
        it.1.1,
        it.1.2,
        λ bytes old xs fits.
            let sent = c.in-Open-flush.ensures.sent g.L.Reader.Read.remaining bytes old (xs ++ it.1.0) (it.1.3 bytes old xs fits) in
            broken c.flush.new.connection.finished bytes (prepend_known c.flush.new.connection.input.items (g.L.Reader.Read.remaining c.flush.new.connection.reader)) old
            (g.L.Writer.Write.contents c.flush.new.connection.writer) (xs ++ it.1.0) c.flush.new.connection.output.items sent.0 sent.1,
      ),
      it.2,
    )
