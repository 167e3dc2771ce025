use Rattle.std.proofs.Common.{◌∙◌, sym}
use Rattle.std.specs.Io.KnownBytes.{prepend_known}
use Rattle.land_pool.proofs.Sent.{sent_more, sent_all}
use Rattle.land_pool.proofs.Turned.{broken}
use Rattle.land_pool.proofs.open_connection.flush.Goals as goal

pub returns-then-not-write_some-clause-sent : goal.returns-then-not-write_some-clause-sent
returns-then-not-write_some-clause-sent g c remaining bytes old xs fits =
    broken c.args.connection.now.finished bytes (prepend_known c.args.connection.now.input.items (remaining c.args.connection.now.reader)) old (g.W.Write.contents c.write_some.new.writer) xs
    c.write_some.new.output.items fits.0
    (sent_more old (g.W.Write.contents c.args.connection.now.writer) (g.W.Write.contents c.write_some.new.writer) xs c.write_some.ensures.0 c.args.connection.now.output.items c.write_some.new.output.items
    fits.1 c.write_some.ensures.1 c.write_some.ensures.2)

pub returns-clause-sent : goal.returns-clause-sent
returns-clause-sent g c remaining bytes old xs fits = (
  fits.0,
  sent_more old (g.W.Write.contents c.args.connection.now.writer) (g.W.Write.contents c.write_some.new.writer) xs c.write_some.ensures.0 c.args.connection.now.output.items c.write_some.new.output.items
      fits.1 c.write_some.ensures.1 c.write_some.ensures.2,
)

pub returns-then-is_complete-clause-sent : goal.returns-then-is_complete-clause-sent
returns-then-is_complete-clause-sent g c remaining bytes old xs fits =
    let done = c.is_complete.ensures c.if-is_complete.true in
    sent_all c.args.connection.now.finished bytes (prepend_known c.args.connection.now.input.items (remaining c.args.connection.now.reader)) old (g.W.Write.contents c.write_some.new.writer) xs
    c.write_some.new.output.items done.0 (sym c.as_slice.ensures.value ∙ done.1) fits.0
    (sent_more old (g.W.Write.contents c.args.connection.now.writer) (g.W.Write.contents c.write_some.new.writer) xs c.write_some.ensures.0 c.args.connection.now.output.items c.write_some.new.output.items
    fits.1 c.write_some.ensures.1 c.write_some.ensures.2)
