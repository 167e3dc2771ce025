use Rattle.std.proofs.Common.{[], ◌∙◌, ap, arith, false, refl, true}
use Rattle.std.specs.Io.KnownBytes.{prepend_known}
use Rattle.land_pool.proofs.Turned.{carried, same_connection, item_more, item_last, item_end, item_later, item_unread, item_broken, item_dropped}
use Rattle.land_pool.specs.Interleaving.{IsServed, SendsPrefix}
use Rattle.land_pool.specs.OpenConnections.{HasItems}
use Rattle.land_wire.specs.Framing.Reads.{input_limit}
use Rattle.land_pool.proofs.open_connection.serve_item.Goals as goal

pub returns-then-connection-clause-served : goal.returns-then-connection-clause-served
returns-then-connection-clause-served g c trust from at = (
  from,
  (
    [],
    refl,
    (λ full. refl),
    λ bytes old xs fits. same_connection c.args.connection.now.finished bytes
        (prepend_known c.args.connection.now.input.items (g.R.Read.remaining c.args.connection.now.reader)) old (g.W.Write.contents c.args.connection.now.writer) xs c.args.connection.now.output.items fits,
  ),
  at,
)

pub returns-in-Ok-KeepAlive-clause-served : goal.returns-in-Ok-KeepAlive-clause-served
returns-in-Ok-KeepAlive-clause-served g c trust =
    carried g.C.Clock.reads _ _ c.args.connection.now.finished c.serve_counted.new.connection.finished
    (prepend_known c.args.connection.now.input.items (g.R.Read.remaining c.args.connection.now.reader))
    (g.W.Write.contents c.args.connection.now.writer) (g.W.Write.contents c.serve_counted.new.connection.writer) c.args.connection.now.output.items
    (λ bytes old xs. HasItems c.serve_counted.new.connection.finished bytes (prepend_known c.serve_counted.new.connection.input.items (g.R.Read.remaining c.serve_counted.new.connection.reader)) xs × SendsPrefix old (g.W.Write.contents c.serve_counted.new.connection.writer) xs c.serve_counted.new.connection.output.items)
    c.serve_counted.ensures.finished (ap (λ w. g.W.Write.contents w) c.serve_counted.ensures.writer)
    (item_more g.C.Clock.reads _ trust _ _ (λ s at. at.0 ∙ c.requires.is_open) c.serve_counted.new.connection.finished
    (prepend_known c.args.connection.now.input.items (g.R.Read.remaining c.args.connection.now.reader))
    (prepend_known c.serve_counted.new.connection.input.items (g.R.Read.remaining c.serve_counted.new.connection.reader))
    (g.W.Write.contents c.serve_counted.new.connection.writer) c.args.connection.now.output.items c.serve_counted.new.connection.output.items (omega arith)
    c.in-Ok-KeepAlive.field-0 c.in-Ok-KeepAlive.field-0-is (c.serve_counted.ensures.finished ∙ c.if-connection.false) c.in-Ok-KeepAlive.ensures.next_item)

pub returns-in-Ok-Close-clause-served : goal.returns-in-Ok-Close-clause-served
returns-in-Ok-Close-clause-served g c trust =
    carried g.C.Clock.reads _ _ c.args.connection.now.finished c.serve_counted.new.connection.finished
    (prepend_known c.args.connection.now.input.items (g.R.Read.remaining c.args.connection.now.reader))
    (g.W.Write.contents c.args.connection.now.writer) (g.W.Write.contents c.serve_counted.new.connection.writer) c.args.connection.now.output.items
    (λ bytes old xs. HasItems true bytes (prepend_known c.serve_counted.new.connection.input.items (g.R.Read.remaining c.serve_counted.new.connection.reader)) xs × SendsPrefix old (g.W.Write.contents c.serve_counted.new.connection.writer) xs c.serve_counted.new.connection.output.items)
    c.serve_counted.ensures.finished (ap (λ w. g.W.Write.contents w) c.serve_counted.ensures.writer)
    (item_last g.C.Clock.reads _ trust _ _ (λ s at. at.0 ∙ c.requires.is_open) c.serve_counted.new.connection.finished
    (prepend_known c.args.connection.now.input.items (g.R.Read.remaining c.args.connection.now.reader))
    (prepend_known c.serve_counted.new.connection.input.items (g.R.Read.remaining c.serve_counted.new.connection.reader))
    (g.W.Write.contents c.serve_counted.new.connection.writer) c.args.connection.now.output.items c.serve_counted.new.connection.output.items (omega arith)
    c.in-Ok-Close.field-0 c.in-Ok-Close.field-0-is (c.serve_counted.ensures.finished ∙ c.if-connection.false) c.in-Ok-Close.ensures.next_item)

pub returns-in-Ok-Eof-clause-served : goal.returns-in-Ok-Eof-clause-served
returns-in-Ok-Eof-clause-served g c trust =
    carried g.C.Clock.reads _ _ c.args.connection.now.finished c.serve_counted.new.connection.finished
    (prepend_known c.args.connection.now.input.items (g.R.Read.remaining c.args.connection.now.reader))
    (g.W.Write.contents c.args.connection.now.writer) (g.W.Write.contents c.serve_counted.new.connection.writer) c.args.connection.now.output.items
    (λ bytes old xs. HasItems true bytes (prepend_known c.serve_counted.new.connection.input.items (g.R.Read.remaining c.serve_counted.new.connection.reader)) xs × SendsPrefix old (g.W.Write.contents c.serve_counted.new.connection.writer) xs c.serve_counted.new.connection.output.items)
    c.serve_counted.ensures.finished (ap (λ w. g.W.Write.contents w) c.serve_counted.ensures.writer)
    (item_end g.C.Clock.reads _ trust _ _ (λ s at. at.0 ∙ c.requires.is_open) c.serve_counted.new.connection.finished
    (prepend_known c.args.connection.now.input.items (g.R.Read.remaining c.args.connection.now.reader))
    (prepend_known c.serve_counted.new.connection.input.items (g.R.Read.remaining c.serve_counted.new.connection.reader))
    (g.W.Write.contents c.serve_counted.new.connection.writer) c.args.connection.now.output.items c.serve_counted.new.connection.output.items (omega arith)
    c.in-Ok-Eof.field-0 c.in-Ok-Eof.field-0-is (c.serve_counted.ensures.finished ∙ c.if-connection.false) c.in-Ok-Eof.ensures.next_item)

pub returns-then-is_empty-clause-served : goal.returns-then-is_empty-clause-served
returns-then-is_empty-clause-served g c trust =
    carried g.C.Clock.reads _ _ c.args.connection.now.finished c.serve_counted.new.connection.finished
    (prepend_known c.args.connection.now.input.items (g.R.Read.remaining c.args.connection.now.reader))
    (g.W.Write.contents c.args.connection.now.writer) (g.W.Write.contents c.serve_counted.new.connection.writer) c.args.connection.now.output.items
    (λ bytes old xs. IsServed false bytes old (g.W.Write.contents c.serve_counted.new.connection.writer) xs)
    c.serve_counted.ensures.finished (ap (λ w. g.W.Write.contents w) c.serve_counted.ensures.writer)
    (item_unread g.C.Clock.reads _ trust _ _ (λ s at. at.0 ∙ c.requires.is_open) c.serve_counted.new.connection.finished
    (prepend_known c.args.connection.now.input.items (g.R.Read.remaining c.args.connection.now.reader))
    (prepend_known c.serve_counted.new.connection.input.items (g.R.Read.remaining c.serve_counted.new.connection.reader))
    (g.W.Write.contents c.serve_counted.new.connection.writer) c.args.connection.now.output.items c.serve_counted.new.connection.output.items (omega arith)
    c.in-Err-Read.field-0 c.in-Err-Read.field-0-is (c.serve_counted.ensures.finished ∙ c.if-connection.false) c.in-Err-Read.ensures.next_item)

pub returns-else-connection-eq0-clause-served : goal.returns-else-connection-eq0-clause-served
returns-else-connection-eq0-clause-served g c trust =
    carried g.C.Clock.reads _ _ c.args.connection.now.finished c.serve_counted.new.connection.finished
    (prepend_known c.args.connection.now.input.items (g.R.Read.remaining c.args.connection.now.reader))
    (g.W.Write.contents c.args.connection.now.writer) (g.W.Write.contents c.serve_counted.new.connection.writer) c.args.connection.now.output.items
    (λ bytes old xs. HasItems c.serve_counted.new.connection.finished bytes (prepend_known c.serve_counted.new.connection.input.items (g.R.Read.remaining c.serve_counted.new.connection.reader)) xs × SendsPrefix old (g.W.Write.contents c.serve_counted.new.connection.writer) xs c.serve_counted.new.connection.output.items)
    c.serve_counted.ensures.finished (ap (λ w. g.W.Write.contents w) c.serve_counted.ensures.writer)
    (item_later g.C.Clock.reads _ trust _ _ (λ s at. at.0 ∙ c.requires.is_open) c.serve_counted.new.connection.finished
    (prepend_known c.args.connection.now.input.items (g.R.Read.remaining c.args.connection.now.reader))
    (prepend_known c.serve_counted.new.connection.input.items (g.R.Read.remaining c.serve_counted.new.connection.reader))
    (g.W.Write.contents c.serve_counted.new.connection.writer) c.args.connection.now.output.items c.serve_counted.new.connection.output.items (omega arith)
    c.in-Err-Read.field-0 c.in-Err-Read.field-0-is (c.serve_counted.ensures.finished ∙ c.if-connection.false) c.in-Err-Read.ensures.next_item)

pub returns-in-Err-Write-clause-served : goal.returns-in-Err-Write-clause-served
returns-in-Err-Write-clause-served g c trust =
    carried g.C.Clock.reads _ _ c.args.connection.now.finished c.serve_counted.new.connection.finished
    (prepend_known c.args.connection.now.input.items (g.R.Read.remaining c.args.connection.now.reader))
    (g.W.Write.contents c.args.connection.now.writer) (g.W.Write.contents c.serve_counted.new.connection.writer) c.args.connection.now.output.items
    (λ bytes old xs. IsServed false bytes old (g.W.Write.contents c.serve_counted.new.connection.writer) xs)
    c.serve_counted.ensures.finished (ap (λ w. g.W.Write.contents w) c.serve_counted.ensures.writer)
    (item_broken g.C.Clock.reads _ trust _ _ (λ s at. at.0 ∙ c.requires.is_open) c.serve_counted.new.connection.finished
    (prepend_known c.args.connection.now.input.items (g.R.Read.remaining c.args.connection.now.reader))
    (prepend_known c.serve_counted.new.connection.input.items (g.R.Read.remaining c.serve_counted.new.connection.reader))
    (g.W.Write.contents c.serve_counted.new.connection.writer) c.args.connection.now.output.items c.serve_counted.new.connection.output.items (omega arith)
    c.in-Err-Write.field-0 c.in-Err-Write.field-0-is (c.serve_counted.ensures.finished ∙ c.if-connection.false) c.in-Err-Write.ensures.next_item)

pub returns-in-Err-NoMemory-clause-served : goal.returns-in-Err-NoMemory-clause-served
returns-in-Err-NoMemory-clause-served g c trust =
    carried g.C.Clock.reads _ _ c.args.connection.now.finished c.serve_counted.new.connection.finished
    (prepend_known c.args.connection.now.input.items (g.R.Read.remaining c.args.connection.now.reader))
    (g.W.Write.contents c.args.connection.now.writer) (g.W.Write.contents c.serve_counted.new.connection.writer) c.args.connection.now.output.items
    (λ bytes old xs. IsServed false bytes old (g.W.Write.contents c.serve_counted.new.connection.writer) xs)
    c.serve_counted.ensures.finished (ap (λ w. g.W.Write.contents w) c.serve_counted.ensures.writer)
    (item_dropped g.C.Clock.reads _ trust _ _ (λ s at. at.0 ∙ c.requires.is_open) c.serve_counted.new.connection.finished
    (prepend_known c.args.connection.now.input.items (g.R.Read.remaining c.args.connection.now.reader))
    (prepend_known c.serve_counted.new.connection.input.items (g.R.Read.remaining c.serve_counted.new.connection.reader))
    (g.W.Write.contents c.serve_counted.new.connection.writer) c.args.connection.now.output.items c.serve_counted.new.connection.output.items (omega arith)
    c.in-Err-NoMemory.field-0 c.in-Err-NoMemory.field-0-is (c.serve_counted.ensures.finished ∙ c.if-connection.false) c.in-Err-NoMemory.ensures.next_item)

pub returns-in-Ok-KeepAlive-clause-input : goal.returns-in-Ok-KeepAlive-clause-input
returns-in-Ok-KeepAlive-clause-input g c small = record {
  input = c.serve_counted.ensures.limit small.needed input_limit (omega arith) small.input;
  needed = omega arith;
}

pub returns-in-Ok-Close-clause-input : goal.returns-in-Ok-Close-clause-input
returns-in-Ok-Close-clause-input g c small = record {
  input = c.serve_counted.ensures.limit small.needed input_limit (omega arith) small.input;
  needed = omega (arith, c.serve_counted.ensures.needed, small.needed);
}

pub returns-in-Ok-Eof-clause-input : goal.returns-in-Ok-Eof-clause-input
returns-in-Ok-Eof-clause-input g c small = record {
  input = c.serve_counted.ensures.limit small.needed input_limit (omega arith) small.input;
  needed = omega (arith, c.serve_counted.ensures.needed, small.needed);
}

pub returns-then-is_empty-clause-input : goal.returns-then-is_empty-clause-input
returns-then-is_empty-clause-input g c small = record {
  input = c.serve_counted.ensures.limit small.needed input_limit (omega arith) small.input;
  needed = omega (arith, c.serve_counted.ensures.needed, small.needed);
}

pub returns-in-Err-Write-clause-input : goal.returns-in-Err-Write-clause-input
returns-in-Err-Write-clause-input g c small = record {
  input = c.serve_counted.ensures.limit small.needed input_limit (omega arith) small.input;
  needed = omega (arith, c.serve_counted.ensures.needed, small.needed);
}

pub returns-in-Err-NoMemory-clause-input : goal.returns-in-Err-NoMemory-clause-input
returns-in-Err-NoMemory-clause-input g c small = record {
  input = c.serve_counted.ensures.limit small.needed input_limit (omega arith) small.input;
  needed = omega (arith, c.serve_counted.ensures.needed, small.needed);
}

pub returns-else-connection-eq0-clause-input : goal.returns-else-connection-eq0-clause-input
returns-else-connection-eq0-clause-input g c small = record {
  input = c.serve_counted.ensures.limit small.needed input_limit (omega arith) small.input;
  needed = c.next_needed-connection.ensures.limit (omega (arith, c.serve_counted.ensures.needed, small.needed));
}
