use Rattle.std.proofs.Common.{arith, refl}
use Rattle.std.specs.Io.KnownBytes.{prepend_known}
use Rattle.std.proofs.KnownBytes.{Appends-nil}
use Rattle.land_desk.specs.Serving.{StepIfHonest}
use Rattle.land_pool.proofs.Reading.{serves_after_reading}
use Rattle.land_pool.proofs.open_connection.serve_when_read.Goals as goal

pub returns-in-Err-Read-clause-next_item : goal.returns-in-Err-Read-clause-next_item
returns-in-Err-Read-clause-next_item g c from at =
    (from, (refl, c.in-Err-Read.ensures.stream, Appends-nil (g.W.Write.contents c.args.output.now)), at)

pub returns-in-Err-NoMemory-clause-next_item : goal.returns-in-Err-NoMemory-clause-next_item
returns-in-Err-NoMemory-clause-next_item g c from at =
    (from, (refl, c.in-Err-NoMemory.ensures.stream, Appends-nil (g.W.Write.contents c.args.output.now)), at)

pub returns-clause-next_item : goal.returns-clause-next_item
returns-clause-next_item g c =
    serves_after_reading (StepIfHonest (g.K.Keeper.honest c.serve_next_item.new.keeper) g.C.Clock.reads) _ _
    (prepend_known c.args.input.now.items (g.R.Read.remaining c.args.reader.now.reader.now))
    (prepend_known c.read_to.new.buffer.items (g.R.Read.remaining c.read_to.new.reader.reader.now))
    (prepend_known c.serve_next_item.new.buffer.items (g.R.Read.remaining c.serve_next_item.new.reader.reader.now))
    (g.W.Write.contents c.args.output.now) (g.W.Write.contents c.serve_next_item.new.writer) c.serve_next_item.result
    c.read_to.ensures.stream c.serve_next_item.ensures.next_item

pub returns-clause-limit : goal.returns-clause-limit
returns-clause-limit g c given most wide small =
    c.serve_next_item.ensures.limit most wide (c.read_to.ensures.limit most (omega (arith, given, wide)) small)
