use Rattle.std.proofs.Common.{◌+◌, ◌*◌, [], ap, arith, length, refl, Err, Ok, drop}
use Rattle.std.proofs.lemmas.List.{length-drop}
use Rattle.std.specs.Io.KnownBytes.{prepend_known}
use Rattle.std.proofs.KnownBytes.{Appends-nil}
use Rattle.land_desk.proofs.Asking.{called, eof_reads, fault_reads, front_gone, if_more, none_gone, none_more, none_unread, not_read, request_reads, request_gone}
use Rattle.land_desk.proofs.TurnLemmas.{serves_eof, serves_framing_fault, serves_request}
use Rattle.land_desk.specs.Serving.{StepIfHonest}
use Rattle.land_desk.specs.Turns.{wire_bytes}
use Rattle.land_desk.specs.declared.serve.DeskFault.TheVariants as desk
use Rattle.land_desk.proofs.next_item.serve_next_item.Goals as goal

pub returns-in-Ok-Fault-clause-next_item : goal.returns-in-Ok-Fault-clause-next_item
returns-in-Ok-Fault-clause-next_item g c from at = (
  from,
  serves_framing_fault (StepIfHonest (g.K.Keeper.honest c.args.keeper.now) g.C.Clock.reads)
      (prepend_known c.args.buffer.now.items (g.R.Read.remaining c.args.reader.now.reader.now))
      (prepend_known c.read_item.new.buffer.items (g.R.Read.remaining c.read_item.new.reader.reader.now))
      (prepend_known c.read_item.new.buffer.items (g.R.Read.remaining c.read_item.new.reader.reader.now))
      (g.W.Write.contents c.args.writer.now) (g.W.Write.contents c.write_response.new.writer) c.in-Ok-Fault.field-0
      c.in-Ok-Fault.fault c.reject.result from c.write_response.result
      c.in-Ok-Fault.field-0-is c.in-Ok-Fault.ensures.stream c.in-Ok-Fault.ensures.item c.reject.ensures c.write_response.ensures,
  at,
)

pub returns-in-Ok-Request-clause-next_item : goal.returns-in-Ok-Request-clause-next_item
returns-in-Ok-Request-clause-next_item g c =
    let it = rw c.deref.ensures.value at c.answer_first-answer.ensures.spoken in
    serves_request (StepIfHonest (g.K.Keeper.honest c.answer_first-answer.new.keeper) g.C.Clock.reads)
    (prepend_known c.args.buffer.now.items (g.R.Read.remaining c.args.reader.now.reader.now))
    (g.R.Read.remaining c.read_item.new.reader.reader.now) _ _ c.read_item.new.buffer.items
    (drop (c.in-Ok-Request.spans.len + c.in-Ok-Request.length) c.read_item.new.buffer.items) c.consume_front.new.buffer.items
    c.answer_first-answer.result _ _
    c.write_response-next_item.result c.in-Ok-Request.ensures.stream it c.consume_front.ensures c.write_response-next_item.ensures

pub returns-in-Ok-End-clause-next_item : goal.returns-in-Ok-End-clause-next_item
returns-in-Ok-End-clause-next_item g c from at = (
  from,
  serves_eof (StepIfHonest (g.K.Keeper.honest c.args.keeper.now) g.C.Clock.reads)
      (prepend_known c.args.buffer.now.items (g.R.Read.remaining c.args.reader.now.reader.now))
      (prepend_known c.read_item.new.buffer.items (g.R.Read.remaining c.read_item.new.reader.reader.now))
      (prepend_known c.read_item.new.buffer.items (g.R.Read.remaining c.read_item.new.reader.reader.now))
      (g.W.Write.contents c.args.writer.now) c.in-Ok-End.field-0 from c.in-Ok-End.field-0-is c.in-Ok-End.ensures.stream c.in-Ok-End.ensures.item,
  at,
)

pub returns-in-Err-Read-clause-next_item : goal.returns-in-Err-Read-clause-next_item
returns-in-Err-Read-clause-next_item g c from at =
    (from, (refl, c.in-Err-Read.ensures.stream, Appends-nil (g.W.Write.contents c.args.writer.now)), at)

pub returns-in-Err-NoMemory-clause-next_item : goal.returns-in-Err-NoMemory-clause-next_item
returns-in-Err-NoMemory-clause-next_item g c from at =
    (from, (refl, c.in-Err-NoMemory.ensures.stream, Appends-nil (g.W.Write.contents c.args.writer.now)), at)

pub returns-in-Err-Read-clause-reads : goal.returns-in-Err-Read-clause-reads
returns-in-Err-Read-clause-reads g c small =
    not_read (prepend_known c.args.buffer.now.items (g.R.Read.remaining c.args.reader.now.reader.now)) (g.R.Read.remaining c.read_item.new.reader.reader.now)
    c.read_item.new.buffer.items desk.Read c.in-Err-Read.ensures.stream

pub returns-in-Err-NoMemory-clause-reads : goal.returns-in-Err-NoMemory-clause-reads
returns-in-Err-NoMemory-clause-reads g c small =
    not_read (prepend_known c.args.buffer.now.items (g.R.Read.remaining c.args.reader.now.reader.now)) (g.R.Read.remaining c.read_item.new.reader.reader.now)
    c.read_item.new.buffer.items desk.NoMemory c.in-Err-NoMemory.ensures.stream

pub returns-in-Ok-End-clause-reads : goal.returns-in-Ok-End-clause-reads
returns-in-Ok-End-clause-reads g c small =
    eof_reads (prepend_known c.args.buffer.now.items (g.R.Read.remaining c.args.reader.now.reader.now)) (g.R.Read.remaining c.read_item.new.reader.reader.now)
    c.read_item.new.buffer.items c.in-Ok-End.field-0 c.in-Ok-End.field-0-is c.in-Ok-End.ensures.stream c.in-Ok-End.ensures.item

pub returns-in-Ok-Fault-clause-reads : goal.returns-in-Ok-Fault-clause-reads
returns-in-Ok-Fault-clause-reads g c small =
    fault_reads (prepend_known c.args.buffer.now.items (g.R.Read.remaining c.args.reader.now.reader.now)) (g.R.Read.remaining c.read_item.new.reader.reader.now)
    (g.W.Write.contents c.args.writer.now) (g.W.Write.contents c.write_response.new.writer) c.read_item.new.buffer.items (wire_bytes c.reject.result.bytes)
    c.in-Ok-Fault.field-0 c.in-Ok-Fault.fault c.reject.result.close_after c.write_response.result
    c.in-Ok-Fault.field-0-is c.in-Ok-Fault.ensures.stream c.in-Ok-Fault.ensures.item (c.in-Ok-Fault.ensures.ahead small) c.reject.ensures.2.1 c.write_response.ensures

pub returns-in-Ok-Request-clause-reads : goal.returns-in-Ok-Request-clause-reads
returns-in-Ok-Request-clause-reads g c small =
    request_reads (prepend_known c.args.buffer.now.items (g.R.Read.remaining c.args.reader.now.reader.now)) (g.R.Read.remaining c.read_item.new.reader.reader.now)
    (g.W.Write.contents c.args.writer.now) (g.W.Write.contents c.write_response-next_item.new.writer) c.read_item.new.buffer.items c.consume_front.new.buffer.items
    (wire_bytes c.answer_first-answer.result.bytes) c.read_item.new.headers c.in-Ok-Request.field-0 c.in-Ok-Request.spans c.in-Ok-Request.length
    c.answer_first-answer.result.close_after c.write_response-next_item.result c.in-Ok-Request.field-0-is c.in-Ok-Request.ensures.stream c.in-Ok-Request.ensures.item
    c.in-Ok-Request.ensures.front (c.in-Ok-Request.ensures.ahead small) c.consume_front.ensures c.write_response-next_item.ensures

pub returns-in-Err-Read-clause-budget : goal.returns-in-Err-Read-clause-budget
returns-in-Err-Read-clause-budget g c =
    none_gone (prepend_known c.args.buffer.now.items (g.R.Read.remaining c.args.reader.now.reader.now)) (g.R.Read.remaining c.read_item.new.reader.reader.now)
    c.read_item.new.buffer.items (length c.args.buffer.now.items + 1024 * c.args.reader.now.left) (1024 * c.read_item.new.reader.left)
    c.in-Err-Read.ensures.stream c.in-Err-Read.ensures.bound

pub returns-in-Err-NoMemory-clause-budget : goal.returns-in-Err-NoMemory-clause-budget
returns-in-Err-NoMemory-clause-budget g c =
    none_gone (prepend_known c.args.buffer.now.items (g.R.Read.remaining c.args.reader.now.reader.now)) (g.R.Read.remaining c.read_item.new.reader.reader.now)
    c.read_item.new.buffer.items (length c.args.buffer.now.items + 1024 * c.args.reader.now.left) (1024 * c.read_item.new.reader.left)
    c.in-Err-NoMemory.ensures.stream c.in-Err-NoMemory.ensures.bound

pub returns-in-Ok-End-clause-budget : goal.returns-in-Ok-End-clause-budget
returns-in-Ok-End-clause-budget g c =
    none_gone (prepend_known c.args.buffer.now.items (g.R.Read.remaining c.args.reader.now.reader.now)) (g.R.Read.remaining c.read_item.new.reader.reader.now)
    c.read_item.new.buffer.items (length c.args.buffer.now.items + 1024 * c.args.reader.now.left) (1024 * c.read_item.new.reader.left)
    c.in-Ok-End.ensures.stream c.in-Ok-End.ensures.bound

pub returns-in-Ok-Fault-clause-budget : goal.returns-in-Ok-Fault-clause-budget
returns-in-Ok-Fault-clause-budget g c =
    none_gone (prepend_known c.args.buffer.now.items (g.R.Read.remaining c.args.reader.now.reader.now)) (g.R.Read.remaining c.read_item.new.reader.reader.now)
    c.read_item.new.buffer.items (length c.args.buffer.now.items + 1024 * c.args.reader.now.left) (1024 * c.read_item.new.reader.left)
    c.in-Ok-Fault.ensures.stream c.in-Ok-Fault.ensures.bound

pub returns-in-Ok-Request-clause-budget : goal.returns-in-Ok-Request-clause-budget
returns-in-Ok-Request-clause-budget g c =
    front_gone (prepend_known c.args.buffer.now.items (g.R.Read.remaining c.args.reader.now.reader.now)) (g.R.Read.remaining c.read_item.new.reader.reader.now)
    c.read_item.new.buffer.items c.consume_front.new.buffer.items (c.in-Ok-Request.spans.len + c.in-Ok-Request.length)
    (length c.args.buffer.now.items + 1024 * c.args.reader.now.left) (1024 * c.read_item.new.reader.left)
    c.in-Ok-Request.ensures.stream c.in-Ok-Request.ensures.bound c.consume_front.ensures

pub returns-in-Ok-Request-clause-progress : goal.returns-in-Ok-Request-clause-progress
returns-in-Ok-Request-clause-progress g c =
    if_more _ c.write_response-next_item.result (request_gone c.read_item.new.buffer.items c.consume_front.new.buffer.items c.read_item.new.headers c.in-Ok-Request.field-0
    c.in-Ok-Request.spans c.in-Ok-Request.length (length c.args.buffer.now.items + 1024 * c.args.reader.now.left) (1024 * c.read_item.new.reader.left)
    c.in-Ok-Request.field-0-is c.in-Ok-Request.ensures.front c.consume_front.ensures c.in-Ok-Request.ensures.bound)

pub returns-in-Ok-Fault-clause-progress : goal.returns-in-Ok-Fault-clause-progress
returns-in-Ok-Fault-clause-progress g c =
    none_more _ c.write_response.result (wire_bytes c.reject.result.bytes) c.reject.result.close_after (g.W.Write.contents c.args.writer.now) (g.W.Write.contents c.write_response.new.writer)
    c.reject.ensures.2.1 c.write_response.ensures

pub returns-in-Ok-Request-clause-read_fault : goal.returns-in-Ok-Request-clause-read_fault
returns-in-Ok-Request-clause-read_fault g c =
    none_unread _ c.write_response-next_item.result (wire_bytes c.answer_first-answer.result.bytes) c.answer_first-answer.result.close_after
    (g.W.Write.contents c.args.writer.now) (g.W.Write.contents c.write_response-next_item.new.writer) c.write_response-next_item.ensures

pub returns-in-Ok-Fault-clause-read_fault : goal.returns-in-Ok-Fault-clause-read_fault
returns-in-Ok-Fault-clause-read_fault g c =
    none_unread _ c.write_response.result (wire_bytes c.reject.result.bytes) c.reject.result.close_after (g.W.Write.contents c.args.writer.now) (g.W.Write.contents c.write_response.new.writer)
    c.write_response.ensures

pub returns-in-Err-Read-clause-read_fault : goal.returns-in-Err-Read-clause-read_fault
returns-in-Err-Read-clause-read_fault g c is =
    called _ c.args.reader.now.left c.args.reader.now.left c.read_item.new.reader.left (omega arith) (c.in-Err-Read.ensures.failed c.in-Err-Read.field-0-is)

pub returns-in-Err-Read-clause-limit : goal.returns-in-Err-Read-clause-limit
returns-in-Err-Read-clause-limit g c most wide small = c.in-Err-Read.ensures.limit most wide small

pub returns-in-Err-NoMemory-clause-limit : goal.returns-in-Err-NoMemory-clause-limit
returns-in-Err-NoMemory-clause-limit g c most wide small = c.in-Err-NoMemory.ensures.limit most wide small

pub returns-in-Ok-End-clause-limit : goal.returns-in-Ok-End-clause-limit
returns-in-Ok-End-clause-limit g c most wide small = c.in-Ok-End.ensures.limit most wide small

pub returns-in-Ok-Fault-clause-limit : goal.returns-in-Ok-Fault-clause-limit
returns-in-Ok-Fault-clause-limit g c most wide small = c.in-Ok-Fault.ensures.limit most wide small

pub returns-in-Ok-Request-clause-limit : goal.returns-in-Ok-Request-clause-limit
returns-in-Ok-Request-clause-limit g c most wide small =
    omega (
      arith,
      ap length c.consume_front.ensures,
      length-drop (c.in-Ok-Request.spans.len + c.in-Ok-Request.length) c.read_item.new.buffer.items,
      c.in-Ok-Request.ensures.limit most wide small,
    )
