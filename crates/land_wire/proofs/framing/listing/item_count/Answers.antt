use Rattle.std.proofs.Common.{◌∙◌, drop, take, refl, sym}
use Rattle.land_wire.proofs.ListingLemmas.{ends_here, ends_last, next_begins, request_item}
use Rattle.land_wire.specs.Framing.Items.{request, faulty}
use Rattle.land_wire.proofs.framing.listing.item_count.Goals as goal

pub returns-in-End : goal.returns-in-End
returns-in-End c = ends_here c.args.bytes.now c.loop-spans.rest.now c.loop-spans.count c.loop-spans.invariant.0 c.in-End.ensures.item

pub returns-in-Fault : goal.returns-in-Fault
returns-in-Fault c =
    ends_last c.args.bytes.now c.loop-spans.rest.now _ c.loop-spans.count (faulty c.in-Fault.field-0) c.loop-spans.invariant.0 c.in-Fault.ensures.item refl

pub returns-then-wants_close : goal.returns-then-wants_close
returns-then-wants_close c =
    let is = c.in-Request.ensures.front in
    ends_last c.args.bytes.now c.loop-spans.rest.now _ c.loop-spans.count (request is.1.0 (take c.in-Request.length (drop c.in-Request.spans.len c.loop-spans.rest.now)))
    c.loop-spans.invariant.0 (request_item c.loop-spans.rest.now c.next_item_of.new.headers c.in-Request.spans c.in-Request.length is)
    (sym (c.wants_close.ensures is.1.0 is.1.1) ∙ c.if-wants_close.true)

pub loop-spans-preserved : goal.loop-spans-preserved
loop-spans-preserved c =
    let is = c.in-Request.ensures.front in
    next_begins c.args.bytes.now c.loop-spans.rest.now c.next_item_of.new.headers c.in-Request.spans c.in-Request.length c.loop-spans.count
    c.loop-spans.invariant is (sym (c.wants_close.ensures is.1.0 is.1.1) ∙ c.if-wants_close.false)
