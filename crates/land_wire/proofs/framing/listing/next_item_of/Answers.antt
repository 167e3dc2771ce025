use Rattle.std.proofs.Common.{◌<◌, length, arith}
use Rattle.land_wire.proofs.ListingLemmas.{never_item, long_item, cut_item, failed_item, short_item, request_in, request_front}
use Rattle.land_wire.proofs.StreamLemmas.{head_in}
use Rattle.land_wire.proofs.framing.listing.next_item_of.Goals as goal

pub returns-in-Never-clause-item : goal.returns-in-Never-clause-item
returns-in-Never-clause-item c = never_item c.args.bytes.now c.min-end.result (omega arith) (omega arith) c.in-Never.ensures

pub returns-in-More-2-clause-item : goal.returns-in-More-2-clause-item
returns-in-More-2-clause-item c = long_item c.args.bytes.now c.min-end.result (omega arith) (omega arith) c.in-More.ensures

pub returns-in-More-3-clause-item : goal.returns-in-More-3-clause-item
returns-in-More-3-clause-item c =
    let some : 0 < length c.args.bytes.now = grind (arith) in
    cut_item c.args.bytes.now c.min-end.result some (omega arith) (omega arith) c.in-More.ensures

pub returns-in-Err-clause-item : goal.returns-in-Err-clause-item
returns-in-Err-clause-item c =
    failed_item c.args.bytes.now c.parse_head.new.headers c.in-Whole.spans c.in-Err.fault
    (head_in c.args.bytes.now c.min-end.result c.parse_head.new.headers c.in-Whole.spans (omega arith) c.in-Whole.ensures) c.in-Err.ensures.value

pub returns-in-Ok-clause-item : goal.returns-in-Ok-clause-item
returns-in-Ok-clause-item c =
    let here = head_in c.args.bytes.now c.min-end.result c.parse_head.new.headers c.in-Whole.spans (omega arith) c.in-Whole.ensures in
    short_item c.args.bytes.now c.parse_head.new.headers c.in-Whole.spans c.in-Ok.length here c.in-Ok.ensures.value (omega (arith, here.0.section.len_fits))

pub returns-in-Ok-2-clause-front : goal.returns-in-Ok-2-clause-front
returns-in-Ok-2-clause-front c =
    let here = head_in c.args.bytes.now c.min-end.result c.parse_head.new.headers c.in-Whole.spans (omega arith) c.in-Whole.ensures in
    request_in c.args.bytes.now c.parse_head.new.headers c.in-Whole.spans c.in-Ok.length here c.in-Ok.ensures.value (omega (arith, here.0.section.len_fits))

pub returns-in-Ok-2-clause-item : goal.returns-in-Ok-2-clause-item
returns-in-Ok-2-clause-item c =
    let here = head_in c.args.bytes.now c.min-end.result c.parse_head.new.headers c.in-Whole.spans (omega arith) c.in-Whole.ensures in
    request_front c.args.bytes.now c.parse_head.new.headers c.in-Whole.spans c.in-Ok.length
    (request_in c.args.bytes.now c.parse_head.new.headers c.in-Whole.spans c.in-Ok.length here c.in-Ok.ensures.value (omega (arith, here.0.section.len_fits)))
