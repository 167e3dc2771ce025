use Rattle.std.proofs.Common.{map, sym}
use Rattle.httparse.specs.Spans.{header_bytes}
use Rattle.land_wire.proofs.FieldNames.{only_of_none, only_of_one, only_of_more}
use Rattle.land_wire.proofs.fields.value_at.Goals as goal

pub returns-in-Once : goal.returns-in-Once
returns-in-Once c =
    let fields = map (header_bytes c.args.head.now) c.args.fields.now in
    rw c.of.ensures (sym (only_of_one fields c.args.name.now _ c.in-Once.ensures.1))

pub returns-in-Absent : goal.returns-in-Absent
returns-in-Absent c =
    let fields = map (header_bytes c.args.head.now) c.args.fields.now in
    sym (only_of_none fields c.args.name.now c.in-Absent.ensures)

pub returns-in-Repeated : goal.returns-in-Repeated
returns-in-Repeated c =
    let fields = map (header_bytes c.args.head.now) c.args.fields.now in
    sym (only_of_more fields c.args.name.now c.in-Repeated.ensures)
