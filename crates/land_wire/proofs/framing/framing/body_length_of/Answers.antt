use Rattle.std.proofs.Common.{sym, ap, ◌∙◌, arith}
use Rattle.land_wire.proofs.FrameLemmas.{frame_too_many, frame_encoded, frame_plain, lengths, twice}
use Rattle.land_wire.specs.Framing.Frame.{body_length, length_of}
use Rattle.land_wire.proofs.framing.framing.body_length_of.Goals as goal

pub returns-then-spans-gt-MAX_FIELDS-clause-value : goal.returns-then-spans-gt-MAX_FIELDS-clause-value
returns-then-spans-gt-MAX_FIELDS-clause-value c =
    λ h at. frame_too_many c.args.head.now c.args.headers.now c.args.spans.now h c.requires at c.if-spans-gt-MAX_FIELDS.true

pub returns-in_default-clause-value : goal.returns-in_default-clause-value
returns-in_default-clause-value c =
    λ h at. frame_encoded c.args.head.now c.args.headers.now c.args.spans.now h c.find_field.result c.requires at (omega arith) c.find_field.ensures c.in_default.not-Absent

pub returns-in-Absent-find_field-clause-value : goal.returns-in-Absent-find_field-clause-value
returns-in-Absent-find_field-clause-value c =
    λ h at. ap body_length (sym c.in-Absent-find_field.ensures)
    ∙ frame_plain c.args.head.now c.args.headers.now c.args.spans.now h c.requires at (omega arith) c.in-Absent.ensures

pub returns-in-Once-clause-value : goal.returns-in-Once-clause-value
returns-in-Once-clause-value c =
    λ h at. c.read_length.ensures.value ∙ ap length_of c.of.ensures ∙ ap body_length (sym c.in-Once.ensures.1)
    ∙ frame_plain c.args.head.now c.args.headers.now c.args.spans.now h c.requires at (omega arith) c.in-Absent.ensures

pub returns-in-Repeated-clause-value : goal.returns-in-Repeated-clause-value
returns-in-Repeated-clause-value c =
    λ h at. twice (lengths c.args.head.now c.args.headers.now c.args.spans.now) c.in-Repeated.ensures
    ∙ frame_plain c.args.head.now c.args.headers.now c.args.spans.now h c.requires at (omega arith) c.in-Absent.ensures
