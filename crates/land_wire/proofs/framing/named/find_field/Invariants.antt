use Rattle.std.proofs.Common.{map, take}
use Rattle.httparse.specs.Spans.{header_bytes}
use Rattle.land_wire.specs.Fields.{values_named}
use Rattle.land_wire.specs.Framing.Frame.{IsOccurrence}
use Rattle.land_wire.proofs.framing.named.find_field.Given as goal

abbrev pub invariant-loop-field : goal.invariant-loop-field
invariant-loop-field l = IsOccurrence l.head (values_named l.name (map (header_bytes l.head) (take l.field-index l.fields))) l.found
