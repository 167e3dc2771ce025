use Rattle.std.proofs.Common.{◌≡◌, codes, drop, map}
use Rattle.std.specs.List.{list_any}
use Rattle.httparse.specs.Spans.{header_bytes}
use Rattle.land_wire.specs.Fields.{values_named}
use Rattle.land_wire.specs.Framing.Frame.{has_close_option}
use Rattle.land_wire.proofs.framing.connection.wants_close.Given as goal

abbrev pub invariant-loop-field : goal.invariant-loop-field
invariant-loop-field l =
    list_any has_close_option (values_named (codes "connection") (map (header_bytes l.head) l.field-items))
    ≡ list_any has_close_option (values_named (codes "connection") (map (header_bytes l.head) (drop l.field-index l.field-items)))
