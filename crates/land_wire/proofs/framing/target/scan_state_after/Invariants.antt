use Rattle.std.proofs.Common.{◌≡◌, take}
use Rattle.land_wire.specs.Framing.Target.{scan_state_after}
use Rattle.land_wire.specs.declared.framing.target.ScanState.TheVariants as place
use Rattle.land_wire.proofs.framing.target.scan_state_after.Given as goal

abbrev pub invariant-loop-byte : goal.invariant-loop-byte
invariant-loop-byte l = l.place ≡ scan_state_after place.Blank (take l.byte-index l.bytes)
