use Rattle.std.proofs.Common.{drop}
use Rattle.std.specs.List.{AllByRecursion}
use Rattle.land_wire_json.specs.Bodies.Stored.{HasPartOutline}
use Rattle.land_wire_json.proofs.bodies.stored.parts_are_exact.Given as goal

abbrev pub invariant-loop-part : goal.invariant-loop-part
invariant-loop-part l = AllByRecursion HasPartOutline (drop l.part-index l.parts) → AllByRecursion HasPartOutline l.parts
