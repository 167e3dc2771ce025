use Rattle.std.proofs.Common.{◌≡◌, ◌*◌, drop, pos, ◌+ℤ◌, ◌≤ℤ◌, ◌-ℤ◌}
use Rattle.land_shape.specs.Simple.{places}
use Rattle.land_shape.specs.Place.{area_of, ring_edges}
use Rattle.land_shape.proofs.AreaLemmas.{rest_area}
use Rattle.land_shape.proofs.area.signed_area.Given as goal

abbrev pub invariant-loop-point : goal.invariant-loop-point
invariant-loop-point l = record {
  so_far : l.sum +ℤ rest_area l.last (drop l.point-index l.point-items) l.first ≡ area_of (ring_edges (places l.points));
  low : (pos 0 -ℤ pos (200000000000000000000 * l.point-index)) ≤ℤ l.sum;
  high : l.sum ≤ℤ pos (200000000000000000000 * l.point-index);
}
