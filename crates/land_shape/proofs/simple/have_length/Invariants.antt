use Rattle.std.proofs.Common.{◌≡◌, ℕ, ◌<◌}
use Rattle.land_shape.specs.Simple.{places, place_at, next_place_at}
use Rattle.land_shape.proofs.simple.have_length.Given as goal

abbrev pub invariant-loop-i : goal.invariant-loop-i
invariant-loop-i l = (k : ℕ) → k < l.i → ¬ (place_at (places l.points) k ≡ next_place_at (places l.points) k)
