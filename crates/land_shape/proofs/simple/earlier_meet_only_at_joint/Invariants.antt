use Rattle.std.proofs.Common.{ℕ, ◌<◌, ◌≤◌}
use Rattle.land_shape.specs.Simple.{MeetOnlyAtJoint, places}
use Rattle.land_shape.proofs.simple.earlier_meet_only_at_joint.Given as goal

abbrev pub invariant-loop-i : goal.invariant-loop-i
invariant-loop-i l = (k : ℕ) → l.start ≤ k → k < l.i → k < l.j → MeetOnlyAtJoint (places l.points) k l.j
