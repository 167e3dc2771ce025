use Rattle.std.proofs.Common.{ℕ, ◌<◌, ◌≤◌}
use Rattle.land_shape.specs.Simple.{MeetOnlyAtJoint, places}
use Rattle.land_shape.proofs.simple.group_meets_only_at_joints.Given as goal

abbrev pub invariant-loop-j : goal.invariant-loop-j
invariant-loop-j l = (i k : ℕ) → l.start ≤ i → i < l.end → i < k → k < l.j → MeetOnlyAtJoint (places l.points) i k
