use Rattle.std.proofs.Common.{ℕ, ◌<◌, ◌≤◌, ◌-◌, length}
use Rattle.land_shape.specs.Simple.{MeetOnlyAtJoint, places}
use Rattle.land_shape.proofs.simple.all_meet_only_at_joints.Given as goal

abbrev pub invariant-loop-start : goal.invariant-loop-start
invariant-loop-start l = (l.start ≤ length l.points) × ((i j : ℕ) → i < l.start → i < j → j < length l.points → MeetOnlyAtJoint (places l.points) i j)

abbrev pub decreases-loop-start : goal.decreases-loop-start
decreases-loop-start l = length l.points - l.start
