use Rattle.std.proofs.Common.{◌≡◌, ◌+◌, drop, length}
use Rattle.land_wire.specs.Routes.{before_slash}
use Rattle.land_wire.proofs.routes.route.find_slash.Given as goal

abbrev pub invariant-loop-at : goal.invariant-loop-at
invariant-loop-at l = length (before_slash l.path) ≡ l.at + length (before_slash (drop l.at l.path))
