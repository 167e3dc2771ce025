use Rattle.std.proofs.Common.{◌≡◌, drop}
use Rattle.land_core.specs.Entries.{without}
use Rattle.land_core.proofs.roles.Roles.remove_all.Given as goal

-- removing the remaining keys yields the same result
abbrev pub invariant-loop-grant : goal.invariant-loop-grant
invariant-loop-grant l = without l.self (drop l.grant-index l.ended) ≡ without l.fn.self l.ended
