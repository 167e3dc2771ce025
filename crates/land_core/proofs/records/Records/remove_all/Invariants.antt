use Rattle.std.proofs.Common.{◌≡◌, drop}
use Rattle.land_core.specs.Entries.{without}
use Rattle.land_core.proofs.records.Records.remove_all.Given as goal

-- removing the remaining keys yields the same result
abbrev pub invariant-loop-number : goal.invariant-loop-number
invariant-loop-number g l = without l.self (drop l.number-index l.ended) ≡ without l.fn.self l.ended
