use Rattle.std.proofs.Common.{◌≡◌, drop}
use Rattle.land_core.specs.Entries.{without}
use Rattle.land_core.proofs.mandates.Mandates.remove_all.Given as goal

-- removing the remaining keys yields the same result
abbrev pub invariant-loop-mandate : goal.invariant-loop-mandate
invariant-loop-mandate l = without l.self (drop l.mandate-index l.ended) ≡ without l.fn.self l.ended
