use Rattle.land_core.proofs.FiniteMaps.{IsCopying}
use Rattle.land_core.proofs.records.RecordsDuplicate.copy.Given as goal

-- the entries already processed are copied
abbrev pub invariant-loop-number : goal.invariant-loop-number
invariant-loop-number g l = IsCopying l.self l.copy l.number-iterator
