use Rattle.std.proofs.Common.{◌≡◌, drop}
use Rattle.land_core.specs.Entries.{with_entries}
use Rattle.land_core.proofs.records.Records.insert_all.Given as goal

-- inserting the remaining entries yields the same result
abbrev pub invariant-loop-number : goal.invariant-loop-number
invariant-loop-number g l = with_entries l.self (drop l.number-index l.put) ≡ with_entries l.fn.self l.put
