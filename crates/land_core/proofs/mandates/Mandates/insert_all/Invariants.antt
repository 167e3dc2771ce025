use Rattle.std.proofs.Common.{◌≡◌, drop}
use Rattle.land_core.specs.Entries.{with_entries}
use Rattle.land_core.specs.Grants.{set_entries}
use Rattle.land_core.proofs.mandates.Mandates.insert_all.Given as goal

-- inserting the remaining entries yields the same result
abbrev pub invariant-loop-mandate : goal.invariant-loop-mandate
invariant-loop-mandate l = with_entries l.self (set_entries (drop l.mandate-index l.put)) ≡ with_entries l.fn.self (set_entries l.put)
