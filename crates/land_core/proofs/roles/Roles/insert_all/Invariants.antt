use Rattle.std.proofs.Common.{◌≡◌, drop}
use Rattle.land_core.specs.Entries.{with_entries}
use Rattle.land_core.specs.Grants.{set_entries}
use Rattle.land_core.proofs.roles.Roles.insert_all.Given as goal

-- inserting the remaining entries yields the same result
abbrev pub invariant-loop-grant : goal.invariant-loop-grant
invariant-loop-grant l = with_entries l.self (set_entries (drop l.grant-index l.put)) ≡ with_entries l.fn.self (set_entries l.put)
