use Rattle.std.proofs.Common.{◌≡◌, ◌++◌, ℕ}
use Rattle.std.specs.FinMap as map
use Rattle.land_core.specs.ByUnit.{claims_in, under}
use Rattle.land_core.proofs.soundness.by_unit.claims_by_unit.Given as goal

-- for each unit, the items collected, followed by the remaining ones, are the result
abbrev pub invariant-loop-entry : goal.invariant-loop-entry
invariant-loop-entry l = (unit : ℕ) → under l.claims unit ++ claims_in l.entry-iterator unit ≡ claims_in (map.entries l.register.rrrs) unit
