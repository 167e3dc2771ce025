use Rattle.std.proofs.Common.{◌≡◌, ◌++◌, ℕ}
use Rattle.std.specs.FinMap as map
use Rattle.land_core.specs.ByUnit.{parcels_in, under}
use Rattle.land_core.proofs.soundness.by_unit.parcels_by_unit.Given as goal

-- for each unit, the items collected, followed by the remaining ones, are the result
abbrev pub invariant-loop-number : goal.invariant-loop-number
invariant-loop-number l = (unit : ℕ) → under l.parcels unit ++ parcels_in l.number-iterator unit ≡ parcels_in (map.entries l.register.parcels) unit
