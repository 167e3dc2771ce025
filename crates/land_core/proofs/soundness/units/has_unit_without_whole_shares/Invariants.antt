use Rattle.std.proofs.Common.{◌≡◌, ◌&&◌}
use Rattle.std.specs.List.{list_any}
use Rattle.land_core.specs.ByUnit.{lacks_whole_shares}
use Rattle.land_core.specs.Entries.{some}
use Rattle.land_core.proofs.soundness.units.has_unit_without_whole_shares.Given as goal

-- a unit lacks whole shares if and only if one of the remaining ones does
abbrev pub invariant-loop-number : goal.invariant-loop-number
invariant-loop-number l = list_any (λ e. e.1.checked && lacks_whole_shares l.by_unit e.0) l.number-iterator ≡ some (λ n u. u.checked && lacks_whole_shares l.by_unit n) l.register.units
