use Rattle.std.proofs.Common.{◌≡◌, drop}
use Rattle.land_select.specs.Views.{name_among}
use Rattle.land_select.proofs.view.name_among.Given as goal

-- the remaining versions have the same name for the number
abbrev pub invariant-loop-version : goal.invariant-loop-version
invariant-loop-version l = name_among (drop l.version-index l.parties) l.fn.number ≡ name_among l.parties l.fn.number
