use Rattle.std.proofs.Common.{◌≡◌, ◌++◌}
use Rattle.std.specs.FinMap as map
use Rattle.land_select.specs.Views.{named_among}
use Rattle.land_select.proofs.view.named_entries.Given as goal

-- the entries at this point, followed by the remaining ones
abbrev pub invariant-loop-number : goal.invariant-loop-number
invariant-loop-number l = l.all ++ named_among l.parties l.number-iterator ≡ named_among l.parties (map.entries l.entries)
