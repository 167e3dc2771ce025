use Rattle.std.proofs.Common.{◌≡◌}
use Rattle.std.specs.List.{list_any}
use Rattle.std.specs.Prelude.{filter, nat_eq}
use Rattle.land_core.specs.Entries.{entries_where, with_entries}
use Rattle.land_select.proofs.view.listed_entries.Given as goal

-- the entries at this point, with the remaining ones filtered
abbrev pub invariant-loop-number : goal.invariant-loop-number
invariant-loop-number l = with_entries l.kept (filter (λ e. list_any (nat_eq e.0) l.listed) l.number-iterator) ≡ entries_where (λ n e. list_any (nat_eq n) l.listed) l.found
