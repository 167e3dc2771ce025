use Rattle.std.proofs.Common.{◌≡◌}
use Rattle.std.specs.Prelude.{filter}
use Rattle.land_core.specs.Entries.{entries_where, with_entries}
use Rattle.land_rules.specs.Denials.Interests.{shows_entry}
use Rattle.land_select.proofs.verdict.interest.filter_by_interest.Given as goal

-- the entries at this point, with the remaining ones filtered
abbrev pub invariant-loop-number : goal.invariant-loop-number
invariant-loop-number l = with_entries l.kept (filter (λ e. shows_entry l.interest l.party e.1) l.number-iterator) ≡ entries_where (λ n e. shows_entry l.interest l.party e) l.entries
