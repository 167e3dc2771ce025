use Rattle.std.proofs.Common.{◌≡◌, ◌++◌, drop}
use Rattle.land_tables_history.specs.Changed.{named_by, new_mutations}
use Rattle.land_tables_rows.proofs.change_writing.lists.list_names.Given as goal

-- the list, followed by the links of the remaining new mutations
abbrev pub invariant-loop-number : goal.invariant-loop-number
invariant-loop-number l = l.listed ++ named_by (new_mutations l.next (drop l.number-index l.mutations)) ≡ named_by (new_mutations l.next l.mutations)
