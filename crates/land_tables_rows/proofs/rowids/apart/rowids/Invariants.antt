use Rattle.std.proofs.Common.{◌≡◌, true, take}
use Rattle.sqlite_rules.specs.Calls.{ids_of}
use Rattle.sqlite_rules.specs.Edit.{have_rowids}
use Rattle.land_tables_rows.proofs.rowids.apart.rowids.Given as goal

-- until now every cell was an integer and was pushed
abbrev pub invariant-loop-row : goal.invariant-loop-row
invariant-loop-row l = (l.ids.items ≡ ids_of (take l.row-index l.rows)) × (have_rowids (take l.row-index l.rows) ≡ true)
