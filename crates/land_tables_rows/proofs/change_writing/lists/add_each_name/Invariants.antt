use Rattle.std.proofs.Common.{◌≡◌, ◌++◌, drop}
use Rattle.land_tables_rows.specs.Recording.Whole.{names_of}
use Rattle.land_tables_rows.proofs.change_writing.lists.add_each_name.Given as goal

-- the list, followed by the remaining links
abbrev pub invariant-loop-unit : goal.invariant-loop-unit
invariant-loop-unit l = l.listed ++ names_of l.mutation (drop l.unit-index l.units) ≡ l.fn.listed ++ names_of l.mutation l.units
