use Rattle.std.proofs.Common.{◌≡◌, true, take}
use Rattle.std.specs.List.{list_all}
use Rattle.land_tables_rows.specs.Mutation.Cells.{is_part_kept}
use Rattle.land_tables_rows.proofs.mutation.cells.parts_are_kept.Given as goal

abbrev pub invariant-loop-part : goal.invariant-loop-part
invariant-loop-part l = list_all is_part_kept (take l.part-index l.parts) ≡ true
