use Rattle.std.proofs.Common.{take}
use Rattle.std.specs.Io.KnownBytes.{Appends}
use Rattle.csv.specs.Writing.{text_written}
use Rattle.land_sheet.specs.Extracts.Writing.{rows_of}
use Rattle.land_sheet.specs.Rows.{IsBetweenRows}
use Rattle.land_sheet.proofs.rows.write_objects.Given as goal

-- the previous rows are written, and the writer is between rows
abbrev pub invariant-rows : goal.invariant-rows
invariant-rows g l = Appends (text_written g.W.Write.contents l.fn.writer) (text_written g.W.Write.contents l.writer) (rows_of (take l.row-index l.rows)) × IsBetweenRows l.writer
