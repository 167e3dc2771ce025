use Rattle.std.proofs.Common.{◌≡◌, ◌++◌, drop}
use Rattle.std.specs.Prelude.{string_bytes}
use Rattle.land_sheet.specs.Sheets.{entry_lines}
use Rattle.land_sheet.proofs.sheet.push_entries.Given as goal

-- the previous lines, and the lines that follow
abbrev pub invariant-loop-entry : goal.invariant-loop-entry
invariant-loop-entry l =
    string_bytes l.text ++ entry_lines (drop l.entry-index l.entries) ≡ string_bytes l.fn.text ++ entry_lines l.entries
