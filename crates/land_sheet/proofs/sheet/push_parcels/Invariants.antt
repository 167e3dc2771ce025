use Rattle.std.proofs.Common.{◌≡◌, ◌++◌, drop}
use Rattle.std.specs.Prelude.{string_bytes}
use Rattle.land_sheet.specs.Sheets.{parcel_lines}
use Rattle.land_sheet.proofs.sheet.push_parcels.Given as goal

-- the previous lines, and the lines that follow
abbrev pub invariant-loop-parcel : goal.invariant-loop-parcel
invariant-loop-parcel l =
    string_bytes l.text ++ parcel_lines (drop l.parcel-index l.parcels) ≡ string_bytes l.fn.text ++ parcel_lines l.parcels
