-- Laws, each stated with definitions only.
use Rattle.std.specs.Prelude.{◌≡◌, List, ℕ}
use Rattle.land_keep.specs.declared.view.View.{View}
use Rattle.land_sheet.specs.Dates.{CivilDate, IsDateOf}
use Rattle.land_sheet.specs.Sheets.{IsSheet}

-- a day has exactly one date
abbrev pub DatesAreUnique : Type 0
DatesAreUnique = (number : ℕ) (a b : CivilDate) → IsDateOf number a → IsDateOf number b → a ≡ b

-- a view has exactly one sheet
abbrev pub SheetsAreUnique : Type 0
SheetsAreUnique = (view : View) (a b : List ℕ) → IsSheet view a → IsSheet view b → a ≡ b
