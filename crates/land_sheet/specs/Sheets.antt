-- Title sheets: the lines in order, each with its line feed.
use Rattle.std.specs.Prelude.{◌≡◌, ◌++◌, Bool, true, false, List, [], ◌∷◌, ℕ, codes, decimal, length}
use Rattle.std.specs.Prelude.{unsigned_abs}
use Rattle.land_core.specs.Words.{class_word}
use Rattle.land_core.specs.declared.parcel.Parcel.{Parcel}
use Rattle.land_core.specs.declared.rrr.Class.{Class}
use Rattle.land_core.specs.declared.rrr.Class.TheVariants.{Right, Restriction, Responsibility, Mortgage}
use Rattle.land_core.specs.declared.unit.Unit.{Unit}
use Rattle.land_fraction.specs.Text.{fraction_text}
use Rattle.land_keep.specs.declared.view.NamedRrr.{NamedRrr}
use Rattle.land_keep.specs.declared.view.View.{View}
use Rattle.land_shape.specs.Outline.{doubled_area}
use Rattle.land_sheet.specs.Areas.{doubled_parcel_areas, square_metres}
use Rattle.land_sheet.specs.Dates.{CivilDate, IsDateOf, date_text, day_number, time_text}
use Rattle.land_sheet.specs.Widths.{number_right, text_left, text_right}

-- ---- the head

unfoldable pub title_line : List ℕ
title_line = codes "TITLE SHEET\n"

-- the unit, by its number and its name
unfoldable pub unit_line : Unit → List ℕ
unit_line unit = codes "Unit " ++ (decimal unit.number ++ (codes " " ++ (unit.name ++ codes "\n")))

-- the requested time: a date, and a time of that day
unfoldable pub date_part : CivilDate → List ℕ
date_part date = codes "At " ++ (date_text date ++ codes "T")

unfoldable pub time_part : (moment : ℕ) → List ℕ
time_part moment = time_text moment ++ codes "Z\n"

unfoldable pub moment_line : CivilDate → (moment : ℕ) → List ℕ
moment_line date moment = date_part date ++ time_part moment

-- the shares of each type of right must sum to 1, if shares are checked
abbrev pub checked_line : Bool → List ℕ
checked_line true = codes "Shares checked\n"
checked_line false = codes "Shares unchecked\n"

-- the total area of the parcels in square metres
unfoldable pub area_line : List Parcel → List ℕ
area_line parcels = codes "Area " ++ (square_metres (doubled_parcel_areas parcels) ++ codes "\n")

-- ---- the parcels

unfoldable pub parcel_count_line : List Parcel → List ℕ
parcel_count_line parcels = codes "Parcels " ++ (decimal (length parcels) ++ codes "\n")

-- a parcel: its number, its square metres, its label
unfoldable pub parcel_line : Parcel → List ℕ
parcel_line parcel =
    number_right 10 parcel.number ++ (codes "  "
    ++ (text_right 20 (square_metres (doubled_area parcel.outline))
    ++ (codes "  " ++ (parcel.label ++ codes "\n"))))

abbrev pub parcel_lines : List Parcel → List ℕ
parcel_lines [] = []
parcel_lines (parcel ∷ parcels) = parcel_line parcel ++ parcel_lines parcels

-- ---- the entries

unfoldable pub entry_count_line : List NamedRrr → List ℕ
entry_count_line entries = codes "Entries " ++ (decimal (length entries) ++ codes "\n")

-- an entry up to its content: its number, its class, the number and the name of its party
unfoldable pub entry_start : NamedRrr → List ℕ
entry_start entry =
    number_right 10 entry.rrr.number ++ (codes "  " ++ (text_left 14 (class_word entry.rrr.class)
    ++ (codes "  "
    ++ (number_right 10 entry.rrr.party ++ (codes " " ++ (entry.name ++ codes ": "))))))

-- the content of an entry: the share of a right, the words of a restriction or a responsibility, the rank,
-- the currency and the amount of a mortgage
abbrev pub class_end : Class → List ℕ
class_end (Right type share) = fraction_text share ++ codes "\n"
class_end (Restriction words) = words ++ codes "\n"
class_end (Responsibility words) = words ++ codes "\n"
class_end (Mortgage amount currency rank) =
    codes "rank " ++ (decimal rank ++ (codes " " ++ (currency ++ (codes " "
    ++ (decimal amount ++ codes "\n")))))

unfoldable pub entry_line : NamedRrr → List ℕ
entry_line entry = entry_start entry ++ class_end entry.rrr.class

abbrev pub entry_lines : List NamedRrr → List ℕ
entry_lines [] = []
entry_lines (entry ∷ entries) = entry_line entry ++ entry_lines entries

-- ---- the whole sheet

-- a view's moment, which is not negative
abbrev pub view_moment : View → ℕ
view_moment view = unsigned_abs view.at

unfoldable pub head_lines : Unit → CivilDate → (moment : ℕ) → List ℕ
head_lines unit date moment =
    title_line ++ (unit_line unit ++ (moment_line date moment ++ checked_line unit.checked))

unfoldable pub parcel_part : List Parcel → List ℕ
parcel_part parcels = area_line parcels ++ (parcel_count_line parcels ++ parcel_lines parcels)

unfoldable pub entry_part : List NamedRrr → List ℕ
entry_part entries = entry_count_line entries ++ entry_lines entries

unfoldable pub end_line : List ℕ
end_line = codes "END\n"

-- the sheet of a view with a date and a moment
unfoldable pub sheet_text : View → CivilDate → (moment : ℕ) → List ℕ
sheet_text view date moment =
    head_lines view.unit date moment ++ (parcel_part view.parcels ++ (entry_part view.rrrs ++ end_line))

-- the text is the sheet of a view, with the view's moment and its date
pub record IsSheet (view : View) (text : List ℕ) : Type 0 where
  pub date : CivilDate
  pub date_is : IsDateOf (day_number (view_moment view)) date
  pub text_is : text ≡ sheet_text view date (view_moment view)
