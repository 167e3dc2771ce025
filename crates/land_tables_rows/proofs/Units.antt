-- A decoded unit is the one that was written.
use Rattle.std.proofs.Common.{◌≡◌, ℕ, Bool, List, true, nat_eq, Ok, Result, refl}
use Rattle.std.specs.Str.{IsUtf8}
use Rattle.std.proofs.lemmas.Bool.{and_parts}
use Rattle.land_core.specs.Numbers.{is_number}
use Rattle.land_core.specs.Texts.{is_name}
use Rattle.land_core.specs.declared.unit.UnitRecord.{UnitRecord}
use Rattle.land_tables_rows.proofs.Lives.{IsReading}
use Rattle.land_tables_rows.proofs.Numbered.{numbered_reading, numbers_agree}
use Rattle.land_tables_rows.proofs.WrittenCells.{flag_cell, flag_reads, limited_reads, number_reads, word_cell}
use Rattle.land_tables_rows.specs.Reading.Cells.{flag_in, name_in, number_in}
use Rattle.land_tables_rows.specs.Unit.Reading.{unit_in}
use Rattle.land_tables_rows.specs.Unit.Writing.{fits_unit}
use Rattle.land_tables_schema.specs.Rows.Unit.{UnitRow, is_unit, unit_cells}
use Rattle.land_tables_schema.specs.Rows.Versions.{flag, whole}
use Rattle.land_tables_schema.specs.Tables as table
use Rattle.land_wire_json.specs.Bodies.WireFaults.{◌>>=◌}
use Rattle.land_wire_json.specs.declared.bodies.wire_fault.WireFault.{WireFault}
use Rattle.sqlite_value.specs.declared.value.Value.{Value}
use Rattle.sqlite_value.specs.declared.value.Value.TheVariants.{Text}

-- the values of a unit's cells
abbrev pub what : UnitRow → Result (ℕ × UnitRecord) WireFault
what u =
    number_in (whole u.number) >>= λ number. name_in (Text u.name) >>= λ name. flag_in (flag u.checked)
    >>= λ checked. Ok (number, record { name = name; checked = checked })

-- cells that decode were laid out from a unit
found : (number : ℕ) (x y : Value) (a : List ℕ) (b : Bool) → name_in x ≡ Ok a → flag_in y ≡ Ok b
    → (u : UnitRow) × (u.number ≡ number) × (Text u.name ≡ x) × (flag u.checked ≡ y)
found number x y a b h k =
    let name = word_cell x _ a h in
    (record { number = number; name = name.0; checked = b }, refl, name.1, flag_cell y b k)

pub is_reading : IsReading table.unit 3 unit_cells unit_in what
unfolding unit_in
is_reading =
    numbered_reading {C = UnitRow} {R = UnitRecord} (λ u. u.number) (λ u. Text u.name) (λ u. flag u.checked)
    name_in flag_in (λ name checked. record { name = name; checked = checked }) table.unit found

-- how a unit is laid out in cells
abbrev pub row_of : ℕ → UnitRecord → UnitRow
row_of number u = record { number = number; name = u.name; checked = u.checked }

-- a unit within its limits decodes to itself
pub what_is : (number : ℕ) (u : UnitRecord) → fits_unit number u ≡ true → IsUtf8 u.name → what (row_of number u) ≡ Ok (number, u)
what_is number u fits name =
    let parts = and_parts (is_number number) (is_name u.name) fits in
    rw (number_reads number parts.0, limited_reads is_name u.name name parts.1, flag_reads u.checked) refl

-- the number of a unit decodes to itself
pub agree : (n : ℕ) (c : UnitRow) (x : ℕ × UnitRecord) → what c ≡ Ok x → nat_eq x.0 n ≡ is_unit n c
agree =
    numbers_agree {C = UnitRow} {R = UnitRecord} (λ u. u.number) (λ u. Text u.name) (λ u. flag u.checked)
    name_in flag_in (λ name checked. record { name = name; checked = checked })
