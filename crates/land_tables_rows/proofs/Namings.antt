-- A decoded link of a mutation to a unit is the one that was written.
use Rattle.std.proofs.Common.{◌≡◌, ℤ, [], ◌∷◌, ◌++◌, true, Ok, Result, refl, sym}
use Rattle.std.proofs.lemmas.Bool.{and_parts}
use Rattle.land_core.specs.Numbers.{is_number}
use Rattle.land_tables_history.specs.declared.naming.Naming.{Naming}
use Rattle.land_tables_history.specs.declared.version.Version.{Version}
use Rattle.land_tables_rows.proofs.Bounds.{bound, two}
use Rattle.land_tables_rows.proofs.Lives.{IsReading, lived}
use Rattle.land_tables_rows.proofs.WrittenCells.{cons, end_cell, moment_cell, number_cell, number_reads}
use Rattle.land_tables_rows.specs.Naming.Reading.{naming_in}
use Rattle.land_tables_rows.specs.Naming.Writing.{fits_naming}
use Rattle.land_tables_rows.specs.Reading.Cells.{end_in, moment_in, number_in}
use Rattle.land_tables_schema.specs.Rows.Names.{NamesRow, names_cells}
use Rattle.land_tables_schema.specs.Rows.Versions as rows
use Rattle.land_tables_schema.specs.Rows.Versions.{flag, whole}
use Rattle.land_tables_schema.specs.Tables as table
use Rattle.land_wire_json.specs.Bodies.WireFaults.{◌>>=◌}
use Rattle.land_wire_json.specs.declared.bodies.wire_fault.WireFault.{WireFault}
use Rattle.sqlite_value.specs.Order.{column}
use Rattle.sqlite_value.specs.declared.value.Value.{Value}
use Rattle.sqlite_value.specs.declared.value.Value.TheVariants.{Int}

-- the values of a link's cells
abbrev pub what : NamesRow → Result Naming WireFault
what n = number_in (whole n.mutation) >>= λ mutation. number_in (whole n.unit) >>= λ unit. Ok (record { mutation = mutation; unit = unit })

reads : (n : NamesRow) (since until : ℤ) → naming_in (names_cells n ++ Int since ∷ Int until ∷ []) ≡ (what n >>= λ it. lived it since until)
unfolding naming_in
reads n since until = two (number_in (whole n.mutation)) (number_in (whole n.unit)) (λ mutation unit. record { mutation = mutation; unit = unit }) (λ it. lived it since until)

cells_are : (a b c d : Value) (v : Version Naming) → naming_in (a ∷ b ∷ c ∷ d ∷ []) ≡ Ok v → (p : rows.Version NamesRow) × (names_cells p.what ++ Int p.since ∷ Int p.until ∷ [] ≡ a ∷ b ∷ c ∷ d ∷ [])
unfolding naming_in
cells_are a b c d v h =
    let one = bound (number_in a) _ v h in
    let two = bound (number_in b) _ v one.2 in
    let three = bound (moment_in c) _ v two.2 in
    let four = bound (end_in d) _ v three.2 in (
      record { what = record { mutation = one.0; unit = two.0 }; since = three.0; until = four.0 },
      cons (sym (number_cell a one.0 one.1)) (cons (sym (number_cell b two.0 two.1)) (cons (sym (moment_cell c three.0 three.1)) (cons (sym (end_cell d four.0 four.1)) refl))),
    )

pub is_reading : IsReading table.names 2 names_cells naming_in what
is_reading = record { reads = reads; found = λ r v h. cells_are (column r 1) (column r 2) (column r 3) (column r 4) v h }

-- how a link is laid out in cells
abbrev pub row_of : Naming → NamesRow
row_of n = record { mutation = n.mutation; unit = n.unit }

-- a link within its limits decodes to itself
pub what_is : (n : Naming) → fits_naming n ≡ true → what (row_of n) ≡ Ok n
what_is n fits =
    let parts = and_parts (is_number n.mutation) (is_number n.unit) fits in
    rw (number_reads n.mutation parts.0, number_reads n.unit parts.1) refl
