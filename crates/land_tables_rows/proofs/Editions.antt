-- The decoded edition is the one that was written.
use Rattle.std.proofs.Common.{◌≡◌, [], ◌∷◌, Ok, refl, sym}
use Rattle.land_tables_rows.proofs.Bounds.{bound}
use Rattle.land_tables_rows.proofs.WrittenCells.{cons, natural_cell}
use Rattle.land_tables_rows.specs.Edition.Reading.{edition_in}
use Rattle.land_tables_rows.specs.Edition.Writing as edition
use Rattle.land_tables_rows.specs.Reading.Cells.{natural_in}
use Rattle.land_tables_rows.specs.declared.edition.reading.Edition as version
use Rattle.land_tables_schema.specs.Rows.Edition.{Edition, v2_edition, edition_row}
use Rattle.land_tables_schema.specs.Rows.ReadQueries.{numbered_cells}
use Rattle.sqlite_value.specs.Order.{Row, column}
use Rattle.sqlite_value.specs.declared.value.Value.{Value}

cells_are : (a b : Value) (e : version.Edition) → edition_in (a ∷ b ∷ []) ≡ Ok e → (p : Edition) × (edition_row p ≡ a ∷ b ∷ [])
unfolding edition_in
cells_are a b e h =
    let one = bound (natural_in a) _ e h in
    let two = bound (natural_in b) _ e one.2 in
    (record { id = one.0; version = two.0 }, cons (sym (natural_cell a one.0 one.1)) (cons (sym (natural_cell b two.0 two.1)) refl))

pub found : (r : Row) (e : version.Edition) → edition_in (numbered_cells r) ≡ Ok e → (p : Edition) × (edition_row p ≡ numbered_cells r)
found r e h = cells_are (column r 0) (column r 2) e h

-- edition 2 decodes to itself
pub reads : edition_in (edition_row v2_edition) ≡ Ok edition.v2_edition
unfolding edition_in natural_in
reads = refl
