-- A decoded moment is the one that was written.
use Rattle.std.proofs.Common.{◌≡◌, [], ◌∷◌, true, Ok, refl, sym}
use Rattle.land_core.specs.Numbers.{IsMoment}
use Rattle.land_tables_history.specs.declared.moment.Moment as history
use Rattle.land_tables_rows.proofs.Bounds.{bound, moment_reads}
use Rattle.land_tables_rows.proofs.WrittenCells.{cons, moment_cell, next_cell, next_reads}
use Rattle.land_tables_rows.specs.Moment.Reading.{moment_row_in}
use Rattle.land_tables_rows.specs.Reading.Cells.{is_next, moment_in, next_in}
use Rattle.land_tables_schema.specs.Rows.ReadQueries.{numbered_cells}
use Rattle.land_tables_schema.specs.Rows.Moments.{Moment, moment_row}
use Rattle.sqlite_value.specs.Order.{Row, column}
use Rattle.sqlite_value.specs.declared.value.Value.{Value}

cells_are : (a b : Value) (m : history.Moment) → moment_row_in (a ∷ b ∷ []) ≡ Ok m → (p : Moment) × (moment_row p ≡ a ∷ b ∷ [])
unfolding moment_row_in
cells_are a b m h =
    let one = bound (moment_in a) _ m h in
    let two = bound (next_in b) _ m one.2 in
    (record { stamp = one.0; next = two.0 }, cons (sym (moment_cell a one.0 one.1)) (cons (sym (next_cell b two.0 two.1)) refl))

pub found : (r : Row) (m : history.Moment) → moment_row_in (numbered_cells r) ≡ Ok m → (p : Moment) × (moment_row p ≡ numbered_cells r)
found r m h = cells_are (column r 0) (column r 2) m h

-- a moment decodes to itself
pub reads : (p : Moment) → IsMoment p.stamp → is_next p.next ≡ true → moment_row_in (moment_row p) ≡ Ok (record { stamp = p.stamp; next = p.next })
unfolding moment_row_in
reads p moment next = rw (moment_reads p.stamp moment, next_reads p.next next) refl
