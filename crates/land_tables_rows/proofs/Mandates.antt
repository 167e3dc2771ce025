-- A decoded mandate is the one that was written.
use Rattle.std.proofs.Common.{◌≡◌, ◌&&◌, ◌==◌, ◌∙◌, ℤ, [], ◌∷◌, ◌++◌, true, Ok, Result, refl, sym, ap, ap₂}
use Rattle.std.specs.Ordering.{nat_cmp}
use Rattle.std.proofs.lemmas.Bool.{and_parts}
use Rattle.land_core.specs.Numbers.{is_number}
use Rattle.land_core.specs.declared.mandates.Mandate.{Mandate}
use Rattle.land_tables_history.specs.Intervals.{is_same_mandate}
use Rattle.land_tables_history.specs.declared.version.Version.{Version}
use Rattle.land_tables_rows.proofs.Bounds.{bound, same_ok, two}
use Rattle.land_tables_rows.proofs.Lives.{IsReading, lived}
use Rattle.land_tables_rows.proofs.Roles.{both_same, same_parties}
use Rattle.land_tables_rows.proofs.WrittenCells.{cons, end_cell, moment_cell, number_cell, number_reads, same_number}
use Rattle.land_tables_rows.specs.Mandate.Reading.{mandate_in}
use Rattle.land_tables_rows.specs.Mandate.Writing.{fits_mandate}
use Rattle.land_tables_rows.specs.Reading.Cells.{end_in, moment_in, number_in}
use Rattle.land_tables_schema.specs.Rows.Mandate.{MandateRow, is_mandate, mandate_cells}
use Rattle.land_tables_schema.specs.Rows.Versions as rows
use Rattle.land_tables_schema.specs.Rows.Versions.{whole}
use Rattle.land_tables_schema.specs.Tables as table
use Rattle.land_wire_json.specs.Bodies.WireFaults.{◌>>=◌}
use Rattle.land_wire_json.specs.declared.bodies.wire_fault.WireFault.{WireFault}
use Rattle.sqlite_value.specs.Order.{column}
use Rattle.sqlite_value.specs.declared.value.Value.{Value}
use Rattle.sqlite_value.specs.declared.value.Value.TheVariants.{Int}

-- the values of a mandate's cells
abbrev pub what : MandateRow → Result Mandate WireFault
what n = number_in (whole n.principal) >>= λ principal. number_in (whole n.agent) >>= λ agent. Ok (record { principal = principal; agent = agent })

reads : (n : MandateRow) (since until : ℤ) → mandate_in (mandate_cells n ++ Int since ∷ Int until ∷ []) ≡ (what n >>= λ it. lived it since until)
unfolding mandate_in
reads n since until = two (number_in (whole n.principal)) (number_in (whole n.agent)) (λ principal agent. record { principal = principal; agent = agent }) (λ it. lived it since until)

cells_are : (a b c d : Value) (v : Version Mandate) → mandate_in (a ∷ b ∷ c ∷ d ∷ []) ≡ Ok v → (p : rows.Version MandateRow) × (mandate_cells p.what ++ Int p.since ∷ Int p.until ∷ [] ≡ a ∷ b ∷ c ∷ d ∷ [])
unfolding mandate_in
cells_are a b c d v h =
    let one = bound (number_in a) _ v h in
    let two = bound (number_in b) _ v one.2 in
    let three = bound (moment_in c) _ v two.2 in
    let four = bound (end_in d) _ v three.2 in (
      record { what = record { principal = one.0; agent = two.0 }; since = three.0; until = four.0 },
      cons (sym (number_cell a one.0 one.1)) (cons (sym (number_cell b two.0 two.1)) (cons (sym (moment_cell c three.0 three.1)) (cons (sym (end_cell d four.0 four.1)) refl))),
    )

pub is_reading : IsReading table.mandate 2 mandate_cells mandate_in what
is_reading = record { reads = reads; found = λ r v h. cells_are (column r 1) (column r 2) (column r 3) (column r 4) v h }

-- how a mandate is laid out in cells
abbrev pub row_of : Mandate → MandateRow
row_of n = record { principal = n.principal; agent = n.agent }

-- a mandate within its limits decodes to itself
pub what_is : (n : Mandate) → fits_mandate n ≡ true → what (row_of n) ≡ Ok n
what_is n fits =
    let parts = and_parts (is_number n.principal) (is_number n.agent) fits in
    rw (number_reads n.principal parts.0, number_reads n.agent parts.1) refl

-- ---- the cells of a mandate determine it

-- a mandate decodes to itself
pub agree : (mandate : Mandate) (c : MandateRow) (x : Mandate) → what c ≡ Ok x → is_same_mandate x mandate ≡ is_mandate mandate.principal mandate.agent c
agree mandate c x h =
    let one = bound (number_in (whole c.principal)) _ x h in
    let two = bound (number_in (whole c.agent)) _ x one.2 in
    let is = same_ok two.2 in
    let principal : c.principal ≡ x.principal = same_number c.principal one.0 one.1 ∙ ap (λ (e : Mandate). e.principal) is in
    let agent : c.agent ≡ x.agent = same_number c.agent two.0 two.1 ∙ ap (λ (e : Mandate). e.agent) is in
    both_same (nat_cmp x.principal mandate.principal) (nat_cmp x.agent mandate.agent) ∙ ap₂ ◌&&◌ (same_parties x.principal mandate.principal) (same_parties x.agent mandate.agent)
    ∙ sym (ap₂ (λ p a. (p == mandate.principal) && (a == mandate.agent)) principal agent)
