-- Records of three cells, the first of them their number, decode to the written value.
use Rattle.std.proofs.Common.{◌≡◌, ◌==◌, ℕ, ℤ, [], ◌∷◌, ◌++◌, nat_eq, Ok, Result, refl, sym, ap, ◌∙◌}
use Rattle.land_tables_history.specs.declared.version.Version.{Version}
use Rattle.land_tables_rows.proofs.Bounds.{bound, same_ok, three}
use Rattle.land_tables_rows.proofs.Lives.{IsReading, lived}
use Rattle.land_tables_rows.proofs.WrittenCells.{cons, end_cell, moment_cell, number_cell, same_number, same_test}
use Rattle.land_tables_rows.specs.Reading.Cells.{end_in, moment_in, number_in}
use Rattle.land_tables_schema.specs.Rows.Versions as rows
use Rattle.land_tables_schema.specs.Rows.Versions.{whole}
use Rattle.land_wire_json.specs.Bodies.WireFaults.{◌>>=◌}
use Rattle.land_wire_json.specs.declared.bodies.wire_fault.WireFault.{WireFault}
use Rattle.sqlite_schema.specs.declared.schema.Table.{Table}
use Rattle.sqlite_value.specs.Order.{Row, column}
use Rattle.sqlite_value.specs.declared.value.Value.{Value}
use Rattle.sqlite_value.specs.declared.value.Value.TheVariants.{Int}

-- how such a record is laid out, how its second and third cells decode, and how the two values combine
module _ {C A B R : Type 0} (number : C → ℕ) (second third : C → Value) (second_in : Value → Result A WireFault) (third_in : Value → Result B WireFault) (made : A → B → R) where
  abbrev cells : C → Row
  cells c = whole (number c) ∷ second c ∷ third c ∷ []

  abbrev what : C → Result (ℕ × R) WireFault
  what c = number_in (whole (number c)) >>= λ n. second_in (second c) >>= λ a. third_in (third c) >>= λ b. Ok (n, made a b)

  abbrev said : Row → Result (Version (ℕ × R)) WireFault
  said row =
      number_in (column row 0) >>= λ n. second_in (column row 1) >>= λ a. third_in (column row 2)
      >>= λ b. moment_in (column row 3) >>= λ s. end_in (column row 4) >>= λ u. Ok (record { what = (n, made a b); since = s; until = u })

  -- cells that decode were laid out from a record
  abbrev pub AreFound : Type 0
  AreFound = (n : ℕ) (x y : Value) (a : A) (b : B) → second_in x ≡ Ok a → third_in y ≡ Ok b
      → (c : C) × (number c ≡ n) × (second c ≡ x) × (third c ≡ y)

  reads : (c : C) (since until : ℤ) → said (cells c ++ Int since ∷ Int until ∷ []) ≡ (what c >>= λ it. lived it since until)
  reads c since until =
      three (number_in (whole (number c))) (second_in (second c)) (third_in (third c)) (λ n a b. (n, made a b)) (λ it. lived it since until)

  cells_are : AreFound → (a b c d e : Value) (v : Version (ℕ × R)) → said (a ∷ b ∷ c ∷ d ∷ e ∷ []) ≡ Ok v
      → (p : rows.Version C) × (cells p.what ++ Int p.since ∷ Int p.until ∷ [] ≡ a ∷ b ∷ c ∷ d ∷ e ∷ [])
  cells_are found a b c d e v h =
      let one = bound (number_in a) _ v h in
      let two = bound (second_in b) _ v one.2 in
      let three = bound (third_in c) _ v two.2 in
      let four = bound (moment_in d) _ v three.2 in
      let five = bound (end_in e) _ v four.2 in
      let it = found one.0 b c two.0 three.0 two.1 three.1 in (
        record { what = it.0; since = four.0; until = five.0 },
        cons (ap whole it.1 ∙ sym (number_cell a one.0 one.1)) (cons it.2 (cons it.3 (cons (sym (moment_cell d four.0 four.1)) (cons (sym (end_cell e five.0 five.1)) refl)))),
      )

  pub numbered_reading : (table : Table) → AreFound → IsReading table 3 cells said what
  numbered_reading table found =
      record { reads = reads; found = λ r v h. cells_are found (column r 1) (column r 2) (column r 3) (column r 4) (column r 5) v h }

  -- the number decodes to itself
  pub numbers_agree : (n : ℕ) (c : C) (x : ℕ × R) → what c ≡ Ok x → nat_eq x.0 n ≡ (number c == n)
  numbers_agree n c x h =
      let one = bound (number_in (whole (number c))) _ x h in
      let two = bound (second_in (second c)) _ x one.2 in
      let three = bound (third_in (third c)) _ x two.2 in
      let is : (one.0, made two.0 three.0) ≡ x = same_ok three.2 in
      same_test (number c) x.0 n (same_number (number c) one.0 one.1 ∙ ap (λ (e : ℕ × R). e.0) is)
