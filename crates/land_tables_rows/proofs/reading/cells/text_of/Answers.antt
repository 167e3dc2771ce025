use Rattle.std.proofs.Common.{◌≡◌, ℕ, Bool, true, false, List, Ok, Err, Result, if◌then◌else◌, refl, sym}
use Rattle.std.proofs.lemmas.Str.{is_utf8-from_IsUtf8, IsUtf8-from_is_utf8}
use Rattle.std.specs.Str.{is_utf8}
use Rattle.land_wire_json.specs.declared.bodies.wire_fault.WireFault.{WireFault}
use Rattle.land_wire_json.specs.declared.bodies.wire_fault.WireFault.TheVariants as fault
use Rattle.land_tables_rows.proofs.reading.cells.text_of.Goals as goal

no_text : (bytes : List ℕ) (is_text : Bool) → (is_text ≡ true → ⊥) → ◌≡◌ {A = Result (List ℕ) WireFault} (if is_text then Ok bytes else Err fault.Text) (Err fault.Text)
no_text bytes true h = absurd (h refl)
no_text bytes false h = refl

pub returns-in-Ok : goal.returns-in-Ok
returns-in-Ok c = let utf8 = is_utf8-from_IsUtf8 _ c.in-Ok.ensures.cases.1 in rw (c.in-Text.is, utf8, c.in-Ok.ensures.cases.0) refl

pub returns-in-Err : goal.returns-in-Err
returns-in-Err c = rw (c.in-Text.is) (sym (no_text c.in-Text.bytes.now (is_utf8 c.in-Text.bytes.now) (λ e. c.in-Err.ensures.cases.0 (IsUtf8-from_is_utf8 _ e))))
