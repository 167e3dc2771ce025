use Rattle.std.proofs.Common.{◌≡◌, ℕ, List, Bool, true, false, Err, refl, None, if◌then◌else◌}
use Rattle.std.specs.Str.{is_utf8}
use Rattle.std.proofs.lemmas.Str.{is_utf8-from_IsUtf8, IsUtf8-from_is_utf8}
use Rattle.land_wire_json.specs.Bodies.WireFaults.{or_fault}
use Rattle.land_wire_json.specs.declared.bodies.wire_fault.WireFault.TheVariants as fault
use Rattle.serde_json.specs.Read.{read}
use Rattle.land_wire_json.proofs.bodies.fields.read_value.Goals as goal

no_value : (bytes : List ℕ) (is_text : Bool) → (is_text ≡ true → read bytes ≡ None) → or_fault (if is_text then read bytes else None) fault.Json ≡ Err fault.Json
no_value bytes true h = rw (h refl) refl
no_value bytes false h = refl

pub returns-in-Ok : goal.returns-in-Ok
returns-in-Ok c =
    let utf8 = is_utf8-from_IsUtf8 _ c.in-Ok.ensures.ok.0 in
    rw (utf8, c.in-Ok.ensures.ok.1) refl

pub returns-else-is_memory : goal.returns-else-is_memory
returns-else-is_memory c no_memory =
    no_value c.args.bytes.now (is_utf8 c.args.bytes.now) (λ e. c.in-Err.ensures.err (λ m. let no = c.if-is_memory.ensures.1 m in cc) (IsUtf8-from_is_utf8 _ e))
