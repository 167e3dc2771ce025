use Rattle.std.proofs.Common.{◌≡◌, map, take, string_bytes}
use Rattle.land_sheet.proofs.rows.write_texts.Given as goal

-- the bytes of the previous texts
abbrev pub invariant-loop-field : goal.invariant-loop-field
invariant-loop-field g l = map (λ field. field.now) l.lent.items ≡ map string_bytes (take l.field-index l.fields)
