use Rattle.std.proofs.Common.{◌≡◌, ◌++◌, drop}
use Rattle.land_wire_json.specs.Texts.Fields.{fields_tokens}
use Rattle.land_wire_json.proofs.texts.fields.write_fields.Given as goal

-- the fields written, and the fields that follow
abbrev pub invariant-loop-field : goal.invariant-loop-field
invariant-loop-field l = record {
  told : l.out.tokens ++ fields_tokens (drop l.field-index l.fields) ≡ l.fn.out.tokens ++ fields_tokens l.fields;
  before : l.out.before ≡ l.fn.out.before;
}
