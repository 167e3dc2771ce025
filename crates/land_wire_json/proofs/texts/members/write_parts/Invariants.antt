use Rattle.std.proofs.Common.{◌≡◌, ◌++◌, drop, map}
use Rattle.json.specs.Tree.{items_tokens}
use Rattle.land_wire_json.specs.Texts.Subdivisions.{part_data}
use Rattle.serde_json.specs.View.{items_of}
use Rattle.serde_json.specs.Written.{items_outline}
use Rattle.land_wire_json.proofs.texts.members.write_parts.Given as goal

-- the tokens written, and the tokens that follow
abbrev pub invariant-loop-part : goal.invariant-loop-part
invariant-loop-part l = record {
  told : l.out.tokens ++ items_tokens (items_outline (items_of (map part_data (drop l.part-index l.parts))))
      ≡ l.initial.out.tokens ++ items_tokens (items_outline (items_of (map part_data l.parts)));
  before : l.out.before ≡ l.fn.out.before;
}
