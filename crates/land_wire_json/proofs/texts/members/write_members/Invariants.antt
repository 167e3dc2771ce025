use Rattle.std.proofs.Common.{◌≡◌, ◌++◌, drop, map}
use Rattle.json.specs.Tree.{items_tokens}
use Rattle.land_wire_json.specs.Texts.Parties.{member_data}
use Rattle.serde_json.specs.View.{items_of}
use Rattle.serde_json.specs.Written.{items_outline}
use Rattle.land_wire_json.proofs.texts.members.write_members.Given as goal

-- the tokens written, and the tokens that follow
abbrev pub invariant-loop-member : goal.invariant-loop-member
invariant-loop-member l = record {
  told : l.out.tokens ++ items_tokens (items_outline (items_of (map member_data (drop l.member-index l.members))))
      ≡ l.initial.out.tokens ++ items_tokens (items_outline (items_of (map member_data l.members)));
  before : l.out.before ≡ l.fn.out.before;
}
