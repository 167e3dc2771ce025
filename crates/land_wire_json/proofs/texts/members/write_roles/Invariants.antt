use Rattle.std.proofs.Common.{◌≡◌, ◌++◌, drop, map}
use Rattle.json.specs.Tree.{items_tokens}
use Rattle.land_wire_json.specs.Texts.Parties.{role_data}
use Rattle.serde_json.specs.View.{items_of}
use Rattle.serde_json.specs.Written.{items_outline}
use Rattle.land_wire_json.proofs.texts.members.write_roles.Given as goal

-- the tokens written, and the tokens that follow
abbrev pub invariant-loop-role : goal.invariant-loop-role
invariant-loop-role l = record {
  told : l.out.tokens ++ items_tokens (items_outline (items_of (map role_data (drop l.role-index l.roles))))
      ≡ l.initial.out.tokens ++ items_tokens (items_outline (items_of (map role_data l.roles)));
  before : l.out.before ≡ l.fn.out.before;
}
