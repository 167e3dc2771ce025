use Rattle.std.proofs.Common.{◌≡◌, ◌++◌, drop, map}
use Rattle.json.specs.Tree.{items_tokens}
use Rattle.land_wire_json.specs.Texts.Values.{number_data}
use Rattle.serde_json.specs.View.{items_of}
use Rattle.serde_json.specs.Written.{items_outline}
use Rattle.land_wire_json.proofs.texts.members.write_numbers.Given as goal

-- the tokens written, and the tokens that follow
abbrev pub invariant-loop-number : goal.invariant-loop-number
invariant-loop-number l = record {
  told : l.out.tokens ++ items_tokens (items_outline (items_of (map number_data (drop l.number-index l.numbers))))
      ≡ l.initial.out.tokens ++ items_tokens (items_outline (items_of (map number_data l.numbers)));
  before : l.out.before ≡ l.fn.out.before;
}
