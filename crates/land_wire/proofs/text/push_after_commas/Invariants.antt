use Rattle.std.proofs.Common.{◌≡◌, ◌++◌, decimal, drop, map}
use Rattle.std.specs.Prelude.{string_bytes}
use Rattle.land_wire_json.specs.Texts.Values.{after_comma}
use Rattle.land_wire.proofs.text.push_after_commas.Given as goal

-- the numbers written, and the numbers that follow
abbrev pub invariant-loop-number : goal.invariant-loop-number
invariant-loop-number l =
    string_bytes l.text ++ after_comma (map decimal (drop l.number-index l.numbers)) ≡ string_bytes l.fn.text ++ after_comma (map decimal l.numbers)
