use Rattle.std.proofs.Common.{◌≡◌, ◌≤◌, ◌-◌, ◌++◌, take, drop}
use Rattle.land_shape.specs.Tokens.{tokens_after, tokens_of}
use Rattle.land_shape.proofs.tokens.tokens_of.Given as goal

abbrev pub invariant-loop-i : goal.invariant-loop-i
invariant-loop-i l = record {
  begun : l.start ≤ l.i;
  so_far : l.tokens.items ++ tokens_after (take (l.i - l.start) (drop l.start l.bytes)) (drop l.i l.bytes) ≡ tokens_of l.bytes;
}
