use Rattle.std.proofs.Common.{◌≡◌, ◌++◌, map}
use Rattle.std.specs.Prelude.{filter}
use Rattle.land_core.specs.Entries.{numbers_where}
use Rattle.land_rules.specs.Rules.{sees}
use Rattle.land_rules.proofs.rules.seen_among.Given as goal

-- the list, and the visible objects that have not been read yet, are the complete list
abbrev pub invariant-loop-number : goal.invariant-loop-number
invariant-loop-number g l = l.seen ++ map (λ e. e.0) (filter (λ e. sees l.at l.caller l.kind e.0) l.number-iterator) ≡ numbers_where (λ n x. sees l.at l.caller l.kind n) l.records
