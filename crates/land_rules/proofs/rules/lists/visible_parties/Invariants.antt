use Rattle.std.proofs.Common.{◌≡◌, ◌++◌, map}
use Rattle.std.specs.Prelude.{filter}
use Rattle.land_core.specs.declared.kind.Kind.TheVariants as kind
use Rattle.land_rules.specs.Rules.{seen_of, sees}
use Rattle.land_rules.proofs.rules.lists.visible_parties.Given as goal

-- the list, and the visible parties that have not been read yet, are the complete list
abbrev pub invariant-loop-number : goal.invariant-loop-number
invariant-loop-number l = l.seen ++ map (λ e. e.0) (filter (λ e. sees l.at l.caller kind.Party e.0) l.number-iterator) ≡ seen_of l.at l.caller kind.Party
