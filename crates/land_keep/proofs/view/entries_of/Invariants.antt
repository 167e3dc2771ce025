use Rattle.std.proofs.Common.{◌≡◌, ◌++◌, ◌&&◌}
use Rattle.std.specs.Prelude.{filter, nat_eq, map as map_list}
use Rattle.land_core.specs.declared.kind.Kind.TheVariants as kind
use Rattle.land_keep.specs.Sheets.{visible_entries, named_rrr}
use Rattle.land_rules.specs.Rules.{sees}
use Rattle.land_keep.proofs.view.entries_of.Given as goal

-- the entries collected, followed by the remaining ones, are the result
abbrev pub invariant-loop-number : goal.invariant-loop-number
invariant-loop-number l =
    l.entries ++ map_list (λ e. named_rrr l.register e.0 e.1) (filter (λ e. nat_eq e.1.unit l.unit && sees l.register l.caller kind.Rrr e.0) l.number-iterator)
    ≡ visible_entries l.register l.caller l.unit
