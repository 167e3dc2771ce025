use Rattle.std.proofs.Common.{◌≡◌, ◌++◌}
use Rattle.std.specs.Prelude.{map as map_list}
use Rattle.land_select.specs.Slices.Named.{sources_of}
use Rattle.land_select.proofs.slices.named.sources_of.Given as goal

-- the list at this point, followed by the sources of the remaining mutations
abbrev pub invariant-loop-mutation : goal.invariant-loop-mutation
invariant-loop-mutation l = l.sources ++ map_list (λ e. e.1.source) l.mutation-iterator ≡ sources_of l.mutations
