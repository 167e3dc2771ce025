use Rattle.std.proofs.Common.{◌≡◌}
use Rattle.land_core.proofs.References.{is_reused_in}
use Rattle.land_core.specs.Soundness.{has_reused_reference}
use Rattle.land_core.proofs.soundness.mutations.has_reused_reference.Given as goal

-- a reference is reused if a remaining one was already seen, or occurs twice among the remaining ones
abbrev pub invariant-loop-mutation : goal.invariant-loop-mutation
invariant-loop-mutation l = is_reused_in l.met l.mutation-iterator ≡ has_reused_reference l.register
