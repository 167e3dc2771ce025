use Rattle.std.proofs.Common.{◌≡◌, [], drop}
use Rattle.land_tables_history.specs.Sweeps.SweepSteps.{sound_from}
use Rattle.land_tables_history.proofs.sweeps.sweep.are_sound_in_order.Given as goal

-- the current values, and those that start later, are checked at the remaining ticks
abbrev pub invariant-loop-tick : goal.invariant-loop-tick
invariant-loop-tick g l = sound_from g.T.SweepItem.is_sound l.there.items l.later (drop l.tick-index l.ticks) ≡ sound_from g.T.SweepItem.is_sound [] l.live_spans l.ticks
