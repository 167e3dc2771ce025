use Rattle.std.proofs.Common.{◌≡◌, ◌++◌, take, map as map_list}
use Rattle.land_tables_history.specs.Sweeps.SweepSteps.{span_start, end}
use Rattle.land_tables_history.proofs.sweeps.sweep.all_ticks.Given as goal

abbrev pub invariant-loop-one : goal.invariant-loop-one
invariant-loop-one g l = l.ticks.items ≡ map_list span_start (take l.one-index l.live_spans)

abbrev pub invariant-loop-one-2 : goal.invariant-loop-one-2
invariant-loop-one-2 g l = l.ticks.items ≡ map_list span_start l.live_spans ++ map_list end (take l.one-index l.live_spans)
