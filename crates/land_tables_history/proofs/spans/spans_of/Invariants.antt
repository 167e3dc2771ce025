use Rattle.std.proofs.Common.{◌≡◌, take, map as map_list}
use Rattle.land_tables_history.specs.Spans.{span_of}
use Rattle.land_tables_history.proofs.spans.spans_of.Given as goal

-- each version of the prefix has its lifespan
abbrev pub invariant-loop-version : goal.invariant-loop-version
invariant-loop-version g l = l.spans.items ≡ map_list (span_of g.X.Keyed.key_of) (take l.version-index l.versions)
