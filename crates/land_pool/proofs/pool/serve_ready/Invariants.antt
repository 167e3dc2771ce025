use Rattle.std.proofs.Common.{◌≡◌, length}
use Rattle.slab.specs.Slab.{get}
use Rattle.land_keep.specs.Keepers.{Represents}
use Rattle.land_pool.specs.OpenConnections.{ServesOn}
use Rattle.land_pool.proofs.pool.serve_ready.Given as goal

-- The turns until now continue the run.
abbrev pub invariant-loop-turn : goal.invariant-loop-turn
invariant-loop-turn g l =
    (length l.headers ≡ length l.initial.headers)
    × (g.K.Keeper.honest l.keeper → ServesOn g.L.Reader.Read.remaining g.L.Writer.Write.contents g.L.ConnectionSource.fresh g.C.Clock.reads
    (Represents g.K.Keeper l.initial.keeper l.initial.clock) (Represents g.K.Keeper l.keeper l.clock) (get l.initial.pool) (get l.pool)
    (g.L.ConnectionSource.ended l.initial.source) (g.L.ConnectionSource.ended l.source))
    × (g.K.Keeper.honest l.keeper → g.K.Keeper.honest l.initial.keeper)
    × (g.L.ConnectionSource.coming l.source ≡ g.L.ConnectionSource.coming l.initial.source)
