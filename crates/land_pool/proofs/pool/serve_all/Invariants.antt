use Rattle.std.proofs.Common.{◌≡◌, ◌≤◌, false, length}
use Rattle.slab.specs.Slab.{get}
use Rattle.land_keep.specs.Keepers.{Represents, state_of}
use Rattle.land_pool.proofs.Rounds.{IsRound}
use Rattle.land_wire.specs.Framing.Stream.{field_room}
use Rattle.land_pool.proofs.pool.serve_all.Given as goal

-- The rounds until now are one run, and the store is open.
abbrev pub invariant-loop-round : goal.invariant-loop-round
invariant-loop-round g l =
    (field_room ≤ length l.headers)
    × (g.K.Keeper.closed l.keeper ≡ false)
    × (g.K.Keeper.honest l.keeper → IsRound g.L.Reader.Read.remaining g.L.Writer.Write.contents g.L.ConnectionSource.fresh g.C.Clock.reads
    (state_of g.K.Keeper l.initial.keeper l.initial.clock) (Represents g.K.Keeper l.keeper l.clock) (get l.pool)
    (g.L.ConnectionSource.coming l.initial.source) (g.L.ConnectionSource.coming l.source)
    (g.L.ConnectionSource.ended l.initial.source) (g.L.ConnectionSource.ended l.source) l.accepted)
    × (g.K.Keeper.honest l.keeper → g.K.Keeper.honest l.initial.keeper)
    × (l.accepted ≤ l.connections)
