use Rattle.std.proofs.Common.{◌≡◌, false}
use Rattle.land_desk.specs.Service.{ServesUpTo}
use Rattle.land_keep.specs.Keeping.{IsStateOf}
use Rattle.land_desk.proofs.service.serving.serve_connections.Given as goal

-- the store is open, and as many connections were served as were counted
abbrev pub invariant-loop-served : goal.invariant-loop-served
invariant-loop-served g l =
    (g.K.Keeper.closed l.keeper ≡ false)
    × (g.K.Keeper.honest l.keeper → ServesUpTo g.C.Clock.reads
    (record { closed = g.K.Keeper.closed l.initial.keeper; timeline = g.K.Keeper.timeline l.initial.keeper; clock = l.initial.clock })
    (IsStateOf (g.K.Keeper.honest l.keeper) (g.K.Keeper.closed l.keeper) (g.K.Keeper.timeline l.keeper) l.clock)
    (g.L.Connections.coming l.initial.listener) (g.L.Connections.coming l.listener) (λ n. n ≡ l._served))
    × (g.K.Keeper.honest l.keeper → g.K.Keeper.honest l.initial.keeper)
