use Rattle.std.proofs.Common.{refl}
use Rattle.land_keep.specs.Keepers.{Represents, state_of}
use Rattle.land_pool.proofs.Rounds.{nothing_served}
use Rattle.land_pool.specs.declared.pool.PoolFault.TheVariants.{Closed, NoMemory}
use Rattle.land_pool.proofs.pool.serve_at_once.Goals as goal

pub returns-then-is_closed-clause-served : goal.returns-then-is_closed-clause-served
returns-then-is_closed-clause-served g c trust =
    nothing_served g.L.Reader.Read.remaining g.L.Writer.Write.contents g.L.ConnectionSource.fresh g.C.Clock.reads (state_of g.K.Keeper c.args.keeper.now c.args.clock.now) (Unit {0})
    (Represents g.K.Keeper c.args.keeper.now c.args.clock.now) (g.L.ConnectionSource.coming c.args.source.now) (g.L.ConnectionSource.ended c.args.source.now)
    c.args.connections Closed (refl, refl, λ live. refl)

pub returns-in_default-clause-served : goal.returns-in_default-clause-served
returns-in_default-clause-served g c trust =
    nothing_served g.L.Reader.Read.remaining g.L.Writer.Write.contents g.L.ConnectionSource.fresh g.C.Clock.reads (state_of g.K.Keeper c.args.keeper.now c.args.clock.now) (Unit {0})
    (Represents g.K.Keeper c.args.keeper.now c.args.clock.now) (g.L.ConnectionSource.coming c.args.source.now) (g.L.ConnectionSource.ended c.args.source.now)
    c.args.connections NoMemory (refl, refl, λ live. refl)

pub returns-in_default-vec-clause-served : goal.returns-in_default-vec-clause-served
returns-in_default-vec-clause-served g c trust =
    nothing_served g.L.Reader.Read.remaining g.L.Writer.Write.contents g.L.ConnectionSource.fresh g.C.Clock.reads (state_of g.K.Keeper c.args.keeper.now c.args.clock.now) (Unit {0})
    (Represents g.K.Keeper c.args.keeper.now c.args.clock.now) (g.L.ConnectionSource.coming c.args.source.now) (g.L.ConnectionSource.ended c.args.source.now)
    c.args.connections NoMemory (refl, refl, λ live. refl)
