use Rattle.std.proofs.Common.{◌∙◌, refl, subst, sym}
use Rattle.slab.specs.Slab.{get}
use Rattle.land_keep.specs.Keepers.{Represents}
use Rattle.land_pool.specs.OpenConnections.{ServesOn}
use Rattle.land_pool.proofs.Rounds.{serves_on, serves_on_more}
use Rattle.land_pool.proofs.pool.serve_ready.Goals as goal

pub loop-turn-init : goal.loop-turn-init
loop-turn-init g c = (
  refl,
  (λ trust. serves_on g.L.Reader.Read.remaining g.L.Writer.Write.contents g.L.ConnectionSource.fresh g.C.Clock.reads _ (get c.args.pool.now) (g.L.ConnectionSource.ended c.args.source.now)),
  (λ trust. trust),
  refl,
)

pub loop-turn-preserved : goal.loop-turn-preserved
loop-turn-preserved g c = (
  c.serve_key.ensures.room ∙ c.loop-turn.invariant.0,
  (λ trust. serves_on_more g.L.Reader.Read.remaining g.L.Writer.Write.contents g.L.ConnectionSource.fresh g.C.Clock.reads _ _ _ (get c.args.pool.now) (get c.loop-turn.pool) (get c.serve_key.new.pool)
      (g.L.ConnectionSource.ended c.args.source.now) (g.L.ConnectionSource.ended c.loop-turn.source) (g.L.ConnectionSource.ended c.next_ready.new.self) (g.L.ConnectionSource.ended c.serve_key.new.source)
      c.next_ready.ensures.ended
      (c.loop-turn.invariant.1 (c.serve_key.ensures.was trust)) (c.serve_key.ensures.served trust)),
  (λ trust. c.loop-turn.invariant.2 (c.serve_key.ensures.was trust)),
  c.serve_key.ensures.coming ∙ c.next_ready.ensures.coming ∙ c.loop-turn.invariant.3,
)

pub returns-in-None-clause-served : goal.returns-in-None-clause-served
returns-in-None-clause-served g c trust =
    subst (λ o. ServesOn g.L.Reader.Read.remaining g.L.Writer.Write.contents g.L.ConnectionSource.fresh g.C.Clock.reads
    (Represents g.K.Keeper c.args.keeper.now c.args.clock.now) (Represents g.K.Keeper c.loop-turn.keeper c.loop-turn.clock) (get c.args.pool.now) (get c.loop-turn.pool)
    (g.L.ConnectionSource.ended c.args.source.now) o) (sym c.next_ready.ensures.ended) (c.loop-turn.invariant.1 trust)
