use Rattle.std.proofs.Common.{Err, Ok, ◌≡◌, ◌≤◌, ◌+◌, ◌∙◌, ℕ, List, Option, refl, sym, subst, arith}
use Rattle.slab.specs.Slab.{get, slab_len}
use Rattle.land_keep.specs.Keepers.{Represents, state_of}
use Rattle.land_pool.proofs.Rounds.{IsRound, all_ended, first_round, next_round, no_value, none_open, served_at_once}
use Rattle.land_pool.specs.OpenConnections.{AcceptsMore}
use Rattle.land_pool.proofs.Logs.{equal_if}
use Rattle.land_pool.specs.declared.pool.PoolFault.TheVariants.{Accept, Closed}
use Rattle.land_pool.proofs.pool.serve_all.Goals as goal

pub loop-round-init : goal.loop-round-init
loop-round-init g c = (
  c.requires.room,
  c.requires.is_open,
  (λ trust. first_round g.L.Reader.Read.remaining g.L.Writer.Write.contents g.L.ConnectionSource.fresh g.C.Clock.reads _ _ (get c.new-pool.result) (g.L.ConnectionSource.coming c.args.source.now)
      (g.L.ConnectionSource.ended c.args.source.now) (refl, refl, λ live. refl) (no_value c.new-pool.result c.new-pool.ensures.empty)),
  (λ trust. trust),
  omega arith,
)

pub loop-round-preserved : goal.loop-round-preserved
loop-round-preserved g c = (
  omega (arith, c.loop-round.invariant.0, c.serve_ready.ensures.room),
  sym c.is_closed.ensures ∙ c.if-is_closed.false,
  (λ trust.
      let was = c.serve_ready.ensures.was trust in
      let it = c.accept_if_room-accepted.ensures.accepts in
      subst (λ (n : ℕ). IsRound g.L.Reader.Read.remaining g.L.Writer.Write.contents g.L.ConnectionSource.fresh g.C.Clock.reads
      (state_of g.K.Keeper c.args.keeper.now c.args.clock.now)
      (Represents g.K.Keeper c.serve_ready.new.keeper c.serve_ready.new.clock) (get c.serve_ready.new.pool)
      (g.L.ConnectionSource.coming c.args.source.now) (g.L.ConnectionSource.coming c.serve_ready.new.source)
      (g.L.ConnectionSource.ended c.args.source.now) (g.L.ConnectionSource.ended c.serve_ready.new.source) n) (sym it.1)
      (next_round g.L.Reader.Read.remaining g.L.Writer.Write.contents g.L.ConnectionSource.fresh g.C.Clock.reads _ _ _ (get c.loop-round.pool) (get c.accept_if_room-accepted.new.pool) (get c.serve_ready.new.pool)
      (g.L.ConnectionSource.coming c.args.source.now) (g.L.ConnectionSource.coming c.loop-round.source) (g.L.ConnectionSource.coming c.wait.new.self) (g.L.ConnectionSource.coming c.serve_ready.new.source)
      (g.L.ConnectionSource.ended c.args.source.now) (g.L.ConnectionSource.ended c.loop-round.source) (g.L.ConnectionSource.ended c.wait.new.self)
      (g.L.ConnectionSource.ended c.accept_if_room-accepted.new.source) (g.L.ConnectionSource.ended c.serve_ready.new.source)
      c.loop-round.accepted it.0 (sym c.wait.ensures.coming) (sym c.wait.ensures.ended) (c.loop-round.invariant.2 was)
      (subst (λ (o : Option (List (Option (List ℕ)))). AcceptsMore g.L.Reader.Read.remaining g.L.Writer.Write.contents g.L.ConnectionSource.fresh (get c.loop-round.pool) (get c.accept_if_room-accepted.new.pool)
      (g.L.ConnectionSource.coming c.wait.new.self) o (g.L.ConnectionSource.ended c.wait.new.self) (g.L.ConnectionSource.ended c.accept_if_room-accepted.new.source) c.loop-round.accepted it.0)
      (sym c.serve_ready.ensures.coming) it.2)
      (c.serve_ready.ensures.served trust))),
  (λ trust. c.loop-round.invariant.3 (c.serve_ready.ensures.was trust)),
  c.accept_if_room-accepted.ensures.wanted,
)

pub returns-then-is_empty-clause-served : goal.returns-then-is_empty-clause-served
returns-then-is_empty-clause-served g c trust =
    let so = c.loop-round.invariant.2 trust in
    let here : c.loop-round.accepted ≡ c.args.connections = omega (arith, c.loop-round.invariant.4) in
    let empty : slab_len c.loop-round.pool ≡ 0 = equal_if (slab_len c.loop-round.pool) 0 (sym c.is_empty.ensures ∙ c.if-is_empty.true) in
    served_at_once g.L.Reader.Read.remaining g.L.Writer.Write.contents g.L.ConnectionSource.fresh g.C.Clock.reads (state_of g.K.Keeper c.args.keeper.now c.args.clock.now) {T = Unit {0}}
    (Represents g.K.Keeper c.loop-round.keeper c.loop-round.clock) (get c.loop-round.pool) (g.L.ConnectionSource.coming c.args.source.now)
    (g.L.ConnectionSource.coming c.loop-round.source) (g.L.ConnectionSource.coming c.loop-round.source)
    (g.L.ConnectionSource.ended c.args.source.now) (g.L.ConnectionSource.ended c.loop-round.source) (g.L.ConnectionSource.ended c.loop-round.source)
    c.loop-round.accepted c.args.connections (Ok tt) refl refl so (
      so.2 ∙ here,
      all_ended g.L.Reader.Read.remaining g.L.Writer.Write.contents g.L.ConnectionSource.fresh g.C.Clock.reads (state_of g.K.Keeper c.args.keeper.now c.args.clock.now)
          (Represents g.K.Keeper c.loop-round.keeper c.loop-round.clock) (get c.loop-round.pool) so.0 so.1 so.5 (none_open c.loop-round.pool empty),
    )

pub returns-then-is_err-clause-served : goal.returns-then-is_err-clause-served
returns-then-is_err-clause-served g c trust =
    let so = c.loop-round.invariant.2 trust in
    served_at_once g.L.Reader.Read.remaining g.L.Writer.Write.contents g.L.ConnectionSource.fresh g.C.Clock.reads (state_of g.K.Keeper c.args.keeper.now c.args.clock.now) {T = Unit {0}}
    (Represents g.K.Keeper c.loop-round.keeper c.loop-round.clock) (get c.loop-round.pool) (g.L.ConnectionSource.coming c.args.source.now)
    (g.L.ConnectionSource.coming c.loop-round.source) (g.L.ConnectionSource.coming c.wait.new.self)
    (g.L.ConnectionSource.ended c.args.source.now) (g.L.ConnectionSource.ended c.loop-round.source) (g.L.ConnectionSource.ended c.wait.new.self)
    c.loop-round.accepted c.args.connections (Err Accept) (sym c.wait.ensures.coming) (sym c.wait.ensures.ended) so (omega (arith, so.2, c.loop-round.invariant.4))

pub returns-then-is_closed-clause-served : goal.returns-then-is_closed-clause-served
returns-then-is_closed-clause-served g c trust =
    let was = c.serve_ready.ensures.was trust in
    let it = c.accept_if_room-accepted.ensures.accepts in
    let so =
    next_round g.L.Reader.Read.remaining g.L.Writer.Write.contents g.L.ConnectionSource.fresh g.C.Clock.reads (state_of g.K.Keeper c.args.keeper.now c.args.clock.now) _ _
    (get c.loop-round.pool) (get c.accept_if_room-accepted.new.pool) (get c.serve_ready.new.pool)
    (g.L.ConnectionSource.coming c.args.source.now) (g.L.ConnectionSource.coming c.loop-round.source) (g.L.ConnectionSource.coming c.wait.new.self) (g.L.ConnectionSource.coming c.serve_ready.new.source)
    (g.L.ConnectionSource.ended c.args.source.now) (g.L.ConnectionSource.ended c.loop-round.source) (g.L.ConnectionSource.ended c.wait.new.self)
    (g.L.ConnectionSource.ended c.accept_if_room-accepted.new.source) (g.L.ConnectionSource.ended c.serve_ready.new.source)
    c.loop-round.accepted it.0 (sym c.wait.ensures.coming) (sym c.wait.ensures.ended) (c.loop-round.invariant.2 was)
    (subst (λ (o : Option (List (Option (List ℕ)))). AcceptsMore g.L.Reader.Read.remaining g.L.Writer.Write.contents g.L.ConnectionSource.fresh (get c.loop-round.pool) (get c.accept_if_room-accepted.new.pool)
    (g.L.ConnectionSource.coming c.wait.new.self) o (g.L.ConnectionSource.ended c.wait.new.self) (g.L.ConnectionSource.ended c.accept_if_room-accepted.new.source) c.loop-round.accepted it.0)
    (sym c.serve_ready.ensures.coming) it.2)
    (c.serve_ready.ensures.served trust) in
    served_at_once g.L.Reader.Read.remaining g.L.Writer.Write.contents g.L.ConnectionSource.fresh g.C.Clock.reads (state_of g.K.Keeper c.args.keeper.now c.args.clock.now) {T = Unit {0}}
    (Represents g.K.Keeper c.serve_ready.new.keeper c.serve_ready.new.clock) (get c.serve_ready.new.pool) (g.L.ConnectionSource.coming c.args.source.now)
    (g.L.ConnectionSource.coming c.serve_ready.new.source) (g.L.ConnectionSource.coming c.serve_ready.new.source)
    (g.L.ConnectionSource.ended c.args.source.now) (g.L.ConnectionSource.ended c.serve_ready.new.source) (g.L.ConnectionSource.ended c.serve_ready.new.source)
    (c.loop-round.accepted + it.0) c.args.connections (Err Closed) refl refl so (omega (arith, so.2, it.1, c.accept_if_room-accepted.ensures.wanted))

pub returns-then-is_closed-clause-was : goal.returns-then-is_closed-clause-was
returns-then-is_closed-clause-was g c trust = c.loop-round.invariant.3 (c.serve_ready.ensures.was trust)

pub returns-clause-served : goal.returns-clause-served
returns-clause-served g c trust =
    let so = c.loop-round.invariant.2 trust in
    served_at_once g.L.Reader.Read.remaining g.L.Writer.Write.contents g.L.ConnectionSource.fresh g.C.Clock.reads (state_of g.K.Keeper c.args.keeper.now c.args.clock.now) {T = Unit {0}}
    (Represents g.K.Keeper c.loop-round.keeper c.loop-round.clock) (get c.loop-round.pool) (g.L.ConnectionSource.coming c.args.source.now)
    (g.L.ConnectionSource.coming c.loop-round.source) (g.L.ConnectionSource.coming c.loop-round.source)
    (g.L.ConnectionSource.ended c.args.source.now) (g.L.ConnectionSource.ended c.loop-round.source) (g.L.ConnectionSource.ended c.loop-round.source)
    c.loop-round.accepted c.args.connections (Err Accept) refl refl so (omega (arith, so.2, c.loop-round.invariant.4))
