use Rattle.std.proofs.Common.{◌≡◌, ◌≤◌, ◌∙◌, arith, refl, sym, Err}
use Rattle.land_desk.proofs.Turns.{weaken_count, cut_short, served_more, serves_none}
use Rattle.land_desk.specs.Service.{IsServedCount}
use Rattle.land_desk.proofs.service.serving.serve_connections.Goals as goal

pub returns-then-is_closed-clause-served : goal.returns-then-is_closed-clause-served
returns-then-is_closed-clause-served g c trust =
    weaken_count g.C.Clock.reads _ _ _ _ (λ n. n ≡ 0) (λ n. n ≤ c.args.connections) (λ n is. omega (arith, is)) (serves_none g.C.Clock.reads _ _ _ (refl, refl, λ live. refl))

pub loop-served-init : goal.loop-served-init
loop-served-init g c = (sym c.is_closed.ensures ∙ c.if-is_closed.false, (λ trust. serves_none g.C.Clock.reads _ _ _ (refl, refl, λ live. refl)), (λ trust. trust))

pub returns-in-Err-clause-served : goal.returns-in-Err-clause-served
returns-in-Err-clause-served g c trust =
    let was = c.in-Err.ensures.was trust in
    let so = served_more g.C.Clock.reads _ was _ c.loop-served.invariant.0 _ _ _ _ _ _ _ _ _ (c.loop-served.invariant.1 was) (c.in-Err.ensures.served trust) in
    weaken_count g.C.Clock.reads _ _ _ _ _ (λ n. IsServedCount {T = Unit {0}} n c.args.connections (Err c.in-Err.fault))
    (λ n is. cut_short (Unit {0}) c.in-Err.fault c.loop-served._served c.args.connections n c.loop-served-test.true is) so

pub loop-served-preserved : goal.loop-served-preserved
loop-served-preserved g c = (
  c.in-Ok.ensures.closed,
  (λ trust.
      let was = c.in-Ok.ensures.was trust in
      served_more g.C.Clock.reads _ was _ c.loop-served.invariant.0 _ _ _ _ _ _ _ _ _ (c.loop-served.invariant.1 was) (c.in-Ok.ensures.served trust)),
  (λ trust. c.loop-served.invariant.2 (c.in-Ok.ensures.was trust)),
)

pub returns-clause-served : goal.returns-clause-served
returns-clause-served g c trust =
    weaken_count g.C.Clock.reads _ _ _ _ (λ n. n ≡ c.loop-served._served) (λ n. n ≡ c.args.connections) (λ n is. omega (arith, is, c.loop-served-test.false, c.loop-served.auto._served-end)) (c.loop-served.invariant.1 trust)
