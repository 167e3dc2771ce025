use Rattle.std.proofs.Common.{refl}
use Rattle.land_desk.proofs.Turns.{next_served, none_served}
use Rattle.land_desk.proofs.service.serving.serve_next.Goals as goal

pub returns-in_default-clause-served : goal.returns-in_default-clause-served
returns-in_default-clause-served g c trust = none_served g.C.Clock.reads _ _ _ _ (refl, refl, λ live. refl) c.in_default.ensures

pub returns-then-is_closed-clause-served : goal.returns-then-is_closed-clause-served
returns-then-is_closed-clause-served g c trust =
    next_served g.C.Clock.reads _ trust _ _ _ _ _ _ _ _ c.requires c.in-Ok.ensures c.serve.ensures.served c.serve.ensures.reached

pub returns-clause-served : goal.returns-clause-served
returns-clause-served g c trust =
    next_served g.C.Clock.reads _ trust _ _ _ _ _ _ _ _ c.requires c.in-Ok.ensures c.serve.ensures.served c.serve.ensures.reached
