use Rattle.std.proofs.Common.{◌≡◌, true, subst}
use Rattle.land_acts.proofs.Fitting.{contents_fit}
use Rattle.land_acts.specs.Outcome.{HasNoRefusal, has_room_for}
use Rattle.land_core.specs.declared.act.Act.{Act}
use Rattle.land_acts.proofs.plan.plan_of.Goals as goal

pub approval_plan-requires : goal.approval_plan-requires
approval_plan-requires c =
    contents_fit c.args.slice.now c.args.caller c.in-Approve.it
    (subst (λ (a : Act). has_room_for c.args.slice.now a ≡ true) c.in-Approve.is c.requires.room)
    (subst (λ (a : Act). HasNoRefusal c.args.slice.now c.args.caller a) c.in-Approve.is c.requires.unrefused)
