use Rattle.std.proofs.Common.{◌∙◌, Bool, Err, ap, rules, subst, sym}
use Rattle.std.specs.Prelude.{FitsSigned}
use Rattle.std.specs.Int.{w64}
use Rattle.std.proofs.lemmas.Int.{to_z-of_z}
use Rattle.land_desk.proofs.ExchangeLemmas.{shown_has_moment, stays, steps}
use Rattle.land_keep.proofs.Steps.{fault_element, fault_tells, opens, was_open}
use Rattle.land_keep.specs.Faults.{store_fault_number}
use Rattle.land_keep.specs.Keeping.{Closes, apply_pending}
use Rattle.land_keep.specs.declared.prepared.Prepared.{Prepared}
use Rattle.land_keep.specs.declared.reply.Reply.{Reply}
use Rattle.land_keep.specs.declared.reply.Reply.TheVariants as reply
use Rattle.land_keep.specs.declared.store_fault.StoreFault.TheVariants.{NoMemory}
use Rattle.land_desk.proofs.handler.handle_request.Goals as goal

pub returns-in-Err-clause-reply : goal.returns-in-Err-clause-reply
returns-in-Err-clause-reply g c from at =
    let before = g.K.Keeper.closed c.args.keeper.now in
    let closed = g.K.Keeper.closed c.prepare.new.keeper in
    let closes = c.in-Err.ensures.closes in
    let it = stays g.C.Clock.reads (g.K.Keeper.honest c.args.keeper.now) (g.K.Keeper.honest c.prepare.new.keeper) before closed
    (g.K.Keeper.timeline c.args.keeper.now) (g.K.Keeper.timeline c.prepare.new.keeper) c.args.clock.now c.read-reading.new.self
    c.read-reading.result c.args.request.now c.read-reading.ensures (reply.Store (store_fault_number c.in-Err.fault))
    (λ tl. fault_element Prepared before closed c.read-reading.result c.args.request.now tl c.in-Err.fault closes)
    (fault_tells Prepared before closed c.in-Err.fault closes)
    c.in-Err.ensures.was (was_open Prepared before closed c.in-Err.fault closes) (λ trust is_open. c.in-Err.ensures.same (trust, is_open))
    from at in
    (it.0, (reply.Store (store_fault_number c.in-Err.fault), it.1, c.store_failure.ensures), it.2)

pub returns-in_default-clause-reply : goal.returns-in_default-clause-reply
returns-in_default-clause-reply g c from at =
    let before = g.K.Keeper.closed c.args.keeper.now in
    let closed = g.K.Keeper.closed c.prepare.new.keeper in
    let opened = opens before closed c.in-Ok.prepared c.in-Ok.ensures.closes in
    let unsaid : Closes {T = Prepared} before closed (Err NoMemory) = subst (λ (b : Bool). Closes {T = Prepared} b closed (Err NoMemory)) (sym opened.0) opened.1 in
    let it = stays g.C.Clock.reads (g.K.Keeper.honest c.args.keeper.now) (g.K.Keeper.honest c.prepare.new.keeper) before closed
    (g.K.Keeper.timeline c.args.keeper.now) (g.K.Keeper.timeline c.prepare.new.keeper) c.args.clock.now c.read-reading.new.self
    c.read-reading.result c.args.request.now c.read-reading.ensures (reply.Store 501)
    (λ tl. fault_element Prepared before closed c.read-reading.result c.args.request.now tl NoMemory unsaid)
    (fault_tells Prepared before closed NoMemory unsaid)
    c.in-Ok.ensures.was (λ is_open. opened.0) (λ trust is_open. c.in-Ok.ensures.same (trust, is_open))
    from at in
    (it.0, (reply.Store 501, it.1, c.store_failure-in_default.ensures), it.2)

pub returns-in-Err-finish-clause-reply : goal.returns-in-Err-finish-clause-reply
returns-in-Err-finish-clause-reply g c from at =
    let before = g.K.Keeper.closed c.args.keeper.now in
    let mid = g.K.Keeper.closed c.prepare.new.keeper in
    let closed = g.K.Keeper.closed c.finish.new.keeper in
    let opened = opens before mid c.in-Ok.prepared c.in-Ok.ensures.closes in
    let fault = c.in-Err-finish.fault in
    let closes : Closes {T = Reply} before closed (Err fault) =
    subst (λ (b : Bool). Closes {T = Reply} b closed (Err fault)) (opened.1 ∙ sym opened.0) c.in-Err-finish.ensures.closes in
    let it = stays g.C.Clock.reads (g.K.Keeper.honest c.args.keeper.now) (g.K.Keeper.honest c.finish.new.keeper) before closed
    (g.K.Keeper.timeline c.args.keeper.now) (g.K.Keeper.timeline c.finish.new.keeper) c.args.clock.now c.read-reading.new.self
    c.read-reading.result c.args.request.now c.read-reading.ensures (reply.Store (store_fault_number fault))
    (λ tl. fault_element Reply before closed c.read-reading.result c.args.request.now tl fault closes)
    (fault_tells Reply before closed fault closes)
    (λ trust. c.in-Ok.ensures.was (c.in-Err-finish.ensures.was trust)) (λ is_open. opened.0)
    (λ trust is_open. c.in-Err-finish.ensures.err (trust, is_open) ∙ c.in-Ok.ensures.same (c.in-Err-finish.ensures.was trust, opened.1))
    from at in
    (it.0, (reply.Store (store_fault_number fault), it.1, c.store_failure-in-Err-finish.ensures), it.2)

pub returns-in-Ok-finish-clause-reply : goal.returns-in-Ok-finish-clause-reply
returns-in-Ok-finish-clause-reply g c from at =
    let before = g.K.Keeper.closed c.args.keeper.now in
    let mid = g.K.Keeper.closed c.prepare.new.keeper in
    let closed = g.K.Keeper.closed c.finish.new.keeper in
    let opened = opens before mid c.in-Ok.prepared c.in-Ok.ensures.closes in
    let is_open = opens mid closed _ c.in-Ok-finish.ensures.closes in
    let fit : FitsSigned w64 c.read-reading.result = search rules in
    let it = steps g.C.Clock.reads (g.K.Keeper.honest c.args.keeper.now) (g.K.Keeper.honest c.finish.new.keeper) before closed
    (g.K.Keeper.timeline c.args.keeper.now) (g.K.Keeper.timeline c.finish.new.keeper) c.args.clock.now c.read-reading.new.self
    c.read-reading.result c.args.request.now c.read-reading.ensures c.in-Ok.prepared opened.0 is_open.1
    (λ trust. c.in-Ok.ensures.was (c.in-Ok-finish.ensures.was trust))
    (λ trust. simp to_z-of_z at (c.in-Ok.ensures.prepared (c.in-Ok-finish.ensures.was trust)))
    (λ trust. c.in-Ok-finish.ensures.ok (trust, is_open.1)
    ∙ ap (apply_pending c.in-Ok.prepared.writing) (c.in-Ok.ensures.same (c.in-Ok-finish.ensures.was trust, opened.1)))
    from at in
    (it.0, (c.in-Ok.prepared.reply, it.1, rw c.reply.ensures at c.in-Some.ensures), it.2)

pub try_respond-requires : goal.try_respond-requires
try_respond-requires g c =
    rw c.reply.ensures (shown_has_moment c.args.request.now c.in-Ok.prepared.reply c.requires.moment c.in-Ok.ensures.moment)
