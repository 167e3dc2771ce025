use Rattle.std.proofs.Common.{◌≢◌, Result, ap, inl, inr, refl, rules, subst, sym}
use Rattle.land_core.specs.declared.ask.Request.{Request}
use Rattle.land_desk.proofs.ExchangeLemmas.{fault_reply}
use Rattle.land_desk.specs.Serving.{StepIfHonest, HandlesOr501}
use Rattle.land_keep.specs.declared.reply.Reply.TheVariants as reply
use Rattle.land_wire_json.specs.Bodies.WireFaults.{Returns}
use Rattle.land_wire_json.specs.declared.bodies.wire_fault.WireFault.{WireFault}
use Rattle.land_wire_json.specs.declared.bodies.wire_fault.WireFault.TheVariants.{NoMemory}
use Rattle.land_desk.proofs.handler.handle.Goals as goal

pub returns-in-Err-NoMemory-clause-reply : goal.returns-in-Err-NoMemory-clause-reply
returns-in-Err-NoMemory-clause-reply g c q gives from at = (from, (reply.Store 501, inl (refl, refl), c.store_failure.ensures), at)

pub returns-in-Err : goal.returns-in-Err
returns-in-Err g c =
    let it = c.respond_or_501.ensures in
    let other : c.in-Err.fault ≢ NoMemory = search rules in
    record {
      reply = λ q gives from at. (
        from,
        (
          it.0,
          fault_reply (StepIfHonest (g.K.Keeper.honest c.args.keeper.now) g.C.Clock.reads) q c.in-Err.fault _ it.0 from
              ((subst (λ (r : Result Request WireFault). Returns (λ (asked : Request). asked) r q) c.in-Err.is gives) other)
              (ap (λ n. reply.Fault n) c.number.ensures) it.1,
          it.2,
        ),
        at,
      );
      was = λ trust. trust;
    }

pub returns-in-Ok-clause-reply : goal.returns-in-Ok-clause-reply
returns-in-Ok-clause-reply g c q gives from at =
    let it = c.handle_request.ensures.reply from at in
    let step = StepIfHonest (g.K.Keeper.honest c.handle_request.new.keeper) g.C.Clock.reads in
    let q_is = subst (λ (r : Result Request WireFault). Returns (λ (asked : Request). asked) r q) c.in-Ok.is gives in (
      it.0,
      (
        it.1.0,
        subst (λ (x : Result Request WireFault). HandlesOr501 step x from it.1.0 it.0) (sym q_is) (inr it.1.1),
        it.1.2,
      ),
      it.2,
    )
