use Rattle.std.proofs.Common.{rules, ap, ◌∙◌, false}
use Rattle.std.specs.Prelude.{FitsSigned}
use Rattle.std.specs.Int.{w64}
use Rattle.std.proofs.lemmas.Int.{to_z-of_z}
use Rattle.land_keep.proofs.Steps.{fault_element, finished_element, opens}
use Rattle.land_keep.specs.Keeping.{apply_pending}
use Rattle.land_keep.specs.declared.prepared.Prepared.{Prepared}
use Rattle.land_keep.specs.declared.reply.Reply.{Reply}
use Rattle.land_keep.proofs.machine.answer.Goals as goal

pub returns-in-Err-clause-answered : goal.returns-in-Err-clause-answered
returns-in-Err-clause-answered g c honest =
    let before = g.K.Keeper.closed c.args.keeper.now in
    let closed = g.K.Keeper.closed c.prepare.new.keeper in (
      g.K.Keeper.timeline c.args.keeper.now,
      rw c.number.ensures (fault_element Prepared before closed c.args.clock c.args.request.now _ c.in-Err.fault c.in-Err.ensures.closes),
      λ is_open. c.in-Err.ensures.same (honest, is_open),
    )

pub returns-in-Err-finish-clause-answered : goal.returns-in-Err-finish-clause-answered
returns-in-Err-finish-clause-answered g c honest =
    let tl = g.K.Keeper.timeline c.args.keeper.now in
    let before = g.K.Keeper.closed c.args.keeper.now in
    let mid = g.K.Keeper.closed c.prepare.new.keeper in
    let closed = g.K.Keeper.closed c.finish.new.keeper in
    let open_mid = opens {T = Prepared} before mid c.in-Ok.prepared c.in-Ok.ensures.closes in
    let trust = c.in-Err-finish.ensures.was honest in (
      tl,
      rw (open_mid.0, c.number-in-Err-finish.ensures) (fault_element Reply false closed c.args.clock c.args.request.now tl c.in-Err-finish.fault (rw open_mid.1 at c.in-Err-finish.ensures.closes)),
      λ is_open. c.in-Err-finish.ensures.err (honest, is_open) ∙ c.in-Ok.ensures.same (trust, open_mid.1),
    )

pub returns-in-Ok-finish-clause-answered : goal.returns-in-Ok-finish-clause-answered
returns-in-Ok-finish-clause-answered g c honest =
    let tl = g.K.Keeper.timeline c.args.keeper.now in
    let before = g.K.Keeper.closed c.args.keeper.now in
    let mid = g.K.Keeper.closed c.prepare.new.keeper in
    let closed = g.K.Keeper.closed c.finish.new.keeper in
    let open_mid = opens {T = Prepared} before mid c.in-Ok.prepared c.in-Ok.ensures.closes in
    let open_after = opens {T = Reply} mid closed c.in-Ok-finish.reply c.in-Ok-finish.ensures.closes in
    let trust = c.in-Ok-finish.ensures.was honest in
    let fit : FitsSigned w64 c.args.clock = search rules in
    let same = c.in-Ok.ensures.same (trust, open_mid.1) in (
      apply_pending c.in-Ok.prepared.writing tl,
      rw c.in-Ok-finish.ensures.reply (finished_element before closed c.args.clock c.args.request.now tl c.in-Ok.prepared open_mid.0 open_after.1 (simp to_z-of_z at (c.in-Ok.ensures.prepared trust))),
      λ is_open. c.in-Ok-finish.ensures.ok (honest, is_open) ∙ ap (apply_pending c.in-Ok.prepared.writing) same,
    )
