use Rattle.land_desk.proofs.TurnLemmas.{spoken}
use Rattle.land_desk.specs.Serving.{StepIfHonest}
use Rattle.land_desk.proofs.next_item.answer_first.Goals as goal

pub returns-clause-spoken : goal.returns-clause-spoken
returns-clause-spoken g c more from at =
    let is = c.requires.at_front in
    let h = is.1.0 in
    let it = c.handle.ensures.reply _ (c.parse_first-request.ensures.reads h is.1.1) from at in
    let told = it.1 in (
      it.0,
      spoken (StepIfHonest (g.K.Keeper.honest c.handle.new.keeper) g.C.Clock.reads) c.args.buffer.now more c.args.headers.now c.args.spans c.args.length _ _
          c.handle.result told.0 c.wants_close-close_after.result c.is_head-head.result is (c.wants_close-close_after.ensures h is.1.1) (c.is_head-head.ensures h is.1.1) told.1 told.2,
      it.2,
    )
