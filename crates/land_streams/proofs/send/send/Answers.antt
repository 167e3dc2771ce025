use Rattle.land_streams.proofs.Fronts.{send_more}
use Rattle.land_streams.proofs.send.send.Goals as goal

pub loop-done-preserved : goal.loop-done-preserved
loop-done-preserved g c =
    send_more c.args.bytes.now c.loop-done.done c.in-Ok.n _ _ _ c.loop-done.invariant.0 c.in-Ok.ensures.bound c.loop-done.invariant.1 c.in-Ok.ensures.bytes
