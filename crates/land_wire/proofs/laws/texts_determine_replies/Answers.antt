use Rattle.land_wire.proofs.SameReplies.{replies_are_told}
use Rattle.land_wire.proofs.laws.texts_determine_replies.Goals as goal

pub returns : goal.returns
returns c = replies_are_told c.printed_rings.ensures
