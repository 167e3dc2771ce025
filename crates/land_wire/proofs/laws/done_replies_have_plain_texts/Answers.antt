use Rattle.land_wire.proofs.ReplyTexts.{done-text}
use Rattle.land_wire.proofs.laws.done_replies_have_plain_texts.Goals as goal

pub returns : goal.returns
returns c = done-text
