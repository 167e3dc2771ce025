use Rattle.land_wire.proofs.ReplyTexts.{numbers-text}
use Rattle.land_wire.proofs.laws.lists_have_plain_texts.Goals as goal

pub returns : goal.returns
returns c = numbers-text
