use Rattle.land_wire.proofs.ReplyTexts.{shown-text}
use Rattle.land_wire.proofs.laws.objects_have_plain_texts.Goals as goal

pub returns : goal.returns
returns c = shown-text
