use Rattle.land_wire_json.proofs.ObjectTexts.{mutation-text}
use Rattle.land_wire_json.proofs.texts.laws.mutations_have_plain_texts.Goals as goal

pub returns : goal.returns
returns c = mutation-text
