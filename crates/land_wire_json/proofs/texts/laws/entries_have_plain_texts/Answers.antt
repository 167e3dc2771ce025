use Rattle.land_wire_json.proofs.ObjectTexts.{rrr-text}
use Rattle.land_wire_json.proofs.texts.laws.entries_have_plain_texts.Goals as goal

pub returns : goal.returns
returns c = rrr-text
