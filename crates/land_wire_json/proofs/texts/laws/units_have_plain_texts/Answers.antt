use Rattle.land_wire_json.proofs.ObjectTexts.{unit-text}
use Rattle.land_wire_json.proofs.texts.laws.units_have_plain_texts.Goals as goal

pub returns : goal.returns
returns c = unit-text
