use Rattle.land_wire_json.proofs.ObjectTexts.{source-text}
use Rattle.land_wire_json.proofs.texts.laws.sources_have_plain_texts.Goals as goal

pub returns : goal.returns
returns c = source-text
