use Rattle.land_wire_json.proofs.ContentTexts.{content-text}
use Rattle.land_wire_json.proofs.texts.laws.contents_have_plain_texts.Goals as goal

pub returns : goal.returns
returns c = content-text
