use Rattle.land_wire_json.proofs.OutlineTexts.{outline-text}
use Rattle.land_wire_json.proofs.texts.laws.outlines_have_plain_texts.Goals as goal

pub returns : goal.returns
returns c = outline-text
