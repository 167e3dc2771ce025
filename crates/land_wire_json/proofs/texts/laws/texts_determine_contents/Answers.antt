use Rattle.land_wire_json.proofs.SameTexts.{contents_are_told}
use Rattle.land_wire_json.proofs.texts.laws.texts_determine_contents.Goals as goal

pub returns : goal.returns
returns c = contents_are_told c.printed_rings.ensures
