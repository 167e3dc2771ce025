use Rattle.land_wire_json.proofs.SameTexts.{objects_are_told}
use Rattle.land_wire_json.proofs.texts.laws.texts_determine_objects.Goals as goal

pub returns : goal.returns
returns c = objects_are_told c.printed_rings.ensures
