use Rattle.land_wire_json.proofs.ObjectTexts.{parcel-text}
use Rattle.land_wire_json.proofs.texts.laws.parcels_have_plain_texts.Goals as goal

pub returns : goal.returns
returns c = parcel-text
