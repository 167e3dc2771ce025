use Rattle.land_wire_json.proofs.ShareTexts.{share-text}
use Rattle.land_wire_json.proofs.texts.laws.shares_have_plain_texts.Goals as goal

pub returns : goal.returns
returns c = share-text
