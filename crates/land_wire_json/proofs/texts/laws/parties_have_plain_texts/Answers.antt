use Rattle.land_wire_json.proofs.PartyTexts.{party-text}
use Rattle.land_wire_json.proofs.texts.laws.parties_have_plain_texts.Goals as goal

pub returns : goal.returns
returns c = party-text
