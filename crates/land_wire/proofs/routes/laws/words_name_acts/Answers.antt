use Rattle.land_wire.proofs.ActNames.{act_found, word_found}
use Rattle.land_wire.proofs.routes.laws.words_name_acts.Goals as goal

pub returns : goal.returns
returns c bytes act = (act_found bytes act, word_found bytes act)
