use Rattle.land_desk.proofs.ResponseLemmas.{one_response}
use Rattle.land_desk.proofs.laws.responses_are_unique.Goals as goal

pub returns : goal.returns
returns c = one_response c.sheets_are_unique.ensures
