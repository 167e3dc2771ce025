use Rattle.land_shape.proofs.LawLemmas.{one_answer_law}
use Rattle.land_shape.proofs.laws.one_answer.Goals as goal

pub returns : goal.returns
returns c = one_answer_law
