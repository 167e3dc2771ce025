use Rattle.land_shape.proofs.Answering.{answer}
use Rattle.land_shape.proofs.laws.every_text_has_an_answer.Goals as goal

pub returns : goal.returns
returns c = answer
