use Rattle.std.specs.Prelude.{ℕ, List}
use Rattle.land_shape.proofs.Answering.{answer}
use Rattle.land_shape.specs.Faults.{IsOutlineAnswer}
use Rattle.land_wire_json.specs.Bodies.Outlines.{outline_answer}
use Rattle.land_wire_json.proofs.bodies.laws.outlines_are_answered.Goals as goal

answered : (text : List ℕ) → IsOutlineAnswer text (outline_answer text)
unfolding outline_answer
answered text = (answer text).1

pub returns : goal.returns
returns c = answered
