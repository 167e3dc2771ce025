-- Outlines in request bodies: well-known text (OGC 06-103r4, section 7).
use Rattle.std.specs.Prelude.{ℕ, List, codes, Result, Ok, Err}
use Rattle.land_shape.proofs.Answering.{answer}
use Rattle.land_shape.specs.Place.{Place}
use Rattle.land_shape.specs.declared.faults.ShapeFault.{ShapeFault}
use Rattle.land_wire_json.specs.Bodies.Fields.{text_at}
use Rattle.land_wire_json.specs.Bodies.WireFaults.{◌>>=◌}
use Rattle.land_wire_json.specs.declared.bodies.wire_fault.WireFault.{WireFault}
use Rattle.land_wire_json.specs.declared.bodies.wire_fault.WireFault.TheVariants as fault
use Rattle.serde_json.specs.Data.{Data}

-- The answer for a text, a ring or the text's first fault, as a function of the text. It comes from the proof
-- that each text has an answer. Two laws characterize it: it is a ring that the text denotes or the first
-- fault (`outlines_are_answered`), and no text has two answers (`one_answer` of the outlines).
unfoldable pub outline_answer : List ℕ → Result (List Place) ShapeFault
outline_answer text = (answer text).0

-- the ring, or one of faults 110 to 120
abbrev pub ring_or_fault : Result (List Place) ShapeFault → Result (List Place) WireFault
ring_or_fault (Ok ring) = Ok ring
ring_or_fault (Err f) = Err (fault.Outline f)

-- the ring that a text denotes, or the text's first fault
unfoldable pub outline_of : List ℕ → Result (List Place) WireFault
outline_of text = ring_or_fault (outline_answer text)

-- the outline of the key `outline`
unfoldable pub outline_in : Data → Result (List Place) WireFault
outline_in value = text_at (codes "outline") value >>= outline_of
