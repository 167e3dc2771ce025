use Rattle.land_wire_json.proofs.ContentReading.{content_is_read}
use Rattle.land_wire_json.proofs.bodies.laws.contents_round_trip.Goals as goal

pub returns : goal.returns
returns c = content_is_read c.compact_texts_are_read.ensures c.fractions_stay.ensures c.printed_rings.ensures c.one_answer.ensures c.outlines_are_answered.ensures
