use Rattle.land_wire_json.proofs.CompactTexts.{reads_compact}
use Rattle.land_wire_json.proofs.texts.laws.compact_texts_are_read.Goals as goal

pub returns : goal.returns
returns c = reads_compact
