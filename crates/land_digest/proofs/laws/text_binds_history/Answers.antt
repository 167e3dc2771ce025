use Rattle.land_digest.proofs.Binding.{text_binds_history}
use Rattle.land_digest.proofs.laws.text_binds_history.Goals as goal

pub returns : goal.returns
returns c = text_binds_history c.printed_rings.ensures c.texts_determine_contents.ensures
