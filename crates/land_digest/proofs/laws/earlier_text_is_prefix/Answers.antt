use Rattle.land_digest.proofs.Prefixes.{earlier_text_is_prefix}
use Rattle.land_digest.proofs.laws.earlier_text_is_prefix.Goals as goal

pub returns : goal.returns
returns c = earlier_text_is_prefix
