use Rattle.land_digest.proofs.Appending.{appending_keeps_text}
use Rattle.land_digest.proofs.laws.appending_keeps_text.Goals as goal

pub returns : goal.returns
returns c = appending_keeps_text
