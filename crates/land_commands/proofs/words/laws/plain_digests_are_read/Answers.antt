use Rattle.land_commands.proofs.PlainDigests.{plain_digest}
use Rattle.land_commands.proofs.words.laws.plain_digests_are_read.Goals as goal

pub returns : goal.returns
returns c = plain_digest
