use Rattle.land_digest.proofs.Parts.{IsUpto, text_until}
use Rattle.land_digest.proofs.digest.history_digest.Given as goal
use Rattle.sha2.specs.Hashers.{Holds256}

-- the text up to the end of the last part is hashed
abbrev pub invariant-parts : goal.invariant-parts
invariant-parts l = Holds256 l.hasher (text_until l.moments l.history l.after) × IsUpto l.after l.upto
