use Rattle.std.proofs.Common.{◌≡◌, drop}
use Rattle.land_shape.specs.Reader.{progress_of, after_all, start_of_body}
use Rattle.land_shape.proofs.body.body_of.Given as goal

abbrev pub invariant-loop-token : goal.invariant-loop-token
invariant-loop-token l = after_all (progress_of l.progress) (drop l.token-index l.tokens) ≡ after_all start_of_body l.tokens
