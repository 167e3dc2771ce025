use Rattle.std.proofs.Common.{Err, List, ℕ, subst}
use Rattle.land_shape.specs.Steps.{ReadsNumber, ReadsPoint}
use Rattle.land_shape.proofs.ListingLemmas.{passed_on, wrong_second}
use Rattle.land_shape.proofs.listing.point_of.Goals as goal

pub returns-in_err-y : goal.returns-in_err-y
returns-in_err-y c =
    passed_on (ReadsPoint c.args.words.now) c.from_residual-in_err-y.result c.in_err-y.field-0.0 c.from_residual-in_err-y.ensures.1
    (wrong_second c.args.words.now c.index-words-0.result c.index-words-1.result c.in_err-y.field-0.0 c.requires c.index-words-0.is c.index-words-1.is
    (subst (λ (w : List ℕ). ReadsNumber w (Err c.in_err-y.field-0.0)) c.bytes-2.ensures c.in_err-y.ensures))
