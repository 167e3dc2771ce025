use Rattle.std.proofs.Common.{Ok, Err, subst}
use Rattle.std.proofs.lemmas.List.{take_all}
use Rattle.std.specs.Result.{MatchResult}
use Rattle.land_shape.specs.Grammar.{Words}
use Rattle.land_shape.specs.Simple.{places}
use Rattle.land_shape.specs.Steps.{ReadsPoint, ReadsPoints}
use Rattle.land_shape.proofs.SomeLemmas.{not_both}
use Rattle.land_shape.proofs.ListingLemmas.{passed_on, wrong_point, lists_more, near_points}
use Rattle.land_shape.proofs.listing.listed_points.Goals as goal

pub returns-in_err-point_of : goal.returns-in_err-point_of
returns-in_err-point_of c =
    passed_on (λ r. MatchResult r (λ points. ReadsPoints c.args.ring.now (Ok (places points.items))) (λ fault. ReadsPoints c.args.ring.now (Err fault)))
    c.from_residual.result c.in_err-point_of.field-0.0 c.from_residual.ensures.1
    (wrong_point c.args.ring.now c.loop-words.words-index c.words-item.result c.in_err-point_of.field-0.0 c.loop-words-test.true c.words-item.is
    (λ h. not_both (c.has_wrong_point.ensures.1 h) c.if-has_wrong_point.false)
    (subst (λ (ws : Words). ReadsPoint ws (Err c.in_err-point_of.field-0.0)) c.words.ensures c.in_err-point_of.ensures))

pub loop-words-preserved : goal.loop-words-preserved
loop-words-preserved c =
    rw c.in_ok-push.ensures.items
    (lists_more c.args.ring.now c.loop-words.words-index c.words-item.result c.loop-words.points.items c.in_ok-point_of.field-0 c.loop-words-test.true c.words-item.is
    c.loop-words.invariant (rw c.words.ensures at c.in_ok-point_of.ensures))

pub returns : goal.returns
returns c =
    let h = c.loop-words-test.false in (
      rw take_all at c.loop-words.invariant,
      near_points c.loop-words.points.items,
    )
