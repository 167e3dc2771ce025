use Rattle.std.proofs.Common.{◌≢◌, Ok, Err, subst}
use Rattle.std.specs.Result.{IfErr, MatchResult}
use Rattle.land_shape.specs.declared.faults.ShapeFault.TheVariants.{NoMemory}
use Rattle.land_shape.specs.Faults.{IsFirstFault}
use Rattle.land_shape.specs.Grammar.{IsPolygon, Points}
use Rattle.land_shape.specs.Reader.{written_polygon}
use Rattle.land_shape.specs.Simple.{places}
use Rattle.land_shape.specs.Steps.{ReadsPoints}
use Rattle.land_shape.proofs.ListingLemmas.{passed_on}
use Rattle.land_shape.proofs.JudgeLemmas.{plain_fault, listed_faults}
use Rattle.land_shape.proofs.reading.find_points.Goals as goal

pub returns-in_err-ring-clause-fault : goal.returns-in_err-ring-clause-fault
returns-in_err-ring-clause-fault c =
    passed_on (λ r. IfErr r (λ fault. fault ≢ NoMemory → IsFirstFault c.args.text.now fault)) c.from_residual-in_err-ring.result c.in_err-ring.field-0.0
    c.from_residual-in_err-ring.ensures.1
    (λ _. plain_fault c.args.text.now (written_polygon c.in_ok-polygon.polygon) c.in_err-ring.field-0.0 c.in_ok-polygon.ensures.polygon c.in_err-ring.ensures)

pub returns-clause-fault : goal.returns-clause-fault
returns-clause-fault c =
    listed_faults c.args.text.now c.in_ok-ring.ring _ c.listed_points.result
    (subst (IsPolygon c.args.text.now) c.in_ok-ring.ensures.0 c.in_ok-polygon.ensures.polygon) c.in_ok-ring.ensures.1
    (subst (λ (ring : Points). MatchResult c.listed_points.result (λ points. ReadsPoints ring (Ok (places points.items))) (λ fault. ReadsPoints ring (Err fault)))
    c.points.ensures c.listed_points.ensures)
