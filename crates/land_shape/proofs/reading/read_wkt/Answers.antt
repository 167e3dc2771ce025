use Rattle.std.proofs.Common.{◌≢◌, Ok, Err, subst, List}
use Rattle.std.specs.Result.{IfErr}
use Rattle.land_shape.specs.declared.faults.ShapeFault.TheVariants.{NoMemory}
use Rattle.land_shape.specs.declared.plane.Point.{Point}
use Rattle.land_shape.specs.Faults.{IsFirstFault}
use Rattle.land_shape.specs.Simple.{places}
use Rattle.land_shape.specs.Steps.{IsClosedOrFault}
use Rattle.land_shape.proofs.ListingLemmas.{passed_on}
use Rattle.land_shape.proofs.JudgeLemmas.{closing_fault, read_closed, enclosed_ring, enclosed_fault}
use Rattle.land_shape.proofs.reading.read_wkt.Goals as goal

pub returns-in_err-check_closed-clause-fault : goal.returns-in_err-check_closed-clause-fault
returns-in_err-check_closed-clause-fault c =
    passed_on (λ r. IfErr r (λ fault. fault ≢ NoMemory → IsFirstFault c.args.text.now fault)) c.from_residual-in_err-check_closed.result c.in_err-check_closed.field-0.0
    c.from_residual-in_err-check_closed.ensures.1
    (λ _. closing_fault c.args.text.now (places c.in_ok-listed.listed.items) c.in_err-check_closed.field-0.0 c.in_ok-listed.ensures.points
    (subst (λ (ps : List Point). IsClosedOrFault (places ps) (Err c.in_err-check_closed.field-0.0)) c.deref.ensures.value c.in_err-check_closed.ensures))

pub returns-clause-ring : goal.returns-clause-ring
returns-clause-ring c =
    enclosed_ring c.args.text.now (places c.in_ok-listed.listed.items) c.ring_from_listed.result
    (read_closed c.args.text.now (places c.in_ok-listed.listed.items) c.in_ok-listed.ensures.points (subst (λ (ps : List Point). IsClosedOrFault (places ps) (Ok tt)) c.deref.ensures.value c.in_ok-check_closed.ensures)) c.ring_from_listed.ensures

pub returns-clause-fault : goal.returns-clause-fault
returns-clause-fault c =
    enclosed_fault c.args.text.now (places c.in_ok-listed.listed.items) c.ring_from_listed.result
    (read_closed c.args.text.now (places c.in_ok-listed.listed.items) c.in_ok-listed.ensures.points (subst (λ (ps : List Point). IsClosedOrFault (places ps) (Ok tt)) c.deref.ensures.value c.in_ok-check_closed.ensures)) c.ring_from_listed.ensures
