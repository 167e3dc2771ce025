use Rattle.std.specs.Cmp.{nat_cmp_total}
use Rattle.std.specs.FinMap.{nat_cmp-IsAntisymmetric}
use Rattle.land_core.proofs.FiniteMaps.{copy_begins, copy_goes_on, copy_ends}
use Rattle.land_core.proofs.records.RecordsDuplicate.copy.Goals as goal

pub loop-number-init : goal.loop-number-init
loop-number-init g c =
    rw (c.new-copy.ensures, c.into_iter-number-iterator.ensures.into_iter_gives, c.iter-number-items.ensures.rest)
    (copy_begins nat_cmp_total nat_cmp-IsAntisymmetric c.args.self.now c.iter-number-items.ensures.ordered)

pub loop-number-preserved : goal.loop-number-preserved
loop-number-preserved g c =
    rw (c.in_ok-insert.ensures.ok, c.in_ok-copy.ensures)
    (copy_goes_on nat_cmp_total nat_cmp-IsAntisymmetric c.args.self.now c.loop-number.copy c.in-Some.number.now c.in-Some.value.now c.next.new.self
    (rw c.in-Some.ensures.steps at c.loop-number.invariant))

pub returns : goal.returns
returns g c = copy_ends nat_cmp_total nat_cmp-IsAntisymmetric c.args.self.now c.loop-number.copy (rw c.in-None.ensures.steps.0 at c.loop-number.invariant)
