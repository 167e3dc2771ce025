use Rattle.land_wire.proofs.WellFormed.{of_given}
use Rattle.land_wire.proofs.reading.read_routed.Goals as goal

pub returns-clause-reads : goal.returns-clause-reads
returns-clause-reads c = rw (c.as_bytes.ensures.value, c.split_target.ensures.path, c.split_target.ensures.query) at c.read_parts.ensures

pub returns-clause-well_formed : goal.returns-clause-well_formed
returns-clause-well_formed c =
    let reads = rw (c.as_bytes.ensures.value, c.split_target.ensures.path, c.split_target.ensures.query) at c.read_parts.ensures in
    of_given _ _ _ reads (c.readings_are_well_formed.ensures c.args.method.now c.args.target.now c.args.caller c.args.body.now)

pub returns-clause-moment : goal.returns-clause-moment
returns-clause-moment c =
    let reads = rw (c.as_bytes.ensures.value, c.split_target.ensures.path, c.split_target.ensures.query) at c.read_parts.ensures in
    of_given _ _ _ reads (c.stated_moments_are_valid.ensures.requests c.args.method.now c.args.target.now c.args.caller c.args.body.now)
