use Rattle.std.proofs.Common.{rules}
use Rattle.land_acts.proofs.SubdividedParts.{copies_stay, next_counts_parts, units_stay}
use Rattle.land_acts.specs.Mutations.Subdividing.{all_parts}
use Rattle.land_acts.proofs.mutations.subdivide.change.Goals as goal

pub returns : goal.returns
returns c =
    let slice = c.args.slice.now in
    let it = c.args.it.now in
    let units = units_stay slice c.args.source it slice.next (all_parts it) in
    let copies = copies_stay slice c.args.source it slice.next (all_parts it) in
    let next = next_counts_parts slice c.args.source it slice.next (all_parts it) in
    search (rules, units, copies, next)
