use Rattle.land_acts.proofs.slice.slice_of.Goals as goal

-- the slice has all parts
pub returns : goal.returns
returns c = rw c.all.ensures at (c.slice_with.ensures c.in_ok-mutations.ensures)
