use Rattle.land_wire_json.proofs.texts.subdivision.write_subdivision.Goals as goal

pub returns : goal.returns
returns c = rw c.as_slice.ensures at c.write_object.ensures
