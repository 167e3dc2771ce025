use Rattle.land_wire_json.proofs.texts.unit.write_unit.Goals as goal

pub returns : goal.returns
returns c = rw c.as_str.ensures at c.write_object.ensures
