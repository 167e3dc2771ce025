use Rattle.land_wire_json.proofs.bodies.fields.reference_at.Goals as goal

pub returns : goal.returns
returns c = c.label_at.ensures
