use Rattle.land_wire_json.proofs.bodies.fields.title_at.Goals as goal

pub returns : goal.returns
returns c = c.name_at.ensures
