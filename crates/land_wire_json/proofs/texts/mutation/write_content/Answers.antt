use Rattle.land_wire_json.proofs.texts.mutation.write_content.Goals as goal

pub returns-in-Subdivision : goal.returns-in-Subdivision
returns-in-Subdivision c = rw c.in-Subdivision.is c.write_subdivision.ensures
