use Rattle.land_wire_json.proofs.texts.object.write_object_json.Goals as goal

pub returns-in-Mutation : goal.returns-in-Mutation
returns-in-Mutation c = rw c.in-Mutation.is c.write_mutation.ensures
