use Rattle.land_wire_json.proofs.texts.rrr.write_right.Goals as goal

pub returns : goal.returns
returns c = rw c.right_word.ensures at c.write_object.ensures
