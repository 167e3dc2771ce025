use Rattle.land_wire_json.proofs.texts.source.write_source.Goals as goal

pub returns : goal.returns
returns c = rw (c.source_word.ensures, c.as_str.ensures) at c.write_object.ensures
