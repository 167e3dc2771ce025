use Rattle.land_wire_json.proofs.texts.party.write_party.Goals as goal

pub returns : goal.returns
returns c = rw (c.party_word.ensures, c.as_slice.ensures, c.as_str.ensures, c.as_slice-2.ensures) at c.write_object.ensures
