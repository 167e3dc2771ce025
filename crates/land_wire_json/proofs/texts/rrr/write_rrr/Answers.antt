use Rattle.land_wire_json.proofs.texts.rrr.write_rrr.Goals as goal

pub returns-in-Responsibility : goal.returns-in-Responsibility
returns-in-Responsibility c = rw c.in-Responsibility.is (rw c.as_str-in-Responsibility.ensures at c.write_burden-in-Responsibility.ensures)

pub returns-in-Mortgage : goal.returns-in-Mortgage
returns-in-Mortgage c = rw c.in-Mortgage.is (rw c.as_str-in-Mortgage.ensures at c.write_mortgage.ensures)
