use Rattle.land_wire.proofs.FieldNames.{names_in_any_case}
use Rattle.land_wire.proofs.laws.field_names_ignore_case.Goals as goal

pub returns : goal.returns
returns c = names_in_any_case
