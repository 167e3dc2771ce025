use Rattle.land_tables_rows.proofs.NewRegisters.{new_rows_hold_new_register}
use Rattle.land_tables_rows.proofs.writing.laws.new_rows_hold_new_register.Goals as goal

pub returns : goal.returns
returns c = new_rows_hold_new_register
