use Rattle.land_tables_rows.proofs.RaisedRegisters.{migrated_registers_are_held}
use Rattle.land_tables_rows.proofs.writing.laws.migrated_registers_are_held.Goals as goal

pub returns : goal.returns
returns c = migrated_registers_are_held
