use Rattle.land_tables_validity.specs.BareUnits.{record_number}
use Rattle.land_tables_validity.proofs.bare_units.have_owners.Given as goal

abbrev pub ghost-require_numbers : goal.ghost-require_numbers
ghost-require_numbers a = record_number
