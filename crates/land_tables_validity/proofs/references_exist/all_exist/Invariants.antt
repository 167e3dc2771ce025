use Rattle.land_tables_validity.proofs.references_exist.all_exist.Given as goal

abbrev pub ghost-require_numbers : goal.ghost-require_numbers
ghost-require_numbers g a = g.number_of
