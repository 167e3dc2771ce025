use Rattle.land_tables_validity.proofs.mandates.are_single_parties.Given as goal

abbrev pub ghost-require_numbers : goal.ghost-require_numbers
ghost-require_numbers g a = g.number_of
