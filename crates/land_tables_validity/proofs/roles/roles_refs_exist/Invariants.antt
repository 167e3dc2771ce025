use Rattle.land_tables_validity.proofs.roles.roles_refs_exist.Given as goal

abbrev pub ghost-require_numbers : goal.ghost-require_numbers
ghost-require_numbers a = λ role. role.party
