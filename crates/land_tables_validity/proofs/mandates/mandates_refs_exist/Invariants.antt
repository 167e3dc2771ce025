use Rattle.land_tables_validity.proofs.mandates.mandates_refs_exist.Given as goal

-- principals, and then agents
abbrev pub ghost-are_single_parties : goal.ghost-are_single_parties
ghost-are_single_parties a = λ m. m.principal

abbrev pub ghost-are_single_parties-2 : goal.ghost-are_single_parties-2
ghost-are_single_parties-2 a = λ m. m.agent
