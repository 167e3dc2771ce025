use Rattle.land_tables_validity.proofs.entries.entries_refs_exist.Given as goal

-- units, then parties, and then sources
abbrev pub ghost-all_exist : goal.ghost-all_exist
ghost-all_exist a = λ e. e.1.unit

abbrev pub ghost-all_exist-2 : goal.ghost-all_exist-2
ghost-all_exist-2 a = λ e. e.1.party

abbrev pub ghost-all_exist-3 : goal.ghost-all_exist-3
ghost-all_exist-3 a = λ e. e.1.source
