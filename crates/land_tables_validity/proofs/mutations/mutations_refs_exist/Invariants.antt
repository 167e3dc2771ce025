use Rattle.land_tables_validity.proofs.mutations.mutations_refs_exist.Given as goal

-- lodgers, and then sources
abbrev pub ghost-all_exist : goal.ghost-all_exist
ghost-all_exist a = λ e. e.1.lodger

abbrev pub ghost-all_exist-2 : goal.ghost-all_exist-2
ghost-all_exist-2 a = λ e. e.1.source
