use Rattle.land_tables_validity.specs.Members.{party_of}
use Rattle.land_tables_validity.proofs.members.are_parties_there.Given as goal

abbrev pub ghost-require_numbers : goal.ghost-require_numbers
ghost-require_numbers a = party_of
