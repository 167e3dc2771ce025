use Rattle.land_tables_validity.specs.Members.{member_group}
use Rattle.land_tables_validity.proofs.members.are_groups_there.Given as goal

abbrev pub ghost-require_numbers : goal.ghost-require_numbers
ghost-require_numbers a = member_group
