use Rattle.land_tables_validity.proofs.GroupMembers.{groups_begin, members_begin, members_refer}
use Rattle.land_tables_validity.proofs.members.members_refs_exist.Goals as goal

pub are_groups_there-requires : goal.are_groups_there-requires
are_groups_there-requires c = groups_begin c.args.moments.now c.args.history.now c.requires.intervals

pub are_parties_there-requires : goal.are_parties_there-requires
are_parties_there-requires c = members_begin c.args.moments.now c.args.history.now c.requires.intervals

pub returns : goal.returns
returns c =
    members_refer c.args.moments.now c.args.history.now c.requires.intervals c.requires.in_time
    c.in_ok-groups.groups c.in_ok-parties.parties c.in_ok-groups.ensures c.in_ok-parties.ensures
