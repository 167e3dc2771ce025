use Rattle.std.proofs.Common.{rules, ◌≡◌, ◌||◌, ◌∙◌}
use Rattle.std.specs.FinMap as map
use Rattle.std.specs.List.{list_any}
use Rattle.land_rules.proofs.Interests.{is_group_where, names_grouped}
use Rattle.land_rules.specs.Holdings.{has_member_among, has_number}
use Rattle.land_rules.proofs.rules.holdings.names_of.Goals as goal

pub returns : goal.returns
returns c = λ named.
    let by_groups : has_number c.loop-group.names named
    ≡ (has_number c.args.parties.now named || list_any (is_group_where (has_member_among (has_number c.args.parties.now)) named) (map.entries c.args.at.now.members)) = search rules in
    by_groups ∙ names_grouped c.args.at.now (has_number c.args.parties.now) named
