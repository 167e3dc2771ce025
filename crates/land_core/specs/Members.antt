-- Members of groups (LA_PartyMember), each with its share.
use Rattle.std.specs.Prelude.{ℕ, Bool, true, false, ◌&&◌, List, nat_le, length, map as map_list}
use Rattle.std.specs.Ordering.{nat_cmp}
use Rattle.std.specs.FinMap as map
use Rattle.std.specs.FinMap.{FinMap}
use Rattle.land_core.specs.declared.member.Member.{Member}
use Rattle.land_fraction.specs.Ratio.{Ratio}
use Rattle.land_fraction.specs.Wholeness.{wholeness}
use Rattle.land_fraction.specs.declared.lists.Whole.{Whole}
use Rattle.land_fraction.specs.declared.lists.Whole.TheVariants.{Yes, No, TooFine}

-- the members of one group: each party's number with its share
abbrev pub Members : Type 0
Members = FinMap nat_cmp Ratio

abbrev pub member_with_share : ℕ → Ratio → Member
member_with_share party share = record { party = party; share = share }

-- the members as a list, ordered by number
abbrev pub members_in : Members → List Member
members_in members = map_list (λ e. member_with_share e.0 e.1) (map.entries members)

-- their shares, in the same order
abbrev pub shares_in : Members → List Ratio
shares_in members = map_list (λ e. e.1) (map.entries members)

abbrev pub is_yes : Whole → Bool
is_yes Yes = true
is_yes No = false
is_yes TooFine = false

-- a group has 2 to 64 members
abbrev pub is_group_size : ℕ → Bool
is_group_size count = nat_le 2 count && nat_le count 64

-- there are 2 to 64 shares, and they sum to 1
abbrev pub are_group_shares : List Ratio → Bool
are_group_shares shares = is_group_size (length shares) && is_yes (wholeness shares)
