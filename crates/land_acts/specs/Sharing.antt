-- The checks of the members that an act lists.
use Rattle.std.specs.Prelude.{ℕ, Bool, true, false, not, List, nat_eq, map as map_list}
use Rattle.std.specs.List.{list_any}
use Rattle.std.specs.FinMap as map
use Rattle.land_core.specs.Entries.{with_entries, are_distinct}
use Rattle.land_core.specs.Members.{Members, is_yes}
use Rattle.land_core.specs.Register.{has_single_party}
use Rattle.land_core.specs.declared.member.Member.{Member}
use Rattle.land_core.specs.declared.register.Register.{Register}
use Rattle.land_fraction.specs.Ratio.{Ratio}
use Rattle.land_fraction.specs.Wholeness.{wholeness}
use Rattle.land_fraction.specs.declared.lists.Whole.{Whole}
use Rattle.land_fraction.specs.declared.lists.Whole.TheVariants.{Yes, No, TooFine}

-- the listed shares, in their order
abbrev pub listed_shares : List Member → List Ratio
listed_shares members = map_list (λ member. member.share) members

-- whether a party is listed
abbrev pub lists_party : List Member → ℕ → Bool
lists_party members n = list_any (λ member. nat_eq n member.party) members

-- whether a listed number is not that of a single party
abbrev pub lists_no_single_party : Register → List Member → Bool
lists_no_single_party r members = list_any (λ member. not (has_single_party r member.party)) members

-- whether the shares are too fine, so that their sum is not checked
abbrev pub is_too_fine : Whole → Bool
is_too_fine Yes = false
is_too_fine No = false
is_too_fine TooFine = true

-- whether the shares have no common denominator up to 1,000,000,000
abbrev pub are_too_fine : List Member → Bool
are_too_fine members = is_too_fine (wholeness (listed_shares members))

-- whether the shares sum to one
abbrev pub are_whole : List Member → Bool
are_whole members = is_yes (wholeness (listed_shares members))

-- whether two list entries have the same party
abbrev pub same_party : Member → Member → Bool
same_party member other = nat_eq member.party other.party

-- whether a party is listed twice
abbrev pub lists_twice : List Member → Bool
lists_twice members = not (are_distinct same_party members)

-- the members as a map, from party to share
abbrev pub members_of_list : List Member → Members
members_of_list members = with_entries map.empty (map_list (λ member. (member.party, member.share)) members)
