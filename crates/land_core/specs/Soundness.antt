-- Soundness of a register. A record is dangling if it refers to a record that does not exist or has the wrong
-- kind.
use Rattle.std.specs.Prelude.{ℕ, ◌≡◌, Bool, false, not, ◌&&◌, ◌||◌, nat_eq, nat_lt, Option, Some, None}
use Rattle.std.specs.FinMap.{FinMap}
use Rattle.std.specs.List.{list_any}
use Rattle.std.specs.Ordering.{nat_cmp}
use Rattle.land_core.specs.Contents.{is_well_formed_content}
use Rattle.land_core.specs.Entries.{some, has}
use Rattle.land_core.specs.Grants.{grants_in}
use Rattle.land_core.specs.Mandates.{mandates_in}
use Rattle.land_core.specs.Members.{Members, are_group_shares}
use Rattle.land_core.specs.Mutations.{have_same_reference}
use Rattle.land_core.specs.Numbers.{last_next}
use Rattle.land_core.specs.Register.{has_single_party, has_group, is_single, shares_of}
use Rattle.land_core.specs.Role.{is_role}
use Rattle.land_core.specs.Units.{has_whole_shares, has_parcel, has_owner, parcel_count, rrr_count, do_clash}
use Rattle.land_core.specs.Units.{rank_of}
use Rattle.land_core.specs.declared.mandates.Mandate.{Mandate}
use Rattle.land_core.specs.declared.mutation.MutationRecord.{MutationRecord}
use Rattle.land_core.specs.declared.register.Register.{Register}
use Rattle.land_core.specs.declared.role.Role.TheVariants.{StateAdministrator}
use Rattle.land_core.specs.declared.rrr.RrrRecord.{RrrRecord}
use Rattle.land_core.specs.declared.soundness.Unsound.{Unsound}
use Rattle.land_core.specs.declared.soundness.Unsound.TheVariants.{Reference, Shares, Group, Bare, Crowded}
use Rattle.land_core.specs.declared.soundness.Unsound.TheVariants.{Twice, Rank, Administrator, Reused, Memory}

-- whether the next number is above 1_000_000_001, the one after the last number
abbrev pub exceeds_last_number : Register → Bool
exceeds_last_number r = nat_lt last_next r.next

-- a number is in use if it is at least 1 and below the next number
abbrev pub is_used : Register → ℕ → Bool
is_used r n = nat_lt 0 n && nat_lt n r.next

-- whether any record has a number that is not in use
abbrev pub has_unused : {V : Type 0} → Register → FinMap nat_cmp V → Bool
has_unused r records = some (λ n v. not (is_used r n)) records

abbrev pub has_unused_number : Register → Bool
has_unused_number r = has_unused r r.parties || has_unused r r.units || has_unused r r.parcels
    || has_unused r r.rrrs || has_unused r r.sources || has_unused r r.mutations

-- whether any role belongs to a party that does not exist or is a group
abbrev pub has_dangling_grant : Register → Bool
has_dangling_grant r = list_any (λ grant. not (has_single_party r grant.party)) (grants_in r.roles)

-- whether any member is not a single party
abbrev pub has_dangling_member : Register → Members → Bool
has_dangling_member r members = some (λ party share. not (has_single_party r party)) members

-- whether members belong to a party that is not a group, or one of them is not a single party
abbrev pub are_dangling_members : Register → ℕ → Members → Bool
are_dangling_members r group members = not (has_group r group) || has_dangling_member r members

abbrev pub has_dangling_members : Register → Bool
has_dangling_members r = some (λ group members. are_dangling_members r group members) r.members

-- whether the unit or the source of any parcel does not exist
abbrev pub has_dangling_parcel : Register → Bool
has_dangling_parcel r = some (λ n p. not (has r.units p.unit && has r.sources p.source)) r.parcels

-- whether the unit, the party or the source of any entry does not exist
abbrev pub has_dangling_rrr : Register → Bool
has_dangling_rrr r = some
    (λ n e. not (has r.units e.unit && has r.parties e.party && has r.sources e.source)) r.rrrs

-- whether the lodger or the source of a mutation does not exist, or its content is not within its limits. The
-- numbers in a content are not references: their objects may have ended, or may never have existed.
abbrev pub is_dangling_mutation : Register → MutationRecord → Bool
is_dangling_mutation r m = not (has r.parties m.lodger && has r.sources m.source
    && is_well_formed_content m.content)

abbrev pub has_dangling_mutation : Register → Bool
has_dangling_mutation r = some (λ n m. is_dangling_mutation r m) r.mutations

-- whether a mandate is not between two different single parties that exist
abbrev pub is_dangling_mandate : Register → Mandate → Bool
is_dangling_mandate r m = not (has_single_party r m.principal && has_single_party r m.agent
    && not (nat_eq m.principal m.agent))

abbrev pub has_dangling_mandate : Register → Bool
has_dangling_mandate r = list_any (λ m. is_dangling_mandate r m) (mandates_in r.mandates)

-- whether any group does not have 2 to 64 members whose shares sum to 1
abbrev pub has_broken_group : Register → Bool
has_broken_group r = some (λ n p. not (is_single p.kind) && not (are_group_shares (shares_of r n))) r.parties

-- whether in any checked unit the shares of a type of right that occurs do not sum to 1
abbrev pub has_unit_without_whole_shares : Register → Bool
has_unit_without_whole_shares r = some (λ n u. u.checked && not (has_whole_shares r n)) r.units

-- whether any unit has no parcel or no owner
abbrev pub has_bare_unit : Register → Bool
has_bare_unit r = some (λ n u. not (has_parcel r n && has_owner r n)) r.units

-- whether any unit has more than 256 parcels or more than 256 entries
abbrev pub has_crowded_unit : Register → Bool
has_crowded_unit r = some (λ n u. nat_lt 256 (parcel_count r n) || nat_lt 256 (rrr_count r n)) r.units

-- whether an entry clashes with one of a greater number
abbrev pub clashes_with_later : Register → ℕ → RrrRecord → Bool
clashes_with_later r n e = some (λ m f. nat_lt n m && do_clash e f) r.rrrs

-- whether any two entries clash
abbrev pub has_clash : Register → Bool
has_clash r = some (λ n e. clashes_with_later r n e) r.rrrs

-- whether a rank is out of range; the range is that of the numbers in use
abbrev pub is_rank_out_of_range : Register → Option ℕ → Bool
is_rank_out_of_range r None = false
is_rank_out_of_range r (Some rank) = not (is_used r rank)

abbrev pub has_rank_out_of_range : Register → Bool
has_rank_out_of_range r = some (λ n e. is_rank_out_of_range r (rank_of e.class)) r.rrrs

-- whether any party is state administrator
abbrev pub has_administrator : Register → Bool
has_administrator r = list_any (λ grant. is_role grant.role StateAdministrator) (grants_in r.roles)

-- whether a mutation of a greater number has the same lodger and reference
abbrev pub shares_reference_with_later : Register → ℕ → MutationRecord → Bool
shares_reference_with_later r n m = some (λ k other. nat_lt n k && have_same_reference m other) r.mutations

-- whether any two mutations have the same lodger and reference
abbrev pub has_reused_reference : Register → Bool
has_reused_reference r = some (λ n m. shares_reference_with_later r n m) r.mutations

-- whether the register has a fault
abbrev pub has_fault : Unsound → Register → Bool
-- references exist, numbers are in use, only groups have members, members are single parties, groups have no
-- roles, contents are within their limits, and mandates are between two different single parties
has_fault Reference r =
    exceeds_last_number r || has_unused_number r || has_dangling_grant r || has_dangling_members r
    || has_dangling_parcel r || has_dangling_rrr r || has_dangling_mutation r || has_dangling_mandate r
-- in each checked unit, the shares of each type of right that occurs sum to 1
has_fault Shares r = has_unit_without_whole_shares r
-- each group has 2 to 64 members whose shares sum to 1
has_fault Group r = has_broken_group r
-- each unit has a parcel and an owner
has_fault Bare r = has_bare_unit r
-- each unit has at most 256 parcels and 256 entries
has_fault Crowded r = has_crowded_unit r
-- in a unit, no party has two rights of the same type, and no two mortgages have the same rank
has_fault Twice r = has_clash r
-- the rank of a mortgage is at least 1 and below the next number
has_fault Rank r = has_rank_out_of_range r
-- the register has an administrator
has_fault Administrator r = not (has_administrator r)
-- no party has lodged two mutations with the same reference
has_fault Reused r = has_reused_reference r
-- running out of memory is not a fault of the register
has_fault Memory r = false

-- a sound register has no fault
abbrev pub IsSound : Register → Type 0
IsSound r = (fault : Unsound) → has_fault fault r ≡ false
