-- The conditions on a history at all commits, in four parts.
use Rattle.std.specs.Prelude.{Bool, not, List}
use Rattle.land_core.specs.Soundness.{has_administrator, has_bare_unit, has_broken_group, has_clash}
use Rattle.land_core.specs.Soundness.{has_crowded_unit, has_dangling_grant, has_dangling_mandate}
use Rattle.land_core.specs.Soundness.{has_dangling_members}
use Rattle.land_core.specs.Soundness.{has_dangling_mutation, has_dangling_parcel, has_rank_out_of_range}
use Rattle.land_core.specs.Soundness.{has_dangling_rrr}
use Rattle.land_core.specs.Soundness.{has_reused_reference, has_unit_without_whole_shares, has_unused_number}
use Rattle.land_core.specs.Soundness.{exceeds_last_number}
use Rattle.land_core.specs.declared.register.Register.{Register}
use Rattle.land_tables_history.specs.declared.history.History.{History}
use Rattle.land_tables_history.specs.declared.moment.Moment.{Moment}
use Rattle.land_tables_validity.specs.Never.{Never}

-- no party is state administrator
abbrev pub has_no_administrator : Register → Bool
has_no_administrator r = not (has_administrator r)

-- numbers and ranks are in range, and numbers are left
pub record AreNumbersInRange (moments : List Moment) (h : History) : Type 0 where
  pub past : Never exceeds_last_number moments h
  pub unused : Never has_unused_number moments h
  pub ranks : Never has_rank_out_of_range moments h

-- each reference is to an existing record of the right kind
pub record RefsExist (moments : List Moment) (h : History) : Type 0 where
  pub roles : Never has_dangling_grant moments h
  pub members : Never has_dangling_members moments h
  pub parcels : Never has_dangling_parcel moments h
  pub entries : Never has_dangling_rrr moments h
  pub mutations : Never has_dangling_mutation moments h
  pub mandates : Never has_dangling_mandate moments h

-- each unit has a parcel and an owner and is within limits, shares sum to one, and there is an administrator
pub record HaveValidSums (moments : List Moment) (h : History) : Type 0 where
  pub shares : Never has_unit_without_whole_shares moments h
  pub crowds : Never has_crowded_unit moments h
  pub bare_units : Never has_bare_unit moments h
  pub groups : Never has_broken_group moments h
  pub administrator : Never has_no_administrator moments h

-- no entry and no reference of a lodger is duplicated
pub record HaveNoDuplicates (moments : List Moment) (h : History) : Type 0 where
  pub entries : Never has_clash moments h
  pub references : Never has_reused_reference moments h
