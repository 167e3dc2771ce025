-- Mutations: changes that are lodged and then decided.
use Rattle.std.specs.Prelude.{ℕ, Bool, true, false, ◌&&◌, nat_eq, List}
use Rattle.std.specs.Str.{bytes_eq}
use Rattle.land_core.specs.declared.mutation.MutationRecord.{MutationRecord}
use Rattle.land_core.specs.declared.mutation.MutationState.{MutationState}
use Rattle.land_core.specs.declared.mutation.MutationState.TheVariants.{Lodged, Approved, Refused}

-- a mutation is undecided if its state is lodged
abbrev pub is_open : MutationState → Bool
is_open Lodged = true
is_open Approved = false
is_open Refused = false

abbrev pub is_undecided : MutationRecord → Bool
is_undecided m = is_open m.state

-- whether a mutation has this lodger and this reference
abbrev pub is_lodged_as : (lodger : ℕ) → (reference : List ℕ) → MutationRecord → Bool
is_lodged_as lodger reference m = nat_eq m.lodger lodger && bytes_eq m.reference reference

-- whether two mutations have the same lodger and the same reference
abbrev pub have_same_reference : MutationRecord → MutationRecord → Bool
have_same_reference m other = is_lodged_as other.lodger other.reference m
