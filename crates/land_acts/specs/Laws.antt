-- Laws on all acts, stated only over the definitions.
use Rattle.std.specs.Prelude.{◌≡◌, ◌≢◌, ◌≤◌, true, Option, Some, None, Ok, ℤ}
use Rattle.land_acts.specs.Outcome.{outcome_of}
use Rattle.land_acts.specs.Slices.{needed_slice_of, slice_of}
use Rattle.land_acts.specs.declared.mutations.refusal.Planned.TheVariants.{New}
use Rattle.land_core.specs.Acts.{is_well_formed}
use Rattle.land_core.specs.Changes.{after, NamesKeysOnce}
use Rattle.land_core.specs.Register.{holds}
use Rattle.land_core.specs.Soundness.{IsSound}
use Rattle.land_core.specs.declared.act.Act.{Act}
use Rattle.land_core.specs.declared.caller.Caller.{Caller}
use Rattle.land_core.specs.declared.change.Change.{Change}
use Rattle.land_core.specs.declared.change.Done.{Done}
use Rattle.land_core.specs.declared.register.Register.{Register}

-- an act has the same outcome on a register and on its slice: the same refusal, change and receipt
abbrev pub SlicesSuffice : Type 0
SlicesSuffice = (r : Register) (caller : Caller) (a : Act) (stamp : Option ℤ)
    → outcome_of (slice_of r caller a) caller a stamp ≡ outcome_of r caller a stamp

-- and it has the same outcome on the needed part of the slice
abbrev pub NeededSlicesSuffice : Type 0
NeededSlicesSuffice = (r : Register) (caller : Caller) (a : Act) (stamp : Option ℤ)
    → outcome_of (needed_slice_of r caller a) caller a stamp ≡ outcome_of r caller a stamp

-- a change is accepted if it is the outcome of a well-formed act of a caller that holds its role, with this
-- stamp
pub record IsAccepted (r : Register) (change : Change) (stamp : ℤ) : Type 0 where
  pub caller : Caller
  pub act : Act
  pub done : Done
  pub well_formed : is_well_formed act ≡ true
  pub role_held : holds r caller.party caller.role ≡ true
  pub outcome : outcome_of r caller act (Some stamp) ≡ Ok (New change done)

-- an accepted act keeps a sound register sound, and never reuses a number
abbrev pub AcceptedKeepsSound : Type 0
AcceptedKeepsSound = (r : Register) (change : Change) (stamp : ℤ) → IsSound r → IsAccepted r change stamp
    → IsSound (after change r) × (r.next ≤ change.next)

-- the change of an accepted act of a sound register writes and ends no key twice; in a sound register the
-- next number is unused
abbrev pub AcceptedNamesKeysOnce : Type 0
AcceptedNamesKeysOnce = (r : Register) (change : Change) (stamp : ℤ) → IsSound r → IsAccepted r change stamp
    → NamesKeysOnce change

-- the receipt of an accepted act has the stamp of its change
abbrev pub AcceptedReturnsStamp : Type 0
AcceptedReturnsStamp =
    (r : Register) (change : Change) (stamp : ℤ) → (h : IsAccepted r change stamp) → h.done.stamp ≡ stamp

-- without a stamp, no act is accepted
abbrev pub NothingWithoutStamp : Type 0
NothingWithoutStamp = (r : Register) (caller : Caller) (a : Act) (change : Change) (done : Done)
    → outcome_of r caller a None ≢ Ok (New change done)
