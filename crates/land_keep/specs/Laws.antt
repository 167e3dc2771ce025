-- Laws of the definitions.
use Rattle.std.specs.Prelude.{◌≡◌, ℕ, Bool, true, false, Some, Err, ℤ, ◌<ℤ◌, ◌≤ℤ◌}
use Rattle.std.specs.FinMap as map
use Rattle.land_core.specs.Changes.{after}
use Rattle.land_core.specs.Members.{are_group_shares}
use Rattle.land_core.specs.Register.{is_single, shares_of}
use Rattle.land_core.specs.Units.{has_whole_shares}
use Rattle.land_core.specs.declared.ask.Request.{Request}
use Rattle.land_core.specs.declared.change.Change.{Change}
use Rattle.land_core.specs.declared.party.PartyRecord.{PartyRecord}
use Rattle.land_core.specs.declared.register.Register.{Register}
use Rattle.land_core.specs.declared.unit.UnitRecord.{UnitRecord}
use Rattle.land_keep.specs.Keeping.{CanWrite, Closes}
use Rattle.land_keep.specs.Machine.{step, written_timeline, now_of, asked_moment}
use Rattle.land_keep.specs.Timeline.{Timeline, IsSoundTimeline, register_at, last_register}
use Rattle.land_keep.specs.declared.store_fault.StoreFault.{StoreFault}
use Rattle.land_keep.specs.declared.store_fault.StoreFault.TheVariants.{NoMemory}
use Rattle.land_rules.specs.Alike.{IsReadRequest, LookAlike}

-- a timeline stays sound after a change that may be written
abbrev pub WritingKeepsSound : Type 0
WritingKeepsSound = (tl : Timeline) (change : Change) (stamp : ℤ) → IsSoundTimeline tl
    → CanWrite tl change stamp → IsSoundTimeline (written_timeline tl change stamp)

-- a change leaves the register at each moment before its stamp unchanged
abbrev pub PastStays : Type 0
PastStays = (tl : Timeline) (change : Change) (stamp t : ℤ) → t <ℤ stamp
    → register_at (written_timeline tl change stamp) t ≡ register_at tl t

-- a change applies from its stamp
abbrev pub ChangeApplies : Type 0
ChangeApplies = (tl : Timeline) (change : Change) (stamp t : ℤ) → stamp ≤ℤ t
    → register_at (written_timeline tl change stamp) t ≡ after change (last_register tl)

-- in each checked unit the shares of each type of right that occurs sum to 1, and so do those of each group's
-- members
pub record HasWholeShares (r : Register) : Type 0 where
  pub units : (n : ℕ) (u : UnitRecord) → map.get r.units n ≡ Some u → u.checked ≡ true
      → has_whole_shares r n ≡ true
  pub groups : (n : ℕ) (p : PartyRecord) → map.get r.parties n ≡ Some p → is_single p.kind ≡ false
      → are_group_shares (shares_of r n) ≡ true

-- at each moment of a sound timeline, all checked shares are whole
abbrev pub SharesAreWhole : Type 0
SharesAreWhole = (tl : Timeline) (t : ℤ) → IsSoundTimeline tl → HasWholeShares (register_at tl t)

-- after each accepted change, at each moment of the new timeline, all checked shares are whole
abbrev pub ChangesKeepSharesWhole : Type 0
ChangesKeepSharesWhole = (tl : Timeline) (change : Change) (stamp t : ℤ) → IsSoundTimeline tl
    → CanWrite tl change stamp → HasWholeShares (register_at (written_timeline tl change stamp) t)

-- if a keeper is open after a call, as one in memory always is, the only fault it can return is 501 (out of
-- memory), never 502 or 503
abbrev pub OpenKeepersFailOnlyForMemory : Type 0
OpenKeepersFailOnlyForMemory = (closed : Bool) (fault : StoreFault)
    → Closes {T = Unit {0}} closed false (Err fault) → fault ≡ NoMemory

-- the reply to a read depends only on now, the last register and the register at the requested moment, on
-- nothing else of the timeline
abbrev pub ReadsUseTwoRegisters : Type 0
ReadsUseTwoRegisters = (clock : ℤ) (request : Request) (one other : Timeline)
    → IsReadRequest request.ask → now_of clock one ≡ now_of clock other
    → last_register one ≡ last_register other
    → register_at one (asked_moment request.ask (now_of clock one))
    ≡ register_at other (asked_moment request.ask (now_of clock one))
    → (step clock request one).0 ≡ (step clock request other).0

-- replies reveal nothing unseen (noninterference). Take two sound timelines, each with its own reading of the
-- clock and the same now. If their last registers look alike to a caller, and so do their registers at the
-- requested moment, even one before the first commit, then each view, list and sheet has the same reply in
-- both, including the number of a denial.
abbrev pub RepliesRevealNothingUnseen : Type 0
RepliesRevealNothingUnseen = (clock other_clock : ℤ) (request : Request) (one other : Timeline)
    → IsSoundTimeline one → IsSoundTimeline other
    → IsReadRequest request.ask → now_of clock one ≡ now_of other_clock other
    → LookAlike (last_register one) (last_register other) request.caller
    → LookAlike (register_at one (asked_moment request.ask (now_of clock one)))
    (register_at other (asked_moment request.ask (now_of clock one))) request.caller
    → (step clock request one).0 ≡ (step other_clock request other).0
