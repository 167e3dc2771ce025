-- Laws of the text of a history, each on definitions only.
use Rattle.std.specs.List.Sorted.{IsPermutation}
use Rattle.std.specs.List.{AllByRecursion}
use Rattle.std.specs.Prelude.{◌≡◌, ℕ, true, ℤ, ◌<ℤ◌, ◌≤ℤ◌, List, ◌∷◌, ◌++◌}
use Rattle.land_core.specs.Entries.{are_distinct}
use Rattle.land_core.specs.declared.change.Change.{Change}
use Rattle.land_core.specs.declared.mutation.MutationRecord.{MutationRecord}
use Rattle.land_core.specs.declared.parcel.ParcelRecord.{ParcelRecord}
use Rattle.land_core.specs.declared.register.Register.{Register}
use Rattle.land_digest.specs.Events.{events_upto, have_distinct_places}
use Rattle.land_digest.specs.History.{history_events, history_text}
use Rattle.land_digest.specs.Known.{history_upto, moments_upto}
use Rattle.land_shape.specs.Outline.{IsOutline}
use Rattle.land_tables_history.specs.Changed.{changed_history}
use Rattle.land_tables_history.specs.History.{IsRegisterAt}
use Rattle.land_tables_history.specs.Intervals.{has_intervals}
use Rattle.land_tables_history.specs.Open.{never}
use Rattle.land_tables_history.specs.ValidHistory.{is_same_stamp}
use Rattle.land_tables_history.specs.declared.history.History.{History}
use Rattle.land_tables_history.specs.declared.moment.Moment.{Moment}
use Rattle.land_tables_history.specs.declared.version.Version.{Version}
use Rattle.land_wire_json.specs.Texts.Limits.{IsContentWithin}

-- ---- conditions

-- stamps are distinct; each lifespan starts at one and ends after it, at one or never; no two of one key
-- overlap
pub record HasIntervals (moments : List Moment) (h : History) : Type 0 where
  pub stamps : are_distinct is_same_stamp moments ≡ true
  pub lifespans : has_intervals moments h ≡ true

abbrev pub HasParcelOutline : Version (ℕ × ParcelRecord) → Type 0
HasParcelOutline v = IsOutline v.what.1.outline

abbrev pub HasContentWithin : Version (ℕ × MutationRecord) → Type 0
HasContentWithin v = IsContentWithin v.what.1.content

-- outlines are outlines and contents are within the limits of their types, as in each history that the
-- program holds
pub record HasExactValues (h : History) : Type 0 where
  pub parcels : AllByRecursion HasParcelOutline h.parcels
  pub mutations : AllByRecursion HasContentWithin h.mutations

-- two histories have the same versions, in any order
pub record HaveSameVersions (h k : History) : Type 0 where
  pub parties : IsPermutation h.parties k.parties
  pub roles : IsPermutation h.roles k.roles
  pub members : IsPermutation h.members k.members
  pub units : IsPermutation h.units k.units
  pub parcels : IsPermutation h.parcels k.parcels
  pub rrrs : IsPermutation h.rrrs k.rrrs
  pub sources : IsPermutation h.sources k.sources
  pub mutations : IsPermutation h.mutations k.mutations
  pub namings : IsPermutation h.namings k.namings
  pub mandates : IsPermutation h.mandates k.mandates

-- ---- laws

-- a change and its moment leave the text up to each earlier stamp unchanged
abbrev pub AppendingKeepsText : Type 0
AppendingKeepsText =
    (moments : List Moment) (h : History) (next : ℕ) (change : Change) (stamp t : ℤ) → t <ℤ stamp → t <ℤ never
    → history_text (record { stamp = stamp; next = change.next } ∷ moments)
    (changed_history next change stamp h) t
    ≡ history_text moments h t

-- the moments and the versions up to a stamp are the same, and so is the register at each moment up to it
pub record AreSameUpto (s : ℤ) (ones others : List Moment) (h k : History) : Type 0 where
  pub moments : IsPermutation (moments_upto s ones) (moments_upto s others)
  pub versions : HaveSameVersions (history_upto s h) (history_upto s k)
  pub registers : (t : ℤ) (register : Register) → t ≤ℤ s → IsRegisterAt t h register
      → IsRegisterAt t k register

-- the text binds the history: if two histories have the same text up to a stamp, they are the same up to it
abbrev pub TextBindsHistory : Type 0
TextBindsHistory =
    (ones others : List Moment) (h k : History) (s : ℤ) → s <ℤ never
    → HasIntervals ones h → HasIntervals others k → HasExactValues h → HasExactValues k
    → history_text ones h s ≡ history_text others k s → AreSameUpto s ones others h k

-- the text up to a stamp is a prefix of the text up to a later one
abbrev pub EarlierTextIsPrefix : Type 0
EarlierTextIsPrefix =
    (moments : List Moment) (h : History) (s t : ℤ) → s ≤ℤ t
    → (rest : List ℕ) × (history_text moments h t ≡ history_text moments h s ++ rest)

-- the text does not depend on the order of the moments and the versions
abbrev pub TextIgnoresRowOrder : Type 0
TextIgnoresRowOrder =
    (ones others : List Moment) (h k : History) (s : ℤ) → HasIntervals ones h → HasIntervals others k
    → IsPermutation ones others → HaveSameVersions h k → history_text ones h s ≡ history_text others k s

-- no two events have the same place in the order
abbrev pub EventsHaveDistinctPlaces : Type 0
EventsHaveDistinctPlaces =
    (moments : List Moment) (h : History) (s : ℤ) → HasIntervals moments h
    → have_distinct_places (events_upto s (history_events moments h)) ≡ true
