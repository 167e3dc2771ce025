-- Laws on definitions only: the effect of a change on the register before and after its stamp.
use Rattle.std.specs.Prelude.{◌≡◌, ℕ, true, List, [], ◌∷◌, Some, ℤ, ◌<◌, ◌≤◌, ◌<ℤ◌, ◌≤ℤ◌, ◌⊎◌}
use Rattle.std.specs.FinMap as map
use Rattle.std.specs.List.{AllByRecursion}
use Rattle.land_core.specs.Changes.{NamesKeysOnce, after}
use Rattle.land_core.specs.Soundness.{IsSound}
use Rattle.land_core.specs.declared.change.Change.{Change}
use Rattle.land_core.specs.declared.mutation.MutationRecord.{MutationRecord}
use Rattle.land_core.specs.declared.register.Register.{Register}
use Rattle.land_tables_history.specs.Changed.{changed_history}
use Rattle.land_tables_history.specs.History.{IsRegisterAt, named_units}
use Rattle.land_tables_history.specs.Intervals.{has_intervals}
use Rattle.land_tables_history.specs.Open.{have_ended, never}
use Rattle.land_tables_history.specs.Written.{written_history}
use Rattle.land_tables_history.specs.declared.history.History.{History}
use Rattle.land_tables_history.specs.declared.moment.Moment.{Moment}

-- an inserted mutation exists already, and refers to the same units
pub record IsUnchangedButState (r : Register) (number : ℕ) (m : MutationRecord) : Type 0 where
  pub old : MutationRecord
  pub there : map.get r.mutations number ≡ Some old
  pub units : named_units m.content ≡ named_units old.content

-- the mutations of a change are new, or exist with the same units, and none is ended
pub record PutsMutations (r : Register) (change : Change) : Type 0 where
  pub used : (number : ℕ) (m : MutationRecord) → map.get r.mutations number ≡ Some m → number < r.next
  pub put : AllByRecursion (λ e. (r.next ≤ e.0) ⊎ IsUnchangedButState r e.0 e.1) change.put.mutations
  pub ended : change.ended.mutations ≡ []

-- a change leaves the register at all earlier moments unchanged
abbrev pub ChangesKeepThePast : Type 0
ChangesKeepThePast = (next : ℕ) (change : Change) (stamp t : ℤ) (history : History) (r : Register)
    → t <ℤ stamp → t <ℤ never → IsRegisterAt t history r
    → IsRegisterAt t (changed_history next change stamp history) r

-- from its stamp on, the register is the one after the change, if the last change was before that
abbrev pub ChangesTakeEffect : Type 0
ChangesTakeEffect = (change : Change) (last stamp t : ℤ) (history : History) (r : Register)
    → have_ended last history ≡ true → last <ℤ stamp → stamp ≤ℤ t → t <ℤ never → NamesKeysOnce change
    → PutsMutations r change
    → IsRegisterAt t history r → IsRegisterAt t (changed_history r.next change stamp history) (after change r)

-- then each lifespan is open, or has ended by the stamp
abbrev pub ChangedHaveEnded : Type 0
ChangedHaveEnded = (next : ℕ) (change : Change) (last stamp : ℤ) (history : History)
    → have_ended last history ≡ true → last <ℤ stamp
    → have_ended stamp (changed_history next change stamp history) ≡ true

-- A change and its commit keep all intervals valid, if no commit was later than `last` and the register after
-- the change is sound.
abbrev pub ChangesKeepIntervals : Type 0
ChangesKeepIntervals =
    (moments : List Moment) (change : Change) (last stamp : ℤ) (history : History) (r : Register)
    → has_intervals moments history ≡ true → AllByRecursion (λ (m : Moment). m.stamp ≤ℤ last) moments
    → last <ℤ stamp → stamp <ℤ never
    → NamesKeysOnce change → PutsMutations r change → IsRegisterAt last history r → IsSound (after change r)
    → has_intervals (record { stamp = stamp; next = change.next } ∷ moments)
    (changed_history r.next change stamp history) ≡ true

-- A write closes each version that the change ends or replaces, if all intervals are valid, no commit was
-- later than `last`, and the register then was sound: no current version has the number of a new object.
abbrev pub WritesCloseAll : Type 0
WritesCloseAll =
    (moments : List Moment) (change : Change) (last stamp : ℤ) (history : History) (r : Register)
    → has_intervals moments history ≡ true → AllByRecursion (λ (m : Moment). m.stamp ≤ℤ last) moments
    → last <ℤ never → IsRegisterAt last history r → IsSound r
    → written_history r.next change stamp history ≡ changed_history r.next change stamp history
