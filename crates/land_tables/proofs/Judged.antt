-- Decoded tables pass the tests, or fail the first that they fail: valid intervals, and a sound register at
-- each moment.
use Rattle.std.proofs.Common.{◌≡◌, Bool, true, false, cond, List, [], ◌∷◌, Some, None, Ok, Err}
use Rattle.land_tables.specs.TableContents.{IsValidated, IsLatest}
use Rattle.land_tables.specs.declared.fault.AdoptFault.{AdoptFault}
use Rattle.land_tables.specs.declared.fault.AdoptFault.TheVariants.{NotOurs, Interval, Unsound, Version, NoMemory, Store}
use Rattle.land_tables.specs.declared.table_contents.TableContents.{TableContents}
use Rattle.land_tables_history.specs.Intervals.{has_intervals}
use Rattle.land_tables_history.specs.ValidHistory.{IsValidHistory}
use Rattle.land_tables_history.specs.Moments.{follows, last, latest_from}
use Rattle.land_tables_history.specs.declared.history.History.{History}
use Rattle.land_tables_history.specs.declared.moment.Moment.{Moment}

-- among some moments one is the latest
some_last : (m : Moment) (ms : List Moment) → latest_from (λ m. true) (Some m) ms ≡ None → ⊥
some_last m [] none = (let e = none in cc)
some_last m (n ∷ ns) none = go (follows (Some m) n) none (λ k. some_last k ns)
  where
    go : (b : Bool) → latest_from (λ m. true) (cond b (Some n) (Some m)) ns ≡ None → ((k : Moment) → latest_from (λ m. true) (Some k) ns ≡ None → ⊥) → ⊥
    go true none rest = rest n none
    go false none rest = rest m none

no_last : (ms : List Moment) (h : History) → last ms ≡ None → ¬ IsValidHistory ms h
no_last [] h none valid_history = (let e = valid_history.moments in cc)
no_last (m ∷ ms) h none valid_history = some_last m ms none

-- valid intervals without a representable latest moment
pub missed : (found : TableContents) (fault : AdoptFault) → has_intervals found.moments found.history ≡ true → IsLatest found.moments (Err fault) → IsValidated found (Err fault)
missed found Unsound intervals is = (intervals, no_last found.moments found.history is)
missed found Store intervals is = is
missed found NotOurs intervals is = absurd is
missed found Version intervals is = absurd is
missed found Interval intervals is = absurd is
missed found NoMemory intervals is = absurd is

-- contents that pass all tests
pub passed : (found : TableContents) (latest : Moment) → has_intervals found.moments found.history ≡ true → IsValidHistory found.moments found.history → last found.moments ≡ Some latest → IsValidated found (Ok latest)
passed found latest intervals valid_history is = record { passes = record { intervals = intervals; valid_history = valid_history }; last = is }
