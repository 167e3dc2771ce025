-- The decoded tables of a store, and the tests that they pass.
use Rattle.std.specs.Prelude.{◌≡◌, ◌<ℤ◌, ◌==◌, ℕ, Bool, true, false, List, [], ◌∷◌, Result, Ok, Err, Some}
use Rattle.std.specs.Prelude.{None, ⊤}
use Rattle.land_core.specs.Numbers.{last_moment}
use Rattle.land_core.specs.declared.mandates.Mandate.{Mandate}
use Rattle.land_tables.specs.declared.fault.AdoptFault.{AdoptFault}
use Rattle.land_tables.specs.declared.fault.AdoptFault.TheVariants as fault
use Rattle.land_tables.specs.declared.table_contents.TableContents.{TableContents}
use Rattle.land_tables_history.specs.Intervals.{has_intervals}
use Rattle.land_tables_history.specs.ValidHistory.{IsValidHistory}
use Rattle.land_tables_history.specs.Moments.{last}
use Rattle.land_tables_history.specs.declared.moment.Moment.{Moment}
use Rattle.land_tables_history.specs.declared.version.Version.{Version}
use Rattle.land_tables_rows.specs.Listing.Reading.{Says, DecodesHistoryV1, DecodesHistory, editions, mandates}
use Rattle.land_tables_rows.specs.Listing.Reading.{moments}
use Rattle.land_tables_rows.specs.Rowids.{HaveUniqueRowidsV1, HasUniqueRowids}
use Rattle.land_tables_rows.specs.declared.edition.reading.Edition.{Edition}
use Rattle.land_tables_schema.specs.Tables.{mandate}
use Rattle.sqlite_trees.specs.Tree.{Trees}

-- all rows of the tables of schema version 1, which has no mandates, decode to these values
pub record DecodesRowsV1 (db : Trees) (found : TableContents) : Type 0 where
  pub editions : Says editions db found.editions
  pub moments : Says moments db found.moments
  pub history : DecodesHistoryV1 db found.history

-- and rows of versions have unique rowids
pub record ReadsTablesV1 (db : Trees) (found : TableContents) : Type 0 where
  pub said : DecodesRowsV1 db found
  pub keyed : HaveUniqueRowidsV1 db

-- the rows of mandates decode to these, and have unique rowids
pub record ReadsMandates (db : Trees) (listed : List (Version Mandate)) : Type 0 where
  pub said : Says mandates db listed
  pub keyed : HasUniqueRowids mandate db

-- all rows of all tables decode to these values
pub record DecodesAllRows (db : Trees) (found : TableContents) : Type 0 where
  pub editions : Says editions db found.editions
  pub moments : Says moments db found.moments
  pub history : DecodesHistory db found.history

-- and rows of versions have unique rowids
pub record Finds (db : Trees) (found : TableContents) : Type 0 where
  pub said : DecodesAllRows db found
  pub keyed : HaveUniqueRowidsV1 db
  pub mandates : HasUniqueRowids mandate db

-- there is exactly one edition, and its id is 1
abbrev pub is_one_edition : List Edition → Bool
is_one_edition [] = false
is_one_edition (e ∷ []) = e.id == 1
is_one_edition (e ∷ (f ∷ es)) = false

-- the edition is of this version
abbrev pub is_version : ℕ → List Edition → Bool
is_version n [] = false
is_version n (e ∷ es) = e.version == n

-- the result of checking the edition: it is the only one, and of this version; or there is not exactly one,
-- or it is of another version
abbrev pub IsEditionOf : ℕ → List Edition → Result (Unit {0}) AdoptFault → Type 0
IsEditionOf n es (Ok done) = (is_one_edition es ≡ true) × (is_version n es ≡ true)
IsEditionOf n es (Err fault.NotOurs) = is_one_edition es ≡ false
IsEditionOf n es (Err fault.Version) = (is_one_edition es ≡ true) × (is_version n es ≡ false)
IsEditionOf n es (Err fault.Interval) = ⊥
IsEditionOf n es (Err fault.Unsound) = ⊥
IsEditionOf n es (Err fault.NoMemory) = ⊥
IsEditionOf n es (Err fault.Store) = ⊥

-- the contents pass the other tests: valid intervals, and a sound register at each moment
pub record PassesTests (found : TableContents) : Type 0 where
  pub intervals : has_intervals found.moments found.history ≡ true
  pub valid_history : IsValidHistory found.moments found.history

-- the first of these tests that the contents fail. No row that decodes has a moment after the last one, so
-- the store then returned data that was not written.
abbrev pub FailsTest : AdoptFault → TableContents → Type 0
FailsTest fault.NotOurs found = ⊥
FailsTest fault.Version found = ⊥
FailsTest fault.Interval found = has_intervals found.moments found.history ≡ false
FailsTest fault.Unsound found =
    (has_intervals found.moments found.history ≡ true) × (¬ IsValidHistory found.moments found.history)
FailsTest fault.NoMemory found = ⊤
FailsTest fault.Store found = (m : Moment) × (last found.moments ≡ Some m) × (last_moment <ℤ m.stamp)

-- the contents pass the tests, and this is their latest moment
pub record IsValidWith (found : TableContents) (latest : Moment) : Type 0 where
  pub passes : PassesTests found
  pub last : last found.moments ≡ Some latest

-- the result of validating the contents: they pass these tests, or fail one
abbrev pub IsValidated : TableContents → Result Moment AdoptFault → Type 0
IsValidated found (Ok latest) = IsValidWith found latest
IsValidated found (Err missed) = FailsTest missed found

-- the result of finding the latest moment: the moment, or that there is none
abbrev pub IsLatest : List Moment → Result Moment AdoptFault → Type 0
IsLatest listed (Ok latest) = last listed ≡ Some latest
IsLatest listed (Err fault.Unsound) = last listed ≡ None
IsLatest listed (Err fault.Store) = (m : Moment) × (last listed ≡ Some m) × (last_moment <ℤ m.stamp)
IsLatest listed (Err fault.NotOurs) = ⊥
IsLatest listed (Err fault.Version) = ⊥
IsLatest listed (Err fault.Interval) = ⊥
IsLatest listed (Err fault.NoMemory) = ⊥
