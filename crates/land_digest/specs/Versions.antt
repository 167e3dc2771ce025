-- The events of versions: each starts, and ends.
use Rattle.std.specs.Prelude.{ℕ, ℤ, List, [], ◌∷◌, flat_map, map as map_list}
use Rattle.land_digest.specs.Events.{Event}
use Rattle.land_digest.specs.Fields.{Field, number_field}
use Rattle.land_tables_history.specs.declared.moment.Moment.{Moment}
use Rattle.land_tables_history.specs.declared.version.Version.{Version}

-- a row of a table: the number of the table, the two numbers of the key (the second is 0 if the key is one
-- number), and the other columns
pub record Row : Type 0 where
  pub table : ℕ
  pub first : ℕ
  pub second : ℕ
  pub values : List Field

-- the start of a row, with all its values
abbrev pub start_of : Row → ℤ → Event
start_of row since = record {
  stamp = since;
  ends = 0;
  table = row.table;
  first = row.first;
  second = row.second;
  values = row.values;
}

-- the end of a row, with its key only
abbrev pub end_of : Row → ℤ → Event
end_of row until = record {
  stamp = until;
  ends = 1;
  table = row.table;
  first = row.first;
  second = row.second;
  values = [];
}

-- a version starts and ends with its lifespan
abbrev pub version_events : {X : Type 0} → (X → Row) → Version X → List Event
version_events row v = start_of (row v.what) v.since ∷ end_of (row v.what) v.until ∷ []

abbrev pub table_events : {X : Type 0} → (X → Row) → List (Version X) → List Event
table_events row versions = flat_map (version_events row) versions

-- a moment is the start of a row of table 0, with the number of the next new object
abbrev pub moment_event : Moment → Event
moment_event m = record {
  stamp = m.stamp;
  ends = 0;
  table = 0;
  first = 0;
  second = 0;
  values = number_field m.next ∷ [];
}

abbrev pub moment_events : List Moment → List Event
moment_events moments = map_list moment_event moments
