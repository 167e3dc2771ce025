-- The part of a history that is known at a moment.
use Rattle.std.specs.Prelude.{ℤ, int_le, List, filter, map as map_list, if◌then◌else◌}
use Rattle.land_tables_history.specs.Open.{never}
use Rattle.land_tables_history.specs.declared.history.History.{History}
use Rattle.land_tables_history.specs.declared.moment.Moment.{Moment}
use Rattle.land_tables_history.specs.declared.version.Version.{Version}

-- the moments up to another
abbrev pub moments_upto : ℤ → List Moment → List Moment
moments_upto t moments = filter (λ m. int_le m.stamp t) moments

-- a later end is not known
abbrev pub known_end : ℤ → ℤ → ℤ
known_end t until = if int_le until t then until else never

abbrev pub known_version : {X : Type 0} → ℤ → Version X → Version X
known_version t v = record v { until = known_end t v.until }

-- the versions that start up to a moment, as they are known at it
abbrev pub versions_upto : {X : Type 0} → ℤ → List (Version X) → List (Version X)
versions_upto t versions = map_list (known_version t) (filter (λ v. int_le v.since t) versions)

-- the history as it is known at a moment
abbrev pub history_upto : ℤ → History → History
history_upto t h = record {
  parties = versions_upto t h.parties;
  roles = versions_upto t h.roles;
  members = versions_upto t h.members;
  units = versions_upto t h.units;
  parcels = versions_upto t h.parcels;
  rrrs = versions_upto t h.rrrs;
  sources = versions_upto t h.sources;
  mutations = versions_upto t h.mutations;
  namings = versions_upto t h.namings;
  mandates = versions_upto t h.mandates;
}
