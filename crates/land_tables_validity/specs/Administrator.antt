-- State administrators of a history.
use Rattle.std.specs.Prelude.{pos, ◌+ℤ◌, Bool, List, filter, map as map_list}
use Rattle.land_core.specs.Role.{is_role}
use Rattle.land_core.specs.declared.role.Role.TheVariants.{StateAdministrator}
use Rattle.land_core.specs.declared.roles.Grant.{Grant}
use Rattle.land_tables_history.specs.declared.moment.Moment.{Moment}
use Rattle.land_tables_history.specs.declared.version.Version.{Version}
use Rattle.land_tables_validity.specs.CoverageSpans.{required_span, provided_span}
use Rattle.land_tables_history.specs.declared.sweeps.cover.CoverageSpan.{CoverageSpan}

-- the role is state administrator
abbrev pub is_of_administrator : Version Grant → Bool
is_of_administrator v = is_role v.what.role StateAdministrator

abbrev pub administrators : List (Version Grant) → List (Version Grant)
administrators roles = filter is_of_administrator roles

-- a commit as a version that is current only at its stamp
abbrev pub instant : Moment → Version Moment
instant m = record { what = m; since = m.stamp; until = m.stamp +ℤ pos 1 }

-- under one key, state administrators are provided, and each commit requires one
abbrev pub provided_administrators : List (Version Grant) → List CoverageSpan
provided_administrators roles = map_list (provided_span (λ r. 0)) (administrators roles)

abbrev pub required_instants : List Moment → List CoverageSpan
required_instants moments = map_list (required_span (λ m. 0)) (map_list instant moments)
