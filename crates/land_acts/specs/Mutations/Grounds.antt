-- The comparison of ground: whether new outlines cover exactly what old ones cover. This is the only
-- geometric condition of an act.
use Rattle.std.specs.Prelude.{Bool, ◌&&◌, List, ◌++◌}
use Rattle.std.specs.List.{list_all}
use Rattle.land_shape.specs.Matching.{passes_matching_test, runs_counterclockwise}
use Rattle.land_shape.specs.Place.{Place}

-- new outlines cover exactly the ground of the old ones if all run counterclockwise, as outlines always do,
-- and the two lists match
abbrev pub are_same_ground : (old new : List (List Place)) → Bool
are_same_ground old new = list_all runs_counterclockwise (old ++ new) && passes_matching_test old new
