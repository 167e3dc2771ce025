-- Lists of outlines with the same ground: they match, and so have the same total area.
use Rattle.std.proofs.Common.{◌≡◌, ◌↔◌, ◌+◌, Bool, true, false, ◌&&◌, List, [], ◌∷◌, ◌++◌, refl, sym, ap, ◌∙◌, arith, IsTrue, sum_by}
use Rattle.std.specs.List.{AllByRecursion, list_all}
use Rattle.std.proofs.lemmas.Int.{ints}
use Rattle.std.proofs.lemmas.List.Folds.{list_all-append}
use Rattle.std.proofs.lemmas.List.Sums.{sum_by-cons}
use Rattle.std.proofs.lemmas.Bool.{and_parts}
use Rattle.land_acts.specs.Mutations.Areas.{doubled_areas}
use Rattle.land_acts.specs.Mutations.Grounds.{are_same_ground}
use Rattle.land_shape.proofs.MatchingLaw.{matching_law}
use Rattle.land_shape.proofs.MatchingTest.{test_law}
use Rattle.land_shape.specs.Matching.{IsCounterclockwise, Match, passes_matching_test, runs_counterclockwise}
use Rattle.land_shape.specs.Outline.{doubled_area}
use Rattle.land_shape.specs.Place.{Place}

-- rings that pass the check run counterclockwise
all_left : (rings : List (List Place)) → list_all runs_counterclockwise rings ≡ true → AllByRecursion IsCounterclockwise rings
all_left [] h = tt
all_left (ring ∷ rings) h =
    let parts = and_parts (runs_counterclockwise ring) (list_all runs_counterclockwise rings) h in
    let left = parts.0 in
    (omega (arith, ints), all_left rings parts.1)

area_sums : (rings : List (List Place)) → doubled_areas rings ≡ sum_by doubled_area rings
area_sums [] = refl
area_sums (ring ∷ rings) = ap (λ n. doubled_area ring + n) (area_sums rings) ∙ sym (sum_by-cons doubled_area ring rings)

-- the same ground has the same area
pub same_area : (old new : List (List Place)) → are_same_ground old new ≡ true → doubled_areas old ≡ doubled_areas new
same_area old new same =
    let parts = and_parts (list_all runs_counterclockwise (old ++ new)) (passes_matching_test old new) same in
    let left = and_parts (list_all runs_counterclockwise old) (list_all runs_counterclockwise new) (sym (list_all-append runs_counterclockwise old new) ∙ parts.0) in
    area_sums old
    ∙ matching_law old new (all_left old left.0) (all_left new left.1) ((test_law old new).0 parts.1)
    ∙ sym (area_sums new)

-- lists with the same ground match
pub same_match : (old new : List (List Place)) → are_same_ground old new ≡ true → Match old new
same_match old new same = (test_law old new).0 (and_parts (list_all runs_counterclockwise (old ++ new)) (passes_matching_test old new) same).1

-- two decisions of one fact are equal
one_test : {P : Type 0} (b t : Bool) → (IsTrue b ↔ P) → (IsTrue t ↔ P) → b ≡ t
one_test true t h k = sym (k.1 (h.0 refl))
one_test false true h k = h.1 (k.0 refl)
one_test false false h k = refl

-- outlines that run counterclockwise have the same ground exactly if they match
pub told_by_matching : (b : Bool) (old new : List (List Place)) → list_all runs_counterclockwise old ≡ true → list_all runs_counterclockwise new ≡ true
    → (IsTrue b ↔ Match old new) → b ≡ are_same_ground old new
told_by_matching b old new h k tells =
    let left : list_all runs_counterclockwise (old ++ new) ≡ true = list_all-append runs_counterclockwise old new ∙ ap (λ l. l && list_all runs_counterclockwise new) h ∙ k in
    one_test b (passes_matching_test old new) tells (test_law old new) ∙ sym (ap (λ l. l && passes_matching_test old new) left)
