-- Lemmas: lists of edges with the same balance along each of their edges have the same balance along every
-- edge
use Rattle.std.proofs.Common.{◌≡◌, ◌↔◌, ℕ, ◌+◌, ◌≤◌, true, List, [], ◌∷◌, ◌++◌, refl, arith, inl, inr, ◌⊎◌, subst}
use Rattle.std.specs.List.{list_all}
use Rattle.std.proofs.lemmas.Bool.Decides.{Decides-int_eq}
use Rattle.std.proofs.lemmas.Int.{ints}
use Rattle.std.proofs.lemmas.Bool.{and_from}
use Rattle.land_shape.specs.Matching.{HaveSameBalance, Match, TestLaw, count_along, have_same_balance_along, passes_matching_test, edges_of, is_same_edge, pieces, places_of, reversed_edge}
use Rattle.land_shape.specs.Place.{Place, Edge}
use Rattle.land_shape.proofs.MatchingLaw.{and_left, and_right, same_edge_is, tally-count}
use Rattle.land_shape.proofs.Tallies.{either_way, tally, tally-append}

abbrev LeadAlikeAlong : List Edge → List Edge → Edge → Type 0
LeadAlikeAlong ours theirs e = count_along e ours ≡ count_along e theirs

-- an edge that is counted passes a test that all listed edges pass
counted : (ours theirs es : List Edge) (e : Edge) → 1 ≤ tally is_same_edge e es → list_all (have_same_balance_along ours theirs) es ≡ true → LeadAlikeAlong ours theirs e
counted ours theirs [] e h all = absurd (omega arith)
counted ours theirs (f ∷ es) e h all =
    either_way (is_same_edge f e)
    (λ t. subst (LeadAlikeAlong ours theirs) (same_edge_is f e t)
    ((Decides-int_eq (count_along f ours) (count_along f theirs)).0 (and_left (have_same_balance_along ours theirs f) (list_all (have_same_balance_along ours theirs) es) all)))
    (λ t. let g : 1 ≤ 0 + tally is_same_edge e es = rw t at h in
    counted ours theirs es e (omega arith) (and_right (have_same_balance_along ours theirs f) (list_all (have_same_balance_along ours theirs) es) all))

none_or_some : (n : ℕ) → (n ≡ 0) ⊎ (1 ≤ n)
none_or_some n = grind arith

-- an edge that occurs in neither list, in neither direction, has balance 0 in both
everywhere : (ours theirs : List Edge) → list_all (have_same_balance_along ours theirs) (ours ++ theirs) ≡ true → HaveSameBalance ours theirs
everywhere ours theirs all e =
    let split = tally-append is_same_edge e ours theirs in
    let turned = tally-append is_same_edge (reversed_edge e) ours theirs in
    let t1 = tally-count e ours in let t2 = tally-count e theirs in let t3 = tally-count (reversed_edge e) ours in let t4 = tally-count (reversed_edge e) theirs in
    elim (none_or_some (tally is_same_edge e (ours ++ theirs))) [
      | inr some ↦ counted ours theirs (ours ++ theirs) e some all
      | inl none ↦ elim (none_or_some (tally is_same_edge (reversed_edge e) (ours ++ theirs))) [
        | inr some ↦ (let back : LeadAlikeAlong ours theirs (reversed_edge e) = counted ours theirs (ours ++ theirs) (reversed_edge e) some all in omega (arith, ints))
        | inl nowhere ↦ omega (arith, ints)
      ]
    ]

-- balances that agree along every edge agree along each edge of a list
at_each : (ours theirs es : List Edge) → HaveSameBalance ours theirs → list_all (have_same_balance_along ours theirs) es ≡ true
at_each ours theirs [] agree = refl
at_each ours theirs (e ∷ es) agree =
    and_from (have_same_balance_along ours theirs e) (list_all (have_same_balance_along ours theirs) es)
    ((Decides-int_eq (count_along e ours) (count_along e theirs)).1 (agree e))
    (at_each ours theirs es agree)

pub test_law : TestLaw
unfolding passes_matching_test Match
test_law rings others =
    let corners = places_of (rings ++ others) in
    let ours = pieces corners (edges_of rings) in
    let theirs = pieces corners (edges_of others) in
    (λ yes. everywhere ours theirs yes, λ agree. at_each ours theirs (ours ++ theirs) agree)
