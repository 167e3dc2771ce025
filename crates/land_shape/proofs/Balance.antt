-- Lemmas: two lists of edges have the same balance along every edge if the walks of one with the reversed
-- walks of the other are the same
use Rattle.std.proofs.Common.{◌≡◌, ◌↔◌, ℕ, ◌+◌, false, cond, List, [], ◌∷◌, ◌++◌, map, ◌⊎◌, inl, inr, refl, sym, ap, ◌∙◌, subst, arith, append_assoc}
use Rattle.std.proofs.lemmas.Int.{ints}
use Rattle.land_shape.specs.Matching.{pieces, reversed_edge, is_same_edge, count_along, HaveSameBalance}
use Rattle.land_shape.specs.Place.{Place, Edge}
use Rattle.land_shape.specs.Walks.{walk, walks, is_before, IsOneOf, HaveSameEdges}
use Rattle.land_shape.specs.Matching.{lies_inside}
use Rattle.land_shape.proofs.Betweenness.{edge, inside_after, inside_before}
use Rattle.land_shape.proofs.Chains.{same_pieces}
use Rattle.land_shape.proofs.MatchingLaw.{same_edge_is, tally-count}
use Rattle.land_shape.proofs.Order.{Before, never_itself, before_all, before_of, of_before, one_before, edge_is}
use Rattle.land_shape.proofs.Tallies.{tally, tally-append, either_way}
use Rattle.land_shape.proofs.Turning.{reversed_path, pieces-append, pieces-reversed_path, tally-reversed_path}
use Rattle.land_shape.proofs.WalkLemmas.{Rise, walk_pieces}

-- the walk of an edge, if it leads to a later place
abbrev pub own_walk : List Place → Edge → List Edge
own_walk ps e = cond (is_before e.from e.to) (walk e.from e.to ps) []

not_before : (p q : Place) → ¬ Before p q → is_before p q ≡ false
not_before p q n = either_way (is_before p q) (λ yes. absurd (n (before_of p q yes))) (λ no. no)

not_back : (p q : Place) → Before p q → ¬ Before q p
not_back p q h k = never_itself p (before_all p q p h k)

abbrev times : Edge → List Edge → ℕ
times z es = tally is_same_edge z es

module _ (places corners : List Place) (rise : Rise corners)
    (to : (q : Place) → IsOneOf q places → IsOneOf q corners) (from : (q : Place) → IsOneOf q corners → IsOneOf q places) where
  found : (a b : Place) → Before a b → pieces places (edge a b ∷ []) ≡ walk a b corners
  found a b up = same_pieces a b up places corners to from ∙ walk_pieces a b corners up rise

  back_pieces : (e : Edge) → pieces places (reversed_edge e ∷ []) ≡ reversed_path (pieces places (e ∷ []))
  back_pieces e = pieces-reversed_path places (e ∷ [])

  times_back : (e z : Edge) → times z (pieces places (reversed_edge e ∷ [])) ≡ times (reversed_edge z) (pieces places (e ∷ []))
  times_back e z = ap (times z) (back_pieces e) ∙ tally-reversed_path z (pieces places (e ∷ []))

  abbrev IsEven : Edge → Edge → Type 0
  IsEven e z =
      times z (pieces places (e ∷ [])) + (times (reversed_edge z) (own_walk corners e) + times z (own_walk corners (reversed_edge e)))
      ≡ times (reversed_edge z) (pieces places (e ∷ [])) + (times z (own_walk corners e) + times (reversed_edge z) (own_walk corners (reversed_edge e)))

  even : (e z : Edge) → IsEven e z
  even e z = elim (one_before e.from e.to) as (λ o. IsEven e z) [
    | inl up ↦
        rw (of_before e.from e.to up, not_before e.to e.from (not_back e.from e.to up), found e.from e.to up) (omega arith)
    | inr o ↦ elim o as (λ o. IsEven e z) [
      | inl level ↦
          (let r : reversed_edge e ≡ e = edge_is (reversed_edge e) e (sym level) level in
          let b : times z (pieces places (e ∷ [])) ≡ times (reversed_edge z) (pieces places (e ∷ [])) = ap (λ (f : Edge). times z (pieces places (f ∷ []))) (sym r) ∙ times_back e z in
          rw (
            not_before e.from e.to (λ h. never_itself e.from (subst (λ (q : Place). Before e.from q) (sym level) h)),
            not_before e.to e.from (λ h. never_itself e.from (subst (λ (q : Place). Before q e.from) (sym level) h)),
          ) (omega (arith, b)))
      | inr down ↦
          (let there : times z (pieces places (e ∷ [])) ≡ times (reversed_edge z) (walk e.to e.from corners)
          = times_back (reversed_edge e) z ∙ ap (times (reversed_edge z)) (found e.to e.from down) in
          let back : times (reversed_edge z) (pieces places (e ∷ [])) ≡ times z (walk e.to e.from corners)
          = times_back (reversed_edge e) (reversed_edge z) ∙ ap (times z) (found e.to e.from down) in
          rw (of_before e.to e.from down, not_before e.from e.to (not_back e.to e.from down)) (omega (arith, there, back)))
    ]
  ]

  abbrev AreEven : List Edge → Edge → Type 0
  AreEven es z =
      times z (pieces places es) + (times (reversed_edge z) (walks corners es) + times z (walks corners (map reversed_edge es)))
      ≡ times (reversed_edge z) (pieces places es) + (times z (walks corners es) + times (reversed_edge z) (walks corners (map reversed_edge es)))

  no_pieces : (ps : List Place) → pieces ps [] ≡ []
  no_pieces [] = refl
  no_pieces (p ∷ ps) = no_pieces ps

  all_even : (es : List Edge) (z : Edge) → AreEven es z
  all_even [] z = rw (no_pieces places) refl
  all_even (e ∷ es) z =
      let first = even e z in
      let rest = all_even es z in
      let split = pieces-append places (e ∷ []) es in
      rw (
        split,
        tally-append is_same_edge z (pieces places (e ∷ [])) (pieces places es),
        tally-append is_same_edge (reversed_edge z) (pieces places (e ∷ [])) (pieces places es),
        tally-append is_same_edge z (own_walk corners e) (walks corners es),
        tally-append is_same_edge (reversed_edge z) (own_walk corners e) (walks corners es),
        tally-append is_same_edge z (own_walk corners (reversed_edge e)) (walks corners (map reversed_edge es)),
        tally-append is_same_edge (reversed_edge z) (own_walk corners (reversed_edge e)) (walks corners (map reversed_edge es)),
      ) (omega (arith, first, rest))

pub walks-append : (ps : List Place) (es fs : List Edge) → walks ps (es ++ fs) ≡ walks ps es ++ walks ps fs
walks-append ps [] fs = refl
walks-append ps (e ∷ es) fs = ap (λ (gs : List Edge). own_walk ps e ++ gs) (walks-append ps es fs) ∙ sym (append_assoc (own_walk ps e) (walks ps es) (walks ps fs))

-- the pieces of walks lead only to later places
other_piece : (a b : Place) (z : Edge) → Before a b → ¬ Before z.from z.to → is_same_edge (edge a b) z ≡ false
other_piece a b z up n =
    either_way (is_same_edge (edge a b) z)
    (λ yes. let e = same_edge_is (edge a b) z yes in absurd (n (subst (λ (f : Edge). Before f.from f.to) e up)))
    (λ no. no)

walk_up : (a t : Place) (ps : List Place) (z : Edge) → Before a t → ¬ Before z.from z.to → times z (walk a t ps) ≡ 0
walk_up a t [] z up n = rw (other_piece a t z up n) refl
walk_up a t (p ∷ ps) z up n =
    either_way (lies_inside p (edge a t))
    (λ yes. rw (yes, other_piece a p z (inside_after a t p up yes) n) (omega (arith, walk_up p t ps z (inside_before a t p up yes) n)))
    (λ no. rw no (walk_up a t ps z up n))

walks_up : (ps : List Place) (es : List Edge) (z : Edge) → ¬ Before z.from z.to → times z (walks ps es) ≡ 0
walks_up ps [] z n = refl
walks_up ps (e ∷ es) z n =
    either_way (is_before e.from e.to)
    (λ yes. rw (yes, tally-append is_same_edge z (walk e.from e.to ps) (walks ps es)) (omega (arith, walk_up e.from e.to ps z (before_of e.from e.to yes) n, walks_up ps es z n)))
    (λ no. rw no (walks_up ps es z n))

-- the edges of one list and the reversed edges of the other
abbrev pub one_way : List Place → List Edge → List Edge → List Edge
one_way ps es fs = walks ps (es ++ map reversed_edge fs)

times_one_way : (ps : List Place) (es fs : List Edge) (z : Edge) → times z (one_way ps es fs) ≡ times z (walks ps es) + times z (walks ps (map reversed_edge fs))
times_one_way ps es fs z = ap (times z) (walks-append ps es (map reversed_edge fs)) ∙ tally-append is_same_edge z (walks ps es) (walks ps (map reversed_edge fs))

either_up : (z : Edge) → (¬ Before z.from z.to) ⊎ (¬ Before z.to z.from)
either_up z = elim (one_before z.from z.to) as (λ o. (¬ Before z.from z.to) ⊎ (¬ Before z.to z.from)) [
  | inl h ↦ inr (not_back z.from z.to h)
  | inr o ↦ elim o as (λ o. (¬ Before z.from z.to) ⊎ (¬ Before z.to z.from)) [
    | inl e ↦ inl (λ h. never_itself z.from (subst (λ (q : Place). Before z.from q) (sym e) h))
    | inr h ↦ inl (not_back z.to z.from h)
  ]
]

pub as_times : (es fs : List Edge) → HaveSameEdges es fs → (z : Edge) → times z es ≡ times z fs
as_times es fs h z = tally-count z es ∙ h z ∙ sym (tally-count z fs)

pub as_counts : (es fs : List Edge) → ((z : Edge) → times z es ≡ times z fs) → HaveSameEdges es fs
as_counts es fs h z = sym (tally-count z es) ∙ h z ∙ tally-count z fs

abbrev IsLedAlike : List Edge → List Edge → Edge → Type 0
IsLedAlike ours theirs z = count_along z ours ≡ count_along z theirs

abbrev Weighed : List Edge → List Edge → Edge → Type 0
Weighed ours theirs z = times z ours + times (reversed_edge z) theirs ≡ times z theirs + times (reversed_edge z) ours

pub same_ways : (places corners : List Place) → Rise corners
    → ((q : Place) → IsOneOf q places → IsOneOf q corners) → ((q : Place) → IsOneOf q corners → IsOneOf q places)
    → (ours theirs : List Edge) → HaveSameEdges (one_way corners ours theirs) (one_way corners theirs ours) ↔ HaveSameBalance (pieces places ours) (pieces places theirs)
same_ways places corners rise to from ours theirs = (
  λ same z. counted z (omega (
    arith,
    all_even places corners rise to from ours z,
    all_even places corners rise to from theirs z,
    as_times (one_way corners ours theirs) (one_way corners theirs ours) same z,
    as_times (one_way corners ours theirs) (one_way corners theirs ours) same (reversed_edge z),
    times_one_way corners ours theirs z,
    times_one_way corners theirs ours z,
    times_one_way corners ours theirs (reversed_edge z),
    times_one_way corners theirs ours (reversed_edge z),
  )),
  λ agree. as_counts (one_way corners ours theirs) (one_way corners theirs ours) (λ z. elim (either_up z) as (λ o. times z (one_way corners ours theirs) ≡ times z (one_way corners theirs ours)) [
    | inl n ↦ walks_up corners (ours ++ map reversed_edge theirs) z n ∙ sym (walks_up corners (theirs ++ map reversed_edge ours) z n)
    | inr n ↦ omega (
      arith,
      all_even places corners rise to from ours z,
      all_even places corners rise to from theirs z,
      weighed z (agree z),
      walks_up corners (ours ++ map reversed_edge theirs) (reversed_edge z) n,
      walks_up corners (theirs ++ map reversed_edge ours) (reversed_edge z) n,
      times_one_way corners ours theirs z,
      times_one_way corners theirs ours z,
      times_one_way corners ours theirs (reversed_edge z),
      times_one_way corners theirs ours (reversed_edge z),
    )
  ]),
)
  where
    counted : (z : Edge) → Weighed (pieces places ours) (pieces places theirs) z → IsLedAlike (pieces places ours) (pieces places theirs) z
    counted z h = omega (arith, ints, h, tally-count z (pieces places ours), tally-count z (pieces places theirs), tally-count (reversed_edge z) (pieces places ours), tally-count (reversed_edge z) (pieces places theirs))

    weighed : (z : Edge) → IsLedAlike (pieces places ours) (pieces places theirs) z → Weighed (pieces places ours) (pieces places theirs) z
    weighed z h = omega (arith, ints, h, tally-count z (pieces places ours), tally-count z (pieces places theirs), tally-count (reversed_edge z) (pieces places ours), tally-count (reversed_edge z) (pieces places theirs))
