-- Proof that a walk over all corners from left to right yields the pieces of an edge
use Rattle.std.proofs.Common.{◌≡◌, Bool, true, false, List, [], ◌∷◌, ◌++◌, refl, sym, ap, ◌∙◌}
use Rattle.std.specs.List.{AllByRecursion}
use Rattle.land_shape.specs.Matching.{lies_inside, pieces}
use Rattle.land_shape.specs.Place.{Place, Edge}
use Rattle.land_shape.specs.Walks.{walk, is_before, IsAscendingBy}
use Rattle.land_shape.proofs.Betweenness.{edge, inside_after, inside_before}
use Rattle.land_shape.proofs.Order.{Before, never_itself, before_all, before_of, of_before}
use Rattle.land_shape.proofs.Tallies.{either_way}
use Rattle.land_shape.proofs.Turning.{pieces-append}

-- the places are ordered from left to right
abbrev pub Rise : List Place → Type 0
Rise ps = IsAscendingBy is_before ps

pub clash : (P : Type 0) (b : Bool) → b ≡ true → b ≡ false → P
clash P b t f = let e : true ≡ false = sym t ∙ f in cc e

-- no place that is not before the end of a piece cuts it
uncut : (a b : Place) (ps : List Place) → Before a b → AllByRecursion (λ q. is_before q b ≡ false) ps → pieces ps (edge a b ∷ []) ≡ edge a b ∷ []
uncut a b [] up h = refl
uncut a b (p ∷ ps) up h =
    either_way (lies_inside p (edge a b))
    (λ yes. clash (pieces (p ∷ ps) (edge a b ∷ []) ≡ edge a b ∷ []) (is_before p b) (of_before p b (inside_before a b p up yes)) h.0)
    (λ no. rw no (uncut a b ps up h.1))

pub walk_pieces : (a t : Place) (ps : List Place) → Before a t → Rise ps → pieces ps (edge a t ∷ []) ≡ walk a t ps
walk_pieces a t [] up h = refl
walk_pieces a t (p ∷ ps) up h =
    either_way (lies_inside p (edge a t))
    (λ yes. rw yes (
    pieces-append ps (edge a p ∷ []) (edge p t ∷ [])
    ∙ ap (λ (es : List Edge). es ++ pieces ps (edge p t ∷ [])) (uncut a p ps (inside_after a t p up yes) h.0)
    ∙ ap (λ (es : List Edge). edge a p ∷ es) (walk_pieces p t ps (inside_before a t p up yes) h.1)
    ))
    (λ no. rw no (walk_pieces a t ps up h.1))

-- ---- the corners that a walk can skip

-- those that are not after its start
pub skip_before : (a t : Place) (ps qs : List Place) → Before a t → AllByRecursion (λ q. is_before q a ≡ true) ps → walk a t (ps ++ qs) ≡ walk a t qs
skip_before a t [] qs up h = refl
skip_before a t (p ∷ ps) qs up h =
    either_way (lies_inside p (edge a t))
    (λ yes. absurd (never_itself p (before_all p a p (before_of p a h.0) (inside_after a t p up yes))))
    (λ no. rw no (skip_before a t ps qs up h.1))

-- those that are not before its end
pub skip_after : (a t : Place) (ps qs : List Place) → Before a t → AllByRecursion (λ q. is_before q t ≡ false) qs → walk a t (ps ++ qs) ≡ walk a t ps
skip_after a t [] [] up h = refl
skip_after a t [] (q ∷ qs) up h =
    either_way (lies_inside q (edge a t))
    (λ yes. clash (walk a t (q ∷ qs) ≡ walk a t []) (is_before q t) (of_before q t (inside_before a t q up yes)) h.0)
    (λ no. rw no (skip_after a t [] qs up h.1))
skip_after a t (p ∷ ps) qs up h =
    either_way (lies_inside p (edge a t))
    (λ yes. rw yes (ap (λ (es : List Edge). edge a p ∷ es) (skip_after p t ps qs (inside_before a t p up yes) h)))
    (λ no. rw no (skip_after a t ps qs up h))
