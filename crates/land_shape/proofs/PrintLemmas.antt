-- One more point of a printed ring
use Rattle.std.proofs.Common.{◌≡◌, ℕ, ◌+◌, ◌<◌, List, [], ◌∷◌, ◌++◌, length, take, drop, get_or, refl, sym, ap, ◌∙◌, arith, drop-cons, add-one, suc}
use Rattle.std.proofs.lemmas.List.{append_assoc}
use Rattle.land_shape.specs.declared.plane.Point.{Point}
use Rattle.land_shape.specs.Place.{Place}
use Rattle.land_shape.specs.Simple.{place_of, places}
use Rattle.land_shape.specs.Printed.{point_text, points_text}

points_text-cons : (p : Place) (ps : List Place) (q : Place) → points_text (p ∷ (ps ++ q ∷ [])) ≡ point_text p ++ 44 ∷ 32 ∷ points_text (ps ++ q ∷ [])
points_text-cons p [] q = refl
points_text-cons p (r ∷ ps) q = refl

pub points_text-more : (ps : List Point) (i : ℕ) (p : Point) (q : Place) → i < length ps → p ≡ get_or ps i p
    → points_text (places (drop i ps) ++ q ∷ []) ≡ point_text (place_of p) ++ 44 ∷ 32 ∷ points_text (places (drop (i + 1) ps) ++ q ∷ [])
points_text-more ps i p q h e =
    let d : drop i ps ≡ p ∷ drop (i + 1) ps = rw add-one (drop-cons ps i p h ∙ ap (λ (x : Point). x ∷ drop (suc i) ps) (sym e)) in
    rw d (points_text-cons (place_of p) (places (drop (i + 1) ps)) q)

pub printed_start : (ps : List Point) (p : Point) → 0 < length ps → p ≡ get_or ps 0 p → take 1 (places ps) ≡ place_of p ∷ []
printed_start [] p h e = absurd (omega arith)
printed_start (q ∷ ps) p h e = rw e refl

pub one_step : (out now text more tail whole : List ℕ) → now ≡ text ++ 44 ∷ 32 ∷ more → out ++ (now ++ tail) ≡ whole
    → ((out ++ text) ++ 44 ∷ 32 ∷ []) ++ (more ++ tail) ≡ whole
one_step out now text more tail whole e h =
    append_assoc (out ++ text) (44 ∷ 32 ∷ []) (more ++ tail) ∙ append_assoc out text (44 ∷ 32 ∷ (more ++ tail))
    ∙ ap (λ (s : List ℕ). out ++ s) (sym (append_assoc text (44 ∷ 32 ∷ more) tail)) ∙ sym (ap (λ (s : List ℕ). out ++ (s ++ tail)) e) ∙ h
