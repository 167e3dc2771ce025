-- A ring that runs the other way has the opposite area
use Rattle.std.proofs.Common.{◌≡◌, List, [], ◌∷◌, ◌++◌, reverse, refl, sym, ap, ◌∙◌, arith}
use Rattle.std.proofs.lemmas.Int.{ints}
use Rattle.std.proofs.lemmas.List.{reverse-append}
use lib.IntN.{pos, ◌+ℤ◌, ◌-ℤ◌}
use Rattle.land_shape.specs.Coordinate.{cross_of}
use Rattle.land_shape.specs.Place.{Place, area_of, path_edges, ring_edges}
use Rattle.land_shape.proofs.Expressions.{var, num, ◌⊖◌, ◌⊗◌, by_parts}

turn_back : (p q : Place) → cross_of q.x q.y p.x p.y ≡ pos 0 -ℤ cross_of p.x p.y q.x q.y
turn_back p q = by_parts (var q.x ⊗ var p.y ⊖ var q.y ⊗ var p.x) (num 0 ⊖ (var p.x ⊗ var q.y ⊖ var p.y ⊗ var q.x)) (omega arith)

-- one more step at the end of a path
path-push : (ps : List Place) (p q : Place)
    → area_of (path_edges (ps ++ p ∷ q ∷ [])) ≡ area_of (path_edges (ps ++ p ∷ [])) +ℤ cross_of p.x p.y q.x q.y
path-push [] p q = omega (arith, ints)
path-push (r ∷ []) p q = omega (arith, ints)
path-push (r ∷ s ∷ ps) p q = omega (arith, ints, path-push (s ∷ ps) p q)

path-reverse : (ps : List Place) → area_of (path_edges (reverse ps)) ≡ pos 0 -ℤ area_of (path_edges ps)
path-reverse [] = refl
path-reverse (p ∷ []) = refl
path-reverse (p ∷ q ∷ ps) =
    let ih = path-reverse (q ∷ ps) in
    let e : area_of (path_edges (reverse (p ∷ q ∷ ps))) ≡ area_of (path_edges (reverse ps ++ q ∷ p ∷ []))
    = ap (λ (s : List Place). area_of (path_edges s)) (reverse-append (p ∷ q ∷ []) ps) in
    let e' : area_of (path_edges (reverse (q ∷ ps))) ≡ area_of (path_edges (reverse ps ++ q ∷ []))
    = ap (λ (s : List Place). area_of (path_edges s)) (reverse-append (q ∷ []) ps) in
    omega (arith, ints, e, e', ih, path-push (reverse ps) q p, turn_back p q)

pub ring-turned : (p : Place) (ps : List Place) → area_of (ring_edges (p ∷ reverse ps)) ≡ pos 0 -ℤ area_of (ring_edges (p ∷ ps))
ring-turned p ps =
    let e : reverse (p ∷ ps ++ p ∷ []) ≡ p ∷ (reverse ps ++ p ∷ [])
    = reverse-append (p ∷ ps) (p ∷ []) ∙ ap (λ (s : List Place). p ∷ s) (reverse-append (p ∷ []) ps) in
    ap (λ (s : List Place). area_of (path_edges s)) (sym e) ∙ path-reverse (p ∷ ps ++ p ∷ [])
