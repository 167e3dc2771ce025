-- Lemmas on reversed edges: their pieces are the reversed pieces of the edges
use Rattle.std.proofs.Common.{◌≡◌, Bool, true, false, List, [], ◌∷◌, ◌++◌, ◌&&◌, not, refl, sym, ap, ◌∙◌, arith, append_assoc}
use Rattle.std.proofs.lemmas.Int.{ints, clamps}
use Rattle.std.proofs.lemmas.Bool.Decides.{Decides-int_eq}
use Rattle.std.specs.Bool.{one_answer}
use Rattle.std.specs.Int.{int_min, int_max}
use lib.IntN.{ℤ, pos, ◌-ℤ◌}
use Rattle.land_shape.specs.Coordinate.{cross_of}
use Rattle.land_shape.specs.Matching.{is_between, is_on_line, lies_on, lies_inside, cut_edge, cut_at, pieces, reversed_edge, is_same_edge}
use Rattle.land_shape.specs.Place.{Place, Edge, is_same_place}
use Rattle.land_shape.proofs.Expressions.{var, num, ◌⊖◌, by_parts, parts_eq}
use Rattle.land_shape.proofs.Meeting.{cross_expr}
use Rattle.land_shape.proofs.Tallies.{tally, tally-append, either_way}

-- a list of edges walked back
abbrev pub reversed_path : List Edge → List Edge
reversed_path [] = []
reversed_path (e ∷ es) = reversed_path es ++ (reversed_edge e ∷ [])

line_back : (p a b : Place) → cross_of (b.x -ℤ a.x) (b.y -ℤ a.y) (p.x -ℤ a.x) (p.y -ℤ a.y) ≡ pos 0
    → cross_of (a.x -ℤ b.x) (a.y -ℤ b.y) (p.x -ℤ b.x) (p.y -ℤ b.y) ≡ pos 0
line_back p a b h =
    let ax = var a.x in let ay = var a.y in let bx = var b.x in let by = var b.y in let px = var p.x in let py = var p.y in
    by_parts (cross_expr (ax ⊖ bx) (ay ⊖ by) (px ⊖ bx) (py ⊖ by)) (num 0) (omega (arith, parts_eq (cross_expr (bx ⊖ ax) (by ⊖ ay) (px ⊖ ax) (py ⊖ ay)) (num 0) h))

on_line_back : (p : Place) (e : Edge) → is_on_line p (reversed_edge e) ≡ is_on_line p e
on_line_back p e =
    let a = e.from in let b = e.to in
    one_answer (is_on_line p (reversed_edge e)) (is_on_line p e)
    (λ h. (Decides-int_eq _ _).1 (line_back p b a ((Decides-int_eq _ _).0 h)), λ h. (Decides-int_eq _ _).1 (line_back p a b ((Decides-int_eq _ _).0 h)))
    (λ h. h, λ h. h)

least_back : (a b : ℤ) → int_min a b ≡ int_min b a
least_back a b = omega (arith, ints, clamps)

greatest_back : (a b : ℤ) → int_max a b ≡ int_max b a
greatest_back a b = omega (arith, ints, clamps)

between_back : (a b x : ℤ) → is_between b a x ≡ is_between a b x
between_back a b x = rw (least_back b a, greatest_back b a) refl

and_swap : (a b c : Bool) → (a && b && c) ≡ (b && a && c)
and_swap true true c = refl
and_swap true false c = refl
and_swap false true c = refl
and_swap false false c = refl

pub inside_back : (p : Place) (e : Edge) → lies_inside p (reversed_edge e) ≡ lies_inside p e
inside_back p e =
    rw (on_line_back p e, between_back e.from.x e.to.x p.x, between_back e.from.y e.to.y p.y)
    (and_swap (not (is_same_place p e.to)) (not (is_same_place p e.from)) (lies_on p e))

cut_at-append : (p : Place) (es fs : List Edge) → cut_at p (es ++ fs) ≡ cut_at p es ++ cut_at p fs
cut_at-append p [] fs = refl
cut_at-append p (e ∷ es) fs = ap (λ (gs : List Edge). cut_edge p e ++ gs) (cut_at-append p es fs) ∙ sym (append_assoc (cut_edge p e) (cut_at p es) (cut_at p fs))

pub pieces-append : (ps : List Place) (es fs : List Edge) → pieces ps (es ++ fs) ≡ pieces ps es ++ pieces ps fs
pieces-append [] es fs = refl
pieces-append (p ∷ ps) es fs = ap (pieces ps) (cut_at-append p es fs) ∙ pieces-append ps (cut_at p es) (cut_at p fs)

reversed_path-append : (es fs : List Edge) → reversed_path (es ++ fs) ≡ reversed_path fs ++ reversed_path es
reversed_path-append [] fs = sym (append_none (reversed_path fs))
  where
    append_none : (gs : List Edge) → gs ++ [] ≡ gs
    append_none [] = refl
    append_none (g ∷ gs) = ap (λ (hs : List Edge). g ∷ hs) (append_none gs)
reversed_path-append (e ∷ es) fs = ap (λ (gs : List Edge). gs ++ reversed_edge e ∷ []) (reversed_path-append es fs) ∙ append_assoc (reversed_path fs) (reversed_path es) (reversed_edge e ∷ [])

cut_back : (p : Place) (e : Edge) → cut_at p (reversed_edge e ∷ []) ≡ reversed_path (cut_edge p e)
cut_back p e =
    either_way (lies_inside p e)
    (λ yes. rw (inside_back p e, yes) refl)
    (λ no. rw (inside_back p e, no) refl)

cut-reversed_path : (p : Place) (es : List Edge) → cut_at p (reversed_path es) ≡ reversed_path (cut_at p es)
cut-reversed_path p [] = refl
cut-reversed_path p (e ∷ es) =
    cut_at-append p (reversed_path es) (reversed_edge e ∷ [])
    ∙ ap (λ (gs : List Edge). gs ++ cut_at p (reversed_edge e ∷ [])) (cut-reversed_path p es)
    ∙ ap (λ (gs : List Edge). reversed_path (cut_at p es) ++ gs) (cut_back p e)
    ∙ sym (reversed_path-append (cut_edge p e) (cut_at p es))

pub pieces-reversed_path : (ps : List Place) (es : List Edge) → pieces ps (reversed_path es) ≡ reversed_path (pieces ps es)
pieces-reversed_path [] es = refl
pieces-reversed_path (p ∷ ps) es = ap (pieces ps) (cut-reversed_path p es) ∙ pieces-reversed_path ps (cut_at p es)

same_back : (e f : Edge) → is_same_edge (reversed_edge f) e ≡ is_same_edge f (reversed_edge e)
same_back e f = swap (is_same_place f.to e.from) (is_same_place f.from e.to)
  where
    swap : (a b : Bool) → (a && b) ≡ (b && a)
    swap true true = refl
    swap true false = refl
    swap false true = refl
    swap false false = refl

pub tally-reversed_path : (e : Edge) (es : List Edge) → tally is_same_edge e (reversed_path es) ≡ tally is_same_edge (reversed_edge e) es
tally-reversed_path e [] = refl
tally-reversed_path e (f ∷ es) =
    let a = tally-append is_same_edge e (reversed_path es) (reversed_edge f ∷ []) in
    let b = tally-reversed_path e es in
    rw (a, same_back e f) (omega (arith, b))
