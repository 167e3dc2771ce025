-- Lemmas on the order of places from left to right, and of edges by their ends
use Rattle.std.proofs.Common.{◌≡◌, ◌⊎◌, inl, inr, refl, sym, ◌∙◌, arith, subst, true}
use Rattle.std.proofs.lemmas.Int.{ints}
use Rattle.std.specs.Cmp.{IsTotalOrder, strict, int_ranks}
use Rattle.std.specs.declared.cmp.Ordering.{Ordering}
use Rattle.std.specs.declared.cmp.Ordering.TheVariants.{Less, Equal, Greater}
use Rattle.std.specs.Ordering.{int_cmp, ordering_then, is_lt, MatchOrdering}
use lib.IntN.{ℤ}
use lib.Signed.{◌<ℤ◌}
use Rattle.land_shape.specs.Place.{Place, Edge}
use Rattle.land_shape.specs.Walks.{place_cmp, edge_cmp, is_before, edge_before}

abbrev pub Before : Place → Place → Type 0
Before p q = (p.x <ℤ q.x) ⊎ ((p.x ≡ q.x) × (p.y <ℤ q.y))

abbrev pub EdgeBefore : Edge → Edge → Type 0
EdgeBefore e f = Before e.from f.from ⊎ ((e.from ≡ f.from) × Before e.to f.to)

lex_by : {A B : Type 0} (L : A → A → Type 0) (M : B → B → Type 0) (a a' : A) (b b' : B) (r s : Ordering)
    → MatchOrdering r (L a a') (a ≡ a') (L a' a) → MatchOrdering s (M b b') (b ≡ b') (M b' b)
    → MatchOrdering (ordering_then r s) (L a a' ⊎ ((a ≡ a') × M b b')) ((a ≡ a') × (b ≡ b')) (L a' a ⊎ ((a' ≡ a) × M b' b))
lex_by L M a a' b b' Less s h k = inl h
lex_by L M a a' b b' Equal Less h k = inr (h, k)
lex_by L M a a' b b' Equal Equal h k = (h, k)
lex_by L M a a' b b' Equal Greater h k = inr (sym h, k)
lex_by L M a a' b b' Greater s h k = inl h

as_one : (A B C D : Type 0) (r : Ordering) → (B → C) → MatchOrdering r A B D → MatchOrdering r A C D
as_one A B C D Less f h = h
as_one A B C D Equal f h = f h
as_one A B C D Greater f h = h

pub place_is : (p q : Place) → p.x ≡ q.x → p.y ≡ q.y → p ≡ q
place_is p q ex ey = on_fields ex ey
  where
    on_fields : {a b c d : ℤ} → a ≡ b → c ≡ d → (let p : Place = record { x = a; y = c } in p) ≡ (let q : Place = record { x = b; y = d } in q)
    on_fields e f = cc

pub edge_is : (e f : Edge) → e.from ≡ f.from → e.to ≡ f.to → e ≡ f
edge_is e f ef et = on_fields ef et
  where
    on_fields : {a b c d : Place} → a ≡ b → c ≡ d → (let p : Edge = record { from = a; to = c } in p) ≡ (let q : Edge = record { from = b; to = d } in q)
    on_fields e f = cc

place_ranks : (p q : Place) → MatchOrdering (place_cmp p q) (Before p q) (p ≡ q) (Before q p)
place_ranks p q =
    as_one _ _ _ _ (place_cmp p q) (λ both. place_is p q both.0 both.1)
    (lex_by (λ (a b : ℤ). a <ℤ b) (λ (a b : ℤ). a <ℤ b) p.x q.x p.y q.y (int_cmp p.x q.x) (int_cmp p.y q.y) (int_ranks p.x q.x) (int_ranks p.y q.y))

edge_ranks : (e f : Edge) → MatchOrdering (edge_cmp e f) (EdgeBefore e f) (e ≡ f) (EdgeBefore f e)
edge_ranks e f =
    as_one _ _ _ _ (edge_cmp e f) (λ both. edge_is e f both.0 both.1)
    (lex_by Before Before e.from f.from e.to f.to (place_cmp e.from f.from) (place_cmp e.to f.to) (place_ranks e.from f.from) (place_ranks e.to f.to))

pub never_itself : (p : Place) → ¬ Before p p
never_itself p (inl h) = omega (arith, ints)
never_itself p (inr h) = let l = h.1 in omega (arith, ints)

pub before_all : (p q r : Place) → Before p q → Before q r → Before p r
before_all p q r (inl h) (inl k) = inl (omega (arith, ints))
before_all p q r (inl h) (inr k) = let e = k.0 in inl (omega (arith, ints))
before_all p q r (inr h) (inl k) = let e = h.0 in inl (omega (arith, ints))
before_all p q r (inr h) (inr k) = let l = h.1 in let m = k.1 in inr (h.0 ∙ k.0, omega (arith, ints))

edge_never_itself : (e : Edge) → ¬ EdgeBefore e e
edge_never_itself e (inl h) = never_itself e.from h
edge_never_itself e (inr h) = never_itself e.to h.1

edge_before_all : (e f g : Edge) → EdgeBefore e f → EdgeBefore f g → EdgeBefore e g
edge_before_all e f g (inl h) (inl k) = inl (before_all e.from f.from g.from h k)
edge_before_all e f g (inl h) (inr k) = inl (subst (λ (p : Place). Before e.from p) k.0 h)
edge_before_all e f g (inr h) (inl k) = inl (subst (λ (p : Place). Before p g.from) (sym h.0) k)
edge_before_all e f g (inr h) (inr k) = inr (h.0 ∙ k.0, before_all e.to f.to g.to h.1 k.1)

-- one of two places is before the other, or they are one
decided : (A B C : Type 0) (r : Ordering) → MatchOrdering r A B C → A ⊎ (B ⊎ C)
decided A B C Less h = inl h
decided A B C Equal h = inr (inl h)
decided A B C Greater h = inr (inr h)

pub one_before : (p q : Place) → Before p q ⊎ ((p ≡ q) ⊎ Before q p)
one_before p q = decided _ _ _ (place_cmp p q) (place_ranks p q)

pub one_edge_before : (e f : Edge) → EdgeBefore e f ⊎ ((e ≡ f) ⊎ EdgeBefore f e)
one_edge_before e f = decided _ _ _ (edge_cmp e f) (edge_ranks e f)

is_less : (A B C : Type 0) (r : Ordering) → MatchOrdering r A B C → is_lt r ≡ true → A
is_less A B C Less h e = h
is_less A B C Equal h e = cc e
is_less A B C Greater h e = cc e

less_is : (A B C : Type 0) (r : Ordering) → MatchOrdering r A B C → (¬ B) → (¬ C) → is_lt r ≡ true
less_is A B C Less h nb nc = refl
less_is A B C Equal h nb nc = absurd (nb h)
less_is A B C Greater h nb nc = absurd (nc h)

pub before_of : (p q : Place) → is_before p q ≡ true → Before p q
before_of p q e = is_less _ _ _ (place_cmp p q) (place_ranks p q) e

pub of_before : (p q : Place) → Before p q → is_before p q ≡ true
of_before p q h =
    less_is _ _ _ (place_cmp p q) (place_ranks p q)
    (λ e. never_itself q (subst (λ (r : Place). Before r q) e h))
    (λ k. never_itself p (before_all p q p h k))

pub edge_before_of : (e f : Edge) → edge_before e f ≡ true → EdgeBefore e f
edge_before_of e f h = is_less _ _ _ (edge_cmp e f) (edge_ranks e f) h

pub of_edge_before : (e f : Edge) → EdgeBefore e f → edge_before e f ≡ true
of_edge_before e f h =
    less_is _ _ _ (edge_cmp e f) (edge_ranks e f)
    (λ k. edge_never_itself f (subst (λ (g : Edge). EdgeBefore g f) k h))
    (λ k. edge_never_itself e (edge_before_all e f e h k))

pub place_total : IsTotalOrder place_cmp
place_total = strict Before never_itself before_all place_cmp place_ranks

pub edge_total : IsTotalOrder edge_cmp
edge_total = strict EdgeBefore edge_never_itself edge_before_all edge_cmp edge_ranks
