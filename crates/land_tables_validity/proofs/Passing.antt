-- Tests of current values.
use Rattle.std.proofs.Common.{◌≡◌, ◌==◌, ℕ, Bool, true, false, cond, ◌&&◌, ◌||◌, List, [], ◌∷◌, filter, Option, Some, None, refl, sym, ap, ap₂, subst, ◌∙◌, arith}
use Rattle.std.specs.Prelude.{ℤ}
use Rattle.std.specs.Cmp.{nat_cmp_total}
use Rattle.std.specs.FinMap as map
use Rattle.std.specs.FinMap.{FinMap, nat_cmp-IsAntisymmetric}
use Rattle.std.specs.List.{list_all, list_any}
use Rattle.std.specs.Option.{option_map_or}
use Rattle.std.specs.Ordering.{nat_cmp}
use Rattle.std.proofs.lemmas.Bool.{and_from, and_parts, eqb-true}
use Rattle.std.proofs.lemmas.Cmp.{nat_eq_equiv}
use Rattle.land_core.proofs.FiniteMaps.{none_is_not_some}
use Rattle.land_core.proofs.Reflection.{none_passes, some_at}
use Rattle.land_tables_history.specs.Intervals.{AreApart, is_interval, is_same_number}
use Rattle.land_tables_history.specs.Standing.{part_at, is_current}
use Rattle.land_tables_history.specs.declared.moment.Moment.{Moment}
use Rattle.land_tables_history.specs.declared.version.Version.{Version}
use Rattle.land_tables_validity.proofs.Covers.{some_by, stood_by}

-- ---- tests of current values

and_true : (a b : Bool) → (a && b) ≡ (a && (b && true))
and_true a b = grind arith

and_false : (a b c : Bool) → c ≡ ((a && (b && false)) || c)
and_false a b c = grind arith

pub stood_among : {X : Type 0} (key : X → ℕ) (p : X → Bool) (a : ℕ) (t : ℤ) (vs : List (Version X))
    → stood_by key (filter (λ v. p v.what) vs) a t ≡ list_any (λ v. is_current t v && ((key v.what == a) && p v.what)) vs
stood_among key p a t [] = refl
stood_among {X} key p a t (v ∷ vs) = go (p v.what) (stood_among key p a t vs)
  where
    go : (b : Bool) → stood_by key (filter (λ v. p v.what) vs) a t ≡ list_any (λ v. is_current t v && ((key v.what == a) && p v.what)) vs
        → stood_by key (cond b (v ∷ filter (λ (v : Version X). p v.what) vs) (filter (λ (v : Version X). p v.what) vs)) a t
        ≡ ((is_current t v && ((key v.what == a) && b)) || list_any (λ (v : Version X). is_current t v && ((key v.what == a) && p v.what)) vs)
    go true rest = ap₂ (λ b c. b || c) (and_true (is_current t v) (key v.what == a)) rest
    go false rest =
        rest ∙ and_false (is_current t v) (key v.what == a) (list_any (λ (v : Version X). is_current t v && ((key v.what == a) && p v.what)) vs)

pub intervals_among : {X : Type 0} (moments : List Moment) (p : Version X → Bool) (vs : List (Version X))
    → list_all (is_interval moments) vs ≡ true → list_all (is_interval moments) (filter p vs) ≡ true
intervals_among moments p [] h = refl
intervals_among moments p (v ∷ vs) h =
    let parts = and_parts (is_interval moments v) (list_all (is_interval moments) vs) h in
    go (p v) parts.0 (intervals_among moments p vs parts.1)
  where
    go : (b : Bool) → is_interval moments v ≡ true → list_all (is_interval moments) (filter p vs) ≡ true
        → list_all (is_interval moments) (cond b (v ∷ filter p vs) (filter p vs)) ≡ true
    go true here rest = and_from (is_interval moments v) (list_all (is_interval moments) (filter p vs)) here rest
    go false here rest = rest

unless : (a b : Bool) → (a ≡ true → b ≡ false) → (a && b) ≡ false
unless true b h = h refl
unless false b h = refl

one_value : {V : Type 0} (v w : V) → Some v ≡ Some w → w ≡ v
one_value v w e = cc

-- the current value of this number passes a test
passes_by : {V : Type 0} (q : V → Bool) (m : FinMap nat_cmp V) (n : ℕ)
    → option_map_or q (map.get m n) false ≡ list_any (λ e. (e.0 == n) && q e.1) (map.entries m)
passes_by {V} q m n = go (map.get m n) refl
  where
    at : (k : ℕ) (w : V) → map.get m k ≡ Some w → (k == n) ≡ true → map.get m n ≡ Some w
    at k w there same = subst (λ (j : ℕ). map.get m j ≡ Some w) (eqb-true k n same) there

    some : (v : V) → map.get m n ≡ Some v → (b : Bool) → q v ≡ b → b ≡ list_any (λ e. (e.0 == n) && q e.1) (map.entries m)
    some v is true e =
        sym (some_at nat_cmp_total nat_cmp-IsAntisymmetric (λ k w. (k == n) && q w) m n v is (and_from (n == n) (q v) (nat_eq_equiv.refl n) e))
    some v is false e =
        sym (none_passes nat_cmp_total nat_cmp-IsAntisymmetric (λ k w. (k == n) && q w) m
        (λ k w there. unless (k == n) (q w) (λ same. ap q (one_value v w (sym is ∙ at k w there same)) ∙ e)))

    go : (x : Option V) → map.get m n ≡ x → option_map_or q x false ≡ list_any (λ e. (e.0 == n) && q e.1) (map.entries m)
    go (Some v) is = some v is (q v) refl
    go None is =
        sym (none_passes nat_cmp_total nat_cmp-IsAntisymmetric (λ k w. (k == n) && q w) m
        (λ k w there. unless (k == n) (q w) (λ same. absurd (none_is_not_some (sym is ∙ at k w there same)))))

pub passes_at : {V : Type 0} (q : V → Bool) (t : ℤ) (vs : List (Version (ℕ × V))) → AreApart is_same_number vs → (n : ℕ)
    → option_map_or q (map.get (part_at t vs) n) false ≡ stood_by (λ e. e.0) (filter (λ v. q v.what.1) vs) n t
passes_at q t vs apart n =
    passes_by q (part_at t vs) n ∙ some_by (λ e. (e.0 == n) && q e.1) t vs apart ∙ sym (stood_among (λ e. e.0) (λ e. q e.1) n t vs)
