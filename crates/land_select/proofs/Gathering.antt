-- Inserting the parts of each number gives the part of all of them.
use Rattle.std.proofs.Common.{◌≡◌, ◌⊎◌, ℕ, Bool, true, false, ◌||◌, nat_eq, cond, List, [], ◌∷◌, Option, Some, None, refl, sym, ap, subst, ◌∙◌, inl, inr}
use Rattle.std.proofs.lemmas.Bool.{or_cases, or_left, or_right}
use Rattle.std.proofs.lemmas.Bool.Decides.{Decides-eqb}
use Rattle.std.specs.Cmp.{IsTotalOrder, nat_cmp_total}
use Rattle.std.specs.FinMap as map
use Rattle.std.specs.FinMap.{FinMap, IsAntisymmetric, nat_cmp-IsAntisymmetric}
use Rattle.std.specs.List.{AllByRecursion, Contains}
use Rattle.std.specs.Ordering.{eq_by_cmp, is_eq, nat_cmp}
use Rattle.std.specs.Cmp.{tied_itself}
use Rattle.std.specs.declared.cmp.Ordering.{Ordering}
use Rattle.land_core.proofs.Booleans.{or_nothing}
use Rattle.land_core.proofs.FiniteMaps.{is_equal}
use Rattle.land_core.proofs.Reflection.{each_there}
use Rattle.land_core.specs.Entries.{entries_where, with_entries}
use Rattle.land_select.proofs.Keeping.{entry_found, entry_there, is_kept, none_kept, same_entries, same_kept, was_kept}
use Rattle.land_select.specs.Slices.Gathered.{put_all, put_one, with_number}
use Rattle.land_select_queries.proofs.Containing.{first, first_or_later, in_nothing, later}

-- ---- truths

one : {V : Type 0} {a b : V} → Some a ≡ Some b → a ≡ b
one e = cc

two : {K V : Type 0} (a b : K) (x y : V) → a ≡ b → x ≡ y → ◌≡◌ {A = K × V} (a, x) (b, y)
two a b x y e f = cc

-- ---- maps

module _ {K V : Type 0} {R : K → K → Ordering} (o : IsTotalOrder R) (same : IsAntisymmetric R) where
  module _ (all : FinMap R V) where
    abbrev pub IsWithin : FinMap R V → Type 0
    IsWithin m = (k : K) (v : V) → map.get m k ≡ Some v → map.get all k ≡ Some v

    -- an inserted entry of the whole map
    put_within : (m : FinMap R V) (e : K × V) → map.get all e.0 ≡ Some e.1 → IsWithin m → IsWithin (map.insert m e.0 e.1)
    put_within m e of within k v is = go (eq_by_cmp R k e.0) refl (sym (map.get-insert o m e.0 e.1 k) ∙ is)
      where
        go : (b : Bool) → eq_by_cmp R k e.0 ≡ b → cond b (Some e.1) (map.get m k) ≡ Some v → map.get all k ≡ Some v
        go true at it = ap (map.get all) (same k e.0 (is_equal _ at)) ∙ of ∙ it
        go false apart it = within k v it

    put_keeps : (m : FinMap R V) (e : K × V) → map.get all e.0 ≡ Some e.1 → IsWithin m → (k : K) (v : V) → map.get m k ≡ Some v → map.get (map.insert m e.0 e.1) k ≡ Some v
    put_keeps m e of within k v is = map.get-insert o m e.0 e.1 k ∙ go (eq_by_cmp R k e.0) refl
      where
        go : (b : Bool) → eq_by_cmp R k e.0 ≡ b → cond b (Some e.1) (map.get m k) ≡ Some v
        go true at = sym of ∙ ap (map.get all) (sym (same k e.0 (is_equal _ at))) ∙ within k v is
        go false apart = is

    put_there : (m : FinMap R V) (e : K × V) → map.get (map.insert m e.0 e.1) e.0 ≡ Some e.1
    put_there m e = map.get-insert o m e.0 e.1 e.0 ∙ ap (λ b. cond b (Some e.1) (map.get m e.0)) (ap is_eq (tied_itself o e.0))

    abbrev pub AreOf : List (K × V) → Type 0
    AreOf es = AllByRecursion (λ e. map.get all e.0 ≡ Some e.1) es

    all_within : (es : List (K × V)) → AreOf es → (m : FinMap R V) → IsWithin m → IsWithin (with_entries m es)
    all_within [] of m within = within
    all_within (e ∷ es) of m within = all_within es of.1 (map.insert m e.0 e.1) (put_within m e of.0 within)

    all_keep : (es : List (K × V)) → AreOf es → (m : FinMap R V) → IsWithin m → (k : K) (v : V) → map.get m k ≡ Some v → map.get (with_entries m es) k ≡ Some v
    all_keep [] of m within k v is = is
    all_keep (e ∷ es) of m within k v is = all_keep es of.1 (map.insert m e.0 e.1) (put_within m e of.0 within) k v (put_keeps m e of.0 within k v is)

    all_there : (es : List (K × V)) → AreOf es → (m : FinMap R V) → IsWithin m → (x : K × V) → Contains es x → map.get (with_entries m es) x.0 ≡ Some x.1
    all_there [] of m within x h = absurd (in_nothing x h)
    all_there (e ∷ es) of m within x h = elim (first_or_later e es x h) [
      | inl is ↦ all_keep es of.1 (map.insert m e.0 e.1) (put_within m e of.0 within) x.0 x.1 (subst (λ (y : K × V). map.get (map.insert m e.0 e.1) y.0 ≡ Some y.1) is (put_there m e))
      | inr rest ↦ all_there es of.1 (map.insert m e.0 e.1) (put_within m e of.0 within) x rest
    ]

    entries_of : (more : FinMap R V) → IsWithin more → AreOf (map.entries more)
    entries_of more within = go (map.entries more) (each_there o same more)
      where
        go : (es : List (K × V)) → AllByRecursion (λ e. map.get more e.0 ≡ Some e.1) es → AreOf es
        go [] a = tt
        go (e ∷ es) a = (within e.0 e.1 a.0, go es a.1)

    -- an inserted entry is of one part or the other
    from_either : (es : List (K × V)) (m : FinMap R V) (k : K) (v : V) → map.get (with_entries m es) k ≡ Some v → (map.get m k ≡ Some v) ⊎ Contains es (k, v)
    from_either [] m k v is = inl is
    from_either (e ∷ es) m k v is = elim (from_either es (map.insert m e.0 e.1) k v is) [
      | inl here ↦ go (eq_by_cmp R k e.0) refl (sym (map.get-insert o m e.0 e.1 k) ∙ here)
      | inr there ↦ inr (later e es (k, v) there)
    ]
      where
        go : (b : Bool) → eq_by_cmp R k e.0 ≡ b → cond b (Some e.1) (map.get m k) ≡ Some v → (map.get m k ≡ Some v) ⊎ Contains (e ∷ es) (k, v)
        go true at it = inr (subst (λ (x : K × V). Contains (e ∷ es) x) (two e.0 k e.1 v (sym (same k e.0 (is_equal _ at))) (one it)) (first e es))
        go false apart it = inl it

    -- the union of two filtered maps
    pub both_kept : (w u : K → V → Bool) → put_all (entries_where w all) (entries_where u all) ≡ entries_where (λ k v. u k v || w k v) all
    both_kept w u =
        let of = entries_of (entries_where u all) (λ k v is. (was_kept o same u all k v is).0) in
        let within : IsWithin (entries_where w all) = λ k v is. (was_kept o same w all k v is).0 in
        same_entries o same (put_all (entries_where w all) (entries_where u all)) (entries_where (λ k v. u k v || w k v) all)
        (λ k v is. elim (from_either (map.entries (entries_where u all)) (entries_where w all) k v is) [
          | inl old ↦ let it = was_kept o same w all k v old in is_kept o same (λ k v. u k v || w k v) all k v it.0 (or_right (u k v) (w k v) it.1)
          | inr new ↦ let it = was_kept o same u all k v (entry_there o same (entries_where u all) (k, v) new) in is_kept o same (λ k v. u k v || w k v) all k v it.0 (or_left (u k v) (w k v) it.1)
        ])
        (λ k v is. let it = was_kept o same (λ k v. u k v || w k v) all k v is in elim (or_cases (u k v) (w k v) it.1) [
          | inl new ↦ all_there (map.entries (entries_where u all)) of (entries_where w all) within (k, v) (entry_found o same (entries_where u all) k v (is_kept o same u all k v it.0 new))
          | inr old ↦ all_keep (map.entries (entries_where u all)) of (entries_where w all) within k v (is_kept o same w all k v it.0 old)
        ])

-- one more record of the whole map
pub one_kept : {V : Type 0} (asked : ℕ → Bool) (all : FinMap nat_cmp V) (n : ℕ) (found : Option V) → found ≡ map.get all n
    → put_one (entries_where (λ k v. asked k) all) n found ≡ entries_where (λ k v. with_number n asked k) all
one_kept {V} asked all n None is =
    same_entries nat_cmp_total nat_cmp-IsAntisymmetric (entries_where (λ k v. asked k) all) (entries_where (λ k v. with_number n asked k) all)
    (λ k v there. let it = was_kept nat_cmp_total nat_cmp-IsAntisymmetric (λ k v. asked k) all k v there in
    is_kept nat_cmp_total nat_cmp-IsAntisymmetric (λ k v. with_number n asked k) all k v it.0 (or_right (nat_eq k n) (asked k) it.1))
    (λ k v there. let it = was_kept nat_cmp_total nat_cmp-IsAntisymmetric (λ k v. with_number n asked k) all k v there in elim (or_cases (nat_eq k n) (asked k) it.1) [
      | inl at ↦ absurd (let here = ap (map.get all) ((Decides-eqb k n).0 at) in let both : None ≡ Some v = is ∙ sym here ∙ it.0 in cc)
      | inr old ↦ is_kept nat_cmp_total nat_cmp-IsAntisymmetric (λ k v. asked k) all k v it.0 old
    ])
one_kept {V} asked all n (Some value) is =
    same_entries nat_cmp_total nat_cmp-IsAntisymmetric (map.insert (entries_where (λ k v. asked k) all) n value) (entries_where (λ k v. with_number n asked k) all)
    (λ k v there. go k v (eq_by_cmp nat_cmp k n) refl (sym (map.get-insert nat_cmp_total (entries_where (λ k v. asked k) all) n value k) ∙ there))
    (λ k v there. let it = was_kept nat_cmp_total nat_cmp-IsAntisymmetric (λ k v. with_number n asked k) all k v there in elim (or_cases (nat_eq k n) (asked k) it.1) [
      | inl at ↦
          let here : k ≡ n = (Decides-eqb k n).0 at in
          ap (map.get (map.insert (entries_where (λ k v. asked k) all) n value)) here ∙ put_there nat_cmp_total nat_cmp-IsAntisymmetric all (entries_where (λ k v. asked k) all) (n, value) ∙ is ∙ ap (map.get all) (sym here) ∙ it.0
      | inr old ↦ put_keeps nat_cmp_total nat_cmp-IsAntisymmetric all (entries_where (λ k v. asked k) all) (n, value) (sym is) within k v (is_kept nat_cmp_total nat_cmp-IsAntisymmetric (λ k v. asked k) all k v it.0 old)
    ])
  where
    within : (k : ℕ) (v : V) → map.get (entries_where (λ k v. asked k) all) k ≡ Some v → map.get all k ≡ Some v
    within k v there = (was_kept nat_cmp_total nat_cmp-IsAntisymmetric (λ k v. asked k) all k v there).0

    go : (k : ℕ) (v : V) (b : Bool) → eq_by_cmp nat_cmp k n ≡ b → cond b (Some value) (map.get (entries_where (λ k v. asked k) all) k) ≡ Some v → map.get (entries_where (λ k v. with_number n asked k) all) k ≡ Some v
    go k v true at it =
        let here : k ≡ n = nat_cmp-IsAntisymmetric k n (is_equal _ at) in
        is_kept nat_cmp_total nat_cmp-IsAntisymmetric (λ k v. with_number n asked k) all k v (ap (map.get all) here ∙ sym is ∙ it) (or_left (nat_eq k n) (asked k) ((Decides-eqb k n).1 here))
    go k v false apart it =
        let that = was_kept nat_cmp_total nat_cmp-IsAntisymmetric (λ k v. asked k) all k v it in
        is_kept nat_cmp_total nat_cmp-IsAntisymmetric (λ k v. with_number n asked k) all k v that.0 (or_right (nat_eq k n) (asked k) that.1)

-- a single record of the whole map
pub single_kept : {V : Type 0} (all : FinMap nat_cmp V) (n : ℕ) (found : Option V) → found ≡ map.get all n → put_one map.empty n found ≡ entries_where (λ k v. nat_eq k n) all
single_kept all n found is =
    ap (λ m. put_one m n found) (none_kept nat_cmp_total nat_cmp-IsAntisymmetric all) ∙ one_kept (λ k. false) all n found is
    ∙ same_kept nat_cmp_total nat_cmp-IsAntisymmetric (λ k v. with_number n (λ k. false) k) (λ k v. nat_eq k n) all (λ k v. or_nothing (nat_eq k n))
