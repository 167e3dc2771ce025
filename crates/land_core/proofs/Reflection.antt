-- Lemmas that relate the entries of a finite map and its lookups.
use Rattle.std.proofs.Common.{◌≡◌, Bool, true, false, cond, ◌||◌, ◌&&◌, List, [], ◌∷◌, ◌++◌, Some, None, refl, sym, ap, ◌∙◌, subst, append_assoc, append-nil}
use Rattle.std.proofs.lemmas.Bool.{false≢true, and_parts}
use Rattle.std.specs.Prelude.{filter, map as map_list}
use Rattle.std.specs.List.{list_any, AllByRecursion}
use Rattle.std.specs.Ordering.{eq_by_cmp, is_eq, is_lt, ordering_reverse}
use Rattle.std.specs.declared.cmp.Ordering.{Ordering}
use Rattle.std.specs.declared.cmp.Ordering.TheVariants.{Less, Equal, Greater}
use Rattle.std.specs.Cmp.{IsTotalOrder, tied_itself, eq_by_cmp_equiv}
use Rattle.std.specs.FinMap as map
use Rattle.std.specs.FinMap.{FinMap, find, put, is_sorted, IsAntisymmetric}
use Rattle.land_core.proofs.Booleans.{T_true, or_true}
use Rattle.land_core.proofs.FiniteMaps.{is_equal, nothing_from_length}
use Rattle.land_core.proofs.Orders.{less_apart}
use Rattle.land_core.specs.Entries.{with_entries, entries_where}

reversed_less : (r s : Ordering) → r ≡ ordering_reverse s → is_lt s ≡ true → r ≡ Greater
reversed_less r Less e h = e
reversed_less r Equal e h = absurd (false≢true h)
reversed_less r Greater e h = absurd (false≢true h)

-- a value at a key, which passes a test
pub record Passes {K V : Type 0} {R : K → K → Ordering} (p : K → V → Bool) (m : FinMap R V) : Type 0 where
  pub key : K
  pub value : V
  pub there : map.get m key ≡ Some value
  pub passes : p key value ≡ true

module _ {K : Type 0} {R : K → K → Ordering} (same : IsAntisymmetric R) {V : Type 0} where
  -- a key below all others
  abbrev below_each : K → List (K × V) → Bool
  below_each x [] = true
  below_each x (e ∷ es) = is_lt (R x e.0) && below_each x es

  -- a key below all others is not among them
  not_below_itself : (x k : K) (v : V) (es : List (K × V)) → below_each x es ≡ true → find R k es ≡ Some v → is_lt (R x k) ≡ true
  not_below_itself x k v [] b f = absurd (none_some f)
    where
      none_some : None ≡ Some v → ⊥
      none_some e = cc
  not_below_itself x k v (e ∷ es) b f =
      elim (eq_by_cmp R k e.0) as (λ t. eq_by_cmp R k e.0 ≡ t → cond t (Some e.1) (find R k es) ≡ Some v → is_lt (R x k) ≡ true) [
        | true ↦ λ at f. subst (λ (y : K). is_lt (R x y) ≡ true) (sym (same k e.0 (is_equal _ at))) (and_parts _ _ b).0
        | false ↦ λ at f. not_below_itself x k v es (and_parts _ _ b).1 f
      ] refl f

module _ {K : Type 0} {R : K → K → Ordering} (o : IsTotalOrder R) (same : IsAntisymmetric R) {V : Type 0} (p : K → V → Bool) where
  -- a value found by lookup is among the entries
  some_found : (es : List (K × V)) (k : K) (v : V) → find R k es ≡ Some v → p k v ≡ true → list_any (λ e. p e.0 e.1) es ≡ true
  some_found [] k v f h = absurd (none_some f)
    where
      none_some : None ≡ Some v → ⊥
      none_some e = cc
  some_found (e ∷ es) k v f h =
      elim (eq_by_cmp R k e.0) as (λ b. eq_by_cmp R k e.0 ≡ b → cond b (Some e.1) (find R k es) ≡ Some v → (p e.0 e.1 || list_any (λ e. p e.0 e.1) es) ≡ true) [
        | true ↦ λ at f.
            let k_is : k ≡ e.0 = same k e.0 (is_equal _ at) in
            let v_is : e.1 ≡ v = cc in
            ap (λ b. b || list_any (λ e. p e.0 e.1) es) (subst (λ (x : K). p x e.1 ≡ true) k_is (subst (λ (w : V). p k w ≡ true) (sym v_is) h))
        | false ↦ λ at f. ap (λ b. p e.0 e.1 || b) (some_found es k v f h) ∙ or_true (p e.0 e.1)
      ] refl f

  pub some_at : (m : FinMap R V) (k : K) (v : V) → map.get m k ≡ Some v → p k v ≡ true → list_any (λ e. p e.0 e.1) (map.entries m) ≡ true
  some_at m k v g h = some_found (map.entries m) k v (sym (map.get-entries m k) ∙ g) h

  record Found (es : List (K × V)) : Type 0 where
    key : K
    value : V
    found : find R key es ≡ Some value
    passes : p key value ≡ true

  entry_found : (es : List (K × V)) → is_sorted R es ≡ true → list_any (λ e. p e.0 e.1) es ≡ true → Found es
  entry_found [] s h = absurd (false≢true h)
  entry_found (e ∷ es) s h =
      elim (p e.0 e.1) as (λ b. p e.0 e.1 ≡ b → (b || list_any (λ e. p e.0 e.1) es) ≡ true → Found (e ∷ es)) [
        | true ↦ λ here h. record { key = e.0; value = e.1; found = ap (λ t. cond t (Some e.1) (find R e.0 es)) (ap is_eq (tied_itself o e.0)); passes = here }
        | false ↦ λ here h.
            let it = entry_found es (and_parts _ _ s).1 h in
            record {
              key = it.key;
              value = it.value;
              found =
                  ap (λ t. cond t (Some e.1) (find R it.key es)) ((eq_by_cmp_equiv o).symm it.key e.0 ∙ less_apart _ (not_below_itself same e.0 it.key it.value es (and_parts _ _ s).0 it.found))
                  ∙ it.found;
              passes = it.passes;
            }
      ] refl h

  pub some_passes : (m : FinMap R V) → list_any (λ e. p e.0 e.1) (map.entries m) ≡ true → Passes p m
  some_passes m h =
      let it = entry_found (map.entries m) (T_true _ (map.entries_sorted m)) h in
      record { key = it.key; value = it.value; there = map.get-entries m it.key ∙ it.found; passes = it.passes }

  -- if no value of a key passes, no entry does
  pub none_passes : (m : FinMap R V) → ((k : K) (v : V) → map.get m k ≡ Some v → p k v ≡ false) → list_any (λ e. p e.0 e.1) (map.entries m) ≡ false
  none_passes m h =
      elim (list_any (λ e. p e.0 e.1) (map.entries m)) as (λ b. list_any (λ e. p e.0 e.1) (map.entries m) ≡ b → b ≡ false) [
        | true ↦ λ e. let it = some_passes m e in sym it.passes ∙ h it.key it.value it.there
        | false ↦ λ e. refl
      ] refl

  pub none_at : (m : FinMap R V) (k : K) (v : V) → list_any (λ e. p e.0 e.1) (map.entries m) ≡ false → map.get m k ≡ Some v → p k v ≡ false
  none_at m k v h g =
      elim (p k v) as (λ b. p k v ≡ b → b ≡ false) [ true ↦ λ e. sym (some_at m k v g e) ∙ h | false ↦ λ e. refl ] refl

module _ {K : Type 0} {R : K → K → Ordering} (o : IsTotalOrder R) (same : IsAntisymmetric R) {V : Type 0} where
  -- a key above all others is inserted at the end
  put_last : (xs : List (K × V)) (e : K × V) (es : List (K × V)) → is_sorted R (xs ++ e ∷ es) ≡ true → put R e.0 e.1 xs ≡ xs ++ e ∷ []
  put_last [] e es h = refl
  put_last (x ∷ xs) e es h =
      rw (reversed_less (R e.0 x.0) (R x.0 e.0) (o.antisymm e.0 x.0) (below_last xs (and_parts _ _ h).0))
      (ap (λ it. x ∷ it) (put_last xs e es (and_parts _ _ h).1))
    where
      below_last : (ys : List (K × V)) → below_each same x.0 (ys ++ e ∷ es) ≡ true → is_lt (R x.0 e.0) ≡ true
      below_last [] b = (and_parts _ _ b).0
      below_last (y ∷ ys) b = below_last ys (and_parts _ _ b).1

  -- inserting entries above all others appends them
  pub entries-with_entries : (m : FinMap R V) (es : List (K × V)) → is_sorted R (map.entries m ++ es) ≡ true → map.entries (with_entries m es) ≡ map.entries m ++ es
  entries-with_entries m [] h = sym (append-nil (map.entries m))
  entries-with_entries m (e ∷ es) h =
      let once : map.entries (map.insert m e.0 e.1) ≡ map.entries m ++ e ∷ [] = map.entries-insert o m e.0 e.1 ∙ put_last (map.entries m) e es h in
      let joined : map.entries (map.insert m e.0 e.1) ++ es ≡ map.entries m ++ e ∷ es = ap (λ it. it ++ es) once ∙ append_assoc (map.entries m) (e ∷ []) es in
      entries-with_entries (map.insert m e.0 e.1) es (ap (is_sorted R) joined ∙ h) ∙ joined

  sorted-filter : (p : K × V → Bool) (es : List (K × V)) → is_sorted R es ≡ true → is_sorted R (filter p es) ≡ true
  sorted-filter p [] h = refl
  sorted-filter p (e ∷ es) h =
      let rest = sorted-filter p es (and_parts _ _ h).1 in
      elim (p e) as (λ b. is_sorted R (cond b (e ∷ filter p es) (filter p es)) ≡ true) [
        | true ↦ ap (λ b. b && is_sorted R (filter p es)) (below-filter es (and_parts _ _ h).0) ∙ rest
        | false ↦ rest
      ]
    where
      below-filter : (ys : List (K × V)) → below_each same e.0 ys ≡ true → below_each same e.0 (filter p ys) ≡ true
      below-filter [] b = refl
      below-filter (y ∷ ys) b =
          let rest = below-filter ys (and_parts _ _ b).1 in
          elim (p y) as (λ t. below_each same e.0 (cond t (y ∷ filter p ys) (filter p ys)) ≡ true) [
            | true ↦ ap (λ t. t && below_each same e.0 (filter p ys)) (and_parts _ _ b).0 ∙ rest
            | false ↦ rest
          ]

  -- the entries that pass a test
  pub entries-entries_where : (p : K → V → Bool) (m : FinMap R V) → map.entries (entries_where p m) ≡ filter (λ e. p e.0 e.1) (map.entries m)
  entries-entries_where p m =
      let none : map.entries (map.empty {X = V} {R = R}) ≡ [] = nothing_from_length _ (sym (map.len-entries map.empty) ∙ map.len-empty R V) in
      entries-with_entries map.empty (filter (λ e. p e.0 e.1) (map.entries m))
      (ap (λ it. is_sorted R (it ++ filter (λ e. p e.0 e.1) (map.entries m))) none ∙ sorted-filter (λ e. p e.0 e.1) (map.entries m) (T_true _ (map.entries_sorted m)))
      ∙ ap (λ it. it ++ filter (λ e. p e.0 e.1) (map.entries m)) none

  find-filter : (p : K → V → Bool) (q : K) → ((v : V) → p q v ≡ true) → (es : List (K × V)) → find R q (filter (λ e. p e.0 e.1) es) ≡ find R q es
  find-filter p q h [] = refl
  find-filter p q h (e ∷ es) =
      let rest = find-filter p q h es in
      elim (p e.0 e.1) as (λ b. p e.0 e.1 ≡ b → find R q (cond b (e ∷ filter (λ e. p e.0 e.1) es) (filter (λ e. p e.0 e.1) es)) ≡ cond (eq_by_cmp R q e.0) (Some e.1) (find R q es)) [
        | true ↦ λ here. ap (cond (eq_by_cmp R q e.0) (Some e.1)) rest
        | false ↦ λ gone.
            elim (eq_by_cmp R q e.0) as (λ t. eq_by_cmp R q e.0 ≡ t → find R q (filter (λ e. p e.0 e.1) es) ≡ cond t (Some e.1) (find R q es)) [
              | true ↦ λ at. absurd (false≢true (sym gone ∙ subst (λ (k : K). p k e.1 ≡ true) (same q e.0 (is_equal _ at)) (h e.1)))
              | false ↦ λ apart. rest
            ] refl
      ] refl

  -- a key that passes has its value unchanged
  pub get-entries_where : (p : K → V → Bool) (m : FinMap R V) (q : K) → ((v : V) → p q v ≡ true) → map.get (entries_where p m) q ≡ map.get m q
  get-entries_where p m q h = map.get-entries (entries_where p m) q ∙ ap (find R q) (entries-entries_where p m) ∙ find-filter p q h (map.entries m) ∙ sym (map.get-entries m q)

  -- each entry is the value of its key
  each_found : (es : List (K × V)) → is_sorted R es ≡ true → AllByRecursion (λ e. find R e.0 es ≡ Some e.1) es
  each_found [] h = tt
  each_found (e ∷ es) h = (
    ap (λ t. cond t (Some e.1) (find R e.0 es)) (ap is_eq (tied_itself o e.0)),
    later es (each_found es (and_parts _ _ h).1),
  )
    where
      later : (ys : List (K × V)) → AllByRecursion (λ y. find R y.0 es ≡ Some y.1) ys → AllByRecursion (λ y. cond (eq_by_cmp R y.0 e.0) (Some e.1) (find R y.0 es) ≡ Some y.1) ys
      later [] a = tt
      later (y ∷ ys) a = (
        ap (λ t. cond t (Some e.1) (find R y.0 es)) ((eq_by_cmp_equiv o).symm y.0 e.0 ∙ less_apart _ (not_below_itself same e.0 y.0 y.1 es (and_parts _ _ h).0 a.0)) ∙ a.0,
        later ys a.1,
      )

  pub each_there : (m : FinMap R V) → AllByRecursion (λ e. map.get m e.0 ≡ Some e.1) (map.entries m)
  each_there m = from_found (map.entries m) (each_found (map.entries m) (T_true _ (map.entries_sorted m)))
    where
      from_found : (ys : List (K × V)) → AllByRecursion (λ y. find R y.0 (map.entries m) ≡ Some y.1) ys → AllByRecursion (λ y. map.get m y.0 ≡ Some y.1) ys
      from_found [] a = tt
      from_found (y ∷ ys) a = (map.get-entries m y.0 ∙ a.0, from_found ys a.1)

-- a test that only items of the filtered list pass
pub list_any-filter : {X : Type 0} (t p : X → Bool) (xs : List X) → AllByRecursion (λ x. t x ≡ true → p x ≡ true) xs → list_any t (filter p xs) ≡ list_any t xs
list_any-filter t p [] h = refl
list_any-filter t p (x ∷ xs) h =
    let rest = list_any-filter t p xs h.1 in
    elim (p x) as (λ b. p x ≡ b → list_any t (cond b (x ∷ filter p xs) (filter p xs)) ≡ (t x || list_any t xs)) [
      | true ↦ λ kept. ap (λ b. t x || b) rest
      | false ↦ λ gone.
          elim (t x) as (λ c. t x ≡ c → list_any t (filter p xs) ≡ (c || list_any t xs)) [
            | true ↦ λ passes. absurd (false≢true (sym gone ∙ h.0 passes))
            | false ↦ λ fails. rest
          ] refl
    ] refl

pub list_any-map : {X Y : Type 0} (t : Y → Bool) (f : X → Y) (xs : List X) → list_any t (map_list f xs) ≡ list_any (λ x. t (f x)) xs
list_any-map t f [] = refl
list_any-map t f (x ∷ xs) = ap (λ b. t (f x) || b) (list_any-map t f xs)
