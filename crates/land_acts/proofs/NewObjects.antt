-- New objects have numbers above all others.
use Rattle.std.proofs.Common.{◌≡◌, ℕ, ◌+◌, ◌<◌, ◌≤◌, true, false, ◌||◌, ◌&&◌, not, Some, List, [], ◌∷◌, ◌++◌, refl, sym, ap, ◌∙◌, subst, append_assoc, append-nil, arith}
use Rattle.std.specs.Prelude.{nat_eq, map as map_list}
use Rattle.std.specs.List.{list_any, AllByRecursion}
use Rattle.std.specs.Ordering.{nat_cmp}
use Rattle.std.specs.Cmp.{nat_cmp_total, nat_cmp_is}
use Rattle.std.specs.declared.cmp.Ordering.TheVariants.{Greater}
use Rattle.std.specs.FinMap as map
use Rattle.std.specs.FinMap.{FinMap, put, nat_cmp-IsAntisymmetric}
use Rattle.std.proofs.lemmas.Bool.Decides.{nat_tests}
use Rattle.land_acts.specs.Mutations.Numbering.{with_numbers_from}
use Rattle.land_core.proofs.Reflection.{each_there}
use Rattle.land_core.proofs.SoundRegisters.{used_from, used_bounds}
use Rattle.land_core.specs.Entries.{with_entries, are_distinct}
use Rattle.land_core.specs.Soundness.{has_unused}
use Rattle.land_core.specs.declared.register.Register.{Register}

-- entries whose numbers are all below a bound
abbrev pub AreBelow : {V : Type 0} → ℕ → List (ℕ × V) → Type 0
AreBelow k es = AllByRecursion (λ e. e.0 < k) es

greater : (k n : ℕ) → n < k → nat_cmp k n ≡ Greater
greater k n less = sym (nat_cmp_is k n Greater less)

put_end : {V : Type 0} (k : ℕ) (v : V) (es : List (ℕ × V)) → AreBelow k es → put nat_cmp k v es ≡ es ++ (k, v) ∷ []
put_end k v [] below = refl
put_end k v (e ∷ es) below = rw (greater k e.0 below.0) (ap (λ it. e ∷ it) (put_end k v es below.1))

one_more : {V : Type 0} (k : ℕ) (v : V) (es : List (ℕ × V)) → AreBelow k es → AreBelow (k + 1) (es ++ (k, v) ∷ [])
one_more k v [] below = (omega arith, tt)
one_more k v (e ∷ es) below = (let less = below.0 in omega (arith, less), one_more k v es below.1)

pub below_later : {V : Type 0} (k later : ℕ) → k ≤ later → (es : List (ℕ × V)) → AreBelow k es → AreBelow later es
below_later k later le [] below = tt
below_later k later le (e ∷ es) below = (let less = below.0 in omega (arith, le, less), below_later k later le es below.1)

-- an entry with a number above all others is the last one
pub entries-last : {V : Type 0} (m : FinMap nat_cmp V) (k : ℕ) (v : V) → AreBelow k (map.entries m) → map.entries (map.insert m k v) ≡ map.entries m ++ (k, v) ∷ []
entries-last m k v below = map.entries-insert nat_cmp_total m k v ∙ put_end k v (map.entries m) below

-- and so are several with the numbers after it
pub entries-with_numbers_from : {V : Type 0} (m : FinMap nat_cmp V) (first : ℕ) (xs : List V) → AreBelow first (map.entries m)
    → map.entries (with_entries m (with_numbers_from first xs)) ≡ map.entries m ++ with_numbers_from first xs
entries-with_numbers_from m first [] below = sym (append-nil (map.entries m))
entries-with_numbers_from {V} m first (x ∷ xs) below =
    let once = entries-last m first x below in
    entries-with_numbers_from (map.insert m first x) (first + 1) xs (subst (AreBelow (first + 1)) (sym once) (one_more first x (map.entries m) below))
    ∙ ap (λ (it : List (ℕ × V)). it ++ with_numbers_from (first + 1) xs) once
    ∙ append_assoc (map.entries m) ((first, x) ∷ []) (with_numbers_from (first + 1) xs)

-- used numbers are below the next one
pub below_next : {V : Type 0} (r : Register) (records : FinMap nat_cmp V) → has_unused r records ≡ false → AreBelow r.next (map.entries records)
below_next {V} r records none = each_below (map.entries records) (each_there nat_cmp_total nat_cmp-IsAntisymmetric records)
  where
    each_below : (es : List (ℕ × V)) → AllByRecursion (λ e. map.get records e.0 ≡ Some e.1) es → AreBelow r.next es
    each_below [] h = tt
    each_below (e ∷ es) h = ((used_bounds r e.0 (used_from r records none e.0 e.1 h.0)).1, each_below es h.1)

-- consecutively numbered objects have different numbers
none_before : {V : Type 0} (k first : ℕ) → k < first → (xs : List V) → list_any (nat_eq k) (map_list (λ e. e.0) (with_numbers_from first xs)) ≡ false
none_before k first less [] = refl
none_before k first less (x ∷ xs) =
    let apart : nat_eq k first ≡ false = grind (arith, nat_tests) in
    ap (λ b. b || list_any (nat_eq k) (map_list (λ e. e.0) (with_numbers_from (first + 1) xs))) apart ∙ none_before k (first + 1) (omega (arith, less)) xs

pub numbered_once : {V : Type 0} (first : ℕ) (xs : List V) → are_distinct nat_eq (map_list (λ e. e.0) (with_numbers_from first xs) ++ []) ≡ true
numbered_once {V} first xs = ap (are_distinct nat_eq) (append-nil (map_list (λ e. e.0) (with_numbers_from first xs))) ∙ once first xs
  where
    once : (first : ℕ) (xs : List V) → are_distinct nat_eq (map_list (λ e. e.0) (with_numbers_from first xs)) ≡ true
    once first [] = refl
    once first (x ∷ xs) =
        ap (λ b. not b && are_distinct nat_eq (map_list (λ e. e.0) (with_numbers_from (first + 1) xs))) (none_before first (first + 1) (omega arith) xs) ∙ once (first + 1) xs
