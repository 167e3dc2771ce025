-- Tests of the current values, and of the references of mutations.
use Rattle.std.proofs.Common.{◌≡◌, ℕ, Bool, true, false, cond, not, ◌||◌, ◌&&◌, List, [], ◌∷◌, Some, flat_map, filter, map as map_list, refl, sym, ap, ◌∙◌, arith}
use Rattle.std.proofs.lemmas.Bool.Decides.{nat_tests}
use Rattle.std.proofs.lemmas.List.Folds.{list_any-append}
use Rattle.std.specs.FinMap as map
use Rattle.std.specs.FinMap.{FinMap, find, is_sorted}
use Rattle.std.specs.FinMap.Entries.{below_all}
use Rattle.std.specs.List.{list_all, list_any}
use Rattle.std.specs.Option.{option_map_or}
use Rattle.std.specs.Ordering.{eq_by_cmp, is_lt, nat_cmp}
use Rattle.std.specs.Prelude.{ℤ, nat_eq}
use Rattle.std.proofs.lemmas.Bool.{and_parts, eqb-true}
use Rattle.std.proofs.lemmas.Cmp.{nat_eq_equiv}
use Rattle.land_core.proofs.Booleans.{T_true, and_false}
use Rattle.land_core.specs.Contents.{content_names_unit}
use Rattle.land_core.specs.declared.content.Content.{Content}
use Rattle.land_core.specs.declared.content.Content.TheVariants as content
use Rattle.land_core.specs.declared.mutation.MutationRecord.{MutationRecord}
use Rattle.land_tables_history.specs.History.{named_units, namings_of}
use Rattle.land_tables_history.specs.Intervals.{is_same_naming}
use Rattle.land_tables_history.specs.ValidHistory.{are_same_namings, is_naming_among, is_told}
use Rattle.land_tables_history.specs.Standing.{current_values, is_current}
use Rattle.land_tables_history.specs.declared.naming.Naming.{Naming}
use Rattle.land_tables_history.specs.declared.version.Version.{Version}

-- a test of some or all current values
pub any_standing : {X : Type 0} (t : ℤ) (p : X → Bool) (vs : List (Version X)) → list_any (λ v. is_current t v && p v.what) vs ≡ list_any p (current_values t vs)
any_standing t p [] = refl
any_standing {X} t p (v ∷ vs) = go (is_current t v) (any_standing t p vs)
  where
    go : (b : Bool) → list_any (λ v. is_current t v && p v.what) vs ≡ list_any p (current_values t vs)
        → ((b && p v.what) || list_any (λ (v : Version X). is_current t v && p v.what) vs) ≡ list_any p (map_list (λ (v : Version X). v.what) (cond b (v ∷ filter (is_current t) vs) (filter (is_current t) vs)))
    go true rest = ap (λ k. p v.what || k) rest
    go false rest = rest

pub all_standing : {X : Type 0} (t : ℤ) (p : X → Bool) (vs : List (Version X)) → list_all (λ v. not (is_current t v) || p v.what) vs ≡ list_all p (current_values t vs)
all_standing t p [] = refl
all_standing {X} t p (v ∷ vs) = go (is_current t v) (all_standing t p vs)
  where
    go : (b : Bool) → list_all (λ v. not (is_current t v) || p v.what) vs ≡ list_all p (current_values t vs)
        → ((not b || p v.what) && list_all (λ (v : Version X). not (is_current t v) || p v.what) vs) ≡ list_all p (map_list (λ (v : Version X). v.what) (cond b (v ∷ filter (is_current t) vs) (filter (is_current t) vs)))
    go true rest = ap (λ k. p v.what && k) rest
    go false rest = rest

-- the references of one mutation
abbrev pub naming_of : ℕ → ℕ → Naming
naming_of mutation unit = record { mutation = mutation; unit = unit }

abbrev pub named_by : ℕ × MutationRecord → List Naming
named_by m = map_list (naming_of m.0) (named_units m.1.content)

or_nothing : (a b : Bool) → (a && b) ≡ ((a && b) || false)
or_nothing a b = grind arith

listed : (n : Naming) (k : ℕ) (units : List ℕ) → (nat_eq n.mutation k && list_any (λ u. nat_eq u n.unit) units) ≡ list_any (is_same_naming n) (map_list (naming_of k) units)
listed n k [] = and_false (nat_eq n.mutation k)
listed n k (u ∷ us) =
    share (nat_eq n.mutation k) (nat_eq u n.unit) (list_any (λ u. nat_eq u n.unit) us) ∙ ap (λ b. (nat_eq n.mutation k && b) || (nat_eq n.mutation k && list_any (λ u. nat_eq u n.unit) us)) (nat_eq_equiv.symm u n.unit)
    ∙ ap (λ b. (nat_eq n.mutation k && nat_eq n.unit u) || b) (listed n k us)
  where
    share : (a b c : Bool) → (a && (b || c)) ≡ ((a && b) || (a && c))
    share true b c = refl
    share false b c = refl

or_false : (b : Bool) → b ≡ (b || false)
or_false true = refl
or_false false = refl

in_content : (unit : ℕ) (c : Content) → content_names_unit unit c ≡ list_any (λ u. nat_eq u unit) (named_units c)
in_content unit (content.Transfer it) = or_false (nat_eq it.unit unit)
in_content unit (content.Subdivision it) = or_false (nat_eq it.unit unit)
in_content unit (content.Merger it) = refl
in_content unit (content.Mortgage it) = or_false (nat_eq it.unit unit)
in_content unit (content.Discharge it) = or_false (nat_eq it.unit unit)

-- some mutation has this reference
pub any_named : (n : Naming) (es : List (ℕ × MutationRecord)) → list_any (λ e. nat_eq n.mutation e.0 && content_names_unit n.unit e.1.content) es ≡ list_any (is_same_naming n) (flat_map named_by es)
any_named n [] = refl
any_named n (e ∷ es) =
    ap (λ b. (nat_eq n.mutation e.0 && b) || list_any (λ (e : ℕ × MutationRecord). nat_eq n.mutation e.0 && content_names_unit n.unit e.1.content) es) (in_content n.unit e.1.content)
    ∙ ap (λ b. b || list_any (λ (e : ℕ × MutationRecord). nat_eq n.mutation e.0 && content_names_unit n.unit e.1.content) es) (listed n e.0 (named_units e.1.content))
    ∙ ap (λ b. list_any (is_same_naming n) (named_by e) || b) (any_named n es) ∙ sym (list_any-append (is_same_naming n) (named_by e) (flat_map named_by es))

-- tests that agree
pub all_alike : {X : Type 0} (p q : X → Bool) → ((x : X) → p x ≡ q x) → (xs : List X) → list_all p xs ≡ list_all q xs
all_alike p q same [] = refl
all_alike p q same (x ∷ xs) = ap (λ b. b && list_all p xs) (same x) ∙ ap (λ b. q x && b) (all_alike p q same xs)

-- ---- the mutation with its number determines a naming

differs : (a b : ℕ) → is_lt (nat_cmp a b) ≡ true → nat_eq a b ≡ false
differs a b less = grind (arith, nat_tests)

same_test : (a b : ℕ) → eq_by_cmp nat_cmp a b ≡ nat_eq a b
same_test a b = grind (arith, nat_tests)

none_above : {V : Type 0} (n : ℕ) (p : V → Bool) (es : List (ℕ × V)) → below_all nat_cmp n es ≡ true → list_any (λ e. nat_eq n e.0 && p e.1) es ≡ false
none_above n p [] below = refl
none_above n p (e ∷ es) below =
    let parts = and_parts (is_lt (nat_cmp n e.0)) (below_all nat_cmp n es) below in
    ap (λ b. (b && p e.1) || list_any (λ e. nat_eq n e.0 && p e.1) es) (differs n e.0 parts.0) ∙ none_above n p es parts.1

found_passes : {V : Type 0} (n : ℕ) (p : V → Bool) (es : List (ℕ × V)) → is_sorted nat_cmp es ≡ true → list_any (λ e. nat_eq n e.0 && p e.1) es ≡ option_map_or p (find nat_cmp n es) false
found_passes n p [] sorted = refl
found_passes {V} n p (e ∷ es) sorted =
    go (nat_eq n e.0) refl (found_passes n p es parts.1) ∙ ap (λ b. option_map_or p (cond b (Some e.1) (find nat_cmp n es)) false) (sym (same_test n e.0))
  where
    parts : (below_all nat_cmp e.0 es ≡ true) × (is_sorted nat_cmp es ≡ true)
    parts = and_parts (below_all nat_cmp e.0 es) (is_sorted nat_cmp es) sorted

    go : (b : Bool) → nat_eq n e.0 ≡ b → list_any (λ e. nat_eq n e.0 && p e.1) es ≡ option_map_or p (find nat_cmp n es) false
        → ((b && p e.1) || list_any (λ e. nat_eq n e.0 && p e.1) es) ≡ option_map_or p (cond b (Some e.1) (find nat_cmp n es)) false
    go true is rest = ap (λ b. p e.1 || b) (none_above n p es (ap (λ k. below_all nat_cmp k es) (eqb-true n e.0 is) ∙ parts.0)) ∙ sym (or_false (p e.1))
    go false is rest = rest

-- some mutation refers to a unit if and only if the one of that number does
pub told_there : (mutations : FinMap nat_cmp MutationRecord) (n : Naming) → is_told mutations n ≡ option_map_or (λ m. content_names_unit n.unit m.content) (map.get mutations n.mutation) false
told_there mutations n =
    found_passes n.mutation (λ m. content_names_unit n.unit m.content) (map.entries mutations) (T_true (is_sorted nat_cmp (map.entries mutations)) (map.entries_sorted mutations))
    ∙ ap (λ o. option_map_or (λ m. content_names_unit n.unit m.content) o false) (sym (map.get-entries mutations n.mutation))

-- ---- current namings are the references of mutations

module _ (t : ℤ) (versions : List (Version Naming)) (mutations : FinMap nat_cmp MutationRecord) where
  pub told_all : list_all (λ v. not (is_current t v) || is_told mutations v.what) versions ≡ list_all (is_naming_among (namings_of mutations)) (current_values t versions)
  told_all = all_standing t (is_told mutations) versions ∙ all_alike (is_told mutations) (is_naming_among (namings_of mutations)) (λ n. any_named n (map.entries mutations)) (current_values t versions)

  pub none_told : (one : Bool) → one ≡ false → one ≡ list_all (λ v. not (is_current t v) || is_told mutations v.what) versions → one ≡ are_same_namings (current_values t versions) (namings_of mutations)
  none_told one is a = is ∙ sym (ap (λ k. k && list_all (is_naming_among (current_values t versions)) (namings_of mutations)) (sym (a ∙ told_all) ∙ is))
