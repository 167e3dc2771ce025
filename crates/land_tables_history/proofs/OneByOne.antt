-- Closing versions key by key equals closing them in one pass, and inserting versions one by one equals
-- inserting them in one pass, up to order.
use Rattle.std.proofs.Common.{◌≡◌, Bool, true, false, cond, ◌&&◌, ◌||◌, List, [], ◌∷◌, ◌++◌, map as map_list, refl, sym, ap, ◌∙◌, arith, IsPermutation}
use Rattle.std.specs.Prelude.{ℤ, ◌<ℤ◌, fold}
use Rattle.std.specs.List.{list_any}
use Rattle.std.specs.Ordering.{int_eq}
use Rattle.std.proofs.lemmas.Bool.{false_from_ne_true}
use Rattle.std.proofs.lemmas.Bool.Decides.{Decides-int_eq}
use Rattle.std.proofs.lemmas.Int.{ints}
use Rattle.std.proofs.lemmas.List.Sorted.{IsPermutation-middle, IsPermutation-refl, IsPermutation-trans}
use Rattle.land_tables_history.specs.Changed.{opened_version, closed_version}
use Rattle.land_tables_history.specs.Open.{never}
use Rattle.land_tables_history.specs.declared.version.Version.{Version}

-- a stamp before `never` is not `never`
not_never : (stamp : ℤ) → stamp <ℤ never → int_eq stamp never ≡ false
not_never stamp less = false_from_ne_true (int_eq stamp never) (λ e. let same : stamp ≡ never = (Decides-int_eq stamp never).0 e in absurd (omega (arith, ints)))

module _ {X : Type 0} (stamp : ℤ) (early : stamp <ℤ never) where
  one_twice : (p q : X → Bool) (v : Version X) → closed_version p stamp (closed_version q stamp v) ≡ closed_version (λ x. q x || p x) stamp v
  one_twice p q v = go (q v.what) (int_eq v.until never) refl
    where
      ended : Version X
      ended = record v { until = stamp }

      never_both : (b : Bool) → cond (b && false) ended ended ≡ ended
      never_both true = refl
      never_both false = refl

      unmoved : (b : Bool) → cond (b && false) ended v ≡ v
      unmoved true = refl
      unmoved false = refl

      go : (b c : Bool) → int_eq v.until never ≡ c → closed_version p stamp (cond (b && c) ended v) ≡ cond ((b || p v.what) && c) ended v
      go true true e = ap (λ c. cond (p v.what && c) ended ended) (not_never stamp early) ∙ never_both (p v.what)
      go true false e = ap (λ c. cond (p v.what && c) ended v) e ∙ unmoved (p v.what)
      go false c e = ap (λ c. cond (p v.what && c) ended v) e

  all_twice : (p q : X → Bool) (vs : List (Version X)) → map_list (closed_version p stamp) (map_list (closed_version q stamp) vs) ≡ map_list (closed_version (λ x. q x || p x) stamp) vs
  all_twice p q [] = refl
  all_twice p q (v ∷ vs) = ap (λ w. w ∷ map_list (closed_version p stamp) (map_list (closed_version q stamp) vs)) (one_twice p q v) ∙ ap (λ ws. closed_version (λ x. q x || p x) stamp v ∷ ws) (all_twice p q vs)

  none_closed : (vs : List (Version X)) → map_list (closed_version (λ x. false) stamp) vs ≡ vs
  none_closed [] = refl
  none_closed (v ∷ vs) = ap (λ ws. v ∷ ws) (none_closed vs)

  pub closed_each : {K : Type 0} (has : X → K → Bool) (keys : List K) (vs : List (Version X))
      → fold (λ ws key. map_list (closed_version (λ x. has x key) stamp) ws) vs keys ≡ map_list (closed_version (λ x. list_any (has x) keys) stamp) vs
  closed_each has [] vs = sym (none_closed vs)
  closed_each has (key ∷ keys) vs = closed_each has keys (map_list (closed_version (λ x. has x key) stamp) vs) ∙ all_twice (λ x. list_any (has x) keys) (λ x. has x key) vs

pub begun_each : {X : Type 0} (stamp : ℤ) (put : List X) (vs : List (Version X))
    → IsPermutation (fold (λ ws x. opened_version x stamp ∷ ws) vs put) (map_list (λ x. opened_version x stamp) put ++ vs)
begun_each stamp [] vs = IsPermutation-refl vs
begun_each stamp (x ∷ put) vs =
    IsPermutation-trans (fold (λ ws x. opened_version x stamp ∷ ws) (opened_version x stamp ∷ vs) put) (map_list (λ x. opened_version x stamp) put ++ opened_version x stamp ∷ vs) (opened_version x stamp ∷ (map_list (λ x. opened_version x stamp) put ++ vs))
    (begun_each stamp put (opened_version x stamp ∷ vs)) (IsPermutation-middle (map_list (λ x. opened_version x stamp) put) (opened_version x stamp) vs)
