-- At most 256 values are at most 256 of each kind.
use Rattle.std.proofs.Common.{◌≡◌, ℕ, ◌≤◌, Bool, true, false, cond, not, ◌||◌, List, [], ◌∷◌, length, filter, map as map_list, refl, arith}
use Rattle.std.specs.Prelude.{nat_lt}
use Rattle.std.proofs.lemmas.Bool.Decides.{nat_tests}
use Rattle.std.specs.List.{list_any}
use Rattle.land_tables_validity.specs.Holdings.{are_few, is_entry, is_parcel_holding, is_unit_holding}
use Rattle.land_tables_validity.specs.LiveSpan.{if_any_marked}
use Rattle.land_tables_validity.specs.declared.share_sums.Holding.{Holding}

-- not more items pass a test than there are
count_within : {X : Type 0} (p : X → Bool) (xs : List X) → length (filter p xs) ≤ length xs
count_within p [] = omega arith
count_within {X} p (x ∷ xs) = go (p x) (count_within p xs)
  where
    go : (b : Bool) → length (filter p xs) ≤ length xs → length (cond b (x ∷ filter p xs) (filter p xs)) ≤ length (x ∷ xs)
    go true h = omega (arith, h)
    go false h = omega (arith, h)

no_more : (n k : ℕ) → k ≤ n → n ≤ 256 → nat_lt 256 k ≡ false
no_more n k h few = grind (arith, nat_tests)

length_of_map : {X Y : Type 0} (f : X → Y) (xs : List X) → length (map_list f xs) ≡ length xs
length_of_map f [] = refl
length_of_map f (x ∷ xs) = omega (arith, length_of_map f xs)

many_or_few : (a b c : Bool) → b ≡ false → c ≡ false → true ≡ (not a || not (b || c))
many_or_few a b c x y = grind arith

module _ {X : Type 0} (f : X → Holding) (xs : List X) (few : length xs ≤ 256) where
  counted : (p : Holding → Bool) → nat_lt 256 (length (filter p (map_list f xs))) ≡ false
  counted p =
      let within : length (filter p (map_list f xs)) ≤ length xs = omega (arith, count_within p (map_list f xs), length_of_map f xs) in
      no_more (length xs) (length (filter p (map_list f xs))) within few

  -- at most 256 of all are within limits
  pub few_of_all : true ≡ if_any_marked is_unit_holding are_few (map_list f xs)
  few_of_all = many_or_few (list_any is_unit_holding (map_list f xs)) _ _ (counted is_parcel_holding) (counted is_entry)
