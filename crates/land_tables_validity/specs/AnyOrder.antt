-- The order of values does not matter: neither for the values found in a list, nor for the soundness of
-- values that are current together. The trait requires this law.
use Rattle.std.proofs.Common.{◌≡◌, ℕ, Bool, false, not, ◌&&◌, ◌||◌, List, [], ◌∷◌, length, Option, Some, None}
use Rattle.std.proofs.Common.{filter, refl, sym, ap, ap₂, ◌∙◌, arith, IsPermutation}
use Rattle.std.specs.Prelude.{nat_eq, nat_lt}
use Rattle.std.proofs.lemmas.Bool.Decides.{nat_tests}
use Rattle.std.proofs.lemmas.List.Sorted.{IsPermutation-cons, IsPermutation-middle, IsPermutation-refl}
use Rattle.std.proofs.lemmas.List.Sorted.{IsPermutation-trans, length_permutation, list_any-IsPermutation}
use Rattle.std.specs.List.{cons_option, filter_map}
use Rattle.land_core.specs.Members.{are_group_shares, is_group_size, is_yes}
use Rattle.land_core.specs.Units.{are_whole_or_none}
use Rattle.land_core.specs.declared.rrr.RightType.{RightType}
use Rattle.land_core.specs.declared.rrr.RightType.TheVariants.{Ownership, Lease, Usufruct}
use Rattle.land_fraction.proofs.Moves.{wholeness-permuted}
use Rattle.land_fraction.specs.Ratio.{Ratio}
use Rattle.land_fraction.specs.Wholeness.{wholeness}
use Rattle.land_tables_history.proofs.Permutations.{along_permutation, filter_permuted}
use Rattle.land_tables_validity.specs.Holdings.{are_few, are_shares_whole, is_unit_sound, is_checked_unit}
use Rattle.land_tables_validity.specs.Holdings.{is_entry, is_parcel_holding, is_unit_holding, holding_share}
use Rattle.land_tables_validity.specs.Holdings.{holding_shares}
use Rattle.land_tables_validity.specs.LiveSpan.{if_any_marked}
use Rattle.land_tables_validity.specs.Memberships.{are_members_sound, are_members_whole, is_group}
use Rattle.land_tables_validity.specs.Memberships.{member_share, member_shares}
use Rattle.land_tables_validity.specs.declared.groups.Membership.{Membership}
use Rattle.land_tables_validity.specs.declared.share_sums.Holding.{Holding}

-- ---- lists

-- the values found in a list
pub filter_map_permuted : {X Y : Type 0} (f : X → Option Y) (xs ys : List X) → IsPermutation xs ys
    → IsPermutation (filter_map f xs) (filter_map f ys)
filter_map_permuted {X} {Y} f = along_permutation (λ xs ys. IsPermutation (filter_map f xs) (filter_map f ys))
    (λ xs. IsPermutation-refl (filter_map f xs))
    (λ x xs ys h. under (f x) (filter_map f xs) (filter_map f ys) h)
    (λ x y xs. over (f x) (f y) (filter_map f xs))
    (λ xs ys zs. IsPermutation-trans (filter_map f xs) (filter_map f ys) (filter_map f zs))
  where
    under : (o : Option Y) (xs ys : List Y) → IsPermutation xs ys
        → IsPermutation (cons_option o xs) (cons_option o ys)
    under (Some y) xs ys h = IsPermutation-cons y xs ys h
    under None xs ys h = h

    over : (o p : Option Y) (xs : List Y)
        → IsPermutation (cons_option o (cons_option p xs)) (cons_option p (cons_option o xs))
    over (Some x) (Some y) xs = IsPermutation-middle (x ∷ []) y xs
    over (Some x) None xs = IsPermutation-refl (x ∷ xs)
    over None (Some y) xs = IsPermutation-refl (y ∷ xs)
    over None None xs = IsPermutation-refl xs

-- the number of items that pass a test
pub count_permuted : {X : Type 0} (p : X → Bool) (xs ys : List X) → IsPermutation xs ys
    → length (filter p xs) ≡ length (filter p ys)
count_permuted p xs ys same =
    sym (length_permutation (filter p xs) (filter p ys) (filter_permuted p xs ys same))

whole_or_none : (xs : List Ratio) → are_whole_or_none xs ≡ (nat_eq (length xs) 0 || is_yes (wholeness xs))
whole_or_none [] = refl
whole_or_none (x ∷ xs) = sym (ap (λ b. b || is_yes (wholeness (x ∷ xs))) (some (length xs)))
  where
    some : (n : ℕ) → nat_eq (length (x ∷ xs)) 0 ≡ false
    some n = grind (arith, nat_tests)

-- whether shares sum to one, if there are any
pub whole_permuted : (xs ys : List Ratio) → IsPermutation xs ys → are_whole_or_none xs ≡ are_whole_or_none ys
whole_permuted xs ys p =
    whole_or_none xs
    ∙ ap₂ (λ n w. nat_eq n 0 || is_yes w) (sym (length_permutation xs ys p)) (wholeness-permuted xs ys p)
    ∙ sym (whole_or_none ys)

-- whether 2 to 64 shares sum to one
pub group_permuted : (xs ys : List Ratio) → IsPermutation xs ys → are_group_shares xs ≡ are_group_shares ys
group_permuted xs ys p =
    ap₂ (λ n w. is_group_size n && is_yes w) (sym (length_permutation xs ys p)) (wholeness-permuted xs ys p)

marked_permuted : {T : Type 0} (set_entries : T → Bool) (test : List T → Bool) (xs ys : List T)
    → test xs ≡ test ys
    → IsPermutation xs ys
    → if_any_marked set_entries test xs ≡ if_any_marked set_entries test ys
marked_permuted set_entries test xs ys same p = ap₂ (λ a b. not a || b)
    (list_any-IsPermutation set_entries xs ys p) same

-- ---- values of a unit

shares_permuted : (type : RightType) (xs ys : List Holding) → IsPermutation xs ys
    → are_whole_or_none (holding_shares type xs) ≡ are_whole_or_none (holding_shares type ys)
shares_permuted type xs ys p =
    whole_permuted (holding_shares type xs) (holding_shares type ys)
    (filter_map_permuted (holding_share type) xs ys p)

all_shares_permuted : (xs ys : List Holding) → IsPermutation xs ys → are_shares_whole xs ≡ are_shares_whole ys
all_shares_permuted xs ys p =
    ap₂ (λ a b. a && b)
    (ap₂ (λ a b. a && b) (shares_permuted Ownership xs ys p) (shares_permuted Lease xs ys p))
    (shares_permuted Usufruct xs ys p)

few_permuted : (xs ys : List Holding) → IsPermutation xs ys → are_few xs ≡ are_few ys
few_permuted xs ys p =
    ap₂ (λ m n. not (nat_lt 256 m || nat_lt 256 n)) (count_permuted is_parcel_holding xs ys p)
    (count_permuted is_entry xs ys p)

pub sound_in_any_order : (xs ys : List Holding) → IsPermutation xs ys
    → is_unit_sound xs ≡ is_unit_sound ys
sound_in_any_order xs ys p =
    ap₂ (λ a b. a && b)
    (marked_permuted is_unit_holding are_few xs ys (few_permuted xs ys p) p)
    (marked_permuted is_checked_unit are_shares_whole xs ys (all_shares_permuted xs ys p) p)

-- ---- values of a group

pub joined_in_any_order : (xs ys : List Membership) → IsPermutation xs ys
    → are_members_sound xs ≡ are_members_sound ys
joined_in_any_order xs ys p =
    let same = group_permuted (member_shares xs) (member_shares ys)
    (filter_map_permuted member_share xs ys p) in
    marked_permuted is_group are_members_whole xs ys same p
