-- A property of the entries of a unit is a property of their list, and copies in another unit have it, too.
use Rattle.std.proofs.Common.{◌≡◌, ℕ, ◌+◌, ◌<◌, ◌≤◌, Bool, true, false, cond, ◌&&◌, ◌||◌, Some, None, List, [], ◌∷◌, ◌++◌, length, refl, sym, ap, ◌∙◌, arith}
use Rattle.std.specs.Prelude.{filter, nat_eq, map as map_list}
use Rattle.std.specs.List.{filter_map, cons_option, list_any, AllByRecursion}
use Rattle.std.specs.Cmp.{nat_cmp_total}
use Rattle.std.specs.FinMap as map
use Rattle.std.specs.FinMap.{nat_cmp-IsAntisymmetric}
use Rattle.std.proofs.lemmas.List.{length-map, map-append}
use Rattle.std.proofs.lemmas.List.Elements.{filter-append}
use Rattle.std.proofs.lemmas.List.Folds.{list_any-append}
use Rattle.std.proofs.lemmas.Bool.{or_parts}
use Rattle.std.proofs.lemmas.Cmp.{nat_eq_equiv}
use Rattle.land_acts.proofs.Numbers.{one_number, tied_number}
use Rattle.land_acts.specs.Mutations.Numbering.{with_numbers_from}
use Rattle.land_acts.specs.Mutations.Subdividing.{list_entries_of, in_unit}
use Rattle.land_core.proofs.Pairs.{some_pair}
use Rattle.land_core.proofs.Reflection.{each_there}
use Rattle.land_core.specs.Units.{share_in_unit, share_of, is_right_in, is_right_of, do_clash, are_of_one_type, are_of_one_rank, type_of, rank_of, type_shares, are_whole_or_none, has_owner, rrr_count, has_whole_shares}
use Rattle.land_core.specs.declared.register.Register.{Register}
use Rattle.land_core.specs.declared.rrr.RightType.{RightType}
use Rattle.land_core.specs.declared.rrr.RightType.TheVariants.{Ownership, Lease, Usufruct}
use Rattle.land_core.specs.declared.rrr.RrrRecord.{RrrRecord}
use Rattle.land_fraction.specs.Ratio.{Ratio}

-- ---- the entries of a unit among others

abbrev pub listed_in : (unit : ℕ) → List (ℕ × RrrRecord) → List RrrRecord
listed_in unit es = map_list (λ e. e.1) (filter (λ e. nat_eq e.1.unit unit) es)

-- the shares of a type among entries, whether those of each type sum to one, and whether an entry is a right
-- of a type
abbrev pub shares_among : RightType → List RrrRecord → List Ratio
shares_among type es = filter_map (λ e. share_of type e.class) es

abbrev pub are_shares_whole : List RrrRecord → Bool
are_shares_whole es = are_whole_or_none (shares_among Ownership es) && are_whole_or_none (shares_among Lease es) && are_whole_or_none (shares_among Usufruct es)

abbrev pub has_right_among : RightType → List RrrRecord → Bool
has_right_among type es = list_any (λ e. is_right_of type e.class) es

shares_listed : (unit : ℕ) (type : RightType) (es : List (ℕ × RrrRecord)) → filter_map (λ (e : ℕ × RrrRecord). share_in_unit unit type e.1) es ≡ shares_among type (listed_in unit es)
shares_listed unit type [] = refl
shares_listed unit type (e ∷ es) =
    let rest = shares_listed unit type es in
    elim (nat_eq e.1.unit unit) as (λ b. cons_option (cond b (share_of type e.1.class) None) (filter_map (λ (x : ℕ × RrrRecord). share_in_unit unit type x.1) es)
    ≡ shares_among type (map_list (λ (x : ℕ × RrrRecord). x.1) (cond b (e ∷ filter (λ (x : ℕ × RrrRecord). nat_eq x.1.unit unit) es) (filter (λ (x : ℕ × RrrRecord). nat_eq x.1.unit unit) es)))) [
      | true ↦ ap (cons_option (share_of type e.1.class)) rest
      | false ↦ rest
    ]

right_listed : (unit : ℕ) (type : RightType) (es : List (ℕ × RrrRecord)) → list_any (λ (e : ℕ × RrrRecord). is_right_in unit type e.1) es ≡ has_right_among type (listed_in unit es)
right_listed unit type [] = refl
right_listed unit type (e ∷ es) =
    let rest = right_listed unit type es in
    elim (nat_eq e.1.unit unit) as (λ b. (b && is_right_of type e.1.class || list_any (λ (x : ℕ × RrrRecord). is_right_in unit type x.1) es)
    ≡ has_right_among type (map_list (λ (x : ℕ × RrrRecord). x.1) (cond b (e ∷ filter (λ (x : ℕ × RrrRecord). nat_eq x.1.unit unit) es) (filter (λ (x : ℕ × RrrRecord). nat_eq x.1.unit unit) es)))) [
      | true ↦ ap (λ b. is_right_of type e.1.class || b) rest
      | false ↦ rest
    ]

-- ---- properties of a unit in a register

three_types : (a b c x y z : List Ratio) → a ≡ x → b ≡ y → c ≡ z → (are_whole_or_none a && are_whole_or_none b && are_whole_or_none c) ≡ (are_whole_or_none x && are_whole_or_none y && are_whole_or_none z)
three_types a b c x y z first second third =
    ap (λ it. are_whole_or_none it && are_whole_or_none b && are_whole_or_none c) first
    ∙ ap (λ it. are_whole_or_none x && are_whole_or_none it && are_whole_or_none c) second
    ∙ ap (λ it. are_whole_or_none x && are_whole_or_none y && are_whole_or_none it) third

module _ (r : Register) (unit : ℕ) where
  pub whole_among : has_whole_shares r unit ≡ are_shares_whole (list_entries_of r unit)
  whole_among =
      three_types (type_shares r unit Ownership) (type_shares r unit Lease) (type_shares r unit Usufruct) (shares_among Ownership (list_entries_of r unit)) (shares_among Lease (list_entries_of r unit)) (shares_among Usufruct (list_entries_of r unit))
      (shares_listed unit Ownership (map.entries r.rrrs)) (shares_listed unit Lease (map.entries r.rrrs)) (shares_listed unit Usufruct (map.entries r.rrrs))

  pub owner_among : has_owner r unit ≡ has_right_among Ownership (list_entries_of r unit)
  owner_among = right_listed unit Ownership (map.entries r.rrrs)

  pub count_among : rrr_count r unit ≡ length (list_entries_of r unit)
  count_among = sym (length-map (filter (λ (e : ℕ × RrrRecord). nat_eq e.1.unit unit) (map.entries r.rrrs)) (λ e. e.1))

-- ---- copies in another unit

module _ (unit : ℕ) where
  shares_copied : (type : RightType) (es : List RrrRecord) → shares_among type (map_list (in_unit unit) es) ≡ shares_among type es
  shares_copied type [] = refl
  shares_copied type (e ∷ es) = ap (cons_option (share_of type e.class)) (shares_copied type es)

  pub whole_copied : (es : List RrrRecord) → are_shares_whole (map_list (in_unit unit) es) ≡ are_shares_whole es
  whole_copied es =
      three_types (shares_among Ownership (map_list (in_unit unit) es)) (shares_among Lease (map_list (in_unit unit) es)) (shares_among Usufruct (map_list (in_unit unit) es)) (shares_among Ownership es) (shares_among Lease es) (shares_among Usufruct es)
      (shares_copied Ownership es) (shares_copied Lease es) (shares_copied Usufruct es)

  pub right_copied : (type : RightType) (es : List RrrRecord) → has_right_among type (map_list (in_unit unit) es) ≡ has_right_among type es
  right_copied type [] = refl
  right_copied type (e ∷ es) = ap (λ b. is_right_of type e.class || b) (right_copied type es)

  -- all copies are in their unit, and none is in another
  pub listed_copies : (first : ℕ) (es : List RrrRecord) → listed_in unit (with_numbers_from first (map_list (in_unit unit) es)) ≡ map_list (in_unit unit) es
  listed_copies first [] = refl
  listed_copies first (e ∷ es) =
      let rest = listed_copies (first + 1) es in
      let others = filter (λ (x : ℕ × RrrRecord). nat_eq x.1.unit unit) (with_numbers_from (first + 1) (map_list (in_unit unit) es)) in
      ap (λ b. map_list (λ (x : ℕ × RrrRecord). x.1) (cond b ((first, in_unit unit e) ∷ others) others)) (nat_eq_equiv.refl unit) ∙ ap (λ it. in_unit unit e ∷ it) rest

  pub none_copied : (other first : ℕ) → nat_eq unit other ≡ false → (es : List RrrRecord) → listed_in other (with_numbers_from first (map_list (in_unit unit) es)) ≡ []
  none_copied other first apart [] = refl
  none_copied other first apart (e ∷ es) =
      let others = filter (λ (x : ℕ × RrrRecord). nat_eq x.1.unit other) (with_numbers_from (first + 1) (map_list (in_unit unit) es)) in
      ap (λ b. map_list (λ (x : ℕ × RrrRecord). x.1) (cond b ((first, in_unit unit e) ∷ others) others)) apart ∙ none_copied other (first + 1) apart es

-- a property of two lists
pub listed-append : (unit : ℕ) (xs ys : List (ℕ × RrrRecord)) → listed_in unit (xs ++ ys) ≡ listed_in unit xs ++ listed_in unit ys
listed-append unit xs ys =
    ap (map_list (λ (e : ℕ × RrrRecord). e.1)) (filter-append (λ (e : ℕ × RrrRecord). nat_eq e.1.unit unit) xs ys)
    ∙ map-append (λ (e : ℕ × RrrRecord). e.1) (filter (λ (e : ℕ × RrrRecord). nat_eq e.1.unit unit) xs) (filter (λ (e : ℕ × RrrRecord). nat_eq e.1.unit unit) ys)

-- a unit without entries has an empty list
pub none_listed : (unit : ℕ) (es : List (ℕ × RrrRecord)) → list_any (λ e. nat_eq e.1.unit unit) es ≡ false → listed_in unit es ≡ []
none_listed unit [] none = refl
none_listed unit (e ∷ es) none =
    let parts = or_parts (nat_eq e.1.unit unit) (list_any (λ (x : ℕ × RrrRecord). nat_eq x.1.unit unit) es) none in
    let others = filter (λ (x : ℕ × RrrRecord). nat_eq x.1.unit unit) es in
    ap (λ b. map_list (λ (x : ℕ × RrrRecord). x.1) (cond b (e ∷ others) others)) parts.0 ∙ none_listed unit es parts.1

-- ---- copies clash no more than the entries do

-- the relation of two entries of one unit
abbrev do_contents_clash : RrrRecord → RrrRecord → Bool
do_contents_clash e f = nat_eq e.party f.party && are_of_one_type (type_of e.class) (type_of f.class) || are_of_one_rank (rank_of e.class) (rank_of f.class)

clash_copied : (unit : ℕ) (e f : RrrRecord) → nat_eq e.unit f.unit ≡ true → do_clash e f ≡ false → do_clash (in_unit unit e) (in_unit unit f) ≡ false
clash_copied unit e f same none = ap (λ b. b && do_contents_clash e f) (nat_eq_equiv.refl unit) ∙ sym (ap (λ b. b && do_contents_clash e f) same) ∙ none

in_one_unit : (a b unit : ℕ) → nat_eq a unit ≡ true → nat_eq b unit ≡ true → nat_eq a b ≡ true
in_one_unit a b unit x y =
    let first : a ≡ unit = one_number a unit (tied_number a unit ∙ x) in
    let second : b ≡ unit = one_number b unit (tied_number b unit ∙ y) in
    ap (λ n. nat_eq n b) first ∙ ap (nat_eq unit) second ∙ nat_eq_equiv.refl unit

module _ (unit old : ℕ) where
  abbrev copies : (first : ℕ) → List (ℕ × RrrRecord) → List (ℕ × RrrRecord)
  copies first es = with_numbers_from first (map_list (in_unit unit) (listed_in old es))

  copy_apart : (e : RrrRecord) → nat_eq e.unit old ≡ true → (first : ℕ) (es : List (ℕ × RrrRecord)) → list_any (λ (f : ℕ × RrrRecord). do_clash e f.1) es ≡ false
      → list_any (λ (f : ℕ × RrrRecord). do_clash (in_unit unit e) f.1) (copies first es) ≡ false
  copy_apart e here first [] none = refl
  copy_apart e here first (f ∷ fs) none =
      let parts = or_parts (do_clash e f.1) (list_any (λ (x : ℕ × RrrRecord). do_clash e x.1) fs) none in
      let others = filter (λ (x : ℕ × RrrRecord). nat_eq x.1.unit old) fs in
      elim (nat_eq f.1.unit old) as (λ b. nat_eq f.1.unit old ≡ b
      → list_any (λ (x : ℕ × RrrRecord). do_clash (in_unit unit e) x.1) (with_numbers_from first (map_list (in_unit unit) (map_list (λ (x : ℕ × RrrRecord). x.1) (cond b (f ∷ others) others)))) ≡ false) [
        | true ↦ λ there.
            ap (λ b. b || list_any (λ (x : ℕ × RrrRecord). do_clash (in_unit unit e) x.1) (copies (first + 1) fs)) (clash_copied unit e f.1 (in_one_unit e.unit f.1.unit old here there) parts.0)
            ∙ copy_apart e here (first + 1) fs parts.1
        | false ↦ λ other. copy_apart e here first fs parts.1
      ] refl

  pub copies_apart : (first : ℕ) (es : List (ℕ × RrrRecord)) → some_pair do_clash es ≡ false → some_pair do_clash (copies first es) ≡ false
  copies_apart first [] none = refl
  copies_apart first (e ∷ es) none =
      let parts = or_parts (list_any (λ (x : ℕ × RrrRecord). do_clash e.1 x.1) es) (some_pair do_clash es) none in
      let others = filter (λ (x : ℕ × RrrRecord). nat_eq x.1.unit old) es in
      elim (nat_eq e.1.unit old) as (λ b. nat_eq e.1.unit old ≡ b
      → some_pair do_clash (with_numbers_from first (map_list (in_unit unit) (map_list (λ (x : ℕ × RrrRecord). x.1) (cond b (e ∷ others) others)))) ≡ false) [
        | true ↦ λ here. ap (λ b. b || some_pair do_clash (copies (first + 1) es)) (copy_apart e.1 here (first + 1) es parts.0) ∙ copies_apart (first + 1) es parts.1
        | false ↦ λ other. copies_apart first es parts.1
      ] refl

-- an entry of another unit clashes with no copy
pub other_apart : (unit : ℕ) (e : RrrRecord) → nat_eq e.unit unit ≡ false → (first : ℕ) (es : List RrrRecord) → list_any (λ (f : ℕ × RrrRecord). do_clash e f.1) (with_numbers_from first (map_list (in_unit unit) es)) ≡ false
other_apart unit e apart first [] = refl
other_apart unit e apart first (f ∷ fs) =
    ap (λ b. b && do_contents_clash e (in_unit unit f) || list_any (λ (x : ℕ × RrrRecord). do_clash e x.1) (with_numbers_from (first + 1) (map_list (in_unit unit) fs))) apart
    ∙ other_apart unit e apart (first + 1) fs

-- a concatenation has no clashing pair if neither list has one, and no pair across them clashes
pub no_pair-append : {V : Type 0} (test : V → V → Bool) (xs ys : List (ℕ × V)) → some_pair test xs ≡ false → some_pair test ys ≡ false → AllByRecursion (λ x. list_any (λ y. test x.1 y.1) ys ≡ false) xs
    → some_pair test (xs ++ ys) ≡ false
no_pair-append test [] ys left right across = right
no_pair-append {V} test (x ∷ xs) ys left right across =
    let parts = or_parts (list_any (λ (y : ℕ × V). test x.1 y.1) xs) (some_pair test xs) left in
    ap (λ b. b || some_pair test (xs ++ ys)) (list_any-append (λ (y : ℕ × V). test x.1 y.1) xs ys ∙ ap (λ b. b || list_any (λ (y : ℕ × V). test x.1 y.1) ys) parts.0 ∙ across.0)
    ∙ no_pair-append test xs ys parts.1 right across.1

-- no copy satisfies a condition that none satisfies under any of their numbers
pub none_made : {S : RrrRecord → Type 0} (unit : ℕ) (p : ℕ → RrrRecord → Bool) (first last : ℕ) → ((n : ℕ) (e : RrrRecord) → S e → first ≤ n → n < last → p n (in_unit unit e) ≡ false)
    → (es : List RrrRecord) → AllByRecursion S es → first + length es ≤ last → list_any (λ (e : ℕ × RrrRecord). p e.0 e.1) (with_numbers_from first (map_list (in_unit unit) es)) ≡ false
none_made unit p first last h [] all room = refl
none_made unit p first last h (e ∷ es) all room =
    ap (λ b. b || list_any (λ (x : ℕ × RrrRecord). p x.0 x.1) (with_numbers_from (first + 1) (map_list (in_unit unit) es))) (h first e all.0 (omega arith) (omega (arith, room)))
    ∙ none_made unit p (first + 1) last (λ n x is low high. h n x is (omega (arith, low)) high) es all.1 (omega (arith, room))

-- an entry of a register exists
pub record Stood (r : Register) (e : RrrRecord) : Type 0 where
  pub number : ℕ
  pub there : map.get r.rrrs number ≡ Some e

-- the entries of a unit exist
pub all_stood : (r : Register) (unit : ℕ) → AllByRecursion (Stood r) (list_entries_of r unit)
all_stood r unit = listed (map.entries r.rrrs) (each_there nat_cmp_total nat_cmp-IsAntisymmetric r.rrrs)
  where
    listed : (es : List (ℕ × RrrRecord)) → AllByRecursion (λ e. map.get r.rrrs e.0 ≡ Some e.1) es → AllByRecursion (Stood r) (listed_in unit es)
    listed [] h = tt
    listed (e ∷ es) h =
        let rest = listed es h.1 in
        let others = filter (λ (x : ℕ × RrrRecord). nat_eq x.1.unit unit) es in
        elim (nat_eq e.1.unit unit) as (λ b. AllByRecursion (Stood r) (map_list (λ (x : ℕ × RrrRecord). x.1) (cond b (e ∷ others) others))) [
          | true ↦ (record { number = e.0; there = h.0 }, rest)
          | false ↦ rest
        ]
