-- Lemmas on the unique result for a list of shares.
use Rattle.std.proofs.Common.{◌≡◌, ℕ, ◌<◌, ◌≤◌, refl, subst, arith, Bool, true, false, ◌&&◌, nat_eq, List, Option, Some, None, is_some, is_none, if◌then◌else◌, ◌⊎◌, inl, inr, eq-eqb}
use Rattle.std.proofs.lemmas.Bool.{cases_lt, cases_eq, eqb-true, and_parts}
use Rattle.land_fraction.specs.Least.{least_to}
use Rattle.land_fraction.specs.Ratio.{Ratio, max_denominator}
use Rattle.land_fraction.specs.Wholeness.{IsCommonMultiple, IsTooFine, IsWhole, IsWholeness, IsCommon, parts_of, is_common_multiple, common_of, wholeness}
use Rattle.land_fraction.specs.declared.lists.Whole.{Whole}
use Rattle.land_fraction.specs.declared.lists.Whole.TheVariants.{Yes, No, TooFine}
use Rattle.land_fraction.proofs.LeastLemmas.{IsLeastTo, least_to-is, one_least_to, found}
use Rattle.land_fraction.proofs.Multiples.{common_multiple-passes, common_multiple_of-passing, all_parts}

abbrev divides_all : List Ratio → ℕ → Bool
divides_all shares m = is_common_multiple m shares

abbrev fills_all : List Ratio → ℕ → Bool
fills_all shares m = is_common_multiple m shares && nat_eq (parts_of m shares) m

true_false : {b : Bool} → b ≡ true → b ≡ false → ⊥
true_false e f = cc

true_or_false : (b : Bool) → (b ≡ true) ⊎ (b ≡ false)
true_or_false true = inl refl
true_or_false false = inr refl

common_multiple : (m : ℕ) (shares : List Ratio) → 0 < m → is_common_multiple m shares ≡ true → IsCommonMultiple m shares
common_multiple m shares above e = record { positive = above; of_all = common_multiple_of-passing m shares e }

-- ---- the least common multiple

common_least : (shares : List Ratio) (o : Option ℕ) → IsCommon shares o → IsLeastTo max_denominator (divides_all shares) o
common_least shares None h = λ m above upto.
    elim (true_or_false (is_common_multiple m shares)) [
      | inl passing ↦ let more : max_denominator < m = h m (common_multiple m shares above passing) in absurd (omega arith)
      | inr failed_reads ↦ failed_reads
    ]
common_least shares (Some m) h = (
  record {
    positive = h.1.positive;
    passing = common_multiple-passes m shares h.1.of_all;
    none_before = λ k above before. elim (true_or_false (is_common_multiple k shares)) [
      | inl passing ↦ let upto : m ≤ k = h.2 k (common_multiple k shares above passing) in absurd (omega arith)
      | inr failed_reads ↦ failed_reads
    ];
  },
  h.0,
)

least_common : (shares : List Ratio) (o : Option ℕ) → IsLeastTo max_denominator (divides_all shares) o → IsCommon shares o
least_common shares None h = λ m multiple.
    elim (cases_lt max_denominator m) [
      | inl more ↦ more
      | inr upto ↦ absurd (true_false (common_multiple-passes m shares multiple.of_all) (h m multiple.positive upto))
    ]
least_common shares (Some m) h = (
  h.1,
  common_multiple m shares h.0.positive h.0.passing,
  λ k multiple. elim (cases_lt k m) [
    | inl before ↦ absurd (true_false (common_multiple-passes k shares multiple.of_all) (h.0.none_before k multiple.positive before))
    | inr upto ↦ upto
  ],
)

pub the_common : (shares : List Ratio) (o : Option ℕ) → IsCommon shares o → o ≡ common_of shares
unfolding common_of
the_common shares o h = one_least_to max_denominator (divides_all shares) o (least_to max_denominator (divides_all shares)) (common_least shares o h) (least_to-is max_denominator (divides_all shares))

pub common_of-is : (shares : List Ratio) → IsCommon shares (common_of shares)
unfolding common_of
common_of-is shares = least_common shares (least_to max_denominator (divides_all shares)) (least_to-is max_denominator (divides_all shares))

-- ---- wholeness

abbrev answer_by : Bool → Bool → Whole
answer_by fine whole = if fine then TooFine else if whole then Yes else No

by_tests : (shares : List Ratio) (fine whole : Bool) → is_none (common_of shares) ≡ fine → is_some (least_to max_denominator (fills_all shares)) ≡ whole → answer_by fine whole ≡ wholeness shares
unfolding wholeness
by_tests shares fine whole e f = rw (← e, ← f) refl

fine_tested : (shares : List Ratio) (o : Option ℕ) → IsCommon shares o → IsTooFine shares → is_none o ≡ true
fine_tested shares None h fine = refl
fine_tested shares (Some m) h fine = let more : max_denominator < m = fine m h.1 in let upto : m ≤ max_denominator = h.0 in absurd (omega arith)

coarse_tested : (shares : List Ratio) (o : Option ℕ) → IsCommon shares o → ¬ IsTooFine shares → is_none o ≡ false
coarse_tested shares None h coarse = absurd (coarse h)
coarse_tested shares (Some m) h coarse = refl

whole_not_fine : (shares : List Ratio) → IsWhole shares → ¬ IsTooFine shares
whole_not_fine shares whole fine = let more : max_denominator < whole.0 = fine whole.0 whole.2 in let upto : whole.0 ≤ max_denominator = whole.1 in omega arith

pub filled : (m : ℕ) (shares : List Ratio) → IsCommonMultiple m shares → parts_of m shares ≡ m → fills_all shares m ≡ true
filled m shares h e =
    let first : is_common_multiple m shares ≡ true = common_multiple-passes m shares h.of_all in
    let second : nat_eq (parts_of m shares) m ≡ true = eq-eqb (parts_of m shares) m e in
    rw (first, second) refl

whole_of : (shares : List Ratio) (o : Option ℕ) → IsLeastTo max_denominator (fills_all shares) o → is_some o ≡ true → IsWhole shares
whole_of shares None h e = absurd (cc)
whole_of shares (Some m) h e =
    let both = and_parts (is_common_multiple m shares) (nat_eq (parts_of m shares) m) h.0.passing in
    (m, h.1, common_multiple m shares h.0.positive both.0, eqb-true (parts_of m shares) m both.1)

-- the correct result is the function's
pub the_wholeness : (shares : List Ratio) (w : Whole) → IsWholeness shares w → w ≡ wholeness shares
the_wholeness shares Yes h =
    by_tests shares false true (coarse_tested shares (common_of shares) (common_of-is shares) (whole_not_fine shares h))
    (found max_denominator (fills_all shares) h.0 h.2.positive h.1 (filled h.0 shares h.2 h.3))
the_wholeness shares No h =
    by_tests shares false false (coarse_tested shares (common_of shares) (common_of-is shares) h.1)
    (elim (true_or_false (is_some (least_to max_denominator (fills_all shares)))) [
      | inl some ↦ absurd (h.0 (whole_of shares (least_to max_denominator (fills_all shares)) (least_to-is max_denominator (fills_all shares)) some))
      | inr none ↦ none
    ])
the_wholeness shares TooFine h =
    by_tests shares true (is_some (least_to max_denominator (fills_all shares))) (fine_tested shares (common_of shares) (common_of-is shares) h) refl

-- shares with a common multiple in range are whole if and only if they have all its parts
pub whole_at : (m : ℕ) (shares : List Ratio) → m ≤ max_denominator → IsCommonMultiple m shares → parts_of m shares ≡ m → IsWholeness shares Yes
whole_at m shares fits multiple e = (m, fits, multiple, e)

pub not_whole_at : (m : ℕ) (shares : List Ratio) → m ≤ max_denominator → IsCommonMultiple m shares → ¬ (parts_of m shares ≡ m) → IsWholeness shares No
not_whole_at m shares fits multiple apart =
    (λ whole. apart (all_parts whole.0 m shares whole.2 multiple whole.3), λ fine. let more : max_denominator < m = fine m multiple in omega arith)

some_wholeness : (shares : List Ratio) (o : Option ℕ) → IsCommon shares o → (w : Whole) × IsWholeness shares w
some_wholeness shares None h = (TooFine, h)
some_wholeness shares (Some m) h =
    elim (cases_eq (parts_of m shares) m) [
      | inl all ↦ (Yes, whole_at m shares h.0 h.1 all)
      | inr apart ↦ (No, not_whole_at m shares h.0 h.1 apart)
    ]

pub wholeness-is : (shares : List Ratio) → IsWholeness shares (wholeness shares)
wholeness-is shares =
    let some = some_wholeness shares (common_of shares) (common_of-is shares) in
    subst (λ (w : Whole). IsWholeness shares w) (the_wholeness shares some.0 some.1) some.1
