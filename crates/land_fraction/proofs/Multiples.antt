-- Common multiples of denominators, and the parts that shares have of them.
use Rattle.std.proofs.Common.{◌≡◌, ℕ, ◌+◌, ◌*◌, ◌/◌, ◌<◌, ◌≤◌, refl, sym, ap, subst, arith, ◌∙◌, true, List, [], ◌∷◌, length, take, All, get_or, ◌++◌, Some}
use Rattle.std.specs.Int.{◌∣◌}
use Rattle.std.proofs.Math.Nat.{dvd-mul_left, dvd-mul_right, pos_of_dvd_of_pos, div-mul_cancel, dvd_of_mul-dvd-mul_right, eq_of_mul-eq-mul_left, mul-div_assoc, mul-dvd-mul_left, mul-dvd-mul_right, mul-le-mul_right, mul-div-le, mul-pos, one-dvd}
use Rattle.std.proofs.lemmas.Nat.Gcd.{le_of_dvd, dvd_trans}
use Rattle.std.proofs.lemmas.List.Elements.{All-nil, All-cons, All-head, All-tail, All-take, All-weaker, All-push, All-pop}
use Rattle.std.proofs.lemmas.List.{take_more, take_all}
use Rattle.std.proofs.lemmas.List.Sums.{sum_by-cons}
use Rattle.std.proofs.lemmas.Bool.{and_parts}
use Rattle.land_fraction.specs.Divisor.{IsGreatestDivisor, IsLeastMultiple}
use Rattle.land_fraction.specs.Ratio.{Ratio, max_denominator, IsFraction}
use Rattle.land_fraction.specs.Answer.{is_multiple}
use Rattle.land_fraction.specs.Wholeness.{IsCommonMultiple, IsTooFine, IsCommon, parts_of, is_common_multiple}
use Rattle.land_fraction.proofs.Divisors.{multiple, dvd_of_multiple}

-- a/g * b is the least common multiple
pub least_multiple-is : (a b g : ℕ) → 0 < a → IsGreatestDivisor a b g → IsLeastMultiple a b (a / g * b)
least_multiple-is a b g above h =
    let ea : a / g * g ≡ a = div-mul_cancel g h.first in
    let eb : b / g * g ≡ b = div-mul_cancel g h.second in
    record {
      first = subst (λ (t : ℕ). a ∣ t) (turned a b g (a / g) (b / g) ea eb) (dvd-mul_right a (b / g));
      second = dvd-mul_left b (a / g);
      least = λ k p q. dvd_of_mul-dvd-mul_right (a / g * b) (pos_of_dvd_of_pos h.first above) (times a b g k (a / g) ea p q h);
    }
  where
    swap : (x y : ℕ) → x * y ≡ y * x
    swap x y = omega arith

    turned : (a b g x y : ℕ) → x * g ≡ a → y * g ≡ b → a * y ≡ x * b
    turned a b g x y e f =
        let left : x * g * y ≡ a * y = ap (λ (t : ℕ). t * y) e in
        let right : x * (y * g) ≡ x * b = ap (λ (t : ℕ). x * t) f in
        omega arith

    regroup : (a b g x : ℕ) → x * g ≡ a → a * b ≡ x * b * g
    regroup a b g x e = let f : x * g * b ≡ a * b = ap (λ (t : ℕ). t * b) e in omega arith

    times : (a b g k x : ℕ) → x * g ≡ a → a ∣ k → b ∣ k → IsGreatestDivisor a b g → x * b * g ∣ k * g
    times a b g k x e p q h =
        let both : a * b ∣ g * k = h.greatest (a * b) k (mul-dvd-mul_left b a q) (subst (λ (t : ℕ). a * b ∣ t) (swap k b) (mul-dvd-mul_right a p b)) in
        subst (λ (t : ℕ). t ∣ k * g) (regroup a b g x e) (subst (λ (t : ℕ). a * b ∣ t) (swap g k) both)

-- ---- parts

pub parts_of-cons : (m : ℕ) (s : Ratio) (shares : List Ratio) → parts_of m (s ∷ shares) ≡ s.numerator * (m / s.denominator) + parts_of m shares
parts_of-cons m s shares = sum_by-cons (λ (share : Ratio). share.numerator * (m / share.denominator)) s shares

-- k times as many parts of a whole that is k times as fine
pub parts_of-times : (k m : ℕ) (shares : List Ratio) → All (λ (share : Ratio). share.denominator ∣ m) shares → parts_of (k * m) shares ≡ k * parts_of m shares
parts_of-times k m [] all = omega arith
parts_of-times k m (s ∷ shares) all =
    let here : k * m / s.denominator ≡ k * (m / s.denominator) = mul-div_assoc s.denominator k (All-head (λ (share : Ratio). share.denominator ∣ m) s shares all) in
    let rest : parts_of (k * m) shares ≡ k * parts_of m shares = parts_of-times k m shares (All-tail (λ (share : Ratio). share.denominator ∣ m) s shares all) in
    parts_of-cons (k * m) s shares ∙ joined s.numerator (k * m / s.denominator) (m / s.denominator) k (parts_of (k * m) shares) (parts_of m shares) here rest ∙ ap (λ (t : ℕ). k * t) (sym (parts_of-cons m s shares))
  where
    joined : (n x y k p q : ℕ) → x ≡ k * y → p ≡ k * q → n * x + p ≡ k * (n * y + q)
    joined n x y k p q e f = let g : n * x ≡ n * (k * y) = ap (λ (t : ℕ). n * t) e in omega arith

-- shares that have all parts of one common multiple have all parts of each
pub all_parts : (m k : ℕ) (shares : List Ratio) → IsCommonMultiple m shares → IsCommonMultiple k shares → parts_of m shares ≡ m → parts_of k shares ≡ k
all_parts m k shares h g e =
    eq_of_mul-eq-mul_left m h.positive (parts_of k shares) k
    (sym (parts_of-times m k shares g.of_all) ∙ ap (λ (t : ℕ). parts_of t shares) (swap m k) ∙ parts_of-times k m shares h.of_all ∙ ap (λ (t : ℕ). k * t) e ∙ swap k m)
  where
    swap : (x y : ℕ) → x * y ≡ y * x
    swap x y = omega arith

-- ---- the test of a common multiple

pub common_multiple-passes : (m : ℕ) (shares : List Ratio) → All (λ (share : Ratio). share.denominator ∣ m) shares → is_common_multiple m shares ≡ true
common_multiple-passes m [] all = refl
common_multiple-passes m (s ∷ shares) all =
    let here : is_multiple m s.denominator ≡ true = multiple m s.denominator (All-head (λ (share : Ratio). share.denominator ∣ m) s shares all) in
    let rest : is_common_multiple m shares ≡ true = common_multiple-passes m shares (All-tail (λ (share : Ratio). share.denominator ∣ m) s shares all) in
    rw (here, rest) refl

pub common_multiple_of-passing : (m : ℕ) (shares : List Ratio) → is_common_multiple m shares ≡ true → All (λ (share : Ratio). share.denominator ∣ m) shares
common_multiple_of-passing m [] e = All-nil (λ (share : Ratio). share.denominator ∣ m)
common_multiple_of-passing m (s ∷ shares) e =
    let both = and_parts (is_multiple m s.denominator) (is_common_multiple m shares) e in
    All-cons (λ (share : Ratio). share.denominator ∣ m) s shares (dvd_of_multiple m s.denominator both.0) (common_multiple_of-passing m shares both.1)

-- ---- the loop over a list

abbrev pub AreDivisors : List Ratio → ℕ → Type 0
AreDivisors shares m = All (λ (share : Ratio). share.denominator ∣ m) shares

-- m is a common multiple, and divides each one
pub record IsLeastOf (m : ℕ) (shares : List Ratio) : Type 0 where
  pub common : IsCommonMultiple m shares
  pub least : (k : ℕ) → AreDivisors shares k → m ∣ k

pub least_of_none : IsLeastOf 1 []
least_of_none = record { common = record { positive = omega arith; of_all = All-nil (λ (share : Ratio). share.denominator ∣ 1) }; least = λ k all. one-dvd k }

pub least_of_more : (m n i : ℕ) (shares : List Ratio) (s : Ratio) → i < length shares → s ≡ get_or shares i s → 0 < s.denominator → IsLeastMultiple m s.denominator n
    → IsLeastOf m (take i shares) → IsLeastOf n (take (i + 1) shares)
least_of_more m n i shares s below is above step before =
    let last : take (i + 1) shares ≡ take i shares ++ s ∷ [] = take_more shares i s below ∙ ap (λ (t : Ratio). take i shares ++ t ∷ []) (sym is) in
    subst (λ (some : List Ratio). IsLeastOf n some) (sym last)
    (record {
      common = record {
        positive = pos_of_dvd_of_pos (step.least (m * s.denominator) (dvd-mul_right m s.denominator) (dvd-mul_left s.denominator m)) (mul-pos before.common.positive above);
        of_all = All-push (λ (share : Ratio). share.denominator ∣ n) (take i shares) s
            (All-weaker (λ (share : Ratio). share.denominator ∣ m) (λ (share : Ratio). share.denominator ∣ n) (λ share p. dvd_trans share.denominator p step.first) (take i shares) before.common.of_all) step.second;
      };
      least = λ k all.
          let both = All-pop (λ (share : Ratio). share.denominator ∣ k) (take i shares ++ s ∷ []) (take i shares) (Some s) refl all in
          step.least k (before.least k both.0) both.1;
    })

pub too_fine_from : (n i : ℕ) (shares : List Ratio) → IsLeastOf n (take i shares) → max_denominator < n → IsTooFine shares
too_fine_from n i shares least fine k h =
    let upto : n ≤ k = le_of_dvd h.positive (least.least k (All-take (λ (share : Ratio). share.denominator ∣ k) i shares h.of_all)) in
    omega arith

pub common_from : (m i : ℕ) (shares : List Ratio) → length shares ≤ i → IsLeastOf m (take i shares) → m ≤ max_denominator → IsCommon shares (Some m)
common_from m i shares all least fits =
    let whole : IsLeastOf m shares = subst (λ (some : List Ratio). IsLeastOf m some) (take_all i shares all) least in
    (fits, whole.common, λ k h. le_of_dvd h.positive (whole.least k h.of_all))

-- a share has no more parts than there are
pub share_parts : (m : ℕ) (s : Ratio) → IsFraction s → s.numerator * (m / s.denominator) ≤ m
share_parts m s h =
    let first : s.numerator * (m / s.denominator) ≤ s.denominator * (m / s.denominator) = mul-le-mul_right (m / s.denominator) h.proper.at_most_one in
    let second : s.denominator * (m / s.denominator) ≤ m = mul-div-le m s.denominator in
    omega arith
