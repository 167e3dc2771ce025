-- Shares that move, and lists in another order.
use Rattle.std.proofs.Common.{[], ◌≡◌, ◌≢◌, ℕ, ◌+◌, ◌-◌, ◌*◌, ◌/◌, ◌<◌, refl, sym, ap, subst, arith, ◌∙◌, List, ◌∷◌, Option, Some, None, Result, Ok}
use Rattle.std.specs.Int.{◌∣◌}
use Rattle.std.specs.List.Sorted.{IsPermutation}
use Rattle.std.proofs.Math.Nat.{dvd-mul_left, dvd-mul_right, dvd-mul_right_of_dvd, dvd-mul_left_of_dvd, div-mul_cancel, eq_of_mul-eq-mul_right, mul-pos}
use Rattle.std.proofs.lemmas.List.Elements.{All-cons, All-head, All-tail, All-weaker}
use Rattle.std.proofs.lemmas.List.Sorted.{sum_by-IsPermutation, IsPermutation-sym, All-permutation}
use Rattle.land_fraction.specs.Ratio.{Ratio, MeanSame, IsProper, sum_of, difference_of}
use Rattle.land_fraction.specs.Answer.{IsFractionOrFault, fraction_of}
use Rattle.land_fraction.specs.Wholeness.{IsCommonMultiple, IsTooFine, IsWhole, IsWholeness, IsCommon, parts_of, common_of, wholeness}
use Rattle.land_fraction.specs.declared.lists.Whole.{Whole}
use Rattle.land_fraction.specs.declared.lists.Whole.TheVariants.{Yes, No, TooFine}
use Rattle.land_fraction.specs.declared.fault.FractionFault.{FractionFault}
use Rattle.land_fraction.proofs.Fractions.{answered, denominator_pos, pos_first}
use Rattle.land_fraction.proofs.Multiples.{parts_of-cons, all_parts}
use Rattle.land_fraction.proofs.Wholes.{the_wholeness, wholeness-is, common_of-is}

-- ---- another order

permuted_multiple : (m : ℕ) (xs ys : List Ratio) → IsPermutation xs ys → IsCommonMultiple m xs → IsCommonMultiple m ys
permuted_multiple m xs ys h k = record { positive = k.positive; of_all = All-permutation (λ (share : Ratio). share.denominator ∣ m) xs ys h k.of_all }

permuted_whole : (xs ys : List Ratio) → IsPermutation xs ys → IsWhole xs → IsWhole ys
permuted_whole xs ys h whole =
    (whole.0, whole.1, permuted_multiple whole.0 xs ys h whole.2, sum_by-IsPermutation (λ (share : Ratio). share.numerator * (whole.0 / share.denominator)) xs ys h ∙ whole.3)

permuted_fine : (xs ys : List Ratio) → IsPermutation xs ys → IsTooFine xs → IsTooFine ys
permuted_fine xs ys h fine m multiple = fine m (permuted_multiple m ys xs (IsPermutation-sym xs ys h) multiple)

permuted_wholeness : (xs ys : List Ratio) (w : Whole) → IsPermutation xs ys → IsWholeness xs w → IsWholeness ys w
permuted_wholeness xs ys Yes h k = permuted_whole xs ys h k
permuted_wholeness xs ys No h k =
    (λ whole. k.0 (permuted_whole ys xs (IsPermutation-sym xs ys h) whole), λ fine. k.1 (permuted_fine ys xs (IsPermutation-sym xs ys h) fine))
permuted_wholeness xs ys TooFine h k = permuted_fine xs ys h k

pub wholeness-permuted : (xs ys : List Ratio) → IsPermutation xs ys → wholeness xs ≡ wholeness ys
wholeness-permuted xs ys h = the_wholeness ys (wholeness xs) (permuted_wholeness xs ys (wholeness xs) h (wholeness-is xs))

-- ---- sums

-- the meaning of a sum, in products only
summed : (a b c d n m x y z w : ℕ) → 0 < w → x * b ≡ w → y * d ≡ w → z * m ≡ w → (a * d + c * b) * m ≡ n * (b * d) → a * x + c * y ≡ n * z
summed a b c d n m x y z w above ex ey ez h =
    let multiplied : (a * d + c * b) * m * (x * y * z) ≡ n * (b * d) * (x * y * z) = ap (λ (t : ℕ). t * (x * y * z)) h in
    let sorted : a * x * ((y * d) * (z * m)) + c * y * ((x * b) * (z * m)) ≡ n * z * ((x * b) * (y * d)) = omega arith in
    let in_parts : a * x * (w * w) + c * y * (w * w) ≡ n * z * (w * w) = rw (ex, ey, ez) at sorted in
    eq_of_mul-eq-mul_right (w * w) (mul-pos above above) (a * x + c * y) (n * z) (omega arith)

-- a share that is the sum of two has the parts of both
parts_summed : (m : ℕ) (p q r : Ratio) → 0 < m → p.denominator ∣ m → q.denominator ∣ m → r.denominator ∣ m → MeanSame (sum_of p q) r
    → p.numerator * (m / p.denominator) + q.numerator * (m / q.denominator) ≡ r.numerator * (m / r.denominator)
parts_summed m p q r above hp hq hr e =
    summed p.numerator p.denominator q.numerator q.denominator r.numerator r.denominator (m / p.denominator) (m / q.denominator) (m / r.denominator) m above
    (div-mul_cancel p.denominator hp) (div-mul_cancel q.denominator hq) (div-mul_cancel r.denominator hr) e

-- the meaning of a difference: added to the subtrahend, it yields the minuend
added_back : (a b c d n m : ℕ) → 0 < a * d - c * b → (a * d - c * b) * m ≡ n * (b * d) → (n * d + c * m) * b ≡ a * (m * d)
added_back a b c d n m above h =
    let left : ℕ = a * d - c * b in
    let e : a * d ≡ left + c * b = omega arith in
    let times : a * d * m ≡ (left + c * b) * m = ap (λ (t : ℕ). t * m) e in
    let same : left * m ≡ n * (b * d) = h in
    omega arith

-- ---- results of a sum and of a difference

pub sum_answer : (p q r : Ratio) → fraction_of (sum_of p q) ≡ Ok r → IsFractionOrFault (sum_of p q) (Ok r)
sum_answer p q r e = subst (λ (a : Result Ratio FractionFault). IsFractionOrFault (sum_of p q) a) e (answered (sum_of p q))

pub difference_answer : (p q r : Ratio) → fraction_of (difference_of p q) ≡ Ok r → IsFractionOrFault (difference_of p q) (Ok r)
difference_answer p q r e = subst (λ (a : Result Ratio FractionFault). IsFractionOrFault (difference_of p q) a) e (answered (difference_of p q))

-- the difference and the subtrahend sum to the minuend
pub left_and_taken : (p q r : Ratio) → IsFractionOrFault (difference_of p q) (Ok r) → MeanSame (sum_of r q) p
left_and_taken p q r h = added_back p.numerator p.denominator q.numerator q.denominator r.numerator r.denominator h.0.above_zero h.2

taken_pos : (p q : Ratio) → IsProper (difference_of p q) → 0 < q.denominator
taken_pos p q h = pos_first q.denominator p.denominator (p.denominator * q.denominator) (omega arith) (denominator_pos (difference_of p q) h)

-- ---- moving a share preserves the sum

kept : (a b c d s t l m g n : ℕ) → 0 < t → (l * t + s * m) * b ≡ a * (m * t) → (c * t + s * d) * n ≡ g * (d * t) → (l * n + g * m) * (b * d) ≡ (a * d + c * b) * (m * n)
kept a b c d s t l m g n above e f =
    let first : (l * t + s * m) * b * (n * d) ≡ a * (m * t) * (n * d) = ap (λ (x : ℕ). x * (n * d)) e in
    let second : (c * t + s * d) * n * (m * b) ≡ g * (d * t) * (m * b) = ap (λ (x : ℕ). x * (m * b)) f in
    eq_of_mul-eq-mul_right t above ((l * n + g * m) * (b * d)) ((a * d + c * b) * (m * n)) (omega arith)

pub sum_kept : (a b s left grown : Ratio) → fraction_of (difference_of a s) ≡ Ok left → fraction_of (sum_of b s) ≡ Ok grown → MeanSame (sum_of left grown) (sum_of a b)
sum_kept a b s left grown e f =
    let lost = difference_answer a s left e in
    let won = sum_answer b s grown f in
    kept a.numerator a.denominator b.numerator b.denominator s.numerator s.denominator left.numerator left.denominator grown.numerator grown.denominator
    (taken_pos a s lost.0) (left_and_taken a s left lost) won.2

-- ---- lists with the same parts

-- the lists have equal numbers of parts, for some common multiple of both
pub record SameParts (xs ys : List Ratio) : Type 0 where
  pub parts : ℕ
  pub first : IsCommonMultiple parts xs
  pub second : IsCommonMultiple parts ys
  pub same : parts_of parts xs ≡ parts_of parts ys

pub wholeness-kept : (xs ys : List Ratio) → SameParts xs ys → wholeness xs ≡ Yes → wholeness ys ≢ TooFine → wholeness ys ≡ Yes
wholeness-kept xs ys h was coarse = by_common (common_of ys) (common_of-is ys)
  where
    whole : IsWhole xs
    whole = subst (λ (w : Whole). IsWholeness xs w) was (wholeness-is xs)

    full : parts_of h.parts ys ≡ h.parts
    full = sym h.same ∙ all_parts whole.0 h.parts xs whole.2 h.first whole.3

    by_common : (o : Option ℕ) → IsCommon ys o → wholeness ys ≡ Yes
    by_common None fine = absurd (coarse (sym (the_wholeness ys TooFine fine)))
    by_common (Some m) common = sym (the_wholeness ys Yes (m, common.0, common.1, all_parts h.parts m ys h.second common.1 full))

whole_multiple : (xs : List Ratio) → wholeness xs ≡ Yes → (m : ℕ) × IsCommonMultiple m xs
whole_multiple xs was = let whole = subst (λ (w : Whole). IsWholeness xs w) was (wholeness-is xs) in (whole.0, whole.2)

-- a multiple of a common multiple
finer : (m k : ℕ) (xs : List Ratio) → 0 < k → IsCommonMultiple m xs → IsCommonMultiple (m * k) xs
finer m k xs above h =
    record {
      positive = mul-pos h.positive above;
      of_all = All-weaker (λ (share : Ratio). share.denominator ∣ m) (λ (share : Ratio). share.denominator ∣ m * k) (λ share p. dvd-mul_right_of_dvd share.denominator p k) xs h.of_all;
    }

with_share : (m : ℕ) (s : Ratio) (xs : List Ratio) → s.denominator ∣ m → IsCommonMultiple m xs → IsCommonMultiple m (s ∷ xs)
with_share m s xs p h = record { positive = h.positive; of_all = All-cons (λ (share : Ratio). share.denominator ∣ m) s xs p h.of_all }

rest_of : (m : ℕ) (s : Ratio) (xs : List Ratio) → IsCommonMultiple m (s ∷ xs) → IsCommonMultiple m xs
rest_of m s xs h = record { positive = h.positive; of_all = All-tail (λ (share : Ratio). share.denominator ∣ m) s xs h.of_all }

head_of : (m : ℕ) (s : Ratio) (xs : List Ratio) → IsCommonMultiple m (s ∷ xs) → s.denominator ∣ m
head_of m s xs h = All-head (λ (share : Ratio). share.denominator ∣ m) s xs h.of_all

-- ---- splitting, joining and moving shares

-- the parts of one share more
more_parts : (m : ℕ) (s : Ratio) (xs : List Ratio) (n : ℕ) → parts_of m xs ≡ n → parts_of m (s ∷ xs) ≡ s.numerator * (m / s.denominator) + n
more_parts m s xs n e = parts_of-cons m s xs ∙ ap (λ (t : ℕ). s.numerator * (m / s.denominator) + t) e

-- r is p and q together
joined_parts : (m : ℕ) (p q r : Ratio) (rest : List Ratio) → IsCommonMultiple m (p ∷ q ∷ rest) → r.denominator ∣ m → MeanSame (sum_of p q) r → parts_of m (p ∷ q ∷ rest) ≡ parts_of m (r ∷ rest)
joined_parts m p q r rest h hr e =
    let sum = parts_summed m p q r h.positive (head_of m p (q ∷ rest) h) (head_of m q rest (rest_of m p (q ∷ rest) h)) hr e in
    let left : parts_of m (p ∷ q ∷ rest) ≡ p.numerator * (m / p.denominator) + (q.numerator * (m / q.denominator) + parts_of m rest) = more_parts m p (q ∷ rest) _ (more_parts m q rest _ refl) in
    let right : parts_of m (r ∷ rest) ≡ r.numerator * (m / r.denominator) + parts_of m rest = more_parts m r rest _ refl in
    omega arith

one_part : (m : ℕ) (s : Ratio) → parts_of m (s ∷ []) ≡ s.numerator * (m / s.denominator) + 0
one_part m s = more_parts m s [] 0 refl

two_parts : (m : ℕ) (s t : Ratio) → parts_of m (s ∷ t ∷ []) ≡ s.numerator * (m / s.denominator) + (t.numerator * (m / t.denominator) + 0)
two_parts m s t = more_parts m s (t ∷ []) _ (one_part m t)

pub parts-sum : (m : ℕ) (a b sum : Ratio) → fraction_of (sum_of a b) ≡ Ok sum → 0 < m → a.denominator ∣ m → b.denominator ∣ m → sum.denominator ∣ m
    → parts_of m (a ∷ b ∷ []) ≡ parts_of m (sum ∷ [])
parts-sum m a b sum e above ha hb hs =
    let added = parts_summed m a b sum above ha hb hs (sum_answer a b sum e).2 in
    let left : parts_of m (a ∷ b ∷ []) ≡ a.numerator * (m / a.denominator) + (b.numerator * (m / b.denominator) + 0) = two_parts m a b in
    let right : parts_of m (sum ∷ []) ≡ sum.numerator * (m / sum.denominator) + 0 = one_part m sum in
    omega arith

pub parts-difference : (m : ℕ) (a share left : Ratio) → fraction_of (difference_of a share) ≡ Ok left → 0 < m → a.denominator ∣ m → share.denominator ∣ m → left.denominator ∣ m
    → parts_of m (left ∷ share ∷ []) ≡ parts_of m (a ∷ [])
parts-difference m a share left e above ha hs hl =
    let added = parts_summed m left share a above hl hs ha (left_and_taken a share left (difference_answer a share left e)) in
    let before : parts_of m (left ∷ share ∷ []) ≡ left.numerator * (m / left.denominator) + (share.numerator * (m / share.denominator) + 0) = two_parts m left share in
    let after : parts_of m (a ∷ []) ≡ a.numerator * (m / a.denominator) + 0 = one_part m a in
    omega arith

pub wholeness-joined : (p q r : Ratio) (rest : List Ratio) → fraction_of (sum_of p q) ≡ Ok r → wholeness (p ∷ q ∷ rest) ≡ Yes → wholeness (r ∷ rest) ≢ TooFine → wholeness (r ∷ rest) ≡ Yes
wholeness-joined p q r rest e was coarse =
    let answer = sum_answer p q r e in
    let whole = whole_multiple (p ∷ q ∷ rest) was in
    let m : ℕ = whole.0 * r.denominator in
    let first : IsCommonMultiple m (p ∷ q ∷ rest) = finer whole.0 r.denominator (p ∷ q ∷ rest) answer.1.lowest.positive whole.1 in
    let divides : r.denominator ∣ m = dvd-mul_left r.denominator whole.0 in
    let second : IsCommonMultiple m (r ∷ rest) = with_share m r rest divides (rest_of m q rest (rest_of m p (q ∷ rest) first)) in
    wholeness-kept (p ∷ q ∷ rest) (r ∷ rest) (record { parts = m; first = first; second = second; same = joined_parts m p q r rest first divides answer.2 }) was coarse

pub wholeness-split : (p s left : Ratio) (rest : List Ratio) → fraction_of (difference_of p s) ≡ Ok left → wholeness (p ∷ rest) ≡ Yes → wholeness (left ∷ s ∷ rest) ≢ TooFine → wholeness (left ∷ s ∷ rest) ≡ Yes
wholeness-split p s left rest e was coarse =
    let answer = difference_answer p s left e in
    let whole = whole_multiple (p ∷ rest) was in
    let extra : ℕ = left.denominator * s.denominator in
    let m : ℕ = whole.0 * extra in
    let first : IsCommonMultiple m (p ∷ rest) = finer whole.0 extra (p ∷ rest) (mul-pos answer.1.lowest.positive (taken_pos p s answer.0)) whole.1 in
    let divides : left.denominator ∣ m = dvd-mul_left_of_dvd left.denominator (dvd-mul_right left.denominator s.denominator) whole.0 in
    let also : s.denominator ∣ m = dvd-mul_left_of_dvd s.denominator (dvd-mul_left s.denominator left.denominator) whole.0 in
    let second : IsCommonMultiple m (left ∷ s ∷ rest) = with_share m left (s ∷ rest) divides (with_share m s rest also (rest_of m p rest first)) in
    let same : parts_of m (left ∷ s ∷ rest) ≡ parts_of m (p ∷ rest) = joined_parts m left s p rest second (head_of m p rest first) (left_and_taken p s left answer) in
    wholeness-kept (p ∷ rest) (left ∷ s ∷ rest) (record { parts = m; first = first; second = second; same = sym same }) was coarse

pub wholeness-moved : (a b s left grown : Ratio) (rest : List Ratio) → fraction_of (difference_of a s) ≡ Ok left → fraction_of (sum_of b s) ≡ Ok grown
    → wholeness (a ∷ b ∷ rest) ≡ Yes → wholeness (left ∷ grown ∷ rest) ≢ TooFine → wholeness (left ∷ grown ∷ rest) ≡ Yes
wholeness-moved a b s left grown rest e f was coarse =
    let lost = difference_answer a s left e in
    let won = sum_answer b s grown f in
    let whole = whole_multiple (a ∷ b ∷ rest) was in
    let extra : ℕ = left.denominator * (grown.denominator * s.denominator) in
    let m : ℕ = whole.0 * extra in
    let above : 0 < extra = mul-pos lost.1.lowest.positive (mul-pos won.1.lowest.positive (taken_pos a s lost.0)) in
    let first : IsCommonMultiple m (a ∷ b ∷ rest) = finer whole.0 extra (a ∷ b ∷ rest) above whole.1 in
    let of_left : left.denominator ∣ m = dvd-mul_left_of_dvd left.denominator (dvd-mul_right left.denominator (grown.denominator * s.denominator)) whole.0 in
    let of_grown : grown.denominator ∣ m = dvd-mul_left_of_dvd grown.denominator (dvd-mul_left_of_dvd grown.denominator (dvd-mul_right grown.denominator s.denominator) left.denominator) whole.0 in
    let of_taken : s.denominator ∣ m = dvd-mul_left_of_dvd s.denominator (dvd-mul_left_of_dvd s.denominator (dvd-mul_left s.denominator grown.denominator) left.denominator) whole.0 in
    let after_a : IsCommonMultiple m (b ∷ rest) = rest_of m a (b ∷ rest) first in
    let after_b : IsCommonMultiple m rest = rest_of m b rest after_a in
    let second : IsCommonMultiple m (left ∷ grown ∷ rest) = with_share m left (grown ∷ rest) of_left (with_share m grown rest of_grown after_b) in
    let lost_parts = parts_summed m left s a first.positive of_left of_taken (head_of m a (b ∷ rest) first) (left_and_taken a s left lost) in
    let won_parts = parts_summed m b s grown first.positive (head_of m b rest after_a) of_taken of_grown won.2 in
    let before : parts_of m (a ∷ b ∷ rest) ≡ a.numerator * (m / a.denominator) + (b.numerator * (m / b.denominator) + parts_of m rest) = more_parts m a (b ∷ rest) _ (more_parts m b rest _ refl) in
    let after : parts_of m (left ∷ grown ∷ rest) ≡ left.numerator * (m / left.denominator) + (grown.numerator * (m / grown.denominator) + parts_of m rest) = more_parts m left (grown ∷ rest) _ (more_parts m grown rest _ refl) in
    let same : parts_of m (a ∷ b ∷ rest) ≡ parts_of m (left ∷ grown ∷ rest) = omega arith in
    wholeness-kept (a ∷ b ∷ rest) (left ∷ grown ∷ rest) (record { parts = m; first = first; second = second; same = same }) was coarse
