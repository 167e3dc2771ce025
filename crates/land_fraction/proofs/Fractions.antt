-- Lemmas on fractions: least denominators, and the unique result for a pair.
use Rattle.std.proofs.Common.{◌≡◌, ℕ, zero, suc, ◌*◌, ◌/◌, ◌<◌, ◌≤◌, refl, sym, ap, subst, arith, ◌∙◌, Bool, true, false, nat_eq, nat_lt, ◌||◌, ◌⊎◌, inl, inr, Option, Some, None, unwrap_or, if◌then◌else◌, Result, Ok, Err}
use Rattle.std.specs.Int.{◌∣◌}
use Rattle.std.proofs.Math.Nat.{dvd-mul_left, dvd-mul_right, pos_of_dvd_of_pos, div-mul_cancel, dvd_of_mul-dvd-mul_right, eq_of_mul-eq-mul_left, eq_of_mul-eq-mul_right, mul-pos, mul-le-mul_right, le_of_mul-le-mul_right}
use Rattle.std.proofs.lemmas.Nat.Gcd.{le_of_dvd}
use Rattle.std.proofs.lemmas.Bool.{cases_lt, cases_eq}
use Rattle.std.proofs.lemmas.Bool.Decides.{nat_tests}
use Rattle.land_fraction.specs.Divisor.{IsGreatestDivisor}
use Rattle.land_fraction.specs.Ratio.{Ratio, over, MeanSame, IsLeastDenominator, IsProper, IsFraction, max_denominator}
use Rattle.land_fraction.specs.Answer.{IsFractionOrFault, is_multiple, lowest_denominator, in_lowest_terms, fraction_of}
use Rattle.land_fraction.specs.Least.{least_to}
use Rattle.land_fraction.specs.declared.fault.FractionFault.{FractionFault}
use Rattle.land_fraction.specs.declared.fault.FractionFault.TheVariants.{Zero, AboveOne, TooFine}
use Rattle.land_fraction.proofs.Divisors.{multiple, dvd_of_multiple}
use Rattle.land_fraction.proofs.LeastLemmas.{IsLeast, least-none, least-some}

-- the first factor of a product above 0 is above 0
pub pos_first : (x y n : ℕ) → x * y ≡ n → 0 < n → 0 < x
pos_first zero y n e h = omega arith
pos_first (suc x) y n e h = omega arith

pub same_through : (p q r : Ratio) → 0 < q.denominator → MeanSame p q → MeanSame q r → MeanSame p r
same_through p q r h e f =
    let first : p.numerator * q.denominator * r.denominator ≡ q.numerator * p.denominator * r.denominator = ap (λ (t : ℕ). t * r.denominator) e in
    let second : q.numerator * r.denominator * p.denominator ≡ r.numerator * q.denominator * p.denominator = ap (λ (t : ℕ). t * p.denominator) f in
    eq_of_mul-eq-mul_left q.denominator h (p.numerator * r.denominator) (r.numerator * p.denominator) (omega arith)

-- pairs that mean the same have one least denominator
pub least_of_same : (p q : Ratio) (d : ℕ) → 0 < p.denominator → 0 < q.denominator → MeanSame p q → IsLeastDenominator p d → IsLeastDenominator q d
least_of_same p q d above also e h =
    record {
      positive = h.positive;
      reached = (h.reached.0, same_through q p (over h.reached.0 d) above (sym e) h.reached.1);
      least = λ r pos f. h.least r pos (same_through p q r also e f);
    }

pub one_least : (p : Ratio) (c d : ℕ) → IsLeastDenominator p c → IsLeastDenominator p d → c ≡ d
one_least p c d h k =
    let upto : c ≤ d = h.least (over k.reached.0 d) k.positive k.reached.1 in
    let least : d ≤ c = k.least (over h.reached.0 c) h.positive h.reached.1 in
    omega arith

pub denominator_pos : (p : Ratio) → IsProper p → 0 < p.denominator
denominator_pos p h = omega (arith, h.above_zero, h.at_most_one)

-- fractions that mean the same are one
pub one_fraction : (f g : Ratio) → IsFraction f → IsFraction g → MeanSame f g → f ≡ g
one_fraction f g h k e =
    let upto : f.denominator ≤ g.denominator = h.lowest.least g k.lowest.positive e in
    let least : g.denominator ≤ f.denominator = k.lowest.least f h.lowest.positive (sym e) in
    let same : f.denominator ≡ g.denominator = omega arith in
    let turned : f.numerator * g.denominator ≡ g.numerator * g.denominator = e ∙ ap (λ (t : ℕ). g.numerator * t) same in
    let numerators : f.numerator ≡ g.numerator = eq_of_mul-eq-mul_right g.denominator k.lowest.positive f.numerator g.numerator turned in
    let whole : over f.numerator f.denominator ≡ over g.numerator g.denominator = cc in
    whole

-- the pair with the least denominator is a fraction, if it is not too fine
pub lowest_fraction : (p : Ratio) (n d : ℕ) → IsProper p → IsLeastDenominator p d → MeanSame p (over n d) → d ≤ max_denominator → IsFraction (over n d)
lowest_fraction p n d h least e fits =
    let above : 0 < p.denominator = denominator_pos p h in
    let pos_d : 0 < d = least.positive in
    let pos_n : 0 < p.numerator = h.above_zero in
    let room : p.numerator ≤ p.denominator = h.at_most_one in
    let same : p.numerator * d ≡ n * p.denominator = e in
    record {
      proper = record {
        above_zero = pos_first n p.denominator (p.numerator * d) (sym e) (mul-pos pos_n pos_d);
        at_most_one = le_of_mul-le-mul_right (bounded p.numerator p.denominator n d room same) above;
      };
      lowest = least_of_same p (over n d) d above pos_d e least;
      not_too_fine = fits;
    }
  where
    bounded : (a b n d : ℕ) → a ≤ b → a * d ≡ n * b → n * b ≤ d * b
    bounded a b n d h e = let f : a * d ≤ b * d = mul-le-mul_right d h in omega arith

-- The least denominator by a greatest divisor
pub least_by_divisor : (n d g : ℕ) → 0 < d → IsGreatestDivisor n d g → IsLeastDenominator (over n d) (d / g) × MeanSame (over n d) (over (n / g) (d / g))
least_by_divisor n d g above h =
    let en : n / g * g ≡ n = div-mul_cancel g h.first in
    let ed : d / g * g ≡ d = div-mul_cancel g h.second in
    let pos_g : 0 < g = pos_of_dvd_of_pos h.second above in
    let same : MeanSame (over n d) (over (n / g) (d / g)) =
    ap (λ (t : ℕ). t * (d / g)) (sym en) ∙ parts (n / g) g (d / g) ∙ ap (λ (t : ℕ). n / g * t) ed in (
      record {
        positive = pos_first (d / g) g d ed above;
        reached = (n / g, same);
        least = λ q pos e.
            let first : d ∣ n * q.denominator = subst (λ (t : ℕ). d ∣ t) (sym e) (dvd-mul_left d q.numerator) in
            let both : d ∣ g * q.denominator = h.greatest d q.denominator first (dvd-mul_right d q.denominator) in
            let turned : d / g * g ∣ q.denominator * g = subst (λ (t : ℕ). t ∣ q.denominator * g) (sym ed) (subst (λ (t : ℕ). d ∣ t) (swap g q.denominator) both) in
            le_of_dvd pos (dvd_of_mul-dvd-mul_right (d / g) pos_g turned);
      },
      same,
    )
  where
    parts : (x g y : ℕ) → x * g * y ≡ x * (y * g)
    parts x g y = omega arith

    swap : (x y : ℕ) → x * y ≡ y * x
    swap x y = omega arith

-- ---- the result as a function

true_false : {b : Bool} → b ≡ true → b ≡ false → ⊥
true_false e f = cc

pub lowest_denominator-is : (p : Ratio) → 0 < p.denominator → IsLeastDenominator p (lowest_denominator p)
lowest_denominator-is p above = by_search (least_to p.denominator passes) refl
  where
    passes : ℕ → Bool
    passes d = is_multiple (p.numerator * d) p.denominator

    passing : (q : Ratio) → MeanSame p q → passes q.denominator ≡ true
    passing q e = multiple (p.numerator * q.denominator) p.denominator (subst (λ (t : ℕ). p.denominator ∣ t) (sym e) (dvd-mul_left p.denominator q.numerator))

    by_search : (o : Option ℕ) → least_to p.denominator passes ≡ o → IsLeastDenominator p (unwrap_or o p.denominator)
    by_search None e = absurd (true_false (passing p refl) (least-none p.denominator passes e p.denominator above (omega arith)))
    by_search (Some d) e =
        let found : IsLeast passes d = (least-some p.denominator passes d e).0 in
        record {
          positive = found.positive;
          reached = (p.numerator * d / p.denominator, sym (div-mul_cancel p.denominator (dvd_of_multiple (p.numerator * d) p.denominator found.passing)));
          least = λ q pos f. elim (cases_lt q.denominator d) [
            | inl before ↦ absurd (true_false (passing q f) (found.none_before q.denominator pos before))
            | inr upto ↦ upto
          ];
        }

pub in_lowest_terms-same : (p : Ratio) → 0 < p.denominator → MeanSame p (in_lowest_terms p)
in_lowest_terms-same p above =
    let least : IsLeastDenominator p (lowest_denominator p) = lowest_denominator-is p above in
    by_quotient (p.numerator * lowest_denominator p) p.denominator (subst (λ (t : ℕ). p.denominator ∣ t) (sym least.reached.1) (dvd-mul_left p.denominator least.reached.0))
  where
    by_quotient : (m d : ℕ) → d ∣ m → m ≡ m / d * d
    by_quotient m d h = sym (div-mul_cancel d h)

-- a pair that means the same and has the least denominator is the reduced one
in_lowest_terms-is : (p f : Ratio) → 0 < p.denominator → f.denominator ≡ lowest_denominator p → MeanSame p f → f ≡ in_lowest_terms p
in_lowest_terms-is p f above e same =
    let other : MeanSame p (in_lowest_terms p) = in_lowest_terms-same p above in
    let numerators : f.numerator ≡ (in_lowest_terms p).numerator = eq_of_mul-eq-mul_right p.denominator above f.numerator (in_lowest_terms p).numerator (sym same ∙ ap (λ (d : ℕ). p.numerator * d) e ∙ other) in
    same_fields f (in_lowest_terms p) numerators e
  where
    same_fields : (f g : Ratio) → f.numerator ≡ g.numerator → f.denominator ≡ g.denominator → f ≡ g
    same_fields f g e h = let whole : over f.numerator f.denominator ≡ over g.numerator g.denominator = cc in whole

abbrev answer_by : Ratio → Bool → Bool → Bool → Result Ratio FractionFault
answer_by p none large fine = if none then Err Zero else if large then Err AboveOne else if fine then Err TooFine else Ok (in_lowest_terms p)

-- the function by the results of its three tests
by_tests : (p : Ratio) (none large fine : Bool) → (nat_eq p.numerator 0 || nat_eq p.denominator 0) ≡ none → nat_lt p.denominator p.numerator ≡ large → nat_lt max_denominator (lowest_denominator p) ≡ fine → answer_by p none large fine ≡ fraction_of p
unfolding fraction_of
by_tests p none large fine e f g = rw (← e, ← f, ← g) refl

not_below : (m n : ℕ) → n ≤ m → nat_lt m n ≡ false
not_below m n h = grind (arith, nat_tests)

below : (m n : ℕ) → m < n → nat_lt m n ≡ true
below m n h = grind (arith, nat_tests)

some_none : (m n : ℕ) → (m ≡ 0) ⊎ (n ≡ 0) → (nat_eq m 0 || nat_eq n 0) ≡ true
some_none m n h = grind (arith, nat_tests)

none_none : (m n : ℕ) → 0 < m → 0 < n → (nat_eq m 0 || nat_eq n 0) ≡ false
none_none m n h k = grind (arith, nat_tests)

-- the correct result is the function's
pub the_answer : (p : Ratio) (r : Result Ratio FractionFault) → IsFractionOrFault p r → r ≡ fraction_of p
the_answer p (Err Zero) h = by_tests p true (nat_lt p.denominator p.numerator) (nat_lt max_denominator (lowest_denominator p)) (some_none p.numerator p.denominator h) refl refl
the_answer p (Err AboveOne) h = by_tests p false true (nat_lt max_denominator (lowest_denominator p)) (none_none p.numerator p.denominator h.0 h.1) (below p.denominator p.numerator h.2) refl
the_answer p (Err TooFine) h =
    let above : 0 < p.denominator = denominator_pos p h.0 in
    let least : h.1.0 ≡ lowest_denominator p = one_least p h.1.0 (lowest_denominator p) h.1.1 (lowest_denominator-is p above) in
    by_tests p false false true (none_none p.numerator p.denominator h.0.above_zero above) (not_below p.denominator p.numerator h.0.at_most_one)
    (below max_denominator (lowest_denominator p) (subst (λ (d : ℕ). max_denominator < d) least h.1.2))
the_answer p (Ok f) h =
    let above : 0 < p.denominator = denominator_pos p h.0 in
    let lowest : IsLeastDenominator p f.denominator = least_of_same f p f.denominator h.1.lowest.positive above (sym h.2) h.1.lowest in
    let least : f.denominator ≡ lowest_denominator p = one_least p f.denominator (lowest_denominator p) lowest (lowest_denominator-is p above) in
    ap (λ (q : Ratio). Ok q) (in_lowest_terms-is p f above least h.2)
    ∙ by_tests p false false false (none_none p.numerator p.denominator h.0.above_zero above) (not_below p.denominator p.numerator h.0.at_most_one)
    (not_below max_denominator (lowest_denominator p) (subst (λ (d : ℕ). d ≤ max_denominator) least h.1.not_too_fine))

proper_answer : (p : Ratio) → IsProper p → (r : Result Ratio FractionFault) × IsFractionOrFault p r
proper_answer p h =
    let above : 0 < p.denominator = denominator_pos p h in
    let least : IsLeastDenominator p (lowest_denominator p) = lowest_denominator-is p above in
    elim (cases_lt max_denominator (lowest_denominator p)) [
      | inl fine ↦ (Err TooFine, (h, (lowest_denominator p, least, fine)))
      | inr fits ↦ (Ok (in_lowest_terms p), (h, lowest_fraction p _ _ h least (in_lowest_terms-same p above) fits, in_lowest_terms-same p above))
    ]

-- each pair has a correct result
pub some_answer : (p : Ratio) → (r : Result Ratio FractionFault) × IsFractionOrFault p r
some_answer p =
    elim (cases_eq p.numerator 0) [
      | inl zero_above ↦ (Err Zero, inl zero_above)
      | inr above ↦ elim (cases_eq p.denominator 0) [
        | inl zero_below ↦ (Err Zero, inr zero_below)
        | inr parts ↦ elim (cases_lt p.denominator p.numerator) [
          | inl large ↦ (Err AboveOne, (omega arith, omega arith, large))
          | inr upto ↦ proper_answer p (record { above_zero = omega arith; at_most_one = upto })
        ]
      ]
    ]

pub answered : (p : Ratio) → IsFractionOrFault p (fraction_of p)
answered p = let some = some_answer p in subst (λ (r : Result Ratio FractionFault). IsFractionOrFault p r) (the_answer p some.0 some.1) some.1
