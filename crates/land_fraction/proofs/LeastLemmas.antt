-- Lemmas on the least number that passes a test.
use Rattle.std.proofs.Common.{◌≡◌, ℕ, zero, suc, ◌<◌, ◌≤◌, Bool, true, false, Option, Some, None, is_some, if◌then◌else◌, ◌⊎◌, inl, inr, refl, ap, subst, arith}
use Rattle.std.proofs.lemmas.Bool.{cases_lt}
use Rattle.land_fraction.specs.Least.{least_to}

-- m is the least number above 0 that passes
pub record IsLeast (passes : ℕ → Bool) (m : ℕ) : Type 0 where
  pub positive : 0 < m
  pub passing : passes m ≡ true
  pub none_before : (k : ℕ) → 0 < k → k < m → passes k ≡ false

abbrev chosen : Option ℕ → Bool → ℕ → Option ℕ
chosen o b m = if is_some o then o else if b then Some m else None

chosen_none : (o : Option ℕ) (b : Bool) (m : ℕ) → chosen o b m ≡ None → (o ≡ None) × (b ≡ false)
chosen_none None false m e = (refl, refl)
chosen_none None true m e = absurd (cc)
chosen_none (Some x) b m e = absurd (cc)

chosen_some : (o : Option ℕ) (b : Bool) (m k : ℕ) → chosen o b m ≡ Some k → (o ≡ Some k) ⊎ ((o ≡ None) × (b ≡ true) × (m ≡ k))
chosen_some None false m k e = absurd (cc)
chosen_some None true m k e = inr (refl, refl, cc)
chosen_some (Some x) b m k e = inl e

none_at : (passes : ℕ → Bool) (n m : ℕ) → ((k : ℕ) → 0 < k → k ≤ n → passes k ≡ false) → passes (suc n) ≡ false → 0 < m → m ≤ suc n → passes m ≡ false
none_at passes n m before here above upto =
    elim (cases_lt m (suc n)) [
      | inl below ↦ before m above (omega arith)
      | inr not_below ↦ let e : suc n ≡ m = omega arith in subst (λ (k : ℕ). passes k ≡ false) e here
    ]

pub least-none : (n : ℕ) (passes : ℕ → Bool) → least_to n passes ≡ None → (m : ℕ) → 0 < m → m ≤ n → passes m ≡ false
unfolding least_to
least-none zero passes e m above upto = absurd (omega arith)
least-none (suc n) passes e m above upto =
    let c = chosen_none (least_to n passes) (passes (suc n)) (suc n) e in
    none_at passes n m (least-none n passes c.0) c.1 above upto

pub least-some : (n : ℕ) (passes : ℕ → Bool) (m : ℕ) → least_to n passes ≡ Some m → IsLeast passes m × (m ≤ n)
unfolding least_to
least-some zero passes m e = absurd (cc)
least-some (suc n) passes m e =
    elim (chosen_some (least_to n passes) (passes (suc n)) (suc n) m e) [
      | inl before ↦ let r = least-some n passes m before in (r.0, omega (arith, r.1))
      | inr here ↦ (
        record {
          positive = omega (arith, here.2);
          passing = subst (λ (k : ℕ). passes k ≡ true) here.2 here.1;
          none_before = λ k above below. least-none n passes here.0 k above (omega (arith, here.2));
        },
        omega (arith, here.2),
      )
    ]

-- the correct results of a search up to a bound
abbrev pub IsLeastTo : ℕ → (ℕ → Bool) → Option ℕ → Type 0
IsLeastTo n passes (Some m) = IsLeast passes m × (m ≤ n)
IsLeastTo n passes None = (m : ℕ) → 0 < m → m ≤ n → passes m ≡ false

pub least_to-is : (n : ℕ) (passes : ℕ → Bool) → IsLeastTo n passes (least_to n passes)
least_to-is n passes = by_answer (least_to n passes) refl
  where
    by_answer : (o : Option ℕ) → least_to n passes ≡ o → IsLeastTo n passes o
    by_answer None e = least-none n passes e
    by_answer (Some m) e = least-some n passes m e

both : {b : Bool} → b ≡ true → b ≡ false → ⊥
both e f = cc

-- the result is unique
pub one_least_to : (n : ℕ) (passes : ℕ → Bool) (o p : Option ℕ) → IsLeastTo n passes o → IsLeastTo n passes p → o ≡ p
one_least_to n passes None None h k = refl
one_least_to n passes None (Some m) h k = absurd (both k.0.passing (h m k.0.positive k.1))
one_least_to n passes (Some m) None h k = absurd (both h.0.passing (k m h.0.positive h.1))
one_least_to n passes (Some m) (Some l) h k =
    elim (cases_lt m l) [
      | inl before ↦ absurd (both h.0.passing (k.0.none_before m h.0.positive before))
      | inr upto ↦ elim (cases_lt l m) [
        | inl after ↦ absurd (both k.0.passing (h.0.none_before l k.0.positive after))
        | inr least ↦ let e : m ≡ l = omega arith in ap (λ (t : ℕ). Some t) e
      ]
    ]

pub found : (n : ℕ) (passes : ℕ → Bool) (m : ℕ) → 0 < m → m ≤ n → passes m ≡ true → is_some (least_to n passes) ≡ true
found n passes m above upto e = by_answer (least_to n passes) (least_to-is n passes)
  where
    by_answer : (o : Option ℕ) → IsLeastTo n passes o → is_some o ≡ true
    by_answer None none = absurd (both e (none m above upto))
    by_answer (Some k) least = refl
