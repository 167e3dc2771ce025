-- Greatest divisors, and multiples of quotients.
use Rattle.std.proofs.Common.{◌≡◌, ℕ, ◌+◌, ◌*◌, ◌/◌, ◌%◌, refl, sym, ap, subst, arith, true}
use Rattle.std.specs.Int.{◌∣◌}
use Rattle.std.proofs.Math.Nat.{dvd-add_iff_right, dvd-mul_left_of_dvd, mod-eq-zero_of_dvd, dvd_of_mod-eq-zero}
use Rattle.std.proofs.lemmas.Nat.{div-add-mod'}
use Rattle.std.proofs.lemmas.Nat.Gcd.{dvd_refl, dvd-zero}
use Rattle.land_fraction.specs.Divisor.{IsGreatestDivisor}
use Rattle.land_fraction.specs.Answer.{is_multiple}

pub greatest_of_zero : (a b : ℕ) → b ≡ 0 → IsGreatestDivisor a b a
greatest_of_zero a b e =
    record {
      first = dvd_refl a;
      second = subst (λ (n : ℕ). a ∣ n) (sym e) (dvd-zero a);
      greatest = λ d k p q. p;
    }

-- a number that divides b divides a % b if and only if it divides a, also if both are multiplied by k
rest_times : (a b k : ℕ) → a / b * (b * k) + a % b * k ≡ a * k
rest_times a b k = let e : a / b * b + a % b ≡ a = div-add-mod' a b in let f : (a / b * b + a % b) * k ≡ a * k = ap (λ (t : ℕ). t * k) e in omega arith

pub greatest_of_rest : (a b g : ℕ) → IsGreatestDivisor b (a % b) g → IsGreatestDivisor a b g
greatest_of_rest a b g h =
    let e : a / b * b + a % b ≡ a = div-add-mod' a b in
    record {
      first = subst (λ (t : ℕ). g ∣ t) e ((dvd-add_iff_right g (dvd-mul_left_of_dvd g h.first (a / b))).0 h.second);
      second = h.first;
      greatest = λ d k p q. h.greatest d k q ((dvd-add_iff_right d (dvd-mul_left_of_dvd d q (a / b))).1 (subst (λ (t : ℕ). d ∣ t) (sym (rest_times a b k)) p));
    }

pub multiple : (m d : ℕ) → d ∣ m → is_multiple m d ≡ true
multiple m d h = rw (mod-eq-zero_of_dvd d h) refl

pub dvd_of_multiple : (m d : ℕ) → is_multiple m d ≡ true → d ∣ m
dvd_of_multiple m d h = dvd_of_mod-eq-zero d (grind (arith))
