-- Lemmas about successful decoding and about moments.
use Rattle.std.proofs.Common.{◌≡◌, ◌&&◌, ◌≤ℤ◌, ℤ, pos, Bool, true, false, int_le, if◌then◌else◌, Ok, Err, Result, refl, arith}
use Rattle.std.proofs.lemmas.Int.{ints}
use Rattle.land_core.specs.Numbers.{IsMoment, last_moment}
use Rattle.land_tables_history.specs.Open.{never}
use Rattle.land_tables_rows.specs.Reading.Cells.{end_in, moment_in}
use Rattle.land_wire_json.specs.Bodies.WireFaults.{◌>>=◌}
use Rattle.land_wire_json.specs.declared.bodies.wire_fault.WireFault.{WireFault}
use Rattle.land_wire_json.specs.declared.bodies.wire_fault.WireFault.TheVariants as fault
use Rattle.sqlite_value.specs.declared.value.Value.TheVariants.{Int}

-- if the two sides have the same value, so have their continuations
pub bound : {A B : Type 0} (m : Result A WireFault) (next : A → Result B WireFault) (b : B) → (m >>= next) ≡ Ok b → (a : A) × (m ≡ Ok a) × (next a ≡ Ok b)
bound (Ok a) next b h = (a, refl, h)
bound (Err e) next b h = absurd (let k = h in cc)

pub same_ok : {A : Type 0} {a b : A} → ◌≡◌ {A = Result A WireFault} (Ok a) (Ok b) → a ≡ b
same_ok h = let k = h in cc

-- a check that succeeds
pub test_passes : {A : Type 0} {E : Type 0} (b : Bool) (a : A) (e : E) → b ≡ true → ◌≡◌ {A = Result A E} (if b then Ok a else Err e) (Ok a)
test_passes true a e h = refl
test_passes false a e h = absurd (let k = h in cc)

in_bounds : (most z : ℤ) → pos 0 ≤ℤ z → z ≤ℤ most → (int_le (pos 0) z && int_le z most) ≡ true
in_bounds most z low high = grind (arith, ints)

-- a moment decodes to itself
pub moment_reads : (z : ℤ) → IsMoment z → moment_in (Int z) ≡ Ok z
unfolding moment_in
moment_reads z is = test_passes (int_le (pos 0) z && int_le z last_moment) z fault.Number (in_bounds last_moment z is.0 is.1)

-- and so does a moment as the end of a lifespan
pub until_says : (z : ℤ) → IsMoment z → end_in (Int z) ≡ Ok z
unfolding end_in
until_says z is = test_passes (int_le (pos 0) z && int_le z never) z fault.Number (in_bounds never z is.0 (grind (arith, ints)))

-- the open end decodes to itself
pub end_reads : end_in (Int never) ≡ Ok never
unfolding end_in
end_reads = refl

-- a decoded moment is the integer in the cell
same_most : (z s : ℤ) (b : Bool) → ◌≡◌ {A = Result ℤ WireFault} (if b then Ok z else Err fault.Number) (Ok s) → z ≡ s
same_most z s true h = let k = h in cc
same_most z s false h = absurd (let k = h in cc)

pub same_moment : (z s : ℤ) → moment_in (Int z) ≡ Ok s → z ≡ s
unfolding moment_in
same_moment z s h = same_most z s (int_le (pos 0) z && int_le z last_moment) h

pub same_end : (z s : ℤ) → end_in (Int z) ≡ Ok s → z ≡ s
unfolding end_in
same_end z s h = same_most z s (int_le (pos 0) z && int_le z never) h

-- the continuation of two successful decoding steps
pub two : {A B X Y : Type 0} (a : Result A WireFault) (b : Result B WireFault) (f : A → B → X) (next : X → Result Y WireFault)
    → (a >>= λ x. b >>= λ y. next (f x y)) ≡ ((a >>= λ x. b >>= λ y. Ok (f x y)) >>= next)
two (Err e) b f next = refl
two (Ok x) (Err e) f next = refl
two (Ok x) (Ok y) f next = refl

-- the continuation of three successful decoding steps
pub three : {A B C X Y : Type 0} (a : Result A WireFault) (b : Result B WireFault) (c : Result C WireFault) (f : A → B → C → X) (next : X → Result Y WireFault)
    → (a >>= λ x. b >>= λ y. c >>= λ z. next (f x y z)) ≡ ((a >>= λ x. b >>= λ y. c >>= λ z. Ok (f x y z)) >>= next)
three (Err e) b c f next = refl
three (Ok x) (Err e) c f next = refl
three (Ok x) (Ok y) (Err e) f next = refl
three (Ok x) (Ok y) (Ok z) f next = refl
