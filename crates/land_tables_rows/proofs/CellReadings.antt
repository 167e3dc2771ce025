-- Which value each cell decodes to, and which cell each decoded value came from.
use Rattle.std.proofs.Common.{◌≡◌, ◌&&◌, ℕ, ℤ, pos, negsuc, Bool, true, false, int_le, ◌≤ℤ◌, List, Result, Ok, Err, if◌then◌else◌, refl, ap, ◌∙◌, arith}
use Rattle.std.specs.Bool.{⊤}
use Rattle.std.proofs.lemmas.Int.{ints}
use Rattle.std.specs.Str.{is_utf8}
use Rattle.std.proofs.lemmas.Bool.{and_parts}
use Rattle.land_core.specs.Contents.{is_amount}
use Rattle.land_core.specs.Numbers.{IsMoment, is_number, last_moment}
use Rattle.land_fraction.specs.Answer.{fraction_of}
use Rattle.land_fraction.specs.Laws.{SameFractionLaw}
use Rattle.land_fraction.specs.Ratio.{Ratio, IsFraction, over}
use Rattle.land_tables_history.proofs.MomentOrder.{le_true}
use Rattle.land_tables_rows.proofs.Stepping.{same_value, stepped}
use Rattle.land_tables_rows.specs.Cells.Texts.{is_storable}
use Rattle.land_tables_rows.specs.Reading.Cells.{number_if, amount_in, end_in, integer_in, moment_in, natural_in, natural_of, null_in, number_in, share_in, text_in, until_most}
use Rattle.land_tables_schema.specs.Rows.Versions.{never, whole}
use Rattle.land_wire_json.specs.Bodies.Fields.{require_text}
use Rattle.land_wire_json.specs.Bodies.Shares.{share_or_fault}
use Rattle.land_wire_json.specs.Bodies.WireFaults.{◌>>=◌}
use Rattle.land_wire_json.specs.declared.bodies.wire_fault.WireFault.{WireFault}
use Rattle.land_wire_json.specs.declared.bodies.wire_fault.WireFault.TheVariants as fault
use Rattle.sqlite_value.specs.declared.value.Value.{Value}
use Rattle.sqlite_value.specs.declared.value.Value.TheVariants.{Null, Int, Real, Text, Blob}

-- ---- from the written cell to the decoded value

pub natural_is_read : (n : ℕ) → natural_in (whole n) ≡ Ok n
unfolding natural_in
natural_is_read n = refl

pub number_is_read : (n : ℕ) → is_number n ≡ true → number_in (whole n) ≡ Ok n
unfolding number_in natural_in
number_is_read n e = rw e refl

pub amount_is_read : (n : ℕ) → is_amount n ≡ true → amount_in (whole n) ≡ Ok n
unfolding amount_in natural_in
amount_is_read n e = rw e refl

-- the last moment, and the open end
before_the_end : (z : ℤ) → z ≤ℤ last_moment → z ≤ℤ never
before_the_end z h = omega (arith, ints)

pub between_is_read : (z : ℤ) → int_le (pos 0) z ≡ true → int_le z last_moment ≡ true → moment_in (Int z) ≡ Ok z
unfolding moment_in
between_is_read z from to = rw (from, to) refl

pub moment_is_read : (z : ℤ) → IsMoment z → moment_in (Int z) ≡ Ok z
moment_is_read z h = between_is_read z (le_true (pos 0) z h.0) (le_true z last_moment h.1)

end_is_read : (z : ℤ) → int_le (pos 0) z ≡ true → int_le z never ≡ true → end_in (Int z) ≡ Ok z
unfolding end_in
end_is_read z from to = rw (from, to) refl

-- a moment is a valid end of a lifespan
pub ends : (z : ℤ) → IsMoment z → end_in (Int z) ≡ Ok z
ends z h = end_is_read z (le_true (pos 0) z h.0) (le_true z never (before_the_end z h.1))

pub never_is_read : end_in (Int never) ≡ Ok never
unfolding end_in
never_is_read = refl

pub text_is_read : (t : List ℕ) → is_utf8 t ≡ true → text_in (Text t) ≡ Ok t
text_is_read t e = rw e refl

pub kept_is_read : (is_allowed : List ℕ → Bool) (t : List ℕ) → is_storable is_allowed t ≡ true → (text_in (Text t) >>= require_text is_allowed) ≡ Ok t
kept_is_read is_allowed t e = let h = and_parts (is_utf8 t) (is_allowed t) e in rw (h.0, h.1) refl

pub share_is_read : SameFractionLaw → (f : Ratio) → IsFraction f → share_in (whole f.numerator) (whole f.denominator) ≡ Ok f
unfolding share_in natural_in
share_is_read same f h = ap share_or_fault (same f h)

-- ---- from the decoded value to the written cell

pub integer_is : (c : Value) (z : ℤ) → integer_in c ≡ Ok z → c ≡ Int z
integer_is Null z e = let none : ⊥ = cc in absurd none
integer_is (Int y) z e = cc
integer_is (Real x) z e = let none : ⊥ = cc in absurd none
integer_is (Text t) z e = let none : ⊥ = cc in absurd none
integer_is (Blob b) z e = let none : ⊥ = cc in absurd none

pub null_is : (c : Value) (x : ⊤) → null_in c ≡ Ok x → c ≡ Null
null_is Null x e = refl
null_is (Int y) x e = let none : ⊥ = cc in absurd none
null_is (Real y) x e = let none : ⊥ = cc in absurd none
null_is (Text t) x e = let none : ⊥ = cc in absurd none
null_is (Blob b) x e = let none : ⊥ = cc in absurd none

if_utf8 : (is_text : Bool) (t s : List ℕ) → ◌≡◌ {A = Result (List ℕ) WireFault} (if is_text then Ok t else Err fault.Text) (Ok s) → t ≡ s
if_utf8 true t s e = same_value t s e
if_utf8 false t s e = let none : ⊥ = cc in absurd none

pub text_is : (c : Value) (s : List ℕ) → text_in c ≡ Ok s → c ≡ Text s
text_is Null s e = let none : ⊥ = cc in absurd none
text_is (Int y) s e = let none : ⊥ = cc in absurd none
text_is (Real x) s e = let none : ⊥ = cc in absurd none
text_is (Text t) s e = ap Text (if_utf8 (is_utf8 t) t s e)
text_is (Blob b) s e = let none : ⊥ = cc in absurd none

pub kept_is : (is_allowed : List ℕ → Bool) (c : Value) (s : List ℕ) → (text_in c >>= require_text is_allowed) ≡ Ok s → c ≡ Text s
kept_is is_allowed c s e =
    let h = stepped (text_in c) (require_text is_allowed) s e in
    text_is c h.given h.is ∙ ap Text (if_utf8 (is_allowed h.given) h.given s h.rest)

natural_of_is : (z : ℤ) (n : ℕ) → natural_of z ≡ Ok n → z ≡ pos n
natural_of_is (pos m) n e = ap pos (same_value m n e)
natural_of_is (negsuc m) n e = let none : ⊥ = cc in absurd none

pub natural_is : (c : Value) (n : ℕ) → natural_in c ≡ Ok n → c ≡ whole n
unfolding natural_in
natural_is c n e =
    let h = stepped (integer_in c) natural_of n e in
    integer_is c h.given h.is ∙ ap Int (natural_of_is h.given n h.rest)

if_allowed : (is_allowed : Bool) (m n : ℕ) → ◌≡◌ {A = Result ℕ WireFault} (if is_allowed then Ok m else Err fault.Number) (Ok n) → m ≡ n
if_allowed true m n e = same_value m n e
if_allowed false m n e = let none : ⊥ = cc in absurd none

allowed_is : (is_allowed : ℕ → Bool) (c : Value) (n : ℕ) → (natural_in c >>= number_if is_allowed) ≡ Ok n → c ≡ whole n
allowed_is is_allowed c n e =
    let h = stepped (natural_in c) (number_if is_allowed) n e in
    natural_is c h.given h.is ∙ ap whole (if_allowed (is_allowed h.given) h.given n h.rest)

pub number_is : (c : Value) (n : ℕ) → number_in c ≡ Ok n → c ≡ whole n
unfolding number_in
number_is c n e = allowed_is is_number c n e

pub amount_is : (c : Value) (n : ℕ) → amount_in c ≡ Ok n → c ≡ whole n
unfolding amount_in
amount_is c n e = allowed_is is_amount c n e

if_within : (is_within : Bool) (y z : ℤ) → ◌≡◌ {A = Result ℤ WireFault} (if is_within then Ok y else Err fault.Number) (Ok z) → y ≡ z
if_within true y z e = same_value y z e
if_within false y z e = let none : ⊥ = cc in absurd none

until_is : (most : ℤ) (c : Value) (z : ℤ) → (integer_in c >>= until_most most) ≡ Ok z → c ≡ Int z
until_is most c z e =
    let h = stepped (integer_in c) (until_most most) z e in
    integer_is c h.given h.is ∙ ap Int (if_within (int_le (pos 0) h.given && int_le h.given most) h.given z h.rest)

pub moment_is : (c : Value) (z : ℤ) → moment_in c ≡ Ok z → c ≡ Int z
unfolding moment_in
moment_is c z e = until_is last_moment c z e

pub end_is : (c : Value) (z : ℤ) → end_in c ≡ Ok z → c ≡ Int z
unfolding end_in
end_is c z e = until_is never c z e

-- ---- a decoded number or end is the integer in its cell

same_whole : (m n : ℕ) → whole m ≡ whole n → m ≡ n
same_whole m n e = cc

same_int : (y z : ℤ) → Int y ≡ Int z → y ≡ z
same_int y z e = cc

pub same_number : (m n : ℕ) → number_in (whole m) ≡ Ok n → m ≡ n
same_number m n e = same_whole m n (number_is (whole m) n e)

pub same_end : (y z : ℤ) → end_in (Int y) ≡ Ok z → y ≡ z
same_end y z e = same_int y z (end_is (Int y) z e)

-- ---- shares

-- two cells that decode to a share
pub record AreShares (c d : Value) : Type 0 where
  pub numerator : ℕ
  pub denominator : ℕ
  pub top : c ≡ whole numerator
  pub bottom : d ≡ whole denominator

pub share_is : (c d : Value) (f : Ratio) → share_in c d ≡ Ok f → AreShares c d
unfolding share_in
share_is c d f e =
    let n = stepped (natural_in c) (λ n. natural_in d >>= λ m. share_or_fault (fraction_of (over n m))) f e in
    let m = stepped (natural_in d) (λ m. share_or_fault (fraction_of (over n.given m))) f n.rest in
    record { numerator = n.given; denominator = m.given; top = natural_is c n.given n.is; bottom = natural_is d m.given m.is }
