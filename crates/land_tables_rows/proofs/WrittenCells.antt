-- Which cells decode, and the values of written cells.
use Rattle.std.proofs.Common.{◌≡◌, ◌<◌, ◌^◌, nat_eq, ◌==◌, ℕ, ℤ, pos, negsuc, Bool, true, false, List, ◌∷◌, if◌then◌else◌, Ok, Err, Result, refl, sym, ap, ap₂, ◌∙◌, arith}
use Rattle.std.proofs.lemmas.Bool.Decides.{Decides-eqb, nat_tests}
use Rattle.std.proofs.lemmas.Str.{is_utf8-from_IsUtf8}
use Rattle.std.specs.Str.{IsUtf8, is_utf8}
use Rattle.land_core.specs.Numbers.{is_number, last_moment}
use Rattle.land_fraction.proofs.Fractions.{the_answer}
use Rattle.land_fraction.specs.Ratio.{IsFraction, Ratio}
use Rattle.land_tables_history.specs.Open.{never}
use Rattle.land_tables_rows.proofs.Bounds.{bound, same_ok, test_passes}
use Rattle.land_tables_rows.specs.Reading.Cells.{number_if, end_in, flag_in, flag_of, integer_in, is_next, moment_in, natural_in, natural_of, next_in, number_in, share_in, text_in, until_most}
use Rattle.land_tables_schema.specs.Rows.Versions.{flag, whole}
use Rattle.land_wire_json.specs.Bodies.Fields.{require_text}
use Rattle.land_wire_json.specs.Bodies.Shares.{share_or_fault}
use Rattle.land_wire_json.specs.Bodies.WireFaults.{◌>>=◌}
use Rattle.land_wire_json.specs.declared.bodies.wire_fault.WireFault.{WireFault}
use Rattle.land_wire_json.specs.declared.bodies.wire_fault.WireFault.TheVariants as fault
use Rattle.sqlite_value.specs.Order.{Row}
use Rattle.sqlite_value.specs.declared.value.Value.{Value}
use Rattle.sqlite_value.specs.declared.value.Value.TheVariants.{Null, Int, Real, Text, Blob}

-- rows with the same cells
pub cons : {a b : Value} {r s : Row} → a ≡ b → r ≡ s → a ∷ r ≡ b ∷ s
cons first others = ap₂ (λ a r. a ∷ r) first others

-- ---- which cells decode

pub integer_cell : (cell : Value) (z : ℤ) → integer_in cell ≡ Ok z → cell ≡ Int z
integer_cell Null z h = absurd (let k = h in cc)
integer_cell (Int y) z h = let k = h in cc
integer_cell (Real x) z h = absurd (let k = h in cc)
integer_cell (Text t) z h = absurd (let k = h in cc)
integer_cell (Blob b) z h = absurd (let k = h in cc)

natural_is : (z : ℤ) (n : ℕ) → natural_of z ≡ Ok n → z ≡ pos n
natural_is (pos m) n h = let k = h in cc
natural_is (negsuc m) n h = absurd (let k = h in cc)

pub natural_cell : (cell : Value) (n : ℕ) → natural_in cell ≡ Ok n → cell ≡ whole n
unfolding natural_in
natural_cell cell n h =
    let one = bound (integer_in cell) natural_of n h in
    integer_cell cell one.0 one.1 ∙ ap (λ z. Int z) (natural_is one.0 n one.2)

allowed_is : (is_allowed : ℕ → Bool) (m n : ℕ) (b : Bool) → ◌≡◌ {A = Result ℕ WireFault} (if b then Ok m else Err fault.Number) (Ok n) → m ≡ n
allowed_is is_allowed m n true h = let k = h in cc
allowed_is is_allowed m n false h = absurd (let k = h in cc)

pub number_cell : (cell : Value) (n : ℕ) → number_in cell ≡ Ok n → cell ≡ whole n
unfolding number_in
number_cell cell n h =
    let one = bound (natural_in cell) (number_if is_number) n h in
    natural_cell cell one.0 one.1 ∙ ap whole (allowed_is is_number one.0 n (is_number one.0) one.2)

-- the number that the next new object takes
pub next_cell : (cell : Value) (n : ℕ) → next_in cell ≡ Ok n → cell ≡ whole n
unfolding next_in
next_cell cell n h =
    let one = bound (natural_in cell) (number_if is_next) n h in
    natural_cell cell one.0 one.1 ∙ ap whole (allowed_is is_next one.0 n (is_next one.0) one.2)

pub next_reads : (n : ℕ) → is_next n ≡ true → next_in (whole n) ≡ Ok n
unfolding next_in natural_in
next_reads n is = test_passes (is_next n) n fault.Number is

most_is : (y z : ℤ) (b : Bool) → ◌≡◌ {A = Result ℤ WireFault} (if b then Ok y else Err fault.Number) (Ok z) → y ≡ z
most_is y z true h = let k = h in cc
most_is y z false h = absurd (let k = h in cc)

pub moment_cell : (cell : Value) (z : ℤ) → moment_in cell ≡ Ok z → cell ≡ Int z
unfolding moment_in
moment_cell cell z h =
    let one = bound (integer_in cell) (until_most last_moment) z h in
    integer_cell cell one.0 one.1 ∙ ap (λ y. Int y) (most_is one.0 z _ one.2)

pub end_cell : (cell : Value) (z : ℤ) → end_in cell ≡ Ok z → cell ≡ Int z
unfolding end_in
end_cell cell z h =
    let one = bound (integer_in cell) (until_most never) z h in
    integer_cell cell one.0 one.1 ∙ ap (λ y. Int y) (most_is one.0 z _ one.2)

text_is : (t s : List ℕ) (b : Bool) → ◌≡◌ {A = Result (List ℕ) WireFault} (if b then Ok t else Err fault.Text) (Ok s) → t ≡ s
text_is t s true h = let k = h in cc
text_is t s false h = absurd (let k = h in cc)

text_cell : (cell : Value) (t : List ℕ) → text_in cell ≡ Ok t → cell ≡ Text t
text_cell Null t h = absurd (let k = h in cc)
text_cell (Int y) t h = absurd (let k = h in cc)
text_cell (Real x) t h = absurd (let k = h in cc)
text_cell (Text s) t h = ap (λ u. Text u) (text_is s t (is_utf8 s) h)
text_cell (Blob b) t h = absurd (let k = h in cc)

-- a string that decodes
pub word_cell : {B : Type 0} (cell : Value) (next : List ℕ → Result B WireFault) (b : B) → (text_in cell >>= next) ≡ Ok b → (t : List ℕ) × (Text t ≡ cell)
word_cell cell next b h = let one = bound (text_in cell) next b h in (one.0, sym (text_cell cell one.0 one.1))

-- a share, in lowest terms or not
pub share_cells : (num den : Value) (share : Ratio) → share_in num den ≡ Ok share → (p : ℕ × ℕ) × (whole p.0 ≡ num) × (whole p.1 ≡ den)
unfolding share_in
share_cells num den share h =
    let one = bound (natural_in num) _ share h in
    let other = bound (natural_in den) _ share one.2 in
    ((one.0, other.0), sym (natural_cell num one.0 one.1), sym (natural_cell den other.0 other.1))

flag_is : (n : ℕ) (b : Bool) (zero one : Bool) → (n == 0) ≡ zero → (n == 1) ≡ one → ◌≡◌ {A = Result Bool WireFault} (if zero then Ok false else (if one then Ok true else Err fault.Number)) (Ok b) → flag b ≡ whole n
flag_is n b true one z o h = ap flag (sym (same_ok h)) ∙ sym (ap whole ((Decides-eqb n 0).0 z))
flag_is n b false true z o h = ap flag (sym (same_ok h)) ∙ sym (ap whole ((Decides-eqb n 1).0 o))
flag_is n b false false z o h = absurd (let k = h in cc)

-- a flag
pub flag_cell : (cell : Value) (b : Bool) → flag_in cell ≡ Ok b → flag b ≡ cell
unfolding flag_in
flag_cell cell b h =
    let one = bound (natural_in cell) flag_of b h in
    flag_is one.0 b (one.0 == 0) (one.0 == 1) refl refl one.2 ∙ sym (natural_cell cell one.0 one.1)

-- ---- the values of written cells

-- a flag
pub flag_reads : (b : Bool) → flag_in (flag b) ≡ Ok b
unfolding flag_in natural_in
flag_reads true = refl
flag_reads false = refl

-- a fraction decodes to itself
pub share_reads : (share : Ratio) → IsFraction share → share_in (whole share.numerator) (whole share.denominator) ≡ Ok share
unfolding share_in natural_in
share_reads share is = ap share_or_fault (sym (the_answer share (Ok share) (is.proper, is, refl)))

-- a number
pub number_reads : (n : ℕ) → is_number n ≡ true → number_in (whole n) ≡ Ok n
unfolding number_in natural_in
number_reads n is = test_passes (is_number n) n fault.Number is

-- a string
pub text_reads : (t : List ℕ) → IsUtf8 t → text_in (Text t) ≡ Ok t
text_reads t utf8 = test_passes (is_utf8 t) t fault.Text (is_utf8-from_IsUtf8 t utf8)

-- a string within its limits
pub limited_reads : (is_allowed : List ℕ → Bool) (t : List ℕ) → IsUtf8 t → is_allowed t ≡ true → (text_in (Text t) >>= require_text is_allowed) ≡ Ok t
limited_reads is_allowed t utf8 is = rw (text_reads t utf8) (test_passes (is_allowed t) t fault.Text is)

-- ---- object numbers fit in a column

pub number_fits : (n : ℕ) → is_number n ≡ true → n < 2 ^ 63
number_fits n is = grind (arith, nat_tests)

-- ---- decoded numbers are those that were written

same_whole : (m n : ℕ) → whole m ≡ whole n → m ≡ n
same_whole m n h = let k = h in cc

pub same_number : (m n : ℕ) → number_in (whole m) ≡ Ok n → m ≡ n
same_number m n h = same_whole m n (number_cell (whole m) n h)

-- and tests of them have the same result
pub same_test : (m k n : ℕ) → m ≡ k → nat_eq k n ≡ (m == n)
same_test m k n is = sym (ap (λ l. nat_eq l n) is) ∙ grind (arith, nat_tests)

-- a decoded string is the one that was written
pub same_text : (t s : List ℕ) → text_in (Text t) ≡ Ok s → t ≡ s
same_text t s h = text_is t s (is_utf8 t) h
