-- Equal JSON has equal words, shares, outlines and lists.
use Rattle.std.proofs.Common.{◌≡◌, ◌<◌, ◌^◌, ◌+◌, ◌*◌, ◌==◌, ℕ, ℤ, pos, negsuc, zero, suc, List, [], ◌∷◌, ◌++◌, Bool, true, false, map, length, decimal, refl, sym, ap, ◌∙◌, arith, append_assoc}
use Rattle.std.proofs.lemmas.Bool.Decides.{nat_tests}
use Rattle.std.proofs.lemmas.Fmt.{decimal_is_IsNumeral, decimal_injective}
use Rattle.std.proofs.lemmas.Str.Parse.{digit_from_value}
use Rattle.std.specs.Char.{digit_value}
use Rattle.std.specs.List.{AllByRecursion}
use Rattle.std.specs.Str.Parse.{AllDigits}
use Rattle.land_fraction.specs.Ratio.{Ratio, IsFraction}
use Rattle.land_fraction.specs.Text.{fraction_text}
use Rattle.land_shape.specs.Faults.{Denotes}
use Rattle.land_shape.specs.Laws.{PrintedLaw}
use Rattle.land_shape.specs.Outline.{IsOutline}
use Rattle.land_shape.specs.Place.{Place}
use Rattle.land_shape.specs.Printed.{polygon_text}
use Rattle.land_wire_json.specs.Texts.Limits.{FitsU64, FitsU64Moment}
use Rattle.land_wire_json.specs.Texts.Values.{number_data}
use Rattle.serde_json.specs.Data.{Data, Num, unsigned, negative, float, null, boolean, number, string, array, object, Items, no_items, item, Members, no_members, member}
use Rattle.serde_json.specs.Find.{of_integer}
use Rattle.serde_json.specs.View.{items_of}

-- ---- parts of data

abbrev pub fields_in : Data → Members
fields_in null = no_members
fields_in (boolean b) = no_members
fields_in (number n) = no_members
fields_in (string s) = no_members
fields_in (array ds) = no_members
fields_in (object ms) = ms

abbrev pub nth : ℕ → Members → Data
nth n no_members = null
nth zero (member k d ms) = d
nth (suc n) (member k d ms) = nth n ms

abbrev pub nth_length : ℕ → Members → ℕ
nth_length n no_members = 0
nth_length zero (member k d ms) = length k
nth_length (suc n) (member k d ms) = nth_length n ms

-- the value of an object's member, by its position
abbrev pub at : ℕ → Data → Data
at n d = nth n (fields_in d)

-- the lengths of the first three keys
abbrev pub lengths : Data → ℕ
lengths d = nth_length 0 (fields_in d) * 100 + (nth_length 1 (fields_in d) * 10 + nth_length 2 (fields_in d))

abbrev whole_in : Num → ℕ
whole_in (unsigned n) = n
whole_in (negative z) = 0
whole_in (float x) = 0

abbrev pub number_in : Data → ℕ
number_in null = 0
number_in (boolean b) = 0
number_in (number n) = whole_in n
number_in (string s) = 0
number_in (array ds) = 0
number_in (object ms) = 0

abbrev pub text_in : Data → List ℕ
text_in null = []
text_in (boolean b) = []
text_in (number n) = []
text_in (string s) = s
text_in (array ds) = []
text_in (object ms) = []

abbrev pub truth_in : Data → Bool
truth_in null = false
truth_in (boolean b) = b
truth_in (number n) = false
truth_in (string s) = false
truth_in (array ds) = false
truth_in (object ms) = false

abbrev pub items_in : Data → Items
items_in null = no_items
items_in (boolean b) = no_items
items_in (number n) = no_items
items_in (string s) = no_items
items_in (array ds) = ds
items_in (object ms) = no_items

abbrev has_item : Items → Bool
has_item no_items = false
has_item (item d ds) = true

abbrev first_item : Items → Data
first_item no_items = null
first_item (item d ds) = d

abbrev later_items : Items → Items
later_items no_items = no_items
later_items (item d ds) = ds

-- ---- lists

pub differ : (a b : Bool) → a ≡ b → a ≡ false → b ≡ true → ⊥
differ a b e f g = cc

pub apart : (m n : ℕ) → m ≡ n → (m == n) ≡ false → ⊥
apart m n e f = differ (m == n) (n == n) (ap (λ (k : ℕ). k == n) e) f (same n)
  where
    same : (k : ℕ) → (k == k) ≡ true
    same k = grind (arith, nat_tests)

pub same_list : {X : Type 0} (data_of : X → Data) (P : X → Type 0) → ((x y : X) → P x → P y → data_of x ≡ data_of y → x ≡ y)
    → (xs ys : List X) → AllByRecursion P xs → AllByRecursion P ys → items_of (map data_of xs) ≡ items_of (map data_of ys) → xs ≡ ys
same_list data_of P one [] [] h k e = refl
same_list data_of P one [] (y ∷ ys) h k e = absurd (differ false true (ap has_item e) refl refl)
same_list data_of P one (x ∷ xs) [] h k e = absurd (differ false true (sym (ap has_item e)) refl refl)
same_list data_of P one (x ∷ xs) (y ∷ ys) h k e =
    let here = one x y h.0 k.0 (ap first_item e) in
    rw here (ap (λ (t : List _). y ∷ t) (same_list data_of P one xs ys h.1 k.1 (ap later_items e)))

pub same_numbers : (ms ns : List ℕ) → AllByRecursion FitsU64 ms → AllByRecursion FitsU64 ns → items_of (map number_data ms) ≡ items_of (map number_data ns) → ms ≡ ns
same_numbers = same_list number_data FitsU64 (λ m n h k e. ap number_in e)

-- ---- words: their lengths differ

pub same_word : {X : Type 0} (word : X → List ℕ) (back : ℕ → X) → ((x : X) → back (length (word x)) ≡ x) → (x y : X) → word x ≡ word y → x ≡ y
same_word word back told x y e = sym (told x) ∙ ap (λ (w : List ℕ). back (length w)) e ∙ told y

-- ---- moments

pub same_moment : (y z : ℤ) → FitsU64Moment y → FitsU64Moment z → number (of_integer y) ≡ number (of_integer z) → y ≡ z
same_moment (pos m) (pos n) h k e = ap pos (ap number_in e)
same_moment (pos m) (negsuc n) h k e = absurd k
same_moment (negsuc m) z h k e = absurd h

-- ---- shares

no_slash : (c : ℕ) → digit_value c < 10 → (c == 47) ≡ false
no_slash c h = let k = digit_from_value c h in grind (arith, nat_tests)

abbrev pub head_byte : List ℕ → ℕ
head_byte [] = 0
head_byte (c ∷ cs) = c

abbrev later_of : List ℕ → List ℕ
later_of [] = []
later_of (c ∷ cs) = cs

parted : (xs ys us vs : List ℕ) → AllDigits 10 xs → AllDigits 10 ys → xs ++ 47 ∷ us ≡ ys ++ 47 ∷ vs → (xs ≡ ys) × (us ≡ vs)
parted [] [] us vs h k e = (refl, ap later_of e)
parted [] (y ∷ ys) us vs h k e = absurd (apart y 47 (sym (ap head_byte e)) (no_slash y k.0))
parted (x ∷ xs) [] us vs h k e = absurd (apart x 47 (ap head_byte e) (no_slash x h.0))
parted (x ∷ xs) (y ∷ ys) us vs h k e =
    let rest = parted xs ys us vs h.1 k.1 (ap later_of e) in
    (rw (ap head_byte e, rest.0) refl, rest.1)

abbrev ratio_of : ℕ → ℕ → Ratio
ratio_of n d = record { numerator = n; denominator = d }

same_ratio : (n m d e : ℕ) → n ≡ m → d ≡ e → ratio_of n d ≡ ratio_of m e
same_ratio n m d e p q = rw (p, q) refl

pub same_share : (f g : Ratio) → IsFraction f → IsFraction g → fraction_text f ≡ fraction_text g → f ≡ g
same_share f g h k e =
    let fn : f.numerator < 2 ^ 64 = omega (arith, h.proper.at_most_one, h.not_too_fine) in
    let fd : f.denominator < 2 ^ 64 = omega (arith, h.not_too_fine) in
    let gn : g.numerator < 2 ^ 64 = omega (arith, k.proper.at_most_one, k.not_too_fine) in
    let gd : g.denominator < 2 ^ 64 = omega (arith, k.not_too_fine) in
    let left : fraction_text f ≡ decimal f.numerator ++ 47 ∷ decimal f.denominator = append_assoc (decimal f.numerator) (47 ∷ []) (decimal f.denominator) in
    let right : fraction_text g ≡ decimal g.numerator ++ 47 ∷ decimal g.denominator = append_assoc (decimal g.numerator) (47 ∷ []) (decimal g.denominator) in
    let parts =
    parted (decimal f.numerator) (decimal g.numerator) (decimal f.denominator) (decimal g.denominator)
    (decimal_is_IsNumeral f.numerator fn).0.1 (decimal_is_IsNumeral g.numerator gn).0.1 (sym left ∙ e ∙ right) in
    same_ratio f.numerator g.numerator f.denominator g.denominator
    (decimal_injective f.numerator g.numerator fn gn parts.0) (decimal_injective f.denominator g.denominator fd gd parts.1)

-- ---- outlines

stands_too : (s t : List ℕ) (ring : List Place) → s ≡ t → Denotes s ring → Denotes t ring
stands_too s t ring e h = rw (sym e) h

pub same_outline : PrintedLaw → (ring other : List Place) → IsOutline ring → IsOutline other → polygon_text ring ≡ polygon_text other → ring ≡ other
same_outline printing ring other h k e =
    printing.alone other ring k (stands_too (polygon_text ring) (polygon_text other) ring e (printing.stands ring h))
