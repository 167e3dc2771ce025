-- The tokens of a printed ring
use Rattle.std.proofs.Common.{◌≡◌, ℕ, ◌<◌, ◌^◌, Bool, true, false, List, [], ◌∷◌, ◌++◌, length, map, refl, sym, ap, ◌∙◌, arith, ◌&&◌, suc, codes}
use Rattle.std.proofs.lemmas.Fmt.{decimal_is_IsNumeral, decimal_nonempty}
use Rattle.std.proofs.lemmas.List.{append_assoc}
use Rattle.std.proofs.lemmas.Bool.Decides.{nat_tests}
use Rattle.std.proofs.lemmas.Str.Parse.{digit_from_value}
use Rattle.std.specs.Int.{IsInRange}
use Rattle.std.specs.Str.Parse.{AllDigits}
use Rattle.std.specs.List.{list_all, AllByRecursion}
use Rattle.std.specs.Fmt.{signed_decimal, decimal}
use lib.IntN.{ℤ, pos, negsuc}
use lib.Signed.{mag}
use Rattle.land_shape.specs.Place.{Place}
use Rattle.land_shape.specs.Tokens.{is_word_byte, word_of, tokens_after, tokens_of, mark_of}
use Rattle.land_shape.specs.declared.tokens.Token.{Token}
use Rattle.land_shape.specs.declared.tokens.Token.TheVariants.{Open, Close, Comma, Word}
use Rattle.land_shape.specs.Grammar.{Words, parts_with_commas, point_tokens, body_tokens}
use Rattle.land_shape.specs.Printed.{point_text, points_text, polygon_text}

and_left : (a b : Bool) → (a && b) ≡ true → a ≡ true
and_left true b h = refl
and_left false b h = cc

and_right : (a b : Bool) → (a && b) ≡ true → b ≡ true
and_right true b h = h
and_right false b h = cc

nil_right : (xs : List ℕ) → xs ++ [] ≡ xs
nil_right [] = refl
nil_right (x ∷ xs) = ap (λ (t : List ℕ). x ∷ t) (nil_right xs)

-- a run of word bytes extends the current word
pub tokens_after-word : (begun w rest : List ℕ) → list_all is_word_byte w ≡ true → tokens_after begun (w ++ rest) ≡ tokens_after (begun ++ w) rest
tokens_after-word begun [] rest h = ap (λ (s : List ℕ). tokens_after s rest) (sym (nil_right begun))
tokens_after-word begun (b ∷ w) rest h =
    rw (and_left (is_word_byte b) (list_all is_word_byte w) h) (tokens_after-word (begun ++ b ∷ []) w rest (and_right (is_word_byte b) (list_all is_word_byte w) h) ∙ ap (λ (s : List ℕ). tokens_after s rest) (append_assoc begun (b ∷ []) w))

some_word : (w : List ℕ) → 0 < length w → word_of w ≡ Word w ∷ []
some_word [] h = absurd (omega arith)
some_word (b ∷ w) h = refl

-- a word, and the byte that ends it
word_ends : (w rest : List ℕ) (b : ℕ) → list_all is_word_byte w ≡ true → 0 < length w → is_word_byte b ≡ false
    → tokens_after [] (w ++ b ∷ rest) ≡ Word w ∷ (mark_of b ++ tokens_after [] rest)
word_ends w rest b h some stop = tokens_after-word [] w (b ∷ rest) h ∙ rw (stop, some_word w some) refl

-- ---- numbers are words

digit_is_word : (c : ℕ) → IsInRange 48 57 c → is_word_byte c ≡ true
digit_is_word c h = grind (arith, nat_tests)

digits_are_word : (ds : List ℕ) → AllDigits 10 ds → list_all is_word_byte ds ≡ true
digits_are_word [] h = refl
digits_are_word (d ∷ ds) h = rw (digit_is_word d (digit_from_value d h.0)) (digits_are_word ds h.1)

number_is_word : (z : ℤ) → mag z < 2 ^ 63 → (list_all is_word_byte (signed_decimal z) ≡ true) × (0 < length (signed_decimal z))
number_is_word (pos n) h =
    let m : n < 2 ^ 64 = omega arith in
    (digits_are_word (decimal n) (decimal_is_IsNumeral n m).0.1, decimal_nonempty n m)
number_is_word (negsuc n) h =
    let m : suc n < 2 ^ 64 = omega arith in
    (digits_are_word (decimal (suc n)) (decimal_is_IsNumeral (suc n) m).0.1, omega arith)

-- ---- points

-- the words of a printed point
abbrev pub words_of : Place → Words
words_of p = signed_decimal p.x ∷ signed_decimal p.y ∷ []

abbrev pub IsSmall : Place → Type 0
IsSmall p = (mag p.x < 2 ^ 63) × (mag p.y < 2 ^ 63)

point_ends : (p : Place) (b : ℕ) (rest : List ℕ) → IsSmall p → is_word_byte b ≡ false
    → tokens_after [] (point_text p ++ b ∷ rest) ≡ point_tokens (words_of p) ++ (mark_of b ++ tokens_after [] rest)
point_ends p b rest h stop =
    let x = number_is_word p.x h.0 in let y = number_is_word p.y h.1 in
    ap (λ (s : List ℕ). tokens_after [] s) (append_assoc (signed_decimal p.x) (32 ∷ signed_decimal p.y) (b ∷ rest))
    ∙ word_ends (signed_decimal p.x) (signed_decimal p.y ++ b ∷ rest) 32 x.0 x.1 refl
    ∙ ap (λ (s : List Token). Word (signed_decimal p.x) ∷ s) (word_ends (signed_decimal p.y) rest b y.0 y.1 stop)

points_end : (p : Place) (ps : List Place) (rest : List ℕ) → AllByRecursion IsSmall (p ∷ ps)
    → tokens_after [] (points_text (p ∷ ps) ++ 41 ∷ rest) ≡ parts_with_commas (map point_tokens (map words_of (p ∷ ps))) ++ Close ∷ tokens_after [] rest
points_end p [] rest h = point_ends p 41 rest h.0 refl
points_end p (q ∷ ps) rest h =
    ap (λ (s : List ℕ). tokens_after [] s) (append_assoc (point_text p) (44 ∷ 32 ∷ points_text (q ∷ ps)) (41 ∷ rest))
    ∙ point_ends p 44 (32 ∷ points_text (q ∷ ps) ++ 41 ∷ rest) h.0 refl
    ∙ ap (λ (s : List Token). point_tokens (words_of p) ++ Comma ∷ s) (points_end q ps rest h.1)

-- the tokens of a printed ring are its keyword and the body that its points write
pub printed_tokens : (p : Place) (ps : List Place) → AllByRecursion IsSmall ((p ∷ ps) ++ p ∷ [])
    → tokens_of (polygon_text (p ∷ ps)) ≡ Word (codes "POLYGON") ∷ body_tokens (map words_of ((p ∷ ps) ++ p ∷ []) ∷ [])
printed_tokens p ps h =
    ap (λ (s : List Token). Word (codes "POLYGON") ∷ Open ∷ Open ∷ s)
    (points_end p (ps ++ p ∷ []) (41 ∷ []) h ∙ sym (append_assoc (parts_with_commas (map point_tokens (map words_of (p ∷ (ps ++ p ∷ []))))) (Close ∷ []) (Close ∷ [])))
