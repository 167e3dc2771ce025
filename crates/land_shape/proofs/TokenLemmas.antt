-- Lemmas on one more byte of a text
use Rattle.std.proofs.Common.{◌≡◌, ℕ, ◌+◌, ◌-◌, ◌<◌, ◌≤◌, true, false, List, [], ◌∷◌, ◌++◌, length, take, drop, get_or, refl, sym, ap, ◌∙◌, arith, drop-cons, add-one, length-drop}
use Rattle.std.proofs.lemmas.List.{append_assoc, take_more, get_or-drop}
use Rattle.land_shape.specs.declared.tokens.Token.{Token}
use Rattle.land_shape.specs.Tokens.{is_word_byte, mark_of, word_of, tokens_after}

pub next_byte : (bytes : List ℕ) (i : ℕ) → i < length bytes → drop i bytes ≡ get_or bytes i 0 ∷ drop (i + 1) bytes
next_byte bytes i h = rw add-one (drop-cons bytes i 0 h)

longer_word : (bytes : List ℕ) (start i : ℕ) → start ≤ i → i < length bytes
    → take (i + 1 - start) (drop start bytes) ≡ take (i - start) (drop start bytes) ++ get_or bytes i 0 ∷ []
longer_word bytes start i begun h =
    let e : i + 1 - start ≡ (i - start) + 1 = omega arith in
    let m : i - start < length (drop start bytes) = simp length-drop (omega arith) in
    let at : start + (i - start) ≡ i = omega arith in
    let g : get_or (drop start bytes) (i - start) 0 ≡ get_or bytes i 0 = rw get_or-drop (ap (λ (k : ℕ). get_or bytes k 0) at) in
    rw e (take_more (drop start bytes) (i - start) 0 m ∙ ap (λ (b : ℕ). take (i - start) (drop start bytes) ++ b ∷ []) g)

-- the byte extends the word
pub word_goes_on : (bytes : List ℕ) (start i : ℕ) → start ≤ i → i < length bytes → is_word_byte (get_or bytes i 0) ≡ true
    → tokens_after (take (i - start) (drop start bytes)) (drop i bytes)
    ≡ tokens_after (take (i + 1 - start) (drop start bytes)) (drop (i + 1) bytes)
word_goes_on bytes start i begun h within =
    ap (λ (rest : List ℕ). tokens_after (take (i - start) (drop start bytes)) rest) (next_byte bytes i h)
    ∙ rw (within, longer_word bytes start i begun h) refl

-- the byte ends the word, and may be a token
pub word_ends_here : (bytes word : List ℕ) (i : ℕ) → i < length bytes → is_word_byte (get_or bytes i 0) ≡ false
    → tokens_after word (drop i bytes) ≡ word_of word ++ mark_of (get_or bytes i 0) ++ tokens_after [] (drop (i + 1) bytes)
word_ends_here bytes word i h ends =
    ap (λ (rest : List ℕ). tokens_after word rest) (next_byte bytes i h) ∙ rw ends refl

pub ends_so_far : (so_far word mark rest now whole : List Token) → now ≡ word ++ mark ++ rest → so_far ++ now ≡ whole
    → ((so_far ++ word) ++ mark) ++ rest ≡ whole
ends_so_far so_far word mark rest now whole e h =
    append_assoc (so_far ++ word) mark rest ∙ append_assoc so_far word (mark ++ rest)
    ∙ ap (λ (t : List Token). so_far ++ t) (sym (append_assoc word mark rest) ∙ sym e) ∙ h

-- the word between an index and itself is empty
pub no_word : (bytes : List ℕ) (i : ℕ) → take (i - i) (drop i bytes) ≡ []
no_word bytes i = let e : i - i ≡ 0 = omega arith in rw e refl
