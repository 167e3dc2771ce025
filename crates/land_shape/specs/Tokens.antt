-- The tokens of a text. A text is its bytes in UTF-8; all separators are ASCII, so words can be read byte by
-- byte.
use Rattle.std.specs.Prelude.{ℕ, Bool, List, [], ◌∷◌, ◌++◌, ◌==◌, ◌||◌, not, if◌then◌else◌}
use Rattle.land_shape.specs.declared.tokens.Token.{Token}
use Rattle.land_shape.specs.declared.tokens.Token.TheVariants.{Open, Close, Comma, Word}

-- space, tab, line feed and carriage return, which only separate
abbrev pub is_space : ℕ → Bool
is_space b = b == 32 || b == 9 || b == 10 || b == 13

-- all bytes but parentheses, commas and white space
abbrev pub is_word_byte : ℕ → Bool
is_word_byte b = not (b == 40 || b == 41 || b == 44 || is_space b)

-- the token that one byte outside a word is, if it is one
abbrev pub mark_of : ℕ → List Token
mark_of b = if b == 40 then Open ∷ [] else if b == 41 then Close ∷ [] else if b == 44 then Comma ∷ [] else []

-- a run of bytes as a word, if there are any
abbrev pub word_of : List ℕ → List Token
word_of [] = []
word_of (b ∷ bs) = Word (b ∷ bs) ∷ []

-- the tokens of a text that continues the word `begun`; a word is as long as possible
abbrev pub tokens_after : List ℕ → List ℕ → List Token
tokens_after begun [] = word_of begun
tokens_after begun (b ∷ bs) =
    if is_word_byte b then tokens_after (begun ++ b ∷ []) bs
    else word_of begun ++ mark_of b ++ tokens_after [] bs

abbrev pub tokens_of : List ℕ → List Token
tokens_of text = tokens_after [] text
