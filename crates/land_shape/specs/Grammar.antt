-- Polygons in the well-known text of OGC 06-103r4 (section 7.2), in this register's profile: the tokens of a
-- polygon, independent of the reader.
use Rattle.std.specs.Prelude.{◌≡◌, ℕ, Bool, true, false, List, [], ◌∷◌, ◌++◌, ◌≤◌, ◌||◌, IsTrue, length, map}
use Rattle.std.specs.Prelude.{codes}
use Rattle.std.specs.List.{AllByRecursion}
use Rattle.std.specs.Str.{str_eq_ignore_ascii_case}
use Rattle.land_shape.specs.declared.tokens.Token.{Token}
use Rattle.land_shape.specs.declared.tokens.Token.TheVariants.{Open, Close, Comma, Word}
use Rattle.land_shape.specs.Tokens.{tokens_of}

-- ---- words

-- letter case is ignored (ASCII)
abbrev pub is_keyword : List ℕ → Bool
is_keyword w = str_eq_ignore_ascii_case w (codes "polygon")

abbrev pub is_tag : List ℕ → Bool
is_tag w = str_eq_ignore_ascii_case w (codes "z") || str_eq_ignore_ascii_case w (codes "m")
    || str_eq_ignore_ascii_case w (codes "zm")

-- the keyword and a tag joined to it
abbrev pub is_tagged_keyword : List ℕ → Bool
is_tagged_keyword w =
    str_eq_ignore_ascii_case w (codes "polygonz") || str_eq_ignore_ascii_case w (codes "polygonm")
    || str_eq_ignore_ascii_case w (codes "polygonzm")

abbrev pub is_empty_word : List ℕ → Bool
is_empty_word w = str_eq_ignore_ascii_case w (codes "empty")

-- ---- heads

-- the keyword, without a tag or with one, which is a separate word or joined to it
abbrev pub IsHead : Bool → List Token → Type 0
IsHead false (Word k ∷ []) = IsTrue (is_keyword k)
IsHead true (Word k ∷ []) = IsTrue (is_tagged_keyword k)
IsHead true (Word k ∷ Word t ∷ []) = IsTrue (is_keyword k) × IsTrue (is_tag t)
IsHead _ _ = ⊥

-- ---- bodies

-- the words of a point; the points of a ring; the rings of a body
abbrev pub Words : Type 0
Words = List (List ℕ)

abbrev pub Points : Type 0
Points = List Words

abbrev pub Rings : Type 0
Rings = List Points

-- parts with commas between them
abbrev pub parts_with_commas : List (List Token) → List Token
parts_with_commas [] = []
parts_with_commas (part ∷ []) = part
parts_with_commas (part ∷ next ∷ parts) = part ++ Comma ∷ parts_with_commas (next ∷ parts)

abbrev pub in_parentheses : List (List Token) → List Token
in_parentheses parts = Open ∷ parts_with_commas parts ++ Close ∷ []

abbrev pub point_tokens : Words → List Token
point_tokens words = map Word words

abbrev pub ring_tokens : Points → List Token
ring_tokens points = in_parentheses (map point_tokens points)

abbrev pub body_tokens : Rings → List Token
body_tokens rings = in_parentheses (map ring_tokens rings)

-- a point has 2 to 4 words, a ring at least one point, a body at least one ring
abbrev pub IsPoint : Words → Type 0
IsPoint words = (2 ≤ length words) × (length words ≤ 4)

abbrev pub IsRing : Points → Type 0
IsRing points = (1 ≤ length points) × AllByRecursion IsPoint points

abbrev pub IsPolygonBody : Rings → Type 0
IsPolygonBody rings = (1 ≤ length rings) × AllByRecursion IsRing rings

-- ---- whole texts

-- a polygon after its head: the word EMPTY, or a body with whether the head has a tag
pub data Polygon : Type 0 where
  empty : Polygon
  body : Bool → Rings → Polygon

pub record HasNoBody (tokens : List Token) : Type 0 where
  pub tagged : Bool
  pub head : List Token
  pub word : List ℕ
  pub is_head : IsHead tagged head
  pub is_empty : IsTrue (is_empty_word word)
  pub whole : tokens ≡ head ++ Word word ∷ []

pub record HasBody (tokens : List Token) (tagged : Bool) (rings : Rings) : Type 0 where
  pub head : List Token
  pub is_head : IsHead tagged head
  pub is_body : IsPolygonBody rings
  pub whole : tokens ≡ head ++ body_tokens rings

abbrev pub IsWritten : List Token → Polygon → Type 0
IsWritten tokens empty = HasNoBody tokens
IsWritten tokens (body tagged rings) = HasBody tokens tagged rings

-- the text is exactly this polygon
abbrev pub IsPolygon : List ℕ → Polygon → Type 0
IsPolygon text polygon = IsWritten (tokens_of text) polygon
