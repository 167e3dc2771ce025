-- The results of the reader of a text, step by step. `Grammar` defines polygons; the proofs show that both
-- agree.
use Rattle.std.specs.Prelude.{ℕ, Bool, true, false, List, [], ◌∷◌, ◌++◌, ◌&&◌, if◌then◌else◌, nat_le, length}
use Rattle.std.specs.Prelude.{Option, Some, None, option_and_then}
use Rattle.std.specs.Option.{option_map}
use Rattle.land_shape.specs.declared.tokens.Token.{Token}
use Rattle.land_shape.specs.declared.tokens.Token.TheVariants.{Open, Close, Comma, Word}
use Rattle.land_shape.specs.declared.body.At.{At}
use Rattle.land_shape.specs.declared.body.At.TheVariants.{BeforeBody, BeforeRing, InPoint, AfterRing}
use Rattle.land_shape.specs.declared.body.At.TheVariants.{AfterBody}
use Rattle.land_shape.specs.declared.body.Progress.{Progress}
use Rattle.land_shape.specs.declared.polygon.WrittenPolygon.{WrittenPolygon}
use Rattle.land_shape.specs.declared.polygon.WrittenPolygon.TheVariants as code
use Rattle.land_shape.specs.Grammar.{Words, Points, Rings, Polygon, empty, body, is_keyword, is_tag}
use Rattle.land_shape.specs.Grammar.{is_tagged_keyword, is_empty_word}

-- the state of reading a body
pub record ReaderState : Type 0 where
  pub at : At
  pub rings : Rings
  pub points : Points
  pub words : Words

abbrev pub progress_of : Progress → ReaderState
progress_of p = record { at = p.at; rings = p.rings.items; points = p.points.items; words = p.words.items }

abbrev pub start_of_body : ReaderState
start_of_body = record { at = BeforeBody; rings = []; points = []; words = [] }

abbrev pub is_point : Words → Bool
is_point words = nat_le 2 (length words) && nat_le (length words) 4

abbrev pub with_word : ReaderState → List ℕ → ReaderState
with_word r w = record r { words = r.words ++ w ∷ [] }

-- the current point is complete
abbrev pub with_point : ReaderState → ReaderState
with_point r = record r { points = r.points ++ r.words ∷ []; words = [] }

-- the current ring is complete
abbrev pub with_ring : ReaderState → ReaderState
with_ring r = record r { at = AfterRing; rings = r.rings ++ r.points ∷ []; points = [] }

abbrev pub after_token_at : At → Token → ReaderState → Option ReaderState
after_token_at BeforeBody Open r = Some (record r { at = BeforeRing })
after_token_at BeforeRing Open r = Some (record r { at = InPoint })
after_token_at InPoint (Word w) r = Some (with_word r w)
after_token_at InPoint Comma r = if is_point r.words then Some (with_point r) else None
after_token_at InPoint Close r = if is_point r.words then Some (with_ring (with_point r)) else None
after_token_at AfterRing Comma r = Some (record r { at = BeforeRing })
after_token_at AfterRing Close r = Some (record r { at = AfterBody })
after_token_at _ _ r = None

-- the state after one more token; None if a body cannot continue with it
abbrev pub after_token : ReaderState → Token → Option ReaderState
after_token r token = after_token_at r.at token r

abbrev pub after_all : ReaderState → List Token → Option ReaderState
after_all r [] = Some r
after_all r (t ∷ ts) = option_and_then (λ s. after_all s ts) (after_token r t)

abbrev pub rings_at_end : At → Rings → Option Rings
rings_at_end AfterBody rings = Some rings
rings_at_end _ rings = None

abbrev pub body_of : List Token → Option Rings
body_of tokens = option_and_then (λ r. rings_at_end r.at r.rings) (after_all start_of_body tokens)

-- ---- whole texts

-- whether the first token is a tag, and the remainder without it
abbrev pub split_tag : List Token → Bool × List Token
split_tag (Word t ∷ ts) = if is_tag t then (true, ts) else (false, Word t ∷ ts)
split_tag ts = (false, ts)

abbrev pub split_head : List Token → Option (Bool × List Token)
split_head (Word k ∷ ts) =
    if is_tagged_keyword k then Some (true, ts) else (if is_keyword k then Some (split_tag ts) else None)
split_head ts = None

abbrev pub is_only_empty_word : List Token → Bool
is_only_empty_word (Word w ∷ []) = is_empty_word w
is_only_empty_word ts = false

abbrev pub polygon_after : Bool × List Token → Option Polygon
polygon_after rest = if is_only_empty_word rest.1 then Some empty else option_map (body rest.0)
    (body_of rest.1)

abbrev pub polygon_of : List Token → Option Polygon
polygon_of tokens = option_and_then polygon_after (split_head tokens)

-- the polygon that the reader returns
abbrev pub written_polygon : WrittenPolygon → Polygon
written_polygon code.Empty = empty
written_polygon (code.Body tagged rings) = body tagged rings.items
