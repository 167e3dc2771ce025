-- The reader finds exactly the polygons that the grammar writes.
use Rattle.std.proofs.Common.{◌≡◌, ℕ, Bool, true, false, List, [], ◌∷◌, ◌++◌, refl, sym, ap, ◌∙◌, Some, None, Option, codes}
use Rattle.std.proofs.lemmas.Bool.Decides.{Decides-eqb}
use Rattle.std.proofs.lemmas.Slice.Eq.{slice_eq-Decides}
use Rattle.std.specs.Option.{option_map}
use Rattle.std.specs.Str.{str_eq_ignore_ascii_case, str_to_ascii_lowercase}
use Rattle.land_shape.specs.declared.tokens.Token.{Token}
use Rattle.land_shape.specs.declared.tokens.Token.TheVariants.{Open, Close, Comma, Word}
use Rattle.land_shape.specs.Grammar.{Rings, Polygon, empty, body, body_tokens, is_keyword, is_tag, is_tagged_keyword, is_empty_word, IsHead, IsPolygonBody, IsWritten}
use Rattle.land_shape.specs.Reader.{split_tag, is_only_empty_word, polygon_after, polygon_of, body_of}
use Rattle.land_shape.proofs.GrammarLemmas.{either_way, body_written, body_means}

-- ---- a word spells one of the words at most

spelled : (w other : List ℕ) → str_eq_ignore_ascii_case w other ≡ true → str_to_ascii_lowercase w ≡ str_to_ascii_lowercase other
spelled w other h = (slice_eq-Decides Decides-eqb (str_to_ascii_lowercase w) (str_to_ascii_lowercase other) _ refl).0 h

plain_keyword : (k : List ℕ) → is_keyword k ≡ true → is_tagged_keyword k ≡ false
plain_keyword k h = rw (spelled k (codes "polygon") h) refl

no_tag : (w : List ℕ) → is_empty_word w ≡ true → is_tag w ≡ false
no_tag w h = rw (spelled w (codes "empty") h) refl

-- ---- the reader accepts each written form

after_empty : (tagged : Bool) (w : List ℕ) → is_empty_word w ≡ true → polygon_after (tagged, Word w ∷ []) ≡ Some empty
after_empty tagged w h = rw h refl

after_body : (tagged : Bool) (rings : Rings) → IsPolygonBody rings → polygon_after (tagged, body_tokens rings) ≡ Some (body tagged rings)
after_body tagged rings h = ap (λ (o : Option Rings). option_map (body tagged) o) (body_written rings h)

empty_written : (tagged : Bool) (head : List Token) (w : List ℕ) → IsHead tagged head → is_empty_word w ≡ true
    → polygon_of (head ++ Word w ∷ []) ≡ Some empty
empty_written false (Word k ∷ []) w h e = rw (plain_keyword k h, h, no_tag w e) (after_empty false w e)
empty_written true (Word k ∷ []) w h e = rw h (after_empty true w e)
empty_written true (Word k ∷ Word t ∷ []) w h e = rw (plain_keyword k h.0, h.0, h.1) (after_empty true w e)
empty_written _ _ w h e = absurd h

bodied_written : (tagged : Bool) (head : List Token) (rings : Rings) → IsHead tagged head → IsPolygonBody rings
    → polygon_of (head ++ body_tokens rings) ≡ Some (body tagged rings)
bodied_written false (Word k ∷ []) rings h b = rw (plain_keyword k h, h) (after_body false rings b)
bodied_written true (Word k ∷ []) rings h b = rw h (after_body true rings b)
bodied_written true (Word k ∷ Word t ∷ []) rings h b = rw (plain_keyword k h.0, h.0, h.1) (after_body true rings b)
bodied_written _ _ rings h b = absurd h

pub polygon_written : (tokens : List Token) (polygon : Polygon) → IsWritten tokens polygon → polygon_of tokens ≡ Some polygon
polygon_written tokens empty w = ap polygon_of w.whole ∙ empty_written w.tagged w.head w.word w.is_head w.is_empty
polygon_written tokens (body tagged rings) w = ap polygon_of w.whole ∙ bodied_written tagged w.head rings w.is_head w.is_body

-- ---- the reader accepts only written forms

alone : (tagged : Bool) (head ts : List Token) → IsHead tagged head → is_only_empty_word ts ≡ true → IsWritten (head ++ ts) empty
alone tagged head (Word w ∷ []) h e = record { tagged = tagged; head = head; word = w; is_head = h; is_empty = e; whole = refl }
alone tagged head _ h e = cc e

after_means : (tagged : Bool) (head ts : List Token) (polygon : Polygon) → IsHead tagged head → polygon_after (tagged, ts) ≡ Some polygon
    → IsWritten (head ++ ts) polygon
after_means tagged head ts polygon h e =
    either_way (is_only_empty_word ts)
    (λ t. let k : Some empty ≡ Some polygon = rw t at e in let same : empty ≡ polygon = cc in rw (sym same) (alone tagged head ts h t))
    (λ f. let k : option_map (body tagged) (body_of ts) ≡ Some polygon = rw f at e in go (body_of ts) refl k)
  where
    go : (o : Option Rings) → body_of ts ≡ o → option_map (body tagged) o ≡ Some polygon → IsWritten (head ++ ts) polygon
    go None is k = cc k
    go (Some rings) is k =
        let same : body tagged rings ≡ polygon = cc in
        let b = body_means ts rings is in
        rw (sym same) (record { head = head; is_head = h; is_body = b.0; whole = ap (λ (t : List Token). head ++ t) b.1 })

tag_means : (k : List ℕ) (ts : List Token) (polygon : Polygon) → is_keyword k ≡ true → polygon_after (split_tag ts) ≡ Some polygon
    → IsWritten (Word k ∷ ts) polygon
tag_means k (Word t ∷ ts) polygon h e =
    either_way (is_tag t)
    (λ y. let m : polygon_after (true, ts) ≡ Some polygon = rw y at e in after_means true (Word k ∷ Word t ∷ []) ts polygon (h, y) m)
    (λ n. let m : polygon_after (false, Word t ∷ ts) ≡ Some polygon = rw n at e in after_means false (Word k ∷ []) (Word t ∷ ts) polygon h m)
tag_means k [] polygon h e = after_means false (Word k ∷ []) [] polygon h e
tag_means k (Open ∷ ts) polygon h e = after_means false (Word k ∷ []) (Open ∷ ts) polygon h e
tag_means k (Close ∷ ts) polygon h e = after_means false (Word k ∷ []) (Close ∷ ts) polygon h e
tag_means k (Comma ∷ ts) polygon h e = after_means false (Word k ∷ []) (Comma ∷ ts) polygon h e

pub polygon_means : (tokens : List Token) (polygon : Polygon) → polygon_of tokens ≡ Some polygon → IsWritten tokens polygon
polygon_means (Word k ∷ ts) polygon e =
    either_way (is_tagged_keyword k)
    (λ y. let m : polygon_after (true, ts) ≡ Some polygon = rw y at e in after_means true (Word k ∷ []) ts polygon y m)
    (λ n. either_way (is_keyword k)
    (λ y. let m : polygon_after (split_tag ts) ≡ Some polygon = rw (n, y) at e in tag_means k ts polygon y m)
    (λ m. let none : None ≡ Some polygon = rw (n, m) at e in cc none))
polygon_means _ polygon e = cc e
