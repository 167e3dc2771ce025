-- The reader takes exactly the bodies that the grammar writes.
use Rattle.std.proofs.Common.{◌≡◌, ℕ, ◌≤◌, Bool, true, false, List, [], ◌∷◌, ◌++◌, length, map, refl, sym, ap, ◌∙◌, arith, Some, None, Option, MatchOption, option_and_then}
use Rattle.std.proofs.lemmas.List.{append_assoc, map-append, append-nil}
use Rattle.std.proofs.lemmas.Bool.Decides.{nat_tests}
use Rattle.std.specs.List.{AllByRecursion}
use Rattle.land_shape.specs.declared.tokens.Token.{Token}
use Rattle.land_shape.specs.declared.tokens.Token.TheVariants.{Open, Close, Comma, Word}
use Rattle.land_shape.specs.declared.body.At.{At}
use Rattle.land_shape.specs.declared.body.At.TheVariants.{BeforeBody, BeforeRing, InPoint, AfterRing, AfterBody}
use Rattle.land_shape.specs.Grammar.{Words, Points, Rings, parts_with_commas, point_tokens, ring_tokens, body_tokens, IsPoint, IsRing, IsPolygonBody}
use Rattle.land_shape.specs.Reader.{ReaderState, start_of_body, is_point, after_token, after_all, rings_at_end, body_of}

pub either_way : {P : Type 0} (b : Bool) → (b ≡ true → P) → (b ≡ false → P) → P
either_way {P} b t f = elim b as (λ v. (v ≡ true → P) → (v ≡ false → P) → P) [ true ↦ λ k l. k refl | false ↦ λ k l. l refl ] t f

pub is_point-true : (words : Words) → IsPoint words → is_point words ≡ true
is_point-true words h = let l = h.0 in let g = h.1 in grind (arith, nat_tests)

pub is_point-means : (words : Words) → is_point words ≡ true → IsPoint words
is_point-means words h = (grind (arith, nat_tests), grind (arith, nat_tests))

abbrev state : At → Rings → Points → Words → ReaderState
state at rings points words = record { at = at; rings = rings; points = points; words = words }

-- ---- the reader accepts each written form

words_read : (more words : Words) (rings : Rings) (points : Points) (rest : List Token)
    → after_all (state InPoint rings points words) (map Word more ++ rest) ≡ after_all (state InPoint rings points (words ++ more)) rest
words_read [] words rings points rest = rw append-nil refl
words_read (w ∷ more) words rings points rest = rw (words_read more (words ++ w ∷ []) rings points rest, append_assoc words (w ∷ []) more) refl

point_goes_on : (words : Words) (rings : Rings) (points : Points) (rest : List Token) → IsPoint words
    → after_all (state InPoint rings points []) (point_tokens words ++ Comma ∷ rest) ≡ after_all (state InPoint rings (points ++ words ∷ []) []) rest
point_goes_on words rings points rest h = words_read words [] rings points (Comma ∷ rest) ∙ rw (is_point-true words h) refl

point_ends : (words : Words) (rings : Rings) (points : Points) (rest : List Token) → IsPoint words
    → after_all (state InPoint rings points []) (point_tokens words ++ Close ∷ rest)
    ≡ after_all (state AfterRing (rings ++ (points ++ words ∷ []) ∷ []) [] []) rest
point_ends words rings points rest h = words_read words [] rings points (Close ∷ rest) ∙ rw (is_point-true words h) refl

ring_read : (words : Words) (more points : Points) (rings : Rings) (rest : List Token) → IsPoint words → AllByRecursion IsPoint more
    → after_all (state InPoint rings points []) (parts_with_commas (map point_tokens (words ∷ more)) ++ Close ∷ rest)
    ≡ after_all (state AfterRing (rings ++ (points ++ words ∷ more) ∷ []) [] []) rest
ring_read words [] points rings rest h all = point_ends words rings points rest h
ring_read words (next ∷ more) points rings rest h all =
    ap (λ (ts : List Token). after_all (state InPoint rings points []) ts)
    (append_assoc (point_tokens words) (Comma ∷ parts_with_commas (map point_tokens (next ∷ more))) (Close ∷ rest))
    ∙ point_goes_on words rings points (parts_with_commas (map point_tokens (next ∷ more)) ++ Close ∷ rest) h
    ∙ ring_read next more (points ++ words ∷ []) rings rest all.0 all.1
    ∙ ap (λ (ring : Points). after_all (state AfterRing (rings ++ ring ∷ []) [] []) rest) (append_assoc points (words ∷ []) (next ∷ more))

one_ring : (ring : Points) (rings : Rings) (rest : List Token) → IsRing ring
    → after_all (state BeforeRing rings [] []) (ring_tokens ring ++ rest) ≡ after_all (state AfterRing (rings ++ ring ∷ []) [] []) rest
one_ring [] rings rest h = let few = h.0 in absurd (omega arith)
one_ring (words ∷ more) rings rest h =
    ap (λ (ts : List Token). after_all (state InPoint rings [] []) ts)
    (append_assoc (parts_with_commas (map point_tokens (words ∷ more))) (Close ∷ []) rest)
    ∙ ring_read words more [] rings rest h.1.0 h.1.1

rings_read : (ring : Points) (more rings : Rings) → IsRing ring → AllByRecursion IsRing more
    → after_all (state BeforeRing rings [] []) (parts_with_commas (map ring_tokens (ring ∷ more)) ++ Close ∷ [])
    ≡ Some (state AfterBody (rings ++ ring ∷ more) [] [])
rings_read ring [] rings h all = one_ring ring rings (Close ∷ []) h
rings_read ring (next ∷ more) rings h all =
    ap (λ (ts : List Token). after_all (state BeforeRing rings [] []) ts)
    (append_assoc (ring_tokens ring) (Comma ∷ parts_with_commas (map ring_tokens (next ∷ more))) (Close ∷ []))
    ∙ one_ring ring rings (Comma ∷ (parts_with_commas (map ring_tokens (next ∷ more)) ++ Close ∷ [])) h
    ∙ rings_read next more (rings ++ ring ∷ []) all.0 all.1
    ∙ ap (λ (all_rings : Rings). Some (state AfterBody all_rings [] [])) (append_assoc rings (ring ∷ []) (next ∷ more))

pub body_written : (rings : Rings) → IsPolygonBody rings → body_of (body_tokens rings) ≡ Some rings
body_written [] h = let few = h.0 in absurd (omega arith)
body_written (ring ∷ more) h = rw (rings_read ring more [] h.1.0 h.1.1) refl

-- ---- the reader accepts only written forms

-- parts with a comma after each
abbrev before_commas : List (List Token) → List Token
before_commas [] = []
before_commas (part ∷ parts) = part ++ Comma ∷ before_commas parts

before_commas-push : (parts : List (List Token)) (part : List Token)
    → before_commas (parts ++ part ∷ []) ≡ (before_commas parts ++ part) ++ Comma ∷ []
before_commas-push [] part = refl
before_commas-push (first ∷ parts) part =
    ap (λ (ts : List Token). first ++ Comma ∷ ts) (before_commas-push parts part ∙ append_assoc (before_commas parts) part (Comma ∷ []))
    ∙ sym (append_assoc first (Comma ∷ before_commas parts) (part ++ Comma ∷ []))
    ∙ sym (append_assoc (first ++ Comma ∷ before_commas parts) part (Comma ∷ []))

with_commas-push : (parts : List (List Token)) (part : List Token) → parts_with_commas (parts ++ part ∷ []) ≡ before_commas parts ++ part
with_commas-push [] part = refl
with_commas-push (first ∷ []) part = sym (append_assoc first (Comma ∷ []) part)
with_commas-push (first ∷ next ∷ parts) part =
    ap (λ (ts : List Token). first ++ Comma ∷ ts) (with_commas-push (next ∷ parts) part)
    ∙ sym (append_assoc first (Comma ∷ before_commas (next ∷ parts)) part)

comma_after : (parts : List (List Token)) → 1 ≤ length parts → parts_with_commas parts ++ Comma ∷ [] ≡ before_commas parts
comma_after [] h = absurd (omega arith)
comma_after (part ∷ []) h = refl
comma_after (part ∷ next ∷ parts) h =
    append_assoc part (Comma ∷ parts_with_commas (next ∷ parts)) (Comma ∷ [])
    ∙ ap (λ (ts : List Token). part ++ Comma ∷ ts) (comma_after (next ∷ parts) (omega arith))

-- the tokens that were read up to here
abbrev tokens_read : At → Rings → Points → Words → List Token
tokens_read BeforeBody rings points words = []
tokens_read BeforeRing rings points words = Open ∷ before_commas (map ring_tokens rings)
tokens_read InPoint rings points words =
    Open ∷ before_commas (map ring_tokens rings) ++ Open ∷ (before_commas (map point_tokens points) ++ map Word words)
tokens_read AfterRing rings points words = Open ∷ parts_with_commas (map ring_tokens rings)
tokens_read AfterBody rings points words = body_tokens rings

-- the parts read are well formed
abbrev IsSound : At → Rings → Points → Words → Type 0
IsSound BeforeBody rings points words = (rings ≡ []) × (points ≡ []) × (words ≡ [])
IsSound BeforeRing rings points words = AllByRecursion IsRing rings × (points ≡ []) × (words ≡ [])
IsSound InPoint rings points words = AllByRecursion IsRing rings × AllByRecursion IsPoint points
IsSound AfterRing rings points words = AllByRecursion IsRing rings × (1 ≤ length rings) × (points ≡ []) × (words ≡ [])
IsSound AfterBody rings points words = AllByRecursion IsRing rings × (1 ≤ length rings)

-- the reader has this state after these tokens
abbrev Came : List Token → ReaderState → Type 0
Came before s = IsSound s.at s.rings s.points s.words × (tokens_read s.at s.rings s.points s.words ≡ before)

all-push : {X : Type 0} (P : X → Type 0) (xs : List X) (x : X) → AllByRecursion P xs → P x → AllByRecursion P (xs ++ x ∷ [])
all-push P [] x all here = (here, tt)
all-push P (y ∷ xs) x all here = (all.0, all-push P xs x all.1 here)

parts_push : (rings : Rings) (ring : Points) → map ring_tokens (rings ++ ring ∷ []) ≡ map ring_tokens rings ++ ring_tokens ring ∷ []
parts_push rings ring = map-append ring_tokens rings (ring ∷ [])

points_push : (points : Points) (words : Words) → map point_tokens (points ++ words ∷ []) ≡ map point_tokens points ++ point_tokens words ∷ []
points_push points words = map-append point_tokens points (words ∷ [])

took_word : (rings : Rings) (points : Points) (words : Words) (w : List ℕ)
    → tokens_read InPoint rings points (words ++ w ∷ []) ≡ tokens_read InPoint rings points words ++ Word w ∷ []
took_word rings points words w =
    let x = Open ∷ before_commas (map ring_tokens rings) in let b = before_commas (map point_tokens points) in
    ap (λ (ts : List Token). x ++ Open ∷ (b ++ ts)) (map-append Word words (w ∷ []))
    ∙ ap (λ (ts : List Token). x ++ Open ∷ ts) (sym (append_assoc b (map Word words) (Word w ∷ [])))
    ∙ sym (append_assoc x (Open ∷ (b ++ map Word words)) (Word w ∷ []))

took_comma : (rings : Rings) (points : Points) (words : Words)
    → tokens_read InPoint rings (points ++ words ∷ []) [] ≡ tokens_read InPoint rings points words ++ Comma ∷ []
took_comma rings points words =
    let x = Open ∷ before_commas (map ring_tokens rings) in let b = before_commas (map point_tokens points) in
    ap (λ (ts : List Token). x ++ Open ∷ ts)
    (append-nil (before_commas (map point_tokens (points ++ words ∷ [])))
    ∙ ap before_commas (points_push points words) ∙ before_commas-push (map point_tokens points) (point_tokens words))
    ∙ sym (append_assoc x (Open ∷ (b ++ map Word words)) (Comma ∷ []))

took_close : (rings : Rings) (points : Points) (words : Words)
    → tokens_read AfterRing (rings ++ (points ++ words ∷ []) ∷ []) [] [] ≡ tokens_read InPoint rings points words ++ Close ∷ []
took_close rings points words =
    let x = before_commas (map ring_tokens rings) in let b = before_commas (map point_tokens points) in
    ap (λ (parts : List (List Token)). Open ∷ parts_with_commas parts) (parts_push rings (points ++ words ∷ []))
    ∙ ap (λ (ts : List Token). Open ∷ ts) (with_commas-push (map ring_tokens rings) (ring_tokens (points ++ words ∷ [])))
    ∙ ap (λ (ts : List Token). Open ∷ (x ++ Open ∷ (ts ++ Close ∷ [])))
    (ap parts_with_commas (points_push points words) ∙ with_commas-push (map point_tokens points) (point_tokens words))
    ∙ sym (append_assoc (Open ∷ x) (Open ∷ (b ++ map Word words)) (Close ∷ []))

comma_between : (rings : Rings) → 1 ≤ length rings
    → tokens_read BeforeRing rings [] [] ≡ tokens_read AfterRing rings [] [] ++ Comma ∷ []
comma_between rings h =
    ap (λ (ts : List Token). Open ∷ ts) (sym (comma_after (map ring_tokens rings) (some rings h)))
  where
    some : (rings : Rings) → 1 ≤ length rings → 1 ≤ length (map ring_tokens rings)
    some [] h = absurd (omega arith)
    some (ring ∷ rings) h = omega arith

some_push : {X : Type 0} (xs : List X) (x : X) → 1 ≤ length (xs ++ x ∷ [])
some_push [] x = omega arith
some_push (y ∷ xs) x = omega arith

came_in_point : (rings : Rings) (points : Points) (words : Words) (before : List Token) → Came before (state InPoint rings points words)
    → (t : Token) → MatchOption (after_token (state InPoint rings points words) t) (Unit {0}) (Came (before ++ t ∷ []))
came_in_point rings points words before h (Word w) =
    (h.0, took_word rings points words w ∙ ap (λ (ts : List Token). ts ++ Word w ∷ []) h.1)
came_in_point rings points words before h Comma =
    either_way (is_point words)
    (λ point. rw point (
      (h.0.0, all-push IsPoint points words h.0.1 (is_point-means words point)),
      took_comma rings points words ∙ ap (λ (ts : List Token). ts ++ Comma ∷ []) h.1,
    ))
    (λ none. rw none tt)
came_in_point rings points words before h Close =
    either_way (is_point words)
    (λ point. rw point (
      (
        all-push IsRing rings (points ++ words ∷ []) h.0.0
            (some_push points words, all-push IsPoint points words h.0.1 (is_point-means words point)),
        some_push rings (points ++ words ∷ []),
        refl,
        refl,
      ),
      took_close rings points words ∙ ap (λ (ts : List Token). ts ++ Close ∷ []) h.1,
    ))
    (λ none. rw none tt)
came_in_point rings points words before h Open = tt

came_on : (at : At) (rings : Rings) (points : Points) (words : Words) (before : List Token) → Came before (state at rings points words)
    → (t : Token) → MatchOption (after_token (state at rings points words) t) (Unit {0}) (Came (before ++ t ∷ []))
came_on BeforeBody rings points words before h Open =
    let r = h.0.0 in let p = h.0.1 in let w = h.0.2 in
    ((rw r tt, p, w), ap (λ (rs : Rings). Open ∷ before_commas (map ring_tokens rs)) r ∙ ap (λ (ts : List Token). ts ++ Open ∷ []) h.1)
came_on BeforeRing rings points words before h Open =
    let p = h.0.1 in let w = h.0.2 in (
      (h.0.0, rw p tt),
      ap (λ (ps : Points). tokens_read InPoint rings ps words) p ∙ ap (λ (ws : Words). tokens_read InPoint rings [] ws) w
          ∙ ap (λ (ts : List Token). ts ++ Open ∷ []) h.1,
    )
came_on InPoint rings points words before h t = came_in_point rings points words before h t
came_on AfterRing rings points words before h Comma =
    ((h.0.0, h.0.2, h.0.3), comma_between rings h.0.1 ∙ ap (λ (ts : List Token). ts ++ Comma ∷ []) h.1)
came_on AfterRing rings points words before h Close =
    ((h.0.0, h.0.1), ap (λ (ts : List Token). ts ++ Close ∷ []) h.1)
came_on _ rings points words before h t = tt

all_came : (ts : List Token) (r : ReaderState) (before : List Token) → Came before r
    → MatchOption (after_all r ts) (Unit {0}) (Came (before ++ ts))
all_came [] r before h = (h.0, h.1 ∙ sym (append-nil before))
all_came (t ∷ ts) r before h =
    go (λ s k. all_came ts s (before ++ t ∷ []) k) (after_token r t) (came_on r.at r.rings r.points r.words before h t)
  where
    go : ((s : ReaderState) → Came (before ++ t ∷ []) s → MatchOption (after_all s ts) (Unit {0}) (Came ((before ++ t ∷ []) ++ ts)))
        → (o : Option ReaderState) → MatchOption o (Unit {0}) (Came (before ++ t ∷ []))
        → MatchOption (option_and_then (λ s. after_all s ts) o) (Unit {0}) (Came (before ++ t ∷ ts))
    go more None k = tt
    go more (Some s) k = rw append_assoc at more s k

pub body_means : (tokens : List Token) (rings : Rings) → body_of tokens ≡ Some rings → IsPolygonBody rings × (tokens ≡ body_tokens rings)
body_means tokens rings h = go (after_all start_of_body tokens) (all_came tokens start_of_body [] ((refl, refl, refl), refl)) h
  where
    at_end : (at : At) (rs : Rings) (ps : Points) (ws : Words) → Came tokens (state at rs ps ws) → rings_at_end at rs ≡ Some rings
        → IsPolygonBody rings × (tokens ≡ body_tokens rings)
    at_end AfterBody rs ps ws k e = let same : rs ≡ rings = cc in rw (sym same) ((k.0.1, k.0.0), sym k.1)
    at_end _ rs ps ws k e = cc e

    go : (o : Option ReaderState) → MatchOption o (Unit {0}) (Came tokens) → option_and_then (λ r. rings_at_end r.at r.rings) o ≡ Some rings
        → IsPolygonBody rings × (tokens ≡ body_tokens rings)
    go None k e = cc e
    go (Some r) k e = at_end r.at r.rings r.points r.words k e
