-- Lemmas on texts that are written in order, whole or truncated, with counted bytes.
use Rattle.std.proofs.Common.{◌≡◌, ◌≤◌, ◌+◌, ◌<◌, ◌-◌, ℕ, List, [], ◌∷◌, ◌++◌, length, take, drop, Option, sym, ap, subst, ◌∙◌, arith, append-nil, length-append, length-drop, take-add, take-append-drop, get_or}
use Rattle.std.specs.List.{flat_map}
use Rattle.std.specs.Io.KnownBytes.{Appends}
use Rattle.std.proofs.KnownBytes.{Appends-nil, Appends-trans}
use Rattle.std.proofs.lemmas.Grind.{flat_map-append}
use Rattle.std.proofs.lemmas.List.{take-append-le, take_all, take_more}
use Rattle.std.proofs.Math.Seq.{take-append-add, take-length}
use Rattle.land_streams.specs.Writing.{WritesPrefix, WritesAll}

-- the bytes that the writer accepts are appended to those before
pub send_more : (bytes : List ℕ) (i n : ℕ) (a b c : Option (List ℕ)) → i ≤ length bytes
    → n ≤ length (take (length bytes - i) (drop i bytes)) → Appends a b (take i bytes)
    → Appends b c (take n (take (length bytes - i) (drop i bytes)))
    → (i + n ≤ length bytes) × Appends a c (take (i + n) bytes)
send_more bytes i n a b c inside bound before now =
    let left = length-drop i bytes in
    let whole : take (length bytes - i) (drop i bytes) ≡ drop i bytes = take_all (length bytes - i) (drop i bytes) (omega arith) in
    let took = rw whole at now in
    let most : n ≤ length (drop i bytes) = rw whole at bound in
    (omega arith, rw take-add (Appends-trans a b c (take i bytes) (take n (drop i bytes)) before took))

-- nothing is written of a text
pub none_written : (text : List ℕ) (before : ℕ) (a : Option (List ℕ)) → WritesPrefix text before before a a
none_written text before a = (0, omega arith, omega arith, Appends-nil a)

-- a text and then another one
pub whole_then : (text more : List ℕ) (i j k : ℕ) (a b c : Option (List ℕ)) → WritesAll text i j a b → WritesAll more j k b c → WritesAll (text ++ more) i k a c
whole_then text more i j k a b c first second = (omega (arith, first.0, second.0, length-append text more), Appends-trans a b c text more first.1 second.1)

-- a text and then a prefix of another one
pub front_then : (text more : List ℕ) (i j k : ℕ) (a b c : Option (List ℕ)) → WritesAll text i j a b → WritesPrefix more j k b c → WritesPrefix (text ++ more) i k a c
front_then text more i j k a b c first second = (
  length text + second.0,
  omega (arith, second.1, length-append text more),
  omega (arith, first.0, second.2),
  rw (take-append-add text more second.0) (Appends-trans a b c text (take second.0 more) first.1 second.3),
)

-- a prefix of a text is a prefix of a longer text
pub front_of : (text more : List ℕ) (i j : ℕ) (a b : Option (List ℕ)) → WritesPrefix text i j a b → WritesPrefix (text ++ more) i j a b
front_of text more i j a b it = (it.0, omega (arith, it.1, length-append text more), it.2, rw (take-append-le it.0 text more it.1) it.3)

-- a whole text is a prefix of a longer text
pub whole_front : (text more : List ℕ) (i j : ℕ) (a b : Option (List ℕ)) → WritesAll text i j a b → WritesPrefix (text ++ more) i j a b
whole_front text more i j a b it =
    front_of text more i j a b (length text, omega arith, it.0, rw (take-length text) it.1)

-- the rows of some numbers, and of one more
pub one_more : (f : ℕ → List ℕ) (ns : List ℕ) (i n : ℕ) → i < length ns → get_or ns i 0 ≡ n → flat_map f (take (i + 1) ns) ≡ flat_map f (take i ns) ++ f n
one_more f ns i n inside is =
    ap (flat_map f) (take_more ns i 0 inside) ∙ flat_map-append f (take i ns) (get_or ns i 0 ∷ [])
    ∙ ap (λ l. flat_map f (take i ns) ++ l) (append-nil (f (get_or ns i 0)) ∙ ap f is)

-- the rows of some numbers, and of the others
pub all_rows : (f : ℕ → List ℕ) (ns : List ℕ) (i : ℕ) → flat_map f ns ≡ flat_map f (take i ns) ++ flat_map f (drop i ns)
all_rows f ns i = ap (flat_map f) (sym (take-append-drop i ns)) ∙ flat_map-append f (take i ns) (drop i ns)

-- the row of one more object is written
pub next_row : (f : ℕ → List ℕ) (ns : List ℕ) (i n before written after : ℕ) (a b c : Option (List ℕ)) → i < length ns → get_or ns i 0 ≡ n
    → WritesAll (flat_map f (take i ns)) before written a b → WritesAll (f n) written after b c → WritesAll (flat_map f (take (i + 1) ns)) before after a c
next_row f ns i n before written after a b c inside is first second =
    subst (λ (l : List ℕ). WritesAll l before after a c) (sym (one_more f ns i n inside is))
    (whole_then (flat_map f (take i ns)) (f n) before written after a b c first second)

-- the row of one more object is cut short
pub cut_row : (f : ℕ → List ℕ) (ns : List ℕ) (i n before written after : ℕ) (a b c : Option (List ℕ)) → i < length ns → get_or ns i 0 ≡ n
    → WritesAll (flat_map f (take i ns)) before written a b → WritesPrefix (f n) written after b c → WritesPrefix (flat_map f ns) before after a c
cut_row f ns i n before written after a b c inside is first second =
    subst (λ (l : List ℕ). WritesPrefix l before after a c) (sym (all_rows f ns (i + 1)))
    (front_of (flat_map f (take (i + 1) ns)) (flat_map f (drop (i + 1) ns)) before after a c
    (subst (λ (l : List ℕ). WritesPrefix l before after a c) (sym (one_more f ns i n inside is))
    (front_then (flat_map f (take i ns)) (f n) before written after a b c first second)))

-- no more rows are written
pub stopped : (f : ℕ → List ℕ) (ns : List ℕ) (i before written : ℕ) (a b : Option (List ℕ)) → WritesAll (flat_map f (take i ns)) before written a b
    → WritesPrefix (flat_map f ns) before written a b
stopped f ns i before written a b it =
    subst (λ (l : List ℕ). WritesPrefix l before written a b) (sym (all_rows f ns i))
    (whole_front (flat_map f (take i ns)) (flat_map f (drop i ns)) before written a b it)
