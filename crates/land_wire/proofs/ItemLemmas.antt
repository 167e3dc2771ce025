-- Lemmas on the items of a stream.
use Rattle.std.proofs.Common.{◌≡◌, ◌≢◌, ℕ, ◌+◌, ◌<◌, ◌≤◌, Bool, true, false, List, [], ◌∷◌, ◌++◌, length, take, drop, refl, sym, ap, ◌∙◌, subst, arith, append_assoc, length-append, length-take, length-drop, take-append-drop, inl, inr, Result, Ok, Err, Option, Some, None, IfSome}
use Rattle.std.specs.Prelude.{◌⊎◌}
use Rattle.std.specs.Io.KnownBytes.{IsAtEnd, prepend_known}
use Rattle.std.proofs.lemmas.Bool.{cases_lt}
use Rattle.std.proofs.lemmas.List.{take-append-le, take-take, take_all, drop-append-le, drop-drop, append_cancel_left}
use Rattle.httparse.proofs.GrammarLemmas.{request_unique, ReadsRequest-append}
use Rattle.httparse.specs.Grammar.{RequestHead, IsRequestHead, ReadsRequest, print_request, HasNoRequest, NeverHasRequest}
use Rattle.httparse.specs.Spans.{IsRequestAt, IsRequestWithin}
use Rattle.httparse.specs.declared.spans.HeaderSpan.{HeaderSpan}
use Rattle.httparse.specs.declared.spans.RequestSpans.{RequestSpans}
use Rattle.land_wire.proofs.StreamLemmas.{at_front, within_front}
use Rattle.land_wire.proofs.TargetLemmas.{never_some, open_not_never, never_none, some_request}
use Rattle.land_wire.specs.Framing.Frame.{body_length_of}
use Rattle.land_wire.specs.Framing.Items.{Item, request, faulty, IsItem, AreItems, IsBodyFault, is_last, IsRequestIn, IsNextIn, IsNextOf, ReadsUpTo, next_of_fault}
use Rattle.land_wire.specs.Framing.Stream.{HasHead, IsHeadFault, window, IsHeadIn, IsHeadFaultOf, LastReadWasNeeded, IsPartialHead}
use Rattle.land_wire.specs.declared.framing.frame_fault.FrameFault.{FrameFault}
use Rattle.land_wire.specs.declared.framing.frame_fault.FrameFault.TheVariants as fault
use Rattle.land_wire.specs.declared.framing.head.HeadResult.{HeadResult}
use Rattle.land_wire.specs.declared.framing.head.HeadResult.TheVariants as found
use Rattle.land_wire.specs.declared.framing.item.NextItem.TheVariants as front

pub some_byte : (bytes : List ℕ) (f : FrameFault) → IsHeadFault bytes f → f ≢ fault.Cut → 0 < length bytes
some_byte [] fault.Head is not_cut = absurd (never_some is)
some_byte (b ∷ bytes) f is not_cut = omega arith
some_byte [] fault.HeadLong is not_cut = omega (arith, is.1)
some_byte [] fault.BodyLong is not_cut = absurd is
some_byte [] fault.Encoding is not_cut = absurd is
some_byte [] fault.Cut is not_cut = absurd (not_cut refl)

-- the head in the buffer is at the front of the stream
pub head_of : (bytes more : List ℕ) (headers : List HeaderSpan) (spans : RequestSpans) (h : RequestHead)
    → IsRequestWithin bytes headers spans → IsRequestAt bytes headers spans h → length (print_request h) ≤ 8192
    → HasHead (bytes ++ more) h (drop spans.len bytes ++ more)
head_of bytes more headers spans h ok at small = record {
  reads = ReadsRequest-append bytes h (drop spans.len bytes) more at.reads;
  fits = small;
}

pub head_bytes : (h : RequestHead) → IsRequestHead h → 0 < length (print_request h)
unfolding print_request
head_bytes h ok = simp length-append (omega (arith, ok.method.0))

pub head_some : (bytes : List ℕ) (h : RequestHead) (rest : List ℕ) → HasHead bytes h rest → 0 < length bytes
head_some bytes h rest has = omega (arith, head_bytes h has.reads.0, simp length-append at (ap length has.reads.1))

-- a request takes at least one byte of the buffer
pub request_takes : (bytes : List ℕ) (headers : List HeaderSpan) (spans : RequestSpans) (n : ℕ) → IsRequestIn bytes headers spans n → 0 < spans.len
request_takes bytes headers spans n is = omega (arith, head_bytes is.1.0 is.1.1.reads.0, is.1.1.len)

pub request_of : (bytes more : List ℕ) (headers : List HeaderSpan) (spans : RequestSpans) (n : ℕ)
    → (is : IsRequestIn bytes headers spans n)
    → IsItem (bytes ++ more) (request is.1.0 (take n (drop spans.len bytes))) (drop (spans.len + n) bytes ++ more)
request_of bytes more headers spans n is =
    let h = is.1.0 in
    let body = take n (drop spans.len bytes) in
    let head = head_of bytes more headers spans h is.0 is.1.1 is.1.2 in
    let long : length body ≡ n = omega (arith, length-take n (drop spans.len bytes), length-drop spans.len bytes, is.2) in
    let split : drop spans.len bytes ++ more ≡ body ++ (drop (spans.len + n) bytes ++ more) =
    ap (λ (t : List ℕ). t ++ more) (sym (take-append-drop n (drop spans.len bytes)) ∙ ap (λ (t : List ℕ). body ++ t) (drop-drop n spans.len bytes))
    ∙ append_assoc body (drop (spans.len + n) bytes) more in
    (subst (λ (t : List ℕ). HasHead (bytes ++ more) h t) split head, is.1.3 ∙ ap Ok (sym long))

-- a fault after a whole head is at the front of the stream
pub fault_of : (bytes more : List ℕ) (headers : List HeaderSpan) (spans : RequestSpans) (h : RequestHead) (f : FrameFault)
    → IsRequestWithin bytes headers spans → IsRequestAt bytes headers spans h → length (print_request h) ≤ 8192
    → IsBodyFault (drop spans.len bytes ++ more) (body_length_of h) f → IsItem (bytes ++ more) (faulty f) []
fault_of bytes more headers spans h f ok at small fails =
    let head = head_of bytes more headers spans h ok at small in
    (refl, head_some (bytes ++ more) h _ head, inr (h, drop spans.len bytes ++ more, head, fails))

-- ---- a stream has exactly one list of items

whole_window : (bytes : List ℕ) (h : RequestHead) (rest : List ℕ) → HasHead bytes h rest
    → ReadsRequest (window bytes) h (drop (length (print_request h)) (window bytes))
whole_window bytes h rest has =
    let n = length (print_request h) in
    let front : take n bytes ≡ print_request h = ap (λ (t : List ℕ). take n t) has.reads.1 ∙ take-append-le n (print_request h) rest (omega arith) ∙ take_all n (print_request h) (omega arith) in
    (has.reads.0, sym (take-append-drop n (window bytes)) ∙ ap (λ (t : List ℕ). t ++ drop n (window bytes)) (take-take n 8192 bytes has.fits ∙ front))

never_at : (b : List ℕ) (h : RequestHead) (rest : List ℕ) → NeverHasRequest b → ReadsRequest b h rest → ⊥
never_at b h rest never reads = never_none b never h rest reads

no_head : (bytes : List ℕ) (h : RequestHead) (rest : List ℕ) (f : FrameFault) → HasHead bytes h rest → IsHeadFault bytes f → ⊥
no_head bytes h rest fault.Head has is = never_at (window bytes) h _ is.0 (whole_window bytes h rest has)
no_head bytes h rest fault.HeadLong has is = is.0.0 h _ (whole_window bytes h rest has)
no_head bytes h rest fault.Cut has is = is.0.0 h _ (whole_window bytes h rest has)
no_head bytes h rest fault.BodyLong has is = is
no_head bytes h rest fault.Encoding has is = is

one_fault : (bytes : List ℕ) (f g : FrameFault) → IsHeadFault bytes f → IsHeadFault bytes g → f ≡ g
one_fault bytes fault.Head fault.Head a b = refl
one_fault bytes fault.Head fault.HeadLong a b = absurd (open_not_never (window bytes) b.0 a)
one_fault bytes fault.Head fault.Cut a b = absurd (open_not_never (window bytes) b.0 a)
one_fault bytes fault.HeadLong fault.Head a b = absurd (open_not_never (window bytes) a.0 b)
one_fault bytes fault.HeadLong fault.HeadLong a b = refl
one_fault bytes fault.HeadLong fault.Cut a b = absurd (omega (arith, a.1, b.1))
one_fault bytes fault.Cut fault.Head a b = absurd (open_not_never (window bytes) a.0 b)
one_fault bytes fault.Cut fault.HeadLong a b = absurd (omega (arith, a.1, b.1))
one_fault bytes fault.Cut fault.Cut a b = refl
one_fault bytes f fault.BodyLong a b = absurd b
one_fault bytes f fault.Encoding a b = absurd b
one_fault bytes fault.BodyLong g a b = absurd a
one_fault bytes fault.Encoding g a b = absurd a

one_failure : (rest : List ℕ) (r : Result ℕ FrameFault) (f g : FrameFault) → IsBodyFault rest r f → IsBodyFault rest r g → f ≡ g
one_failure rest (Err e) f g a b = a ∙ sym b
one_failure rest (Ok n) f g a b = a.0 ∙ sym b.0

-- a complete body is not a fault
no_failure : (body rest after : List ℕ) (r : Result ℕ FrameFault) (f : FrameFault) → r ≡ Ok (length body) → after ≡ body ++ rest
    → IsBodyFault after r f → ⊥
no_failure body rest after (Err e) f is split fails = absurd (cc)
no_failure body rest after (Ok n) f is split fails =
    let same : n ≡ length body = cc in
    omega (arith, same, fails.1, simp length-append at (ap length split))

ok_length : (m n : ℕ) → ◌≡◌ {A = Result ℕ FrameFault} (Ok m) (Ok n) → m ≡ n
ok_length m n e = cc

-- an item and the bytes after it
pub item_unique : (bytes : List ℕ) (a b : Item) (r q : List ℕ) → IsItem bytes a r → IsItem bytes b q → (a ≡ b) × (r ≡ q)
item_unique bytes (request h x) (request k y) r q a b =
    let same = request_unique bytes h k (x ++ r) (y ++ q) a.0.reads b.0.reads in
    let lengths : length x ≡ length y = ok_length (length x) (length y) (sym a.1 ∙ ap body_length_of same.0 ∙ b.1) in
    let fronts : x ≡ y = sym (take_all (length x) x (omega arith)) ∙ sym (take-append-le (length x) x r (omega arith))
    ∙ ap (λ (t : List ℕ). take (length x) t) same.1 ∙ take-append-le (length x) y q (omega (arith, lengths)) ∙ take_all (length x) y (omega (arith, lengths)) in
    (λ i. request (same.0 i) (fronts i), append_cancel_left y r q (ap (λ (t : List ℕ). t ++ r) (sym fronts) ∙ same.1))
item_unique bytes (request h x) (faulty g) r q a b = elim b.2 as (λ _. (request h x ≡ faulty g) × (r ≡ q)) [
  | inl f ↦ absurd (no_head bytes h _ g a.0 f)
  | inr f ↦ let same = request_unique bytes h f.0 (x ++ r) f.1 a.0.reads f.2.reads in
      absurd (no_failure x r f.1 (body_length_of f.0) g (ap body_length_of (sym same.0) ∙ a.1) (sym same.1) f.3)
]
item_unique bytes (faulty g) (request h x) r q b a = elim b.2 as (λ _. (faulty g ≡ request h x) × (r ≡ q)) [
  | inl f ↦ absurd (no_head bytes h _ g a.0 f)
  | inr f ↦ let same = request_unique bytes h f.0 (x ++ q) f.1 a.0.reads f.2.reads in
      absurd (no_failure x q f.1 (body_length_of f.0) g (ap body_length_of (sym same.0) ∙ a.1) (sym same.1) f.3)
]
item_unique bytes (faulty f) (faulty g) r q a b = (ap faulty same, a.0 ∙ sym b.0)
  where
    same : f ≡ g
    same = elim a.2 as (λ _. f ≡ g) [
      | inl s ↦ elim b.2 as (λ _. f ≡ g) [
        | inl t ↦ one_fault bytes f g s t
        | inr t ↦ absurd (no_head bytes t.0 t.1 f t.2 s)
      ]
      | inr s ↦ elim b.2 as (λ _. f ≡ g) [
        | inl t ↦ absurd (no_head bytes s.0 s.1 g s.2 t)
        | inr t ↦ let heads = request_unique bytes s.0 t.0 s.1 t.1 s.2.reads t.2.reads in
            one_failure t.1 (body_length_of t.0) f g (subst (λ (k : RequestHead). IsBodyFault t.1 (body_length_of k) f) heads.0 (subst (λ (u : List ℕ). IsBodyFault u (body_length_of s.0) f) heads.1 s.3)) t.3
      ]
    ]

tails_same : (c d : Bool) (xs ys : List Item) → c ≡ d → (c ≡ true → xs ≡ []) → (d ≡ true → ys ≡ [])
    → (c ≡ false → d ≡ false → xs ≡ ys) → xs ≡ ys
tails_same true d xs ys e p q k = p refl ∙ sym (q (sym e))
tails_same false d xs ys e p q k = k refl (sym e)

-- a stream has exactly one list of items
pub items_unique : (bytes : List ℕ) (xs ys : List Item) → AreItems bytes xs → AreItems bytes ys → xs ≡ ys
items_unique bytes [] [] a b = refl
items_unique bytes [] (y ∷ ys) a b = absurd (no_item y b.0 (subst (λ (t : List ℕ). IsItem t y b.0) a b.1))
  where
    no_item : (y : Item) (rest : List ℕ) → IsItem [] y rest → ⊥
    no_item (request h body) rest is = omega (arith, head_some [] h _ is.0)
    no_item (faulty f) rest is = omega (arith, is.1)
items_unique bytes (x ∷ xs) [] a b = absurd (no_item x a.0 (subst (λ (t : List ℕ). IsItem t x a.0) b a.1))
  where
    no_item : (y : Item) (rest : List ℕ) → IsItem [] y rest → ⊥
    no_item (request h body) rest is = omega (arith, head_some [] h _ is.0)
    no_item (faulty f) rest is = omega (arith, is.1)
items_unique bytes (x ∷ xs) (y ∷ ys) a b =
    let heads = item_unique bytes x y a.0 b.0 a.1 b.1 in
    let tails = tails_same (is_last x) (is_last y) xs ys (ap is_last heads.0) a.2 b.2
    (λ e f. items_unique b.0 xs ys (subst (λ (t : List ℕ). AreItems t xs) heads.1 (a.3 e)) (b.3 f)) in
    λ i. heads.0 i ∷ tails i

-- the item of a fault before the end of a head
pub front_is : (bytes : List ℕ) (f : FrameFault) (empty : Bool) → IsHeadFault bytes f → (f ≡ fault.Cut → empty ≡ true → bytes ≡ [])
    → (empty ≡ false → 0 < length bytes) → IsNextOf bytes (next_of_fault f empty)
front_is bytes fault.Head empty is none some = (refl, some_byte bytes fault.Head is (λ e. absurd (cc)), inl is)
front_is bytes fault.HeadLong empty is none some = (refl, some_byte bytes fault.HeadLong is (λ e. absurd (cc)), inl is)
front_is bytes fault.BodyLong empty is none some = absurd is
front_is bytes fault.Encoding empty is none some = absurd is
front_is bytes fault.Cut true is none some = none refl refl
front_is bytes fault.Cut false is none some = (refl, some refl, inl is)

pub front_in : (bytes : List ℕ) (headers : List HeaderSpan) (f : FrameFault) (empty : Bool) → IsNextIn bytes headers (next_of_fault f empty)
front_in bytes headers fault.Head empty = tt
front_in bytes headers fault.HeadLong empty = tt
front_in bytes headers fault.BodyLong empty = tt
front_in bytes headers fault.Encoding empty = tt
front_in bytes headers fault.Cut true = tt
front_in bytes headers fault.Cut false = tt

pub front_known : (items : List ℕ) (known : Option (List ℕ)) (o : HeadResult) (f : FrameFault) (empty : Bool) → o ≡ found.Fault f
    → IfSome (prepend_known items known) (λ s. IsHeadFaultOf s o) → (o ≡ found.Fault fault.Cut → IsAtEnd known)
    → (empty ≡ true → items ≡ []) → (empty ≡ false → 0 < length items)
    → IfSome (prepend_known items known) (λ s. IsNextOf s (next_of_fault f empty))
front_known items None o f empty e is end none some = tt
front_known items (Some rest) o f empty e is end none some =
    let here = subst (λ (k : HeadResult). IsHeadFaultOf (items ++ rest) k) e is in
    front_is (items ++ rest) f empty here
    (λ cut yes. ap (λ (t : List ℕ). t ++ rest) (none yes) ∙ end (e ∙ ap found.Fault cut))
    (λ no. omega (arith, some no, length-append items rest))

pub failed_known : (items : List ℕ) (known : Option (List ℕ)) (headers : List HeaderSpan) (spans : RequestSpans) (o : HeadResult) (f : FrameFault)
    → o ≡ found.Whole spans → IsHeadIn items headers o
    → ((h : RequestHead) → IsRequestAt items headers spans h → Err f ≡ body_length_of h)
    → IfSome (prepend_known items known) (λ s. IsItem s (faulty f) [])
failed_known items None headers spans o f e is bad = tt
failed_known items (Some rest) headers spans o f e is bad =
    let here = subst (λ (k : HeadResult). IsHeadIn items headers k) e is in
    fault_of items rest headers spans here.1.0 f here.0 here.1.1 here.1.2
    (subst (λ (r : Result ℕ FrameFault). IsBodyFault (drop spans.len items ++ rest) r f) (bad here.1.0 here.1.1) refl)

pub request_known : (items new more : List ℕ) (headers : List HeaderSpan) (spans : RequestSpans) (o : HeadResult) (n : ℕ)
    → o ≡ found.Whole spans → IsHeadIn items headers o
    → ((h : RequestHead) → IsRequestAt items headers spans h → Ok n ≡ body_length_of h)
    → new ≡ items ++ more → spans.len + n ≤ length new → IsRequestIn new headers spans n
request_known items new more headers spans o n e is good grown fits =
    let here = subst (λ (k : HeadResult). IsHeadIn items headers k) e is in (
      subst (λ (t : List ℕ). IsRequestWithin t headers spans) (sym grown) (within_front items more headers spans here.0),
      (
        here.1.0,
        subst (λ (t : List ℕ). IsRequestAt t headers spans here.1.0) (sym grown) (at_front items more headers spans here.1.0 here.0 here.1.1),
        here.1.2,
        sym (good here.1.0 here.1.1),
      ),
      fits,
    )

pub cut_known : (items new more : List ℕ) (known : Option (List ℕ)) (headers : List HeaderSpan) (spans : RequestSpans) (o : HeadResult) (n : ℕ)
    → o ≡ found.Whole spans → IsHeadIn items headers o
    → ((h : RequestHead) → IsRequestAt items headers spans h → Ok n ≡ body_length_of h)
    → new ≡ items ++ more → IfSome (prepend_known new known) (λ s. length s < spans.len + n)
    → IfSome (prepend_known new known) (λ s. IsItem s (faulty fault.Cut) [])
cut_known items new more None headers spans o n e is good grown short = tt
cut_known items new more (Some rest) headers spans o n e is good grown short =
    let here = subst (λ (k : HeadResult). IsHeadIn items headers k) e is in
    let h = here.1.0 in
    let ok = subst (λ (t : List ℕ). IsRequestWithin t headers spans) (sym grown) (within_front items more headers spans here.0) in
    let at = subst (λ (t : List ℕ). IsRequestAt t headers spans h) (sym grown) (at_front items more headers spans h here.0 here.1.1) in
    let left : length (drop spans.len new ++ rest) < n =
    omega (arith, short, length-append new rest, length-append (drop spans.len new) rest, length-drop spans.len new, ok.section.len_fits) in
    fault_of new rest headers spans h fault.Cut ok at here.1.2
    (subst (λ (r : Result ℕ FrameFault). IsBodyFault (drop spans.len new ++ rest) r fault.Cut) (good h here.1.1) (refl, left))

-- the stream has the request that is in the buffer
pub request_of_stream : (items : List ℕ) (known : Option (List ℕ)) (headers : List HeaderSpan) (spans : RequestSpans) (n : ℕ)
    → IsRequestIn items headers spans n → IfSome (prepend_known items known) (λ s. IsNextOf s (front.Request spans n))
request_of_stream items None headers spans n is = tt
request_of_stream items (Some rest) headers spans n is =
    let start : spans.len ≤ length items = omega (arith, is.2) in
    let left : n ≤ length (drop spans.len items) = omega (arith, is.2, length-drop spans.len items) in
    let body : take n (drop spans.len (items ++ rest)) ≡ take n (drop spans.len items) =
    ap (λ (t : List ℕ). take n t) (drop-append-le spans.len items rest start) ∙ take-append-le n (drop spans.len items) rest left in
    let after : drop (spans.len + n) (items ++ rest) ≡ drop (spans.len + n) items ++ rest = drop-append-le (spans.len + n) items rest is.2 in
    (is.1.0, rw (body, after) (request_of items rest headers spans n is))

-- ---- a buffer that contains a request already

-- a prefix of a buffer that begins with a head begins with it too
head_within : (items : List ℕ) (e : ℕ) (h : RequestHead) (rest : List ℕ) → HasHead items h rest → length (print_request h) ≤ e
    → ReadsRequest (take e items) h (drop (length (print_request h)) (take e items))
head_within items e h rest has inside =
    let n = length (print_request h) in
    let front : take n items ≡ print_request h = ap (λ (t : List ℕ). take n t) has.reads.1 ∙ take-append-le n (print_request h) rest (omega arith) ∙ take_all n (print_request h) (omega arith) in
    (has.reads.0, sym (take-append-drop n (take e items)) ∙ ap (λ (t : List ℕ). t ++ drop n (take e items)) (take-take n e items inside ∙ front))

head_bound : (items : List ℕ) (h : RequestHead) (rest : List ℕ) → HasHead items h rest → length (print_request h) ≤ length items
head_bound items h rest has = omega (arith, simp length-append at (ap length has.reads.1))

-- parsing a buffer that begins with a head finds it
pub not_open : (items : List ℕ) (e : ℕ) (h : RequestHead) (rest : List ℕ) → HasHead items h rest → (e ≡ 8192) ⊎ (e ≡ length items)
    → HasNoRequest (take e items) → ⊥
not_open items e h rest has (inl full) none = none h _ (head_within items e h rest has (omega (arith, has.fits, full)))
not_open items e h rest has (inr all) none = none h _ (head_within items e h rest has (omega (arith, head_bound items h rest has, all)))

-- a request at the front of a buffer lies in it completely
pub item_fits : (items : List ℕ) (headers : List HeaderSpan) (spans : RequestSpans) (f : HeadResult) (n : ℕ) (h : RequestHead) (body rest : List ℕ)
    → f ≡ found.Whole spans → IsHeadIn items headers f → IsItem items (request h body) rest
    → ((k : RequestHead) → IsRequestAt items headers spans k → Ok n ≡ body_length_of k) → spans.len + n ≤ length items
item_fits items headers spans f n h body rest is known it good =
    let here = subst (λ (x : HeadResult). IsHeadIn items headers x) is known in
    let k = here.1.0 in
    let at = here.1.1 in
    let same = request_unique items h k (body ++ rest) (drop spans.len items) it.0.reads at.reads in
    let long : n ≡ length body = ok_length n (length body) (good k at ∙ ap body_length_of (sym same.0) ∙ it.1) in
    omega (arith, at.len, ap (λ (x : RequestHead). length (print_request x)) same.0, long, simp length-append at (ap length it.0.reads.1))

-- ---- the number of bytes read

read_some : (bytes : List ℕ) (h : RequestHead) (rest : List ℕ) → ReadsRequest bytes h rest → 0 < length bytes
read_some bytes h rest reads = omega (arith, head_bytes h reads.0, simp length-append at (ap length reads.1))

-- an earlier chunk, or none
pub none_read : (bytes : List ℕ) → length bytes ≤ 1024 → LastReadWasNeeded bytes
none_read bytes small = record {
  before = [];
  piece = bytes;
  is = refl;
  small = small;
  begun = ((λ h rest reads. omega (arith, read_some [] h rest reads)), inl some_request);
  short = omega arith;
}

-- a chunk after bytes in which no head was found
pub piece_read : (items new piece : List ℕ) (e : ℕ) → e ≡ length items → length items < 8192 → new ≡ items ++ piece → length piece ≤ 1024
    → IsPartialHead (take e items) → LastReadWasNeeded new
piece_read items new piece e all short grown small begun = record {
  before = items;
  piece = piece;
  is = grown;
  small = small;
  begun = subst IsPartialHead (take_all e items (omega (arith, all))) begun;
  short = short;
}

-- less than a chunk follows a head that was completed by the last read
pub head_ahead : (bytes : List ℕ) (headers : List HeaderSpan) (spans : RequestSpans) (o : HeadResult) → o ≡ found.Whole spans → IsHeadIn bytes headers o
    → LastReadWasNeeded bytes → length bytes < spans.len + 1024
head_ahead bytes headers spans o e is read =
    let here = subst (λ (k : HeadResult). IsHeadIn bytes headers k) e is in
    let h = here.1.0 in
    let at = here.1.1 in
    let n = length read.before in
    let front : take n bytes ≡ read.before =
    ap (λ (t : List ℕ). take n t) read.is ∙ take-append-le n read.before read.piece (omega arith) ∙ take_all n read.before (omega arith) in
    let head : HasHead bytes h (drop spans.len bytes) = record { reads = at.reads; fits = here.1.2 } in
    elim (cases_lt n spans.len) as (λ _. length bytes < spans.len + 1024) [
      | inl less ↦ omega (arith, less, read.small, ap length read.is, length-append read.before read.piece)
      | inr all ↦ absurd (read.begun.0 h _ (subst (λ (t : List ℕ). ReadsRequest t h (drop (length (print_request h)) (take n bytes))) front
          (head_within bytes n h _ head (omega (arith, all, at.len)))))
    ]

-- a head has at most 8192 bytes
pub head_small : (bytes : List ℕ) (headers : List HeaderSpan) (spans : RequestSpans) (o : HeadResult) → o ≡ found.Whole spans → IsHeadIn bytes headers o
    → spans.len ≤ 8192
head_small bytes headers spans o e is =
    let here = subst (λ (k : HeadResult). IsHeadIn bytes headers k) e is in
    omega (arith, here.1.2, here.1.1.len)

pub fault_read : (bytes : List ℕ) (f : FrameFault) (empty : Bool) → LastReadWasNeeded bytes → ReadsUpTo bytes (next_of_fault f empty)
fault_read bytes fault.Head empty read = inr read
fault_read bytes fault.HeadLong empty read = inr read
fault_read bytes fault.BodyLong empty read = inr read
fault_read bytes fault.Encoding empty read = inr read
fault_read bytes fault.Cut true read = tt
fault_read bytes fault.Cut false read = inr read
