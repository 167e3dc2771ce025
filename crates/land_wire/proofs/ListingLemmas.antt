-- The items of bytes that are a complete stream.
use Rattle.std.proofs.Common.{◌≡◌, ℕ, ◌+◌, ◌-◌, ◌<◌, ◌≤◌, true, false, List, [], ◌∷◌, ◌++◌, length, take, drop, refl, sym, subst, arith, append_assoc, append-nil, length-append, length-drop, inl, Result, Ok, Err, Some, IfSome}
use Rattle.std.specs.Io.KnownBytes.{prepend_known}
use Rattle.std.proofs.lemmas.List.{take_all}
use Rattle.httparse.specs.Grammar.{RequestHead}
use Rattle.httparse.specs.Spans.{IsRequestAt}
use Rattle.httparse.specs.declared.spans.HeaderSpan.{HeaderSpan}
use Rattle.httparse.specs.declared.spans.RequestSpans.{RequestSpans}
use Rattle.land_wire.proofs.ItemLemmas.{some_byte, fault_of, request_of, request_of_stream, head_bytes}
use Rattle.land_wire.proofs.StreamLemmas.{never_later, head_long, cut_short}
use Rattle.land_wire.specs.Framing.Frame.{body_length_of, wants_close}
use Rattle.land_wire.specs.Framing.Items.{Item, request, faulty, IsItem, AreItems, IsBodyFault, is_last, IsRequestIn, IsNextOf}
use Rattle.land_wire.specs.Framing.Stream.{IsHeadFault, IsPartialHead, IsInvalidHead, IsHeadIn}
use Rattle.land_wire.specs.declared.framing.frame_fault.FrameFault.{FrameFault}
use Rattle.land_wire.specs.declared.framing.frame_fault.FrameFault.TheVariants as fault
use Rattle.land_wire.specs.declared.framing.head.HeadResult.TheVariants as found
use Rattle.land_wire.specs.declared.framing.item.NextItem.TheVariants as front

-- a fault before the end of a head
fault_item : (bytes : List ℕ) (f : FrameFault) → 0 < length bytes → IsHeadFault (bytes ++ []) f → IsItem bytes (faulty f) []
fault_item bytes f some is = (refl, some, inl (subst (λ (t : List ℕ). IsHeadFault t f) (append-nil bytes) is))

pub never_item : (bytes : List ℕ) (e : ℕ) → e ≤ 8192 → e ≤ length bytes → IsInvalidHead (take e bytes) → IsItem bytes (faulty fault.Head) []
never_item bytes e small inside never =
    let is = subst (λ (t : List ℕ). IsHeadFault t fault.Head) (append-nil bytes) (never_later bytes [] e small inside never) in
    (refl, some_byte bytes fault.Head is (λ e. absurd (cc)), inl is)

pub long_item : (bytes : List ℕ) (e : ℕ) → 8192 ≤ length bytes → e ≡ 8192 → IsPartialHead (take e bytes) → IsItem bytes (faulty fault.HeadLong) []
long_item bytes e full all begun =
    fault_item bytes fault.HeadLong (omega arith) (head_long bytes [] full (subst (λ (n : ℕ). IsPartialHead (take n bytes)) all begun))

pub cut_item : (bytes : List ℕ) (e : ℕ) → 0 < length bytes → length bytes < 8192 → e ≡ length bytes → IsPartialHead (take e bytes)
    → IsItem bytes (faulty fault.Cut) []
cut_item bytes e some small all begun =
    (refl, some, inl (cut_short bytes bytes [] e 0 all small (sym (append-nil bytes)) refl refl begun))

-- a fault after a whole head
pub failed_item : (bytes : List ℕ) (headers : List HeaderSpan) (spans : RequestSpans) (f : FrameFault)
    → IsHeadIn bytes headers (found.Whole spans)
    → ((h : RequestHead) → IsRequestAt bytes headers spans h → Err f ≡ body_length_of h) → IsItem bytes (faulty f) []
failed_item bytes headers spans f here bad =
    subst (λ (t : List ℕ). IsItem t (faulty f) []) (append-nil bytes)
    (fault_of bytes [] headers spans here.1.0 f here.0 here.1.1 here.1.2
    (subst (λ (r : Result ℕ FrameFault). IsBodyFault (drop spans.len bytes ++ []) r f) (bad here.1.0 here.1.1) refl))

pub short_item : (bytes : List ℕ) (headers : List HeaderSpan) (spans : RequestSpans) (n : ℕ)
    → IsHeadIn bytes headers (found.Whole spans)
    → ((h : RequestHead) → IsRequestAt bytes headers spans h → Ok n ≡ body_length_of h)
    → length bytes < spans.len + n → IsItem bytes (faulty fault.Cut) []
short_item bytes headers spans n here good short =
    let left : length (drop spans.len bytes ++ []) < n =
    omega (arith, short, length-append (drop spans.len bytes) [], length-drop spans.len bytes, here.0.section.len_fits) in
    subst (λ (t : List ℕ). IsItem t (faulty fault.Cut) []) (append-nil bytes)
    (fault_of bytes [] headers spans here.1.0 fault.Cut here.0 here.1.1 here.1.2
    (subst (λ (r : Result ℕ FrameFault). IsBodyFault (drop spans.len bytes ++ []) r fault.Cut) (good here.1.0 here.1.1) (refl, left)))

pub request_in : (bytes : List ℕ) (headers : List HeaderSpan) (spans : RequestSpans) (n : ℕ)
    → IsHeadIn bytes headers (found.Whole spans)
    → ((h : RequestHead) → IsRequestAt bytes headers spans h → Ok n ≡ body_length_of h)
    → spans.len + n ≤ length bytes → IsRequestIn bytes headers spans n
request_in bytes headers spans n here good fits =
    (here.0, (here.1.0, here.1.1, here.1.2, sym (good here.1.0 here.1.1)), fits)

pub request_front : (bytes : List ℕ) (headers : List HeaderSpan) (spans : RequestSpans) (n : ℕ)
    → IsRequestIn bytes headers spans n → IsNextOf bytes (front.Request spans n)
request_front bytes headers spans n is =
    let there : IfSome (prepend_known bytes (Some [])) (λ s. IsNextOf s (front.Request spans n)) = request_of_stream bytes (Some []) headers spans n is in
    subst (λ (t : List ℕ). IsNextOf t (front.Request spans n)) (append-nil bytes) there

-- ---- the list of items

-- these items come before the rest, and the items of the rest follow them
pub record Begins (bytes rest : List ℕ) (count : ℕ) : Type 0 where
  pub before : List Item
  pub many : length before ≡ count
  pub goes_on : (items : List Item) → AreItems rest items → AreItems bytes (before ++ items)

pub begins : (bytes : List ℕ) → Begins bytes bytes 0
begins bytes = record { before = []; many = refl; goes_on = λ items are. are }

pub begins_more : (bytes rest after : List ℕ) (count : ℕ) (item : Item) → Begins bytes rest count → IsItem rest item after → is_last item ≡ false
    → Begins bytes after (count + 1)
begins_more bytes rest after count item begun is more = record {
  before = begun.before ++ item ∷ [];
  many = omega (arith, length-append begun.before (item ∷ []), begun.many);
  goes_on = λ items are. subst (λ (t : List Item). AreItems bytes t) (sym (append_assoc begun.before (item ∷ []) items))
      (begun.goes_on (item ∷ items) (after, is, (λ last. absurd (cc)), (λ e. are)));
}

abbrev pub HasItems : List ℕ → ℕ → Type 0
HasItems bytes count = (items : List Item) × AreItems bytes items × (length items ≡ count)

pub ends_here : (bytes rest : List ℕ) (count : ℕ) → Begins bytes rest count → rest ≡ [] → HasItems bytes count
ends_here bytes rest count begun none =
    (begun.before ++ [], begun.goes_on [] none, omega (arith, length-append begun.before [], begun.many))

pub ends_last : (bytes rest after : List ℕ) (count : ℕ) (item : Item) → Begins bytes rest count → IsItem rest item after → is_last item ≡ true
    → HasItems bytes (count + 1)
ends_last bytes rest after count item begun is last = (
  begun.before ++ item ∷ [],
  begun.goes_on (item ∷ []) (after, is, (λ e. refl), (λ e. absurd (cc))),
  omega (arith, length-append begun.before (item ∷ []), begun.many),
)

-- the request in the bytes, with the head at the spans
pub request_item : (bytes : List ℕ) (headers : List HeaderSpan) (spans : RequestSpans) (n : ℕ) → (is : IsRequestIn bytes headers spans n)
    → IsItem bytes (request is.1.0 (take n (drop spans.len bytes))) (drop (spans.len + n) bytes)
request_item bytes headers spans n is =
    let item = request is.1.0 (take n (drop spans.len bytes)) in
    let there = request_of bytes [] headers spans n is in
    subst (λ (t : List ℕ). IsItem t item (drop (spans.len + n) bytes)) (append-nil bytes)
    (subst (λ (t : List ℕ). IsItem (bytes ++ []) item t) (append-nil (drop (spans.len + n) bytes)) there)

-- a request takes at least one byte
pub request_shortens : (bytes : List ℕ) (headers : List HeaderSpan) (spans : RequestSpans) (n : ℕ) → IsRequestIn bytes headers spans n
    → length (drop (spans.len + n) bytes) < length bytes
request_shortens bytes headers spans n is =
    omega (arith, length-drop (spans.len + n) bytes, head_bytes is.1.0 is.1.1.reads.0, is.1.1.len, is.2)

-- the rest after a request that is not the last, as the code computes it
pub next_begins : (bytes rest : List ℕ) (headers : List HeaderSpan) (spans : RequestSpans) (n count : ℕ)
    → Begins bytes rest count × (count + length rest ≤ length bytes) → (is : IsRequestIn rest headers spans n) → wants_close is.1.0 ≡ false
    → Begins bytes (take (length rest - (spans.len + n)) (drop (spans.len + n) rest)) (count + 1)
    × (count + 1 + length (take (length rest - (spans.len + n)) (drop (spans.len + n) rest)) ≤ length bytes)
next_begins bytes rest headers spans n count begun is more =
    let k = spans.len + n in
    let same : take (length rest - k) (drop k rest) ≡ drop k rest = take_all (length rest - k) (drop k rest) (omega (arith, length-drop k rest)) in
    rw same (
      begins_more bytes rest (drop k rest) count (request is.1.0 (take n (drop spans.len rest))) begun.0 (request_item rest headers spans n is) more,
      omega (arith, begun.1, request_shortens rest headers spans n is),
    )
