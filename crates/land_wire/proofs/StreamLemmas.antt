-- Lemmas on the window of a stream, and on the number of fields in it.
use Rattle.std.proofs.Common.{◌≡◌, ℕ, ◌-◌, ◌*◌, ◌<◌, ◌≤◌, suc, zero, List, [], ◌∷◌, ◌++◌, length, take, drop, refl, sym, ap, ◌∙◌, subst, arith, append-nil, length-drop, length-append, length-take, Option, Some, None, IfSome}
use Rattle.std.specs.Prelude.{map}
use Rattle.httparse.specs.Spans.{IsWithin, IsHeaderWithin, IsRequestWithin, IsRequestAt, span_bytes, header_bytes}
use Rattle.httparse.specs.declared.spans.Span.{Span}
use Rattle.httparse.specs.declared.spans.HeaderSpan.{HeaderSpan}
use Rattle.httparse.specs.declared.spans.RequestSpans.{RequestSpans}
use Rattle.land_wire.specs.declared.framing.head.HeadParse.TheVariants as look
use Rattle.land_wire.specs.Framing.Stream.{IsHeadParse}
use Rattle.std.specs.List.{flat_map, AllByRecursion}
use Rattle.std.specs.Io.KnownBytes.{IsAtEnd, prepend_known}
use Rattle.std.proofs.lemmas.List.Elements.{recursion_from_All}
use Rattle.std.proofs.lemmas.List.{take-append-drop, take-append-le, take-take, take_all}
use Rattle.httparse.specs.Grammar.{Field, IsField, LineEnd, crlf, lf, print_end, print_field, RequestHead, IsRequestHead, print_request, ReadsRequest}
use Rattle.httparse.proofs.GrammarLemmas.{ReadsRequest-append}
use Rattle.land_wire.specs.Framing.Stream.{field_room, window, IsPartialHead, IsInvalidHead, IsHeadFault, IsHeadIn}
use Rattle.land_wire.proofs.TargetLemmas.{never_goes_on}
use Rattle.land_wire.specs.declared.framing.head.HeadResult.TheVariants as found
use Rattle.land_wire.specs.declared.framing.frame_fault.FrameFault.TheVariants as fault

pub at_any : (items : List ℕ) (known : Option (List ℕ)) (P : List ℕ → Type 0)
    → ((rest : List ℕ) → P (items ++ rest)) → IfSome (prepend_known items known) P
at_any items None P h = tt
at_any items (Some rest) P h = h rest

pub at_end : (items : List ℕ) (known : Option (List ℕ)) (P : List ℕ → Type 0) → IsAtEnd known
    → P items → IfSome (prepend_known items known) P
at_end items None P e h = tt
at_end items (Some rest) P e h = rw (e, append-nil items) h

drop_front : (front more : List ℕ) (n : ℕ) → n ≤ length front → drop n (front ++ more) ≡ drop n front ++ more
drop_front front more zero fits = refl
drop_front [] more (suc n) fits = absurd (omega arith)
drop_front (x ∷ front) more (suc n) fits = drop_front front more n (omega arith)

-- spans in a prefix cover the same bytes in the whole
slice_front : (front more : List ℕ) (s : Span) (n : ℕ) → n ≤ length front → IsWithin n s
    → span_bytes (front ++ more) s ≡ span_bytes front s
slice_front front more s n fits ok =
    let left : s.end - s.start ≤ length (drop s.start front) = omega (arith, length-drop s.start front, ok.0, ok.1) in
    ap (λ (t : List ℕ). take (s.end - s.start) t) (drop_front front more s.start (omega (arith, ok.0, ok.1)))
    ∙ take-append-le (s.end - s.start) (drop s.start front) more left

headers_front : (front more : List ℕ) (n : ℕ) → n ≤ length front → (hs : List HeaderSpan) → AllByRecursion (IsHeaderWithin n) hs
    → map (header_bytes (front ++ more)) hs ≡ map (header_bytes front) hs
headers_front front more n fits [] ok = refl
headers_front front more n fits (h ∷ hs) ok =
    let name = slice_front front more h.name n fits ok.0.0 in
    let value = slice_front front more h.value n fits ok.0.1 in
    let tails = headers_front front more n fits hs ok.1 in
    λ i. (name i, value i) ∷ tails i

pub within_front : (front more : List ℕ) (headers : List HeaderSpan) (spans : RequestSpans)
    → IsRequestWithin front headers spans → IsRequestWithin (front ++ more) headers spans
within_front front more headers spans ok = record {
  method = ok.method;
  path = ok.path;
  version = ok.version;
  section = record {
    len_fits = omega (arith, length-append front more, ok.section.len_fits);
    count_fits = ok.section.count_fits;
    headers_fit = ok.section.headers_fit;
  };
}

pub at_front : (front more : List ℕ) (headers : List HeaderSpan) (spans : RequestSpans) (h : RequestHead)
    → IsRequestWithin front headers spans → IsRequestAt front headers spans h → IsRequestAt (front ++ more) headers spans h
at_front front more headers spans h ok at =
    let fits = ok.section.len_fits in
    record {
      reads = subst (λ (t : List ℕ). ReadsRequest (front ++ more) h t) (sym (drop_front front more spans.len fits))
          (ReadsRequest-append front h (drop spans.len front) more at.reads);
      len = at.len;
      method = slice_front front more spans.method spans.len fits ok.method ∙ at.method;
      path = slice_front front more spans.path spans.len fits ok.path ∙ at.path;
      version = at.version;
      fields = headers_front front more spans.len fits (take spans.headers headers)
          (recursion_from_All (IsHeaderWithin spans.len) (take spans.headers headers) ok.section.headers_fit) ∙ at.fields;
    }

pub head_in : (items : List ℕ) (e : ℕ) (headers : List HeaderSpan) (spans : RequestSpans) → e ≤ 8192
    → IsHeadParse (take e items) headers (look.Whole spans) → IsHeadIn items headers (found.Whole spans)
head_in items e headers spans small ok =
    let is = take-append-drop e items in
    let fits = ok.0.section.len_fits in
    let bound : spans.len ≤ 8192 = omega (arith, fits, length-take e items) in (
      subst (λ (t : List ℕ). IsRequestWithin t headers spans) is (within_front (take e items) (drop e items) headers spans ok.0),
      (
        ok.1.0,
        subst (λ (t : List ℕ). IsRequestAt t headers spans ok.1.0) is (at_front (take e items) (drop e items) headers spans ok.1.0 ok.0 ok.1.1),
        omega (arith, bound, ok.1.1.len),
      ),
    )

-- the window of the stream extends the window of the buffer
pub window_goes_on : (items rest : List ℕ) (e : ℕ) → e ≤ 8192 → e ≤ length items
    → window (items ++ rest) ≡ take e items ++ drop e (window (items ++ rest))
window_goes_on items rest e small inside =
    let same : take e (window (items ++ rest)) ≡ take e items = take-take e 8192 (items ++ rest) small ∙ take-append-le e items rest inside in
    sym (take-append-drop e (window (items ++ rest))) ∙ ap (λ (t : List ℕ). t ++ drop e (window (items ++ rest))) same

pub never_later : (items rest : List ℕ) (e : ℕ) → e ≤ 8192 → e ≤ length items → IsInvalidHead (take e items)
    → IsInvalidHead (window (items ++ rest))
never_later items rest e small inside never =
    subst IsInvalidHead (sym (window_goes_on items rest e small inside))
    (never_goes_on (take e items) (drop e (window (items ++ rest))) never)

pub window_full : (items rest : List ℕ) → 8192 ≤ length items → window (items ++ rest) ≡ take 8192 items
window_full items rest h = take-append-le 8192 items rest h

pub end_len : (e : LineEnd) → 1 ≤ length (print_end e)
end_len crlf = omega arith
end_len lf = omega arith

pub three_bytes : (f : Field) → IsField f → 3 ≤ length (print_field f)
three_bytes f ok = simp length-append (omega (arith, end_len f.end, ok.name.0))

flat_len : (fs : List Field) → AllByRecursion IsField fs → 3 * length fs ≤ length (flat_map print_field fs)
flat_len [] ok = omega arith
flat_len (f ∷ fs) ok = omega (arith, length-append (print_field f) (flat_map print_field fs), three_bytes f ok.0, flat_len fs ok.1)

pub few_fields : (h : RequestHead) → IsRequestHead h → 3 * length h.fields ≤ length (print_request h)
unfolding print_request
few_fields h ok = simp length-append (omega (arith, flat_len h.fields (recursion_from_All IsField h.fields ok.fields)))

pub no_overflow : (w front rest : List ℕ) (h : RequestHead) (room : ℕ) → w ≡ front ++ rest → length w ≤ 8192
    → ReadsRequest (front ++ 10 ∷ []) h [] → field_room ≤ room → room < length h.fields → ⊥
no_overflow w front rest h room e small reads big over =
    omega (arith, few_fields h reads.0, simp length-append at (ap length e), simp length-append at (ap length reads.1))

pub head_long : (items rest : List ℕ) → 8192 ≤ length items → IsPartialHead (take 8192 items)
    → IsHeadFault (items ++ rest) fault.HeadLong
head_long items rest full begun =
    let same = window_full items rest full in
    (rw same begun, simp length-append (omega arith))

pub cut_short : (items new piece : List ℕ) (e n : ℕ) → e ≡ length items → length items < 8192 → new ≡ items ++ piece
    → length piece ≡ n → n ≡ 0 → IsPartialHead (take e items) → IsHeadFault new fault.Cut
cut_short items new [] e n is small grown none none_read begun =
    let same : new ≡ items = grown ∙ append-nil items in
    let whole : take 8192 items ≡ take e items = take_all 8192 items (omega arith) ∙ sym (take_all e items (omega arith)) in
    rw (same, whole) (begun, small)
cut_short items new (b ∷ piece) e n is small grown none none_read begun = absurd (omega arith)
