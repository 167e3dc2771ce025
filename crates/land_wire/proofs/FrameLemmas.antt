-- The spans of a head determine its length and its connection.
use Rattle.std.proofs.Common.{◌≡◌, ◌≢◌, ℕ, ◌<◌, ◌≤◌, Bool, true, false, cond, List, [], ◌∷◌, length, take, map, refl, sym, ap, ◌∙◌, arith, length-take, Result, Err, codes}
use Rattle.std.specs.Prelude.{nat_lt, if◌then◌else◌}
use Rattle.std.proofs.lemmas.List.{length-map}
use Rattle.httparse.specs.Grammar.{RequestHead}
use Rattle.httparse.specs.Spans.{IsRequestAt, IsRequestWithin, header_bytes}
use Rattle.httparse.specs.declared.spans.HeaderSpan.{HeaderSpan}
use Rattle.httparse.specs.declared.spans.RequestSpans.{RequestSpans}
use Rattle.land_wire.specs.Fields.{values_named}
use Rattle.land_wire.specs.Framing.Frame.{body_length_of, body_length, IsOccurrence}
use Rattle.land_wire.specs.declared.framing.frame_fault.FrameFault.{FrameFault}
use Rattle.land_wire.specs.declared.framing.frame_fault.FrameFault.TheVariants as fault
use Rattle.land_wire.specs.declared.framing.named.Occurrence.{Occurrence}
use Rattle.land_wire.specs.declared.framing.named.Occurrence.TheVariants as occurrence

pub field_count : (bytes : List ℕ) (headers : List HeaderSpan) (spans : RequestSpans) (h : RequestHead)
    → IsRequestWithin bytes headers spans → IsRequestAt bytes headers spans h → length h.fields ≡ spans.headers
field_count bytes headers spans h ok at =
    omega (arith, simp (length-map, length-take) at (ap length at.fields), ok.section.count_fits)

-- the fields at the spans
abbrev pub shown : List ℕ → List HeaderSpan → RequestSpans → List (List ℕ × List ℕ)
shown bytes headers spans = map (header_bytes bytes) (take spans.headers headers)

-- the length, from the count of fields and the values of the two fields
abbrev pub frame_by : ℕ → List (List ℕ) → List (List ℕ) → Result ℕ FrameFault
frame_by count encodings lengths =
    if nat_lt 64 count then Err fault.Head
    else if nat_lt 0 (length encodings) then Err fault.Encoding
    else body_length lengths

pub frame_shown : (bytes : List ℕ) (headers : List HeaderSpan) (spans : RequestSpans) (h : RequestHead)
    → IsRequestWithin bytes headers spans → IsRequestAt bytes headers spans h
    → body_length_of h ≡ frame_by spans.headers (values_named (codes "transfer-encoding") (shown bytes headers spans))
    (values_named (codes "content-length") (shown bytes headers spans))
unfolding body_length_of
frame_shown bytes headers spans h ok at =
    let count = field_count bytes headers spans h ok at in
    let fields = sym at.fields in
    λ i. frame_by (count i) (values_named (codes "transfer-encoding") (fields i)) (values_named (codes "content-length") (fields i))

pub too_many : (count : ℕ) (encodings lengths : List (List ℕ)) → 64 < count → Err fault.Head ≡ frame_by count encodings lengths
too_many count encodings lengths many = by_test (nat_lt 64 count) (grind (arith))
  where
    by_test : (test : Bool) → test ≡ true
        → Err fault.Head ≡ cond test (Err fault.Head) (cond (nat_lt 0 (length encodings)) (Err fault.Encoding) (body_length lengths))
    by_test true e = refl
    by_test false e = absurd (cc)

pub encoded : (count : ℕ) (encodings lengths : List (List ℕ)) → count ≤ 64 → 0 < length encodings
    → Err fault.Encoding ≡ frame_by count encodings lengths
encoded count encodings lengths few some = by_test (nat_lt 64 count) (nat_lt 0 (length encodings)) (grind (arith)) (grind (arith))
  where
    by_test : (many coded : Bool) → many ≡ false → coded ≡ true
        → Err fault.Encoding ≡ cond many (Err fault.Head) (cond coded (Err fault.Encoding) (body_length lengths))
    by_test true coded e f = absurd (cc)
    by_test false true e f = refl
    by_test false false e f = absurd (cc)

pub plain : (count : ℕ) (encodings lengths : List (List ℕ)) → count ≤ 64 → encodings ≡ []
    → body_length lengths ≡ frame_by count encodings lengths
plain count encodings lengths few none = by_test (nat_lt 64 count) (nat_lt 0 (length encodings)) (grind (arith)) (rw none refl)
  where
    by_test : (many coded : Bool) → many ≡ false → coded ≡ false
        → body_length lengths ≡ cond many (Err fault.Head) (cond coded (Err fault.Encoding) (body_length lengths))
    by_test true coded e f = absurd (cc)
    by_test false true e f = absurd (cc)
    by_test false false e f = refl

pub stands : (head : List ℕ) (values : List (List ℕ)) (o : Occurrence) → IsOccurrence head values o → o ≢ occurrence.Absent → 0 < length values
stands head values occurrence.Absent is not_absent = absurd (not_absent refl)
stands head values (occurrence.Once span) is not_absent = rw is.1 (omega arith)
stands head values occurrence.Repeated is not_absent = omega (arith, is)

-- the three cases of the spans of a head
abbrev pub encodings : List ℕ → List HeaderSpan → RequestSpans → List (List ℕ)
encodings bytes headers spans = values_named (codes "transfer-encoding") (shown bytes headers spans)

abbrev pub lengths : List ℕ → List HeaderSpan → RequestSpans → List (List ℕ)
lengths bytes headers spans = values_named (codes "content-length") (shown bytes headers spans)

pub frame_too_many : (bytes : List ℕ) (headers : List HeaderSpan) (spans : RequestSpans) (h : RequestHead)
    → IsRequestWithin bytes headers spans → IsRequestAt bytes headers spans h → 64 < spans.headers → Err fault.Head ≡ body_length_of h
frame_too_many bytes headers spans h ok at many =
    too_many spans.headers (encodings bytes headers spans) (lengths bytes headers spans) many ∙ sym (frame_shown bytes headers spans h ok at)

pub frame_encoded : (bytes : List ℕ) (headers : List HeaderSpan) (spans : RequestSpans) (h : RequestHead) (o : Occurrence)
    → IsRequestWithin bytes headers spans → IsRequestAt bytes headers spans h → spans.headers ≤ 64
    → IsOccurrence bytes (encodings bytes headers spans) o → o ≢ occurrence.Absent → Err fault.Encoding ≡ body_length_of h
frame_encoded bytes headers spans h o ok at few is not_absent =
    encoded spans.headers (encodings bytes headers spans) (lengths bytes headers spans) few (stands bytes (encodings bytes headers spans) o is not_absent)
    ∙ sym (frame_shown bytes headers spans h ok at)

pub frame_plain : (bytes : List ℕ) (headers : List HeaderSpan) (spans : RequestSpans) (h : RequestHead)
    → IsRequestWithin bytes headers spans → IsRequestAt bytes headers spans h → spans.headers ≤ 64
    → encodings bytes headers spans ≡ [] → body_length (lengths bytes headers spans) ≡ body_length_of h
frame_plain bytes headers spans h ok at few none =
    plain spans.headers (encodings bytes headers spans) (lengths bytes headers spans) few none ∙ sym (frame_shown bytes headers spans h ok at)

-- two values are one too many
pub twice : (values : List (List ℕ)) → 1 < length values → Err fault.Head ≡ body_length values
twice [] many = absurd (omega (arith, many))
twice (value ∷ []) many = absurd (omega (arith, many))
twice (value ∷ again ∷ more) many = refl
