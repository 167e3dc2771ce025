-- The scan finds exactly the bytes that end in a target, and bytes that are not a prefix of a head stay so.
use Rattle.std.proofs.Common.{◌≡◌, ℕ, Bool, true, false, ◌==◌, cond, List, [], ◌∷◌, ◌++◌, refl, sym, ap, ◌∙◌, subst, arith, append_assoc, append-nil, inl, inr}
use Rattle.std.specs.Prelude.{◌⊎◌, ◌↔◌}
use Rattle.std.proofs.lemmas.List.Elements.{All-head, All-tail, All-cons, All-nil}
use Rattle.std.proofs.lemmas.Bool.{false≢true, ne_eqb, eqb-true}
use Rattle.std.proofs.lemmas.Str.{IsUtf8-from_ascii}
use Rattle.std.proofs.lemmas.Str.Ascii.{IsAscii-cons, IsAscii-nil}
use Rattle.httparse.proofs.GrammarLemmas.{print_request-append}
use Rattle.httparse.specs.Grammar.{is_token_byte, is_uri_byte, AllPass, IsToken, LineEnd, crlf, lf, print_end, print_blank, print_version, print_section, RequestHead, ReadsRequest, HasNoRequest, NeverHasRequest, EndsInTarget}
use Rattle.land_wire.specs.Framing.Stream.{IsPartialHead, IsInvalidHead}
use Rattle.land_wire.specs.Framing.Target.{scan_state_after}
use Rattle.land_wire.specs.declared.framing.target.ScanState.{ScanState}
use Rattle.land_wire.specs.declared.framing.target.ScanState.TheVariants as place

elsewhere : (bytes : List ℕ) → scan_state_after place.Elsewhere bytes ≡ place.Target → ⊥
elsewhere [] e = cc
elsewhere (b ∷ bytes) e = elsewhere bytes e

target_by : (c : Bool) (bytes : List ℕ) → scan_state_after (cond c place.Target place.Elsewhere) bytes ≡ place.Target
    → (c ≡ true) × (scan_state_after place.Target bytes ≡ place.Target)
target_by true bytes e = (refl, e)
target_by false bytes e = absurd (elsewhere bytes e)

return_by : (c : Bool) (bytes : List ℕ) → scan_state_after (cond c place.Blank place.Elsewhere) bytes ≡ place.Target
    → (c ≡ true) × (scan_state_after place.Blank bytes ≡ place.Target)
return_by true bytes e = (refl, e)
return_by false bytes e = absurd (elsewhere bytes e)

method_by : (c d : Bool) (bytes : List ℕ)
    → scan_state_after (cond c place.Target (cond d place.Method place.Elsewhere)) bytes ≡ place.Target
    → ((c ≡ true) × (scan_state_after place.Target bytes ≡ place.Target)) ⊎ ((d ≡ true) × (scan_state_after place.Method bytes ≡ place.Target))
method_by true d bytes e = inl (refl, e)
method_by false true bytes e = inr (refl, e)
method_by false false bytes e = absurd (elsewhere bytes e)

blank_by : (c d t : Bool) (bytes : List ℕ)
    → scan_state_after (cond c place.Return (cond d place.Blank (cond t place.Method place.Elsewhere))) bytes ≡ place.Target
    → ((c ≡ true) × (scan_state_after place.Return bytes ≡ place.Target))
    ⊎ (((d ≡ true) × (scan_state_after place.Blank bytes ≡ place.Target)) ⊎ ((t ≡ true) × (scan_state_after place.Method bytes ≡ place.Target)))
blank_by true d t bytes e = inl (refl, e)
blank_by false true t bytes e = inr (inl (refl, e))
blank_by false false true bytes e = inr (inr (refl, e))
blank_by false false false bytes e = absurd (elsewhere bytes e)

-- a method, a space and a target up to the end
abbrev MethodThen : List ℕ → Type 0
MethodThen bytes = (m : List ℕ) × (u : List ℕ) × AllPass is_token_byte m × AllPass is_uri_byte u × (bytes ≡ m ++ 32 ∷ u)

-- the bytes that lead from a scan state to a target
abbrev Leads : ScanState → List ℕ → Type 0
Leads place.Blank bytes = EndsInTarget bytes
Leads place.Return bytes = (rest : List ℕ) × (bytes ≡ 10 ∷ rest) × EndsInTarget rest
Leads place.Method bytes = MethodThen bytes
Leads place.Target bytes = AllPass is_uri_byte bytes
Leads place.Elsewhere bytes = ⊥

pub leads : (p : ScanState) (bytes : List ℕ) → scan_state_after p bytes ≡ place.Target → Leads p bytes
leads place.Blank [] e = absurd (cc)
leads place.Return [] e = absurd (cc)
leads place.Method [] e = absurd (cc)
leads place.Target [] e = All-nil _
leads place.Elsewhere [] e = absurd (cc)
leads place.Blank (b ∷ bytes) e = elim (blank_by (b == 13) (b == 10) (is_token_byte b) bytes e) as (λ _. EndsInTarget (b ∷ bytes)) [
  | inl h ↦ let more = leads place.Return bytes h.1 in
      let is = eqb-true b 13 h.0 in
      let there = more.2 in
      (crlf ∷ there.0, there.1, there.2, there.3, there.4, rw (is, more.1) (ap (λ (t : List ℕ). 13 ∷ 10 ∷ t) there.5))
  | inr k ↦ elim k as (λ _. EndsInTarget (b ∷ bytes)) [
    | inl h ↦ let there = leads place.Blank bytes h.1 in
        let is = eqb-true b 10 h.0 in
        (lf ∷ there.0, there.1, there.2, there.3, there.4, rw is (ap (λ (t : List ℕ). 10 ∷ t) there.5))
    | inr h ↦ let there = leads place.Method bytes h.1 in
        ([], b ∷ there.0, there.1, (omega arith, All-cons (λ v. is_token_byte v ≡ true) b there.0 h.0 there.2), there.3, ap (λ (t : List ℕ). b ∷ t) there.4)
  ]
]
leads place.Return (b ∷ bytes) e =
    let h = return_by (b == 10) bytes e in
    (bytes, ap (λ (v : ℕ). v ∷ bytes) (eqb-true b 10 h.0), leads place.Blank bytes h.1)
leads place.Method (b ∷ bytes) e = elim (method_by (b == 32) (is_token_byte b) bytes e) as (λ _. MethodThen (b ∷ bytes)) [
  | inl h ↦ ([], bytes, All-nil _, leads place.Target bytes h.1, ap (λ (v : ℕ). v ∷ bytes) (eqb-true b 32 h.0))
  | inr h ↦ let there = leads place.Method bytes h.1 in
      (b ∷ there.0, there.1, All-cons (λ v. is_token_byte v ≡ true) b there.0 h.0 there.2, there.3, ap (λ (t : List ℕ). b ∷ t) there.4)
]
leads place.Target (b ∷ bytes) e =
    let h = target_by _ bytes e in
    All-cons (λ v. is_uri_byte v ≡ true) b bytes h.0 (leads place.Target bytes h.1)
leads place.Elsewhere (b ∷ bytes) e = absurd (elsewhere bytes e)

token_is_not : (b c : ℕ) → is_token_byte c ≡ false → is_token_byte b ≡ true → (b == c) ≡ false
token_is_not b c fails token =
    ne_eqb b c (λ e. false≢true (sym fails ∙ subst (λ (v : ℕ). is_token_byte v ≡ true) e token))

no_space : is_token_byte 32 ≡ false
unfolding is_token_byte
no_space = refl

no_return : is_token_byte 13 ≡ false
unfolding is_token_byte
no_return = refl

no_feed : is_token_byte 10 ≡ false
unfolding is_token_byte
no_feed = refl

to_target : (u : List ℕ) → AllPass is_uri_byte u → scan_state_after place.Target u ≡ place.Target
to_target [] all = refl
to_target (b ∷ u) all =
    let passes = All-head (λ v. is_uri_byte v ≡ true) b u all in
    subst (λ (c : Bool). scan_state_after (cond c place.Target place.Elsewhere) u ≡ place.Target) (sym passes)
    (to_target u (All-tail (λ v. is_uri_byte v ≡ true) b u all))

method_step : (c d : Bool) (bytes : List ℕ) → c ≡ false → d ≡ true → scan_state_after place.Method bytes ≡ place.Target
    → scan_state_after (cond c place.Target (cond d place.Method place.Elsewhere)) bytes ≡ place.Target
method_step true d bytes e f is = absurd (cc)
method_step false true bytes e f is = is
method_step false false bytes e f is = absurd (cc)

blank_step : (c d t : Bool) (bytes : List ℕ) → c ≡ false → d ≡ false → t ≡ true → scan_state_after place.Method bytes ≡ place.Target
    → scan_state_after (cond c place.Return (cond d place.Blank (cond t place.Method place.Elsewhere))) bytes ≡ place.Target
blank_step true d t bytes e f g is = absurd (cc)
blank_step false true t bytes e f g is = absurd (cc)
blank_step false false true bytes e f g is = is
blank_step false false false bytes e f g is = absurd (cc)

to_method : (m u : List ℕ) → AllPass is_token_byte m → AllPass is_uri_byte u → scan_state_after place.Method (m ++ 32 ∷ u) ≡ place.Target
to_method [] u token all = to_target u all
to_method (b ∷ m) u token all =
    let passes = All-head (λ v. is_token_byte v ≡ true) b m token in
    method_step (b == 32) (is_token_byte b) (m ++ 32 ∷ u) (token_is_not b 32 no_space passes) passes
    (to_method m u (All-tail (λ v. is_token_byte v ≡ true) b m token) all)

to_blank : (es : List LineEnd) (m u : List ℕ) → IsToken m → AllPass is_uri_byte u
    → scan_state_after place.Blank (print_blank es ++ m ++ 32 ∷ u) ≡ place.Target
to_blank [] [] u token all = absurd (omega (arith, token.0))
to_blank [] (b ∷ m) u token all =
    let passes = All-head (λ v. is_token_byte v ≡ true) b m token.1 in
    blank_step (b == 13) (b == 10) (is_token_byte b) (m ++ 32 ∷ u) (token_is_not b 13 no_return passes) (token_is_not b 10 no_feed passes) passes
    (to_method m u (All-tail (λ v. is_token_byte v ≡ true) b m token.1) all)
to_blank (crlf ∷ es) m u token all = to_blank es m u token all
to_blank (lf ∷ es) m u token all = to_blank es m u token all

pub place_is_target : (bytes : List ℕ) → (scan_state_after place.Blank bytes ≡ place.Target) ↔ EndsInTarget bytes
place_is_target bytes = (
  leads place.Blank bytes,
  λ h. subst (λ (t : List ℕ). scan_state_after place.Blank t ≡ place.Target) (sym h.5) (to_blank h.0 h.1 h.2 h.3 h.4),
)

-- ---- facts that hold for any continuation

-- one of two prefixes is a prefix of the other
pub fronts : (a b c d : List ℕ) → a ++ b ≡ c ++ d
    → ((x : List ℕ) × (a ≡ c ++ x) × (d ≡ x ++ b)) ⊎ ((x : List ℕ) × (c ≡ a ++ x))
fronts [] b c d e = inr (c, refl)
fronts (x ∷ a) b [] d e = inl (x ∷ a, refl, sym e)
fronts (x ∷ a) b (y ∷ c) d e =
    let tails : a ++ b ≡ c ++ d = cc in
    let heads : x ≡ y = cc in
    elim (fronts a b c d tails) as (λ _. ((w : List ℕ) × (x ∷ a ≡ y ∷ (c ++ w)) × (d ≡ w ++ b)) ⊎ ((w : List ℕ) × (y ∷ c ≡ x ∷ (a ++ w)))) [
      | inl h ↦ inl (h.0, rw (heads, h.1) refl, h.2)
      | inr h ↦ inr (h.0, rw (heads, h.1) refl)
    ]

all_front : (test : ℕ → Bool) (a b : List ℕ) → AllPass test (a ++ b) → AllPass test a
all_front test [] b all = All-nil _
all_front test (x ∷ a) b all =
    All-cons (λ v. test v ≡ true) x a (All-head (λ v. test v ≡ true) x (a ++ b) all)
    (all_front test a b (All-tail (λ v. test v ≡ true) x (a ++ b) all))

-- a head that begins with these bytes
abbrev some_head : List LineEnd → List ℕ → RequestHead
some_head blank method = record { blank = blank; method = method; target = 47 ∷ []; minor = 0; line_end = lf; fields = []; last = lf }

abbrev some_tail : List ℕ
some_tail = 47 ∷ 32 ∷ (print_version 0 ++ (print_end lf ++ (print_section [] lf ++ [])))

abbrev front_of : List LineEnd → List ℕ → List ℕ
front_of blank method = print_blank blank ++ method ++ 32 ∷ []

front_then : (blank : List LineEnd) (method more : List ℕ)
    → front_of blank method ++ more ≡ print_blank blank ++ method ++ 32 ∷ more
front_then blank method more = append_assoc (print_blank blank ++ method) (32 ∷ []) more

some_reads : (blank : List LineEnd) (method bytes : List ℕ) → IsToken method
    → bytes ≡ front_of blank method ++ some_tail → ReadsRequest bytes (some_head blank method) []
some_reads blank method bytes token is = (
  record {
    method = token;
    target = (omega arith, All-cons (λ v. is_uri_byte v ≡ true) 47 [] refl (All-nil _));
    target_text = IsUtf8-from_ascii _ (IsAscii-cons 47 [] (omega arith) IsAscii-nil);
    minor = omega arith;
    fields = All-nil _;
  },
  is ∙ front_then blank method some_tail ∙ append_assoc (print_blank blank) method (32 ∷ some_tail)
      ∙ sym (print_request-append (some_head blank method) [])
      ∙ append-nil _ ∙ sym (append-nil _),
)

pub stays_out : (b more : List ℕ) → IsInvalidHead b → ¬ (EndsInTarget (b ++ more))
stays_out b more never h =
    elim (fronts b more (front_of h.0 h.1) h.2 (h.5 ∙ sym (front_then h.0 h.1 h.2))) as (λ _. ⊥) [
      | inl k ↦ never.1 (
        h.0,
        h.1,
        k.0,
        h.3,
        all_front is_uri_byte k.0 more (subst (AllPass is_uri_byte) k.2 h.4),
        k.1 ∙ front_then h.0 h.1 k.0,
      )
      | inr k ↦ never.0 (k.0 ++ some_tail) (some_head h.0 h.1) []
          (some_reads h.0 h.1 (b ++ (k.0 ++ some_tail)) h.3 (sym (append_assoc b k.0 some_tail) ∙ ap (λ (t : List ℕ). t ++ some_tail) (sym k.1)))
    ]

-- longer bytes are not a head, and do not end in a target
pub never_goes_on : (b more : List ℕ) → IsInvalidHead b → IsInvalidHead (b ++ more)
never_goes_on b more never = (
  λ later h rest reads. never.0 (more ++ later) h rest (subst (λ (t : List ℕ). ReadsRequest t h rest) (append_assoc b more later) reads),
  stays_out b more never,
)

pub never_none : (b : List ℕ) → NeverHasRequest b → HasNoRequest b
never_none b never h rest reads = never [] h rest (subst (λ (t : List ℕ). ReadsRequest t h rest) (sym (append-nil b)) reads)

pub open_in_target : (b : List ℕ) → NeverHasRequest b → EndsInTarget b → IsPartialHead b
open_in_target b never ends = (never_none b never, inr ends)

-- ---- each text is one of three

pub open_not_never : (b : List ℕ) → IsPartialHead b → IsInvalidHead b → ⊥
open_not_never b begun never = elim begun.1 as (λ _. ⊥) [
  | inl h ↦ never.0 h.0 h.1 [] h.2
  | inr h ↦ never.1 h
]

letter_is_token : is_token_byte 65 ≡ true
unfolding is_token_byte
letter_is_token = refl

-- the empty text may become a head
pub some_request : (more : List ℕ) × (h : RequestHead) × ReadsRequest more h []
some_request = (
  65 ∷ 32 ∷ some_tail,
  some_head [] (65 ∷ []),
  some_reads [] (65 ∷ []) (65 ∷ 32 ∷ some_tail) (omega arith, All-cons (λ v. is_token_byte v ≡ true) 65 [] letter_is_token (All-nil _)) refl,
)

pub never_some : IsInvalidHead [] → ⊥
never_some never = never.0 some_request.0 some_request.1 [] some_request.2
