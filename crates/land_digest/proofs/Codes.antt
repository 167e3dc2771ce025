-- Equal texts have equal events. A decoder reads one field, and returns the rest of the text.
use Rattle.std.proofs.Common.{◌≡◌, ◌≢◌, ℕ, zero, suc, pred, ◌+◌, ◌-◌, ◌<◌, ℤ, pos, negsuc, Bool, true, false}
use Rattle.std.proofs.Common.{cond, ◌&&◌, List, [], ◌∷◌, ◌++◌, flat_map, length, take, drop, map as map_list}
use Rattle.std.proofs.Common.{Option, Some, None, nat_eq, leb, refl, sym, ap, ap₂, ◌∙◌, append_assoc, arith}
use Rattle.std.specs.List.{AllByRecursion}
use Rattle.std.specs.Int.Digits.{digits_of, number_from_digits}
use Rattle.std.proofs.lemmas.Int.Digits.{all_below_base_digits_of, number_digits_of}
use Rattle.std.proofs.lemmas.Bool.Decides.{nat_tests}
use Rattle.std.proofs.lemmas.Bool.{false≢true}
use Rattle.land_digest.specs.Fields.{Field, Number, Text, Absent, digits, field_text, fields_line}
use Rattle.land_digest.specs.Events.{Event, event_fields, event_line, events_text}

-- ---- the bytes up to the first that fails a test, and the rest

abbrev front : (ℕ → Bool) → List ℕ → List ℕ
front p [] = []
front p (x ∷ xs) = cond (p x) (x ∷ front p xs) []

abbrev after : (ℕ → Bool) → List ℕ → List ℕ
after p [] = []
after p (x ∷ xs) = cond (p x) (after p xs) (x ∷ xs)

abbrev Passes : (ℕ → Bool) → List ℕ → Type 0
Passes p xs = AllByRecursion (λ x. p x ≡ true) xs

front_is : (p : ℕ → Bool) (xs : List ℕ) (d : ℕ) (s : List ℕ) → Passes p xs → p d ≡ false
    → front p (xs ++ d ∷ s) ≡ xs
front_is p [] d s all stop = ap (λ b. cond b (d ∷ front p s) []) stop
front_is p (x ∷ xs) d s all stop = ap (λ b. cond b (x ∷ front p (xs ++ d ∷ s)) []) all.0
    ∙ ap (λ l. x ∷ l) (front_is p xs d s all.1 stop)

after_is : (p : ℕ → Bool) (xs : List ℕ) (d : ℕ) (s : List ℕ) → Passes p xs → p d ≡ false
    → after p (xs ++ d ∷ s) ≡ d ∷ s
after_is p [] d s all stop = ap (λ b. cond b (after p s) (d ∷ s)) stop
after_is p (x ∷ xs) d s all stop = ap (λ b. cond b (after p (xs ++ d ∷ s)) (x ∷ xs ++ d ∷ s)) all.0
    ∙ after_is p xs d s all.1 stop

-- ---- digits

abbrev is_digit : ℕ → Bool
is_digit c = leb 48 c && leb c 57

-- the number that digits denote
abbrev value : List ℕ → ℕ
value cs = number_from_digits 10 (map_list (λ c. c - 48) cs)

back : (ds : List ℕ) → map_list (λ c. c - 48) (map_list (λ d. 48 + d) ds) ≡ ds
back [] = refl
back (d ∷ ds) = let e : (48 + d) - 48 ≡ d = omega arith in ap₂ (λ x xs. x ∷ xs) e (back ds)

small : (d : ℕ) → d < 10 → is_digit (48 + d) ≡ true
small d h = grind (arith, nat_tests)

all_small : (ds : List ℕ) → AllByRecursion (λ d. d < 10) ds → Passes is_digit (map_list (λ d. 48 + d) ds)
all_small [] all = tt
all_small (d ∷ ds) all = (small d all.0, all_small ds all.1)

digits_pass : (n : ℕ) → Passes is_digit (digits n)
digits_pass n =
    elim (nat_eq n 0) as (λ b. Passes is_digit (cond b (48 ∷ []) (map_list (λ d. 48 + d) (digits_of 10 n)))) [
      | true ↦ (refl, tt)
      | false ↦ all_small (digits_of 10 n) (all_below_base_digits_of 10 n (omega arith))
    ]

zero_from : (n : ℕ) → nat_eq n 0 ≡ true → 0 ≡ n
zero_from n h = grind (arith, nat_tests)

value_digits : (n : ℕ) → value (digits n) ≡ n
value_digits n = go (nat_eq n 0) refl
  where
    go : (b : Bool) → nat_eq n 0 ≡ b → value (cond b (48 ∷ []) (map_list (λ d. 48 + d) (digits_of 10 n))) ≡ n
    go true h = zero_from n h
    go false h = ap (number_from_digits 10) (back (digits_of 10 n)) ∙ number_digits_of 10 n (omega arith)

-- ---- the decoder returns the field that was written

-- decodes a field by the first byte that is not a digit, given the number before that byte
abbrev read_marked : (before : ℕ) → (rest : List ℕ) → Option (Field × List ℕ)
read_marked n [] = None
read_marked n (d ∷ rest) =
    cond (nat_eq d 59) (Some (Number (pos n), rest))
    (cond (nat_eq d 58) (Some (Text (take n rest), drop n rest))
    (cond (nat_eq d 126) (Some (Absent, rest))
    (cond (nat_eq d 45)
    (Some (Number (negsuc (pred (value (front is_digit rest)))), drop 1 (after is_digit rest)))
    None)))

abbrev read_field : List ℕ → Option (Field × List ℕ)
read_field xs = read_marked (value (front is_digit xs)) (after is_digit xs)

take_all_of : {X : Type 0} (xs ys : List X) → take (length xs) (xs ++ ys) ≡ xs
take_all_of [] ys = refl
take_all_of (x ∷ xs) ys = ap (λ l. x ∷ l) (take_all_of xs ys)

drop_all_of : {X : Type 0} (xs ys : List X) → drop (length xs) (xs ++ ys) ≡ ys
drop_all_of [] ys = refl
drop_all_of (x ∷ xs) ys = drop_all_of xs ys

marked : (n d : ℕ) (s : List ℕ) → is_digit d ≡ false → read_field (digits n ++ d ∷ s) ≡ read_marked n (d ∷ s)
marked n d s stop =
    ap₂ (λ k l. read_marked (value k) l) (front_is is_digit (digits n) d s (digits_pass n) stop)
    (after_is is_digit (digits n) d s (digits_pass n) stop)
    ∙ ap (λ k. read_marked k (d ∷ s)) (value_digits n)

reads : (f : Field) (s : List ℕ) → read_field (field_text f ++ s) ≡ Some (f, s)
reads (Number (pos n)) s = ap read_field (append_assoc (digits n) (59 ∷ []) s) ∙ marked n 59 s refl ∙ done
  where
    done : read_marked n (59 ∷ s) ≡ Some (Number (pos n), s)
    done = refl
reads (Number (negsuc n)) s = done
  where
    same : digits (suc n) ++ 59 ∷ [] ++ s ≡ digits (suc n) ++ 59 ∷ s
    same = append_assoc (digits (suc n)) (59 ∷ []) s

    rest : (l : List ℕ) → l ≡ digits (suc n) ++ 59 ∷ s → (value (front is_digit l) ≡ suc n)
        × (after is_digit l ≡ 59 ∷ s)
    rest l e = (
      ap (λ l. value (front is_digit l)) e
          ∙ ap value (front_is is_digit (digits (suc n)) 59 s (digits_pass (suc n)) refl)
          ∙ value_digits (suc n),
      ap (after is_digit) e ∙ after_is is_digit (digits (suc n)) 59 s (digits_pass (suc n)) refl,
    )

    done : read_field (45 ∷ (digits (suc n) ++ 59 ∷ []) ++ s) ≡ Some (Number (negsuc n), s)
    done = let r = rest ((digits (suc n) ++ 59 ∷ []) ++ s) same in
        ap₂ (λ k l. Some (Number (negsuc (pred k)), drop 1 l)) r.0 r.1
reads (Text bytes) s = ap read_field (append_assoc (digits (length bytes)) (58 ∷ bytes) s)
    ∙ marked (length bytes) 58 (bytes ++ s) refl ∙ done
  where
    done : read_marked (length bytes) (58 ∷ (bytes ++ s)) ≡ Some (Text bytes, s)
    done = ap₂ (λ k l. Some (Text k, l)) (take_all_of bytes s) (drop_all_of bytes s)
reads Absent s = done
  where
    done : read_field (126 ∷ s) ≡ Some (Absent, s)
    done = refl

ends_no_field : (s : List ℕ) → read_field (10 ∷ s) ≡ None
ends_no_field s = refl

-- ---- equal texts, with any rest, have equal fields

abbrev IsCode : {A : Type 0} → (A → List ℕ) → Type 0
IsCode {A} write = (a b : A) (s t : List ℕ) → write a ++ s ≡ write b ++ t → (a ≡ b) × (s ≡ t)

abbrev found : Option (Field × List ℕ) → Field × List ℕ
found None = (Absent, [])
found (Some p) = p

abbrev is_found : Option (Field × List ℕ) → Bool
is_found None = false
is_found (Some p) = true

field_code : IsCode field_text
field_code a b s t e =
    let both : Some (a, s) ≡ Some (b, t) = sym (reads a s) ∙ ap read_field e ∙ reads b t in
    (ap (λ o. (found o).0) both, ap (λ o. (found o).1) both)

field_starts : (f : Field) (s t : List ℕ) → field_text f ++ s ≢ 10 ∷ t
field_starts f s t e = false≢true (ap is_found (sym (ends_no_field t) ∙ ap read_field (sym e) ∙ reads f s))

fields_code : IsCode fields_line
fields_code [] [] s t e = (refl, ap (drop 1) e)
fields_code [] (f ∷ fs) s t e =
    absurd (field_starts f ((flat_map field_text fs ++ 10 ∷ []) ++ t) s
    (sym (e ∙ (ap (λ l. l ++ t) (append_assoc (field_text f) (flat_map field_text fs) (10 ∷ [])))
    ∙ append_assoc (field_text f) (fields_line fs) t)))
fields_code (f ∷ fs) [] s t e =
    absurd (field_starts f ((flat_map field_text fs ++ 10 ∷ []) ++ s) t
    (sym ((ap (λ l. l ++ s) (append_assoc (field_text f) (flat_map field_text fs) (10 ∷ [])))
    ∙ append_assoc (field_text f) (fields_line fs) s) ∙ e))
fields_code (f ∷ fs) (g ∷ gs) s t e =
    let whole : field_text f ++ (fields_line fs ++ s) ≡ field_text g ++ (fields_line gs ++ t) =
    sym (ap (λ l. l ++ s) (append_assoc (field_text f) (flat_map field_text fs) (10 ∷ []))
    ∙ append_assoc (field_text f) (fields_line fs) s)
    ∙ e ∙ (ap (λ l. l ++ t) (append_assoc (field_text g) (flat_map field_text gs) (10 ∷ []))
    ∙ append_assoc (field_text g) (fields_line gs) t) in
    let first = field_code f g (fields_line fs ++ s) (fields_line gs ++ t) whole in
    let rest = fields_code fs gs s t first.1 in
    (ap₂ (λ x xs. x ∷ xs) first.0 rest.0, rest.1)

-- ---- lines of events

abbrev nat_of : Field → ℕ
nat_of (Number (pos n)) = n
nat_of (Number (negsuc n)) = 0
nat_of (Text bytes) = 0
nat_of Absent = 0

abbrev int_of : Field → ℤ
int_of (Number z) = z
int_of (Text bytes) = pos 0
int_of Absent = pos 0

abbrev nth : ℕ → List Field → Field
nth n [] = Absent
nth zero (f ∷ fs) = f
nth (suc n) (f ∷ fs) = nth n fs

abbrev read_event : List Field → Event
read_event fs =
    record {
      stamp = int_of (nth 0 fs);
      ends = nat_of (nth 1 fs);
      table = nat_of (nth 2 fs);
      first =
          nat_of (nth 3 fs);
      second = nat_of (nth 4 fs);
      values = drop 5 fs;
    }

event_reads : (e : Event) → read_event (event_fields e) ≡ e
event_reads e = refl

event_code : IsCode event_line
event_code a b s t e =
    let rest = fields_code (event_fields a) (event_fields b) s t e in
    (ap read_event rest.0, rest.1)

event_line_is_some : (a : Event) (s : List ℕ) → [] ≢ event_line a ++ s
event_line_is_some a s e =
    let whole =
    ap (λ l. l ++ s)
    (append_assoc (field_text (Number a.stamp)) (flat_map field_text (drop 1 (event_fields a))) (10 ∷ []))
    ∙ append_assoc (field_text (Number a.stamp)) (fields_line (drop 1 (event_fields a))) s in
    false≢true
    (ap is_found (sym nothing ∙ ap read_field (e ∙ whole)
    ∙ reads (Number a.stamp) (fields_line (drop 1 (event_fields a)) ++ s)))
  where
    nothing : read_field [] ≡ None
    nothing = refl

pub same_events : (ks ls : List Event) → events_text ks ≡ events_text ls → ks ≡ ls
same_events [] [] e = refl
same_events [] (l ∷ ls) e = absurd (event_line_is_some l (events_text ls) e)
same_events (k ∷ ks) [] e = absurd (event_line_is_some k (events_text ks) (sym e))
same_events (k ∷ ks) (l ∷ ls) e =
    let first = event_code k l (events_text ks) (events_text ls) e in
    ap₂ (λ x xs. x ∷ xs) first.0 (same_events ks ls first.1)
