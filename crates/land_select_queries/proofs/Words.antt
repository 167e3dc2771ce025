-- The words and numbers in the cells of a row, by their contents.
use Rattle.std.proofs.Common.{◌≡◌, ◌⊎◌, inl, inr, ℕ, List, codes, bytes_eq, Bool, true, false, if◌then◌else◌, Result, Ok, Err, refl, sym, ap, ◌∙◌}
use Rattle.std.proofs.lemmas.Slice.Eq.{bytes_eq-Decides}
use Rattle.land_core.specs.Numbers.{is_number}
use Rattle.land_core.specs.Words.{right_word, role_word, state_word}
use Rattle.land_core.specs.declared.mutation.MutationState.{MutationState}
use Rattle.land_core.specs.declared.mutation.MutationState.TheVariants as state
use Rattle.land_core.specs.declared.role.Role.{Role}
use Rattle.land_core.specs.declared.role.Role.TheVariants as role
use Rattle.land_core.specs.declared.rrr.Class.{Class}
use Rattle.land_core.specs.declared.rrr.Class.TheVariants as class
use Rattle.land_core.specs.declared.rrr.RightType.{RightType}
use Rattle.land_core.specs.declared.rrr.RightType.TheVariants as right
use Rattle.land_tables_rows.proofs.CellReadings.{text_is}
use Rattle.land_tables_rows.proofs.Stepping.{same_value, stepped}
use Rattle.land_tables_rows.specs.Reading.Cells.{number_if, natural_in, null_in, number_in, text_in, amount_in, currency_in, share_in}
use Rattle.land_tables_rows.specs.Reading.Words.{entry_class_of, class_word_in, role_in, state_in, mutation_state_of}
use Rattle.land_tables_rows.specs.Rrr.Cells.{class_column_word}
use Rattle.land_tables_rows.specs.Rrr.Reading.{burden_in, class_by, mortgage_in, no_mortgage_in, no_right_in, right_in}
use Rattle.land_tables_rows.specs.declared.reading.words.ClassWord.{ClassWord}
use Rattle.land_tables_rows.specs.declared.reading.words.ClassWord.TheVariants as word
use Rattle.land_wire_json.specs.Bodies.WireFaults.{◌>>=◌}
use Rattle.land_wire_json.specs.Bodies.Words as body
use Rattle.land_wire_json.specs.declared.bodies.wire_fault.WireFault.{WireFault}
use Rattle.land_wire_json.specs.declared.bodies.wire_fault.WireFault.TheVariants as fault
use Rattle.sqlite_value.specs.Order.{Row, column}
use Rattle.sqlite_value.specs.declared.value.Value.{Value}
use Rattle.sqlite_value.specs.declared.value.Value.TheVariants.{Text}

-- a decoded number is within its limits
within : (b : Bool) (m n : ℕ) → b ≡ is_number m → ◌≡◌ {A = Result ℕ WireFault} (if b then Ok m else Err fault.Number) (Ok n) → is_number n ≡ true
within true m n is e = ap is_number (sym (same_value m n e)) ∙ sym is
within false m n is e = let none : ⊥ = cc in absurd none

pub in_range : (c : Value) (n : ℕ) → number_in c ≡ Ok n → is_number n ≡ true
unfolding number_in
in_range c n e =
    let h = stepped (natural_in c) (number_if is_number) n e in
    within (is_number h.given) h.given n refl h.rest

-- ---- words

-- a word that is compared
tried : {X : Type 0} (b : Bool) (w t : List ℕ) (x y : X) (rest : Result X WireFault) → bytes_eq w t ≡ b → (if b then Ok x else rest) ≡ Ok y → ((w ≡ t) × (x ≡ y)) ⊎ (rest ≡ Ok y)
tried true w t x y rest is e = inl ((bytes_eq-Decides w t).0 is, same_value x y e)
tried false w t x y rest is e = inr e

-- the next words are compared if it is not this one
or_else : {X : Type 0} (wording : X → List ℕ) (w t : List ℕ) (x y : X) (rest : Result X WireFault) → t ≡ wording x → (rest ≡ Ok y → w ≡ wording y) → (if bytes_eq w t then Ok x else rest) ≡ Ok y
    → w ≡ wording y
or_else wording w t x y rest is later e = elim (tried (bytes_eq w t) w t x y rest refl e) [
  | inl h ↦ h.0 ∙ is ∙ ap wording h.1
  | inr h ↦ later h
]

no_word : {X : Type 0} (wording : X → List ℕ) (w : List ℕ) (y : X) → ◌≡◌ {A = Result X WireFault} (Err fault.Text) (Ok y) → w ≡ wording y
no_word wording w y e = let none : ⊥ = cc in absurd none

no_role : (w : List ℕ) (r : Role) → ◌≡◌ {A = Result Role WireFault} (Err fault.Role) (Ok r) → w ≡ role_word r
no_role w r e = let none : ⊥ = cc in absurd none

pub state_word_is : (w : List ℕ) (s : MutationState) → mutation_state_of w ≡ Ok s → w ≡ state_word s
state_word_is w s e =
    or_else state_word w (codes "lodged") state.Lodged s _ refl
    (or_else state_word w (codes "approved") state.Approved s _ refl
    (or_else state_word w (codes "refused") state.Refused s _ refl (no_word state_word w s))) e

type_word_is : (w : List ℕ) (t : RightType) → body.right_type_of w ≡ Ok t → w ≡ right_word t
type_word_is w t e =
    or_else right_word w (codes "ownership") right.Ownership t _ refl
    (or_else right_word w (codes "lease") right.Lease t _ refl
    (or_else right_word w (codes "usufruct") right.Usufruct t _ refl (no_word right_word w t))) e

right_word_is : (w : List ℕ) (c : ClassWord) → (body.right_type_of w >>= λ type. Ok (word.Right type)) ≡ Ok c → w ≡ class_column_word c
right_word_is w c e =
    let h = stepped (body.right_type_of w) (λ type. Ok (word.Right type)) c e in
    type_word_is w h.given h.is ∙ ap class_column_word (same_value (word.Right h.given) c h.rest)

pub class_word_is : (w : List ℕ) (c : ClassWord) → entry_class_of w ≡ Ok c → w ≡ class_column_word c
class_word_is w c e =
    or_else class_column_word w (codes "restriction") word.Restriction c _ refl
    (or_else class_column_word w (codes "responsibility") word.Responsibility c _ refl
    (or_else class_column_word w (codes "mortgage") word.Mortgage c _ refl (right_word_is w c))) e

role_word_is : (w : List ℕ) (r : Role) → body.role_of w ≡ Ok r → w ≡ role_word r
role_word_is w r e =
    or_else role_word w (codes "citizen") role.Citizen r _ refl
    (or_else role_word w (codes "conveyancer") role.Conveyancer r _ refl
    (or_else role_word w (codes "notary") role.Notary r _ refl
    (or_else role_word w (codes "bank") role.Bank r _ refl
    (or_else role_word w (codes "certifiedSurveyor") role.CertifiedSurveyor r _ refl
    (or_else role_word w (codes "stateAdministrator") role.StateAdministrator r _ refl (no_role w r)))))) e

pub role_cell : (c : Value) (r : Role) → role_in c ≡ Ok r → c ≡ Text (role_word r)
unfolding role_in
role_cell c r e =
    let h = stepped (text_in c) body.role_of r e in
    text_is c h.given h.is ∙ ap Text (role_word_is h.given r h.rest)

pub state_cell : (c : Value) (s : MutationState) → state_in c ≡ Ok s → c ≡ Text (state_word s)
unfolding state_in
state_cell c s e =
    let h = stepped (text_in c) mutation_state_of s e in
    text_is c h.given h.is ∙ ap Text (state_word_is h.given s h.rest)

class_cell : (c : Value) (which : ClassWord) → class_word_in c ≡ Ok which → c ≡ Text (class_column_word which)
unfolding class_word_in
class_cell c which e =
    let h = stepped (text_in c) entry_class_of which e in
    text_is c h.given h.is ∙ ap Text (class_word_is h.given which h.rest)

-- ---- the class of an entry

-- the word of a class
abbrev pub which_of : Class → ClassWord
which_of (class.Right type share) = word.Right type
which_of (class.Restriction words) = word.Restriction
which_of (class.Responsibility words) = word.Responsibility
which_of (class.Mortgage amount currency rank) = word.Mortgage

abbrev pub entry_word : Class → List ℕ
entry_word class = class_column_word (which_of class)

which_is : (which : ClassWord) (row : Row) (said : Class) → class_by which row ≡ Ok said → which ≡ which_of said
unfolding right_in mortgage_in
which_is (word.Right type) row said e =
    let a = stepped (share_in (column row 4) (column row 5)) _ said e in
    let b = stepped (no_mortgage_in row) _ said a.rest in
    let c = stepped (null_in (column row 9)) _ said b.rest in
    ap which_of (same_value _ said c.rest)
which_is word.Restriction row said e =
    let a = stepped (burden_in row) _ said e in
    ap which_of (same_value _ said a.rest)
which_is word.Responsibility row said e =
    let a = stepped (burden_in row) _ said e in
    ap which_of (same_value _ said a.rest)
which_is word.Mortgage row said e =
    let a = stepped (no_right_in row) _ said e in
    let b = stepped (amount_in (column row 6)) _ said a.rest in
    let c = stepped (currency_in (column row 7)) _ said b.rest in
    let d = stepped (natural_in (column row 8)) _ said c.rest in
    let f = stepped (null_in (column row 9)) _ said d.rest in
    ap which_of (same_value _ said f.rest)

pub entry_cell : (c : Value) (which : ClassWord) (row : Row) (said : Class) → class_word_in c ≡ Ok which → class_by which row ≡ Ok said → c ≡ Text (entry_word said)
entry_cell c which row said e f = class_cell c which e ∙ ap (λ w. Text (class_column_word w)) (which_is which row said f)
