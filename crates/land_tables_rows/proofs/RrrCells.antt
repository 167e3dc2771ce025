-- Entries decode from their own cells only.
use Rattle.std.proofs.Common.{◌≡◌, ◌&&◌, ◌==◌, ◌^◌, ℕ, ℤ, List, [], ◌∷◌, true, nat_lt, Option, Some, None, Result, Ok, refl, sym, ap, ◌∙◌}
use Rattle.std.specs.Bool.{⊤}
use Rattle.std.proofs.lemmas.Bool.{and_parts}
use Rattle.land_core.specs.Contents.{is_amount, is_currency}
use Rattle.land_core.specs.Numbers.{is_number, IsMoment}
use Rattle.land_core.specs.Texts.{are_words}
use Rattle.land_core.specs.declared.rrr.Class.{Class}
use Rattle.land_core.specs.declared.rrr.Class.TheVariants as class
use Rattle.land_core.specs.declared.rrr.RrrRecord.{RrrRecord}
use Rattle.land_fraction.specs.Laws.{SameFractionLaw}
use Rattle.land_tables_history.specs.declared.version.Version.{Version}
use Rattle.land_tables_rows.proofs.CellReadings.{amount_is, amount_is_read, end_is, ends, kept_is, kept_is_read, moment_is, moment_is_read, natural_is, natural_is_read, never_is_read, null_is, number_is, number_is_read, same_end, same_number, share_is, share_is_read, text_is}
use Rattle.land_tables_rows.proofs.Closings.{IsReadAs, closing}
use Rattle.land_tables_rows.proofs.Stepping.{same_value, stepped}
use Rattle.land_tables_rows.proofs.WordReadings.{class_is_read}
use Rattle.land_tables_rows.specs.Cells.Closable.{is_numbered}
use Rattle.land_tables_rows.specs.Cells.Laws.{RrrCellsDecode, RrrsReadBack}
use Rattle.land_tables_rows.specs.Cells.Texts.{is_storable}
use Rattle.land_tables_rows.specs.Reading.Cells.{amount_in, currency_in, end_in, moment_in, natural_in, null_in, number_in, share_in, text_in, words_in}
use Rattle.land_tables_rows.specs.Reading.Words.{entry_class_of, class_word_in}
use Rattle.land_tables_rows.specs.Rrr.Cells.{IsExactClass, class_column_word, fits_class, rrr_row_of}
use Rattle.land_tables_rows.specs.Rrr.Reading.{burden_in, class_by, mortgage_in, no_mortgage_in, no_right_in, right_in, rrr_in}
use Rattle.land_tables_rows.specs.declared.reading.words.ClassWord.{ClassWord}
use Rattle.land_tables_rows.specs.declared.reading.words.ClassWord.TheVariants as word
use Rattle.land_tables_schema.specs.Rows.Rrr.{RrrRow, is_rrr, rrr_form}
use Rattle.land_tables_schema.specs.Rows.Versions as laid
use Rattle.land_tables_schema.specs.Rows.Versions.{opened_version, never, whole}
use Rattle.land_wire_json.specs.Bodies.WireFaults.{◌>>=◌}
use Rattle.land_wire_json.specs.declared.bodies.wire_fault.WireFault.{WireFault}
use Rattle.sqlite_typed.specs.Columns.{or_null}
use Rattle.sqlite_value.specs.Order.{Row, column}
use Rattle.sqlite_value.specs.declared.value.Value.{Value}
use Rattle.sqlite_value.specs.declared.value.Value.TheVariants.{Null, Int, Text}

-- ---- the columns of a class

abbrev no_right : (num den : Value) → Result ⊤ WireFault
no_right num den = null_in num >>= λ _. null_in den

abbrev no_mortgage : (amount currency place : Value) → Result ⊤ WireFault
no_mortgage amount currency place = null_in amount >>= λ _. null_in currency >>= λ _. null_in place

abbrev no_share : (num den amount currency place : Value) → Value → Result (List ℕ) WireFault
no_share num den amount currency place words = no_right num den >>= λ _. no_mortgage amount currency place >>= λ _. words_in words

abbrev classed : ClassWord → (num den amount currency place words : Value) → Result Class WireFault
classed (word.Right type) num den amount currency place words =
    share_in num den >>= λ share. no_mortgage amount currency place >>= λ _. null_in words >>= λ _. Ok (class.Right type share)
classed word.Restriction num den amount currency place words = no_share num den amount currency place words >>= λ t. Ok (class.Restriction t)
classed word.Responsibility num den amount currency place words = no_share num den amount currency place words >>= λ t. Ok (class.Responsibility t)
classed word.Mortgage num den amount currency place words =
    no_right num den >>= λ _. amount_in amount >>= λ a. currency_in currency >>= λ c. natural_in place >>= λ r. null_in words >>= λ _. Ok (class.Mortgage a c r)

class_by_is : (which : ClassWord) (row : Row) → class_by which row ≡ classed which (column row 4) (column row 5) (column row 6) (column row 7) (column row 8) (column row 9)
unfolding right_in burden_in mortgage_in no_right_in no_mortgage_in
class_by_is (word.Right type) row = refl
class_by_is word.Restriction row = refl
class_by_is word.Responsibility row = refl
class_by_is word.Mortgage row = refl

-- the columns of a class hold numbers and strings, or NULL
record AreWritten (num den amount currency place words : Value) : Type 0 where
  its_num : Option ℕ
  its_den : Option ℕ
  its_amount : Option ℕ
  its_currency : Option (List ℕ)
  its_place : Option ℕ
  its_words : Option (List ℕ)
  is_num : num ≡ or_null whole its_num
  is_den : den ≡ or_null whole its_den
  is_amount : amount ≡ or_null whole its_amount
  is_currency : currency ≡ or_null Text its_currency
  is_place : place ≡ or_null whole its_place
  are_words : words ≡ or_null Text its_words

module _ (num den amount currency place words : Value) where
  no_right_is : (x : ⊤) → no_right num den ≡ Ok x → (num ≡ Null) × (den ≡ Null)
  no_right_is x e =
      let a = stepped (null_in num) (λ _. null_in den) x e in
      (null_is num a.given a.is, null_is den x a.rest)

  no_mortgage_is : (x : ⊤) → no_mortgage amount currency place ≡ Ok x → (amount ≡ Null) × (currency ≡ Null) × (place ≡ Null)
  no_mortgage_is x e =
      let a = stepped (null_in amount) (λ _. null_in currency >>= λ _. null_in place) x e in
      let b = stepped (null_in currency) (λ _. null_in place) x a.rest in
      (null_is amount a.given a.is, null_is currency b.given b.is, null_is place x b.rest)

  burden_is : (t : List ℕ) → no_share num den amount currency place words ≡ Ok t → AreWritten num den amount currency place words
  burden_is t e =
      let a = stepped (no_right num den) (λ _. no_mortgage amount currency place >>= λ _. words_in words) t e in
      let b = stepped (no_mortgage amount currency place) (λ _. words_in words) t a.rest in
      let right = no_right_is a.given a.is in
      let mortgage = no_mortgage_is b.given b.is in
      record {
        its_num = None;
        its_den = None;
        its_amount = None;
        its_currency = None;
        its_place = None;
        its_words = Some t;
        is_num = right.0;
        is_den = right.1;
        is_amount = mortgage.0;
        is_currency = mortgage.1;
        is_place = mortgage.2;
        are_words = kept_is are_words words t b.rest;
      }

  are_written : (which : ClassWord) (said : Class) → classed which num den amount currency place words ≡ Ok said → AreWritten num den amount currency place words
  are_written (word.Right type) said e =
      let a = stepped (share_in num den) (λ share. no_mortgage amount currency place >>= λ _. null_in words >>= λ _. Ok (class.Right type share)) said e in
      let b = stepped (no_mortgage amount currency place) (λ _. null_in words >>= λ _. Ok (class.Right type a.given)) said a.rest in
      let c = stepped (null_in words) (λ _. Ok (class.Right type a.given)) said b.rest in
      let share = share_is num den a.given a.is in
      let mortgage = no_mortgage_is b.given b.is in
      record {
        its_num = Some share.numerator;
        its_den = Some share.denominator;
        its_amount = None;
        its_currency = None;
        its_place = None;
        its_words = None;
        is_num = share.top;
        is_den = share.bottom;
        is_amount = mortgage.0;
        is_currency = mortgage.1;
        is_place = mortgage.2;
        are_words = null_is words c.given c.is;
      }
  are_written word.Restriction said e =
      let a = stepped (no_share num den amount currency place words) (λ t. Ok (class.Restriction t)) said e in
      burden_is a.given a.is
  are_written word.Responsibility said e =
      let a = stepped (no_share num den amount currency place words) (λ t. Ok (class.Responsibility t)) said e in
      burden_is a.given a.is
  are_written word.Mortgage said e =
      let a = stepped (no_right num den) (λ _. amount_in amount >>= λ a. currency_in currency >>= λ c. natural_in place >>= λ r. null_in words >>= λ _. Ok (class.Mortgage a c r)) said e in
      let b = stepped (amount_in amount) (λ a. currency_in currency >>= λ c. natural_in place >>= λ r. null_in words >>= λ _. Ok (class.Mortgage a c r)) said a.rest in
      let c = stepped (currency_in currency) (λ c. natural_in place >>= λ r. null_in words >>= λ _. Ok (class.Mortgage b.given c r)) said b.rest in
      let d = stepped (natural_in place) (λ r. null_in words >>= λ _. Ok (class.Mortgage b.given c.given r)) said c.rest in
      let f = stepped (null_in words) (λ _. Ok (class.Mortgage b.given c.given d.given)) said d.rest in
      let right = no_right_is a.given a.is in
      record {
        its_num = None;
        its_den = None;
        its_amount = Some b.given;
        its_currency = Some c.given;
        its_place = Some d.given;
        its_words = None;
        is_num = right.0;
        is_den = right.1;
        is_amount = amount_is amount b.given b.is;
        is_currency = kept_is is_currency currency c.given c.is;
        is_place = natural_is place d.given d.is;
        are_words = null_is words f.given f.is;
      }

-- ---- a row

-- the value of each cell of a row
record Told (number unit party class num den amount currency place words source since until : Value) (v : Version (ℕ × RrrRecord)) : Type 0 where
  which : ClassWord
  the_number : number_in number ≡ Ok v.what.0
  the_unit : number_in unit ≡ Ok v.what.1.unit
  the_party : number_in party ≡ Ok v.what.1.party
  the_word : class_word_in class ≡ Ok which
  the_class : classed which num den amount currency place words ≡ Ok v.what.1.class
  the_source : number_in source ≡ Ok v.what.1.source
  the_since : moment_in since ≡ Ok v.since
  the_until : end_in until ≡ Ok v.until

module _ (number unit party class num den amount currency place words source since until : Value) (v : Version (ℕ × RrrRecord)) where
  abbrev the_row : Row
  the_row = number ∷ unit ∷ party ∷ class ∷ num ∷ den ∷ amount ∷ currency ∷ place ∷ words ∷ source ∷ since ∷ until ∷ []

  from_cells : Told number unit party class num den amount currency place words source since until v → rrr_in the_row ≡ Ok v
  unfolding rrr_in
  from_cells t = rw (t.the_number, t.the_unit, t.the_party, t.the_word, class_by_is t.which the_row, t.the_class, t.the_source, t.the_since, t.the_until) refl

  to_cells : rrr_in the_row ≡ Ok v → Told number unit party class num den amount currency place words source since until v
  unfolding rrr_in
  to_cells e =
      let a = stepped (number_in number) _ v e in
      let b = stepped (number_in unit) _ v a.rest in
      let c = stepped (number_in party) _ v b.rest in
      let w = stepped (class_word_in class) _ v c.rest in
      let d = stepped (class_by w.given the_row) _ v w.rest in
      let s = stepped (number_in source) _ v d.rest in
      let f = stepped (moment_in since) _ v s.rest in
      let u = stepped (end_in until) _ v f.rest in
      let all = same_value _ v u.rest in
      record {
        which = w.given;
        the_number = a.is ∙ ap (λ (w : Version (ℕ × RrrRecord)). Ok w.what.0) all;
        the_unit = b.is ∙ ap (λ (w : Version (ℕ × RrrRecord)). Ok w.what.1.unit) all;
        the_party = c.is ∙ ap (λ (w : Version (ℕ × RrrRecord)). Ok w.what.1.party) all;
        the_word = w.is;
        the_class = sym (class_by_is w.given the_row) ∙ (d.is ∙ ap (λ (w : Version (ℕ × RrrRecord)). Ok w.what.1.class) all);
        the_source = s.is ∙ ap (λ (w : Version (ℕ × RrrRecord)). Ok w.what.1.source) all;
        the_since = f.is ∙ ap (λ (w : Version (ℕ × RrrRecord)). Ok w.since) all;
        the_until = u.is ∙ ap (λ (w : Version (ℕ × RrrRecord)). Ok w.until) all;
      }

-- ---- what was written decodes

-- an entry of a class
abbrev entry_of : ℕ → (unit party source : ℕ) → Class → ℕ × RrrRecord
entry_of number unit party source said = (number, record { unit = unit; party = party; class = said; source = source })

-- object numbers
record AreNumbers (number unit party source : ℕ) : Type 0 where
  the_number : is_number number ≡ true
  the_unit : is_number unit ≡ true
  the_party : is_number party ≡ true
  the_source : is_number source ≡ true

module _ (shares : SameFractionLaw) (number unit party source : ℕ) (since : ℤ) (numbers : AreNumbers number unit party source) (moment : IsMoment since) where
  with_class : (which : ClassWord) (said : Class) (num den amount currency place words : Value) → classed which num den amount currency place words ≡ Ok said
      → rrr_in (whole number ∷ whole unit ∷ whole party ∷ Text (class_column_word which) ∷ num ∷ den ∷ amount ∷ currency ∷ place ∷ words ∷ whole source ∷ Int since ∷ Int never ∷ [])
      ≡ Ok (record { what = entry_of number unit party source said; since = since; until = never })
  with_class which said num den amount currency place words is_class =
      from_cells (whole number) (whole unit) (whole party) (Text (class_column_word which)) num den amount currency place words (whole source) (Int since) (Int never)
      (record { what = entry_of number unit party source said; since = since; until = never })
      (record {
        which = which;
        the_number = number_is_read number numbers.the_number;
        the_unit = number_is_read unit numbers.the_unit;
        the_party = number_is_read party numbers.the_party;
        the_word = class_is_read which;
        the_class = is_class;
        the_source = number_is_read source numbers.the_source;
        the_since = moment_is_read since moment;
        the_until = never_is_read;
      })

  by_class : (said : Class) → fits_class said ≡ true → IsExactClass said
      → rrr_in (rrr_form.cells (opened_version (rrr_row_of (entry_of number unit party source said)) since)) ≡ Ok (record { what = entry_of number unit party source said; since = since; until = never })
  by_class (class.Right type share) fits exact =
      with_class (word.Right type) (class.Right type share) (whole share.numerator) (whole share.denominator) Null Null Null Null (rw (share_is_read shares share exact) refl)
  by_class (class.Restriction words) fits exact =
      with_class word.Restriction (class.Restriction words) Null Null Null Null Null (Text words) (rw (kept_is_read are_words words fits) refl)
  by_class (class.Responsibility words) fits exact =
      with_class word.Responsibility (class.Responsibility words) Null Null Null Null Null (Text words) (rw (kept_is_read are_words words fits) refl)
  by_class (class.Mortgage amount currency rank) fits exact =
      let p = and_parts (is_amount amount) (is_storable is_currency currency && nat_lt rank (2 ^ 63)) fits in
      let q = and_parts (is_storable is_currency currency) (nat_lt rank (2 ^ 63)) p.1 in
      with_class word.Mortgage (class.Mortgage amount currency rank) Null Null (whole amount) (Text currency) (whole rank) Null
      (rw (amount_is_read amount p.0, kept_is_read is_currency currency q.0, natural_is_read rank) refl)

pub rrrs_read_back : SameFractionLaw → RrrsReadBack
rrrs_read_back shares e since fits exact moment =
    let p = and_parts (is_number e.0) (is_number e.1.unit && (is_number e.1.party && (fits_class e.1.class && is_number e.1.source))) fits in
    let q = and_parts (is_number e.1.unit) (is_number e.1.party && (fits_class e.1.class && is_number e.1.source)) p.1 in
    let r = and_parts (is_number e.1.party) (fits_class e.1.class && is_number e.1.source) q.1 in
    let s = and_parts (fits_class e.1.class) (is_number e.1.source) r.1 in
    by_class shares e.0 e.1.unit e.1.party e.1.source since (record { the_number = p.0; the_unit = q.0; the_party = r.0; the_source = s.1 }) moment e.1.class s.0 exact

-- ---- what decodes was written

thirteen : {a b c d e f g h i j k l m a' b' c' d' e' f' g' h' i' j' k' l' m' : Value} → a ≡ a' → b ≡ b' → c ≡ c' → d ≡ d' → e ≡ e' → f ≡ f' → g ≡ g' → h ≡ h' → i ≡ i' → j ≡ j' → k ≡ k' → l ≡ l' → m ≡ m'
    → ◌≡◌ {A = List Value} (a' ∷ b' ∷ c' ∷ d' ∷ e' ∷ f' ∷ g' ∷ h' ∷ i' ∷ j' ∷ k' ∷ l' ∷ m' ∷ []) (a ∷ b ∷ c ∷ d ∷ e ∷ f ∷ g ∷ h ∷ i ∷ j ∷ k ∷ l ∷ m ∷ [])
thirteen a b c d e f g h i j k l m = cc

written : (a b c d e f g h i j k l m : Value) (v : Version (ℕ × RrrRecord)) → Told a b c d e f g h i j k l m v
    → (p : laid.Version RrrRow) × (rrr_form.cells p ≡ a ∷ b ∷ c ∷ d ∷ e ∷ f ∷ g ∷ h ∷ i ∷ j ∷ k ∷ l ∷ m ∷ [])
unfolding class_word_in
written a b c d e f g h i j k l m v t =
    let w = stepped (text_in d) entry_class_of t.which t.the_word in
    let x = are_written e f g h i j t.which v.what.1.class t.the_class in (
      record {
        what = record {
          number = v.what.0;
          unit = v.what.1.unit;
          party = v.what.1.party;
          class = w.given;
          num = x.its_num;
          den = x.its_den;
          amount = x.its_amount;
          currency = x.its_currency;
          place = x.its_place;
          words = x.its_words;
          source = v.what.1.source;
        };
        since = v.since;
        until = v.until;
      },
      thirteen (number_is a v.what.0 t.the_number) (number_is b v.what.1.unit t.the_unit) (number_is c v.what.1.party t.the_party) (text_is d w.given w.is)
          x.is_num x.is_den x.is_amount x.is_currency x.is_place x.are_words
          (number_is k v.what.1.source t.the_source) (moment_is l v.since t.the_since) (end_is m v.until t.the_until),
    )

-- a row with its own cells and another end
module _ (p : laid.Version RrrRow) where
  abbrev ItsTold : Value → Version (ℕ × RrrRecord) → Type 0
  ItsTold until v =
      Told (whole p.what.number) (whole p.what.unit) (whole p.what.party) (Text p.what.class) (or_null whole p.what.num) (or_null whole p.what.den) (or_null whole p.what.amount)
      (or_null Text p.what.currency) (or_null whole p.what.place) (or_null Text p.what.words) (whole p.what.source) (Int p.since) until v

  its_reading : (stamp : ℤ) (v : Version (ℕ × RrrRecord)) → ItsTold (Int stamp) v → rrr_in (rrr_form.cells (record p { until = stamp })) ≡ Ok v
  its_reading stamp v =
      from_cells (whole p.what.number) (whole p.what.unit) (whole p.what.party) (Text p.what.class) (or_null whole p.what.num) (or_null whole p.what.den) (or_null whole p.what.amount)
      (or_null Text p.what.currency) (or_null whole p.what.place) (or_null Text p.what.words) (whole p.what.source) (Int p.since) (Int stamp) v

  its_cells : (v : Version (ℕ × RrrRecord)) → rrr_in (rrr_form.cells p) ≡ Ok v → ItsTold (Int p.until) v
  its_cells v =
      to_cells (whole p.what.number) (whole p.what.unit) (whole p.what.party) (Text p.what.class) (or_null whole p.what.num) (or_null whole p.what.den) (or_null whole p.what.amount)
      (or_null Text p.what.currency) (or_null whole p.what.place) (or_null Text p.what.words) (whole p.what.source) (Int p.since) (Int p.until) v

  ending : (v : Version (ℕ × RrrRecord)) (stamp : ℤ) → ItsTold (Int p.until) v → end_in (Int stamp) ≡ Ok stamp → ItsTold (Int stamp) (record v { until = stamp })
  ending v stamp t is_end = record {
    which = t.which;
    the_number = t.the_number;
    the_unit = t.the_unit;
    the_party = t.the_party;
    the_word = t.the_word;
    the_class = t.the_class;
    the_source = t.the_source;
    the_since = t.the_since;
    the_until = is_end;
  }

  is_read : (v : Version (ℕ × RrrRecord)) (n : ℕ) → ItsTold (Int p.until) v → IsReadAs rrr_in rrr_form.cells (is_rrr n) (is_numbered n) p v
  is_read v n t = record {
    same = ap (λ m. m == n) (same_number p.what.number v.what.0 t.the_number);
    until = same_end p.until v.until t.the_until;
    again = λ stamp is_end. its_reading stamp (record v { until = stamp }) (ending v stamp t is_end);
  }

pub rrr_cells_decode : RrrCellsDecode
rrr_cells_decode = record {
  found = λ r v e. written (column r 1) (column r 2) (column r 3) (column r 4) (column r 5) (column r 6) (column r 7) (column r 8) (column r 9) (column r 10) (column r 11) (column r 12) (column r 13) v
      (to_cells (column r 1) (column r 2) (column r 3) (column r 4) (column r 5) (column r 6) (column r 7) (column r 8) (column r 9) (column r 10) (column r 11) (column r 12) (column r 13) v e);
  closes = λ n stamp p v moment e. closing rrr_in rrr_form.cells (is_rrr n) (is_numbered n) p v stamp (is_read p v n (its_cells p v e)) (ends stamp moment) e;
}
