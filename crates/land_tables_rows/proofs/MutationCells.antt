-- Mutations decode from their own cells only.
use Rattle.std.proofs.Common.{◌≡◌, ◌&&◌, ◌==◌, ℕ, ℤ, pos, int_le, List, [], ◌∷◌, Ok, refl, ap, ◌∙◌}
use Rattle.std.proofs.lemmas.Bool.{and_parts}
use Rattle.land_core.specs.Contents.{is_well_formed_content}
use Rattle.land_core.specs.Numbers.{is_number, last_moment}
use Rattle.land_core.specs.Texts.{is_reference}
use Rattle.land_core.specs.Words.{content_word, state_word}
use Rattle.land_core.specs.declared.mutation.MutationRecord.{MutationRecord}
use Rattle.land_tables_history.specs.declared.version.Version.{Version}
use Rattle.land_tables_rows.proofs.CellReadings.{between_is_read, end_is, ends, kept_is, kept_is_read, moment_is, moment_is_read, never_is_read, number_is, number_is_read, same_end, same_number, text_is, text_is_read}
use Rattle.land_tables_rows.proofs.Closings.{IsReadAs, closing}
use Rattle.land_tables_rows.proofs.ContentTexts.{content_is_utf8}
use Rattle.land_tables_rows.proofs.Stepping.{same_value, stepped}
use Rattle.land_tables_rows.proofs.WordReadings.{act_is_read, state_is_read}
use Rattle.land_tables_rows.specs.Cells.Closable.{is_numbered}
use Rattle.land_tables_rows.specs.Cells.Laws.{MutationCellsDecode, MutationsReadBack}
use Rattle.land_tables_rows.specs.Cells.Texts.{is_storable}
use Rattle.land_tables_rows.specs.Mutation.Cells.{is_content_kept, is_moment}
use Rattle.land_tables_rows.specs.Mutation.Reading.{mutation_in}
use Rattle.land_tables_rows.specs.Reading.Cells.{end_in, moment_in, number_in, reference_in, text_in}
use Rattle.land_tables_rows.specs.Reading.Words.{state_in, mutation_state_of}
use Rattle.land_tables_schema.specs.Rows.Mutation.{MutationRow, is_mutation, mutation_form}
use Rattle.land_tables_schema.specs.Rows.Versions as laid
use Rattle.land_tables_schema.specs.Rows.Versions.{never, whole}
use Rattle.land_wire_json.specs.Bodies.Laws.{ContentsRoundTrip}
use Rattle.land_wire_json.specs.Bodies.Mutations.{content_in}
use Rattle.land_wire_json.specs.Texts.Mutations.{content_text}
use Rattle.sqlite_value.specs.Order.{Row, column}
use Rattle.sqlite_value.specs.declared.value.Value.{Value}
use Rattle.sqlite_value.specs.declared.value.Value.TheVariants.{Int, Text}

-- the value of each cell of a row
record Told (number lodger reference source lodged act content state since until : Value) (v : Version (ℕ × MutationRecord)) : Type 0 where
  the_number : number_in number ≡ Ok v.what.0
  the_lodger : number_in lodger ≡ Ok v.what.1.lodger
  the_reference : reference_in reference ≡ Ok v.what.1.reference
  the_source : number_in source ≡ Ok v.what.1.source
  the_lodged : moment_in lodged ≡ Ok v.what.1.lodged
  word : List ℕ
  the_word : text_in act ≡ Ok word
  text : List ℕ
  the_text : text_in content ≡ Ok text
  the_content : content_in word text ≡ Ok v.what.1.content
  the_state : state_in state ≡ Ok v.what.1.state
  the_since : moment_in since ≡ Ok v.since
  the_until : end_in until ≡ Ok v.until

module _ (number lodger reference source lodged act content state since until : Value) (v : Version (ℕ × MutationRecord)) where
  abbrev the_row : Row
  the_row = number ∷ lodger ∷ reference ∷ source ∷ lodged ∷ act ∷ content ∷ state ∷ since ∷ until ∷ []

  from_cells : Told number lodger reference source lodged act content state since until v → mutation_in the_row ≡ Ok v
  unfolding mutation_in
  from_cells t =
      rw (t.the_number, t.the_lodger, t.the_reference, t.the_source, t.the_lodged, t.the_word, t.the_text, t.the_content, t.the_state, t.the_since, t.the_until) refl

  to_cells : mutation_in the_row ≡ Ok v → Told number lodger reference source lodged act content state since until v
  unfolding mutation_in
  to_cells e =
      let a = stepped (number_in number) _ v e in
      let b = stepped (number_in lodger) _ v a.rest in
      let c = stepped (reference_in reference) _ v b.rest in
      let d = stepped (number_in source) _ v c.rest in
      let l = stepped (moment_in lodged) _ v d.rest in
      let w = stepped (text_in act) _ v l.rest in
      let t = stepped (text_in content) _ v w.rest in
      let k = stepped (content_in w.given t.given) _ v t.rest in
      let s = stepped (state_in state) _ v k.rest in
      let f = stepped (moment_in since) _ v s.rest in
      let u = stepped (end_in until) _ v f.rest in
      let all = same_value _ v u.rest in
      record {
        the_number = a.is ∙ ap (λ (w : Version (ℕ × MutationRecord)). Ok w.what.0) all;
        the_lodger = b.is ∙ ap (λ (w : Version (ℕ × MutationRecord)). Ok w.what.1.lodger) all;
        the_reference = c.is ∙ ap (λ (w : Version (ℕ × MutationRecord)). Ok w.what.1.reference) all;
        the_source = d.is ∙ ap (λ (w : Version (ℕ × MutationRecord)). Ok w.what.1.source) all;
        the_lodged = l.is ∙ ap (λ (w : Version (ℕ × MutationRecord)). Ok w.what.1.lodged) all;
        word = w.given;
        the_word = w.is;
        text = t.given;
        the_text = t.is;
        the_content = k.is ∙ ap (λ (w : Version (ℕ × MutationRecord)). Ok w.what.1.content) all;
        the_state = s.is ∙ ap (λ (w : Version (ℕ × MutationRecord)). Ok w.what.1.state) all;
        the_since = f.is ∙ ap (λ (w : Version (ℕ × MutationRecord)). Ok w.since) all;
        the_until = u.is ∙ ap (λ (w : Version (ℕ × MutationRecord)). Ok w.until) all;
      }

-- ---- what was written decodes

pub mutations_read_back : ContentsRoundTrip → MutationsReadBack
mutations_read_back contents e since fits exact moment =
    let kept = is_content_kept e.1.content && is_well_formed_content e.1.content in
    let p = and_parts (is_number e.0) (is_number e.1.lodger && (is_storable is_reference e.1.reference && (is_number e.1.source && (is_moment e.1.lodged && kept)))) fits in
    let q = and_parts (is_number e.1.lodger) (is_storable is_reference e.1.reference && (is_number e.1.source && (is_moment e.1.lodged && kept))) p.1 in
    let r = and_parts (is_storable is_reference e.1.reference) (is_number e.1.source && (is_moment e.1.lodged && kept)) q.1 in
    let s = and_parts (is_number e.1.source) (is_moment e.1.lodged && kept) r.1 in
    let l = and_parts (is_moment e.1.lodged) kept s.1 in
    let m = and_parts (int_le (pos 0) e.1.lodged) (int_le e.1.lodged last_moment) l.0 in
    let c = and_parts (is_content_kept e.1.content) (is_well_formed_content e.1.content) l.1 in
    from_cells (whole e.0) (whole e.1.lodger) (Text e.1.reference) (whole e.1.source) (Int e.1.lodged) (Text (content_word e.1.content)) (Text (content_text e.1.content)) (Text (state_word e.1.state))
    (Int since) (Int never) (record { what = e; since = since; until = never })
    (record {
      the_number = number_is_read e.0 p.0;
      the_lodger = number_is_read e.1.lodger q.0;
      the_reference = kept_is_read is_reference e.1.reference r.0;
      the_source = number_is_read e.1.source s.0;
      the_lodged = between_is_read e.1.lodged m.0 m.1;
      word = content_word e.1.content;
      the_word = act_is_read e.1.content;
      text = content_text e.1.content;
      the_text = text_is_read (content_text e.1.content) (content_is_utf8 e.1.content c.1 c.0 exact);
      the_content = contents e.1.content (record { within_limits = c.1; is_exact = exact });
      the_state = state_is_read e.1.state;
      the_since = moment_is_read since moment;
      the_until = never_is_read;
    })

-- ---- what decodes was written

ten : {a b c d e f g h i j a' b' c' d' e' f' g' h' i' j' : Value} → a ≡ a' → b ≡ b' → c ≡ c' → d ≡ d' → e ≡ e' → f ≡ f' → g ≡ g' → h ≡ h' → i ≡ i' → j ≡ j'
    → ◌≡◌ {A = List Value} (a' ∷ b' ∷ c' ∷ d' ∷ e' ∷ f' ∷ g' ∷ h' ∷ i' ∷ j' ∷ []) (a ∷ b ∷ c ∷ d ∷ e ∷ f ∷ g ∷ h ∷ i ∷ j ∷ [])
ten p q r s t u w x y z = cc

written : (a b c d e f g h i j : Value) (v : Version (ℕ × MutationRecord)) → Told a b c d e f g h i j v
    → (p : laid.Version MutationRow) × (mutation_form.cells p ≡ a ∷ b ∷ c ∷ d ∷ e ∷ f ∷ g ∷ h ∷ i ∷ j ∷ [])
unfolding state_in
written a b c d e f g h i j v t =
    let s = stepped (text_in h) mutation_state_of v.what.1.state t.the_state in (
      record {
        what = record {
          number = v.what.0;
          lodger = v.what.1.lodger;
          reference = v.what.1.reference;
          source = v.what.1.source;
          lodged = v.what.1.lodged;
          act = t.word;
          content = t.text;
          state = s.given;
        };
        since = v.since;
        until = v.until;
      },
      ten (number_is a v.what.0 t.the_number) (number_is b v.what.1.lodger t.the_lodger) (kept_is is_reference c v.what.1.reference t.the_reference)
          (number_is d v.what.1.source t.the_source) (moment_is e v.what.1.lodged t.the_lodged) (text_is f t.word t.the_word) (text_is g t.text t.the_text)
          (text_is h s.given s.is) (moment_is i v.since t.the_since) (end_is j v.until t.the_until),
    )

-- a row with its own cells and another end
module _ (p : laid.Version MutationRow) where
  abbrev ItsTold : Value → Version (ℕ × MutationRecord) → Type 0
  ItsTold until v =
      Told (whole p.what.number) (whole p.what.lodger) (Text p.what.reference) (whole p.what.source) (Int p.what.lodged) (Text p.what.act) (Text p.what.content) (Text p.what.state)
      (Int p.since) until v

  its_reading : (stamp : ℤ) (v : Version (ℕ × MutationRecord)) → ItsTold (Int stamp) v → mutation_in (mutation_form.cells (record p { until = stamp })) ≡ Ok v
  its_reading stamp v =
      from_cells (whole p.what.number) (whole p.what.lodger) (Text p.what.reference) (whole p.what.source) (Int p.what.lodged) (Text p.what.act) (Text p.what.content) (Text p.what.state)
      (Int p.since) (Int stamp) v

  its_cells : (v : Version (ℕ × MutationRecord)) → mutation_in (mutation_form.cells p) ≡ Ok v → ItsTold (Int p.until) v
  its_cells v =
      to_cells (whole p.what.number) (whole p.what.lodger) (Text p.what.reference) (whole p.what.source) (Int p.what.lodged) (Text p.what.act) (Text p.what.content) (Text p.what.state)
      (Int p.since) (Int p.until) v

  ending : (v : Version (ℕ × MutationRecord)) (stamp : ℤ) → ItsTold (Int p.until) v → end_in (Int stamp) ≡ Ok stamp → ItsTold (Int stamp) (record v { until = stamp })
  ending v stamp t is_end = record {
    the_number = t.the_number;
    the_lodger = t.the_lodger;
    the_reference = t.the_reference;
    the_source = t.the_source;
    the_lodged = t.the_lodged;
    word = t.word;
    the_word = t.the_word;
    text = t.text;
    the_text = t.the_text;
    the_content = t.the_content;
    the_state = t.the_state;
    the_since = t.the_since;
    the_until = is_end;
  }

  is_read : (v : Version (ℕ × MutationRecord)) (n : ℕ) → ItsTold (Int p.until) v → IsReadAs mutation_in mutation_form.cells (is_mutation n) (is_numbered n) p v
  is_read v n t = record {
    same = ap (λ m. m == n) (same_number p.what.number v.what.0 t.the_number);
    until = same_end p.until v.until t.the_until;
    again = λ stamp is_end. its_reading stamp (record v { until = stamp }) (ending v stamp t is_end);
  }

pub mutation_cells_decode : MutationCellsDecode
mutation_cells_decode = record {
  found = λ r v e. written (column r 1) (column r 2) (column r 3) (column r 4) (column r 5) (column r 6) (column r 7) (column r 8) (column r 9) (column r 10) v
      (to_cells (column r 1) (column r 2) (column r 3) (column r 4) (column r 5) (column r 6) (column r 7) (column r 8) (column r 9) (column r 10) v e);
  closes = λ n stamp p v moment e. closing mutation_in mutation_form.cells (is_mutation n) (is_numbered n) p v stamp (is_read p v n (its_cells p v e)) (ends stamp moment) e;
}
