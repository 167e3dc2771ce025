-- Parcels decode from their own cells only.
use Rattle.std.proofs.Common.{◌≡◌, ◌&&◌, ◌==◌, ℕ, ℤ, List, [], ◌∷◌, Ok, refl, ap, ◌∙◌}
use Rattle.std.proofs.lemmas.Bool.{and_parts}
use Rattle.land_core.specs.Numbers.{is_number}
use Rattle.land_core.specs.Texts.{is_label}
use Rattle.land_core.specs.declared.parcel.ParcelRecord.{ParcelRecord}
use Rattle.land_fraction.specs.Laws.{SameFractionLaw}
use Rattle.land_shape.specs.Laws.{OneAnswerLaw, PrintedLaw}
use Rattle.land_shape.specs.Printed.{polygon_text}
use Rattle.land_tables_history.specs.declared.version.Version.{Version}
use Rattle.land_tables_rows.proofs.CellReadings.{end_is, ends, kept_is, kept_is_read, moment_is, moment_is_read, never_is_read, number_is, number_is_read, same_end, same_number, text_is, text_is_read}
use Rattle.land_tables_rows.proofs.Closings.{IsReadAs, closing}
use Rattle.land_tables_rows.proofs.Stepping.{same_value, stepped}
use Rattle.land_tables_rows.proofs.TextReadings.{printed_is_utf8}
use Rattle.land_tables_rows.specs.Cells.Closable.{is_numbered}
use Rattle.land_tables_rows.specs.Cells.Laws.{ParcelCellsDecode, ParcelsReadBack}
use Rattle.land_tables_rows.specs.Cells.Texts.{is_storable}
use Rattle.land_tables_rows.specs.Parcel.Reading.{parcel_in}
use Rattle.land_tables_rows.specs.Reading.Cells.{end_in, label_in, moment_in, number_in, text_in}
use Rattle.land_tables_schema.specs.Rows.Parcel.{ParcelRow, is_parcel, parcel_form}
use Rattle.land_tables_schema.specs.Rows.Versions as laid
use Rattle.land_tables_schema.specs.Rows.Versions.{opened_version, never, whole}
use Rattle.land_wire_json.proofs.ContentReading.{outline_is_read}
use Rattle.land_wire_json.specs.Bodies.Laws.{OutlinesAreAnswered}
use Rattle.land_wire_json.specs.Bodies.Outlines.{outline_of}
use Rattle.sqlite_value.specs.Order.{Row, column}
use Rattle.sqlite_value.specs.declared.value.Value.{Value}
use Rattle.sqlite_value.specs.declared.value.Value.TheVariants.{Int, Text}

-- the value of each cell of a row
record Told (number unit label outline source since until : Value) (v : Version (ℕ × ParcelRecord)) : Type 0 where
  the_number : number_in number ≡ Ok v.what.0
  the_unit : number_in unit ≡ Ok v.what.1.unit
  the_label : label_in label ≡ Ok v.what.1.label
  text : List ℕ
  the_text : text_in outline ≡ Ok text
  the_outline : outline_of text ≡ Ok v.what.1.outline
  the_source : number_in source ≡ Ok v.what.1.source
  the_since : moment_in since ≡ Ok v.since
  the_until : end_in until ≡ Ok v.until

module _ (number unit label outline source since until : Value) (v : Version (ℕ × ParcelRecord)) where
  abbrev the_row : Row
  the_row = number ∷ unit ∷ label ∷ outline ∷ source ∷ since ∷ until ∷ []

  from_cells : Told number unit label outline source since until v → parcel_in the_row ≡ Ok v
  unfolding parcel_in
  from_cells t = rw (t.the_number, t.the_unit, t.the_label, t.the_text, t.the_outline, t.the_source, t.the_since, t.the_until) refl

  to_cells : parcel_in the_row ≡ Ok v → Told number unit label outline source since until v
  unfolding parcel_in
  to_cells e =
      let a = stepped (number_in number) _ v e in
      let b = stepped (number_in unit) _ v a.rest in
      let c = stepped (label_in label) _ v b.rest in
      let d = stepped (text_in outline) _ v c.rest in
      let o = stepped (outline_of d.given) _ v d.rest in
      let s = stepped (number_in source) _ v o.rest in
      let f = stepped (moment_in since) _ v s.rest in
      let u = stepped (end_in until) _ v f.rest in
      let all = same_value _ v u.rest in
      record {
        the_number = a.is ∙ ap (λ (w : Version (ℕ × ParcelRecord)). Ok w.what.0) all;
        the_unit = b.is ∙ ap (λ (w : Version (ℕ × ParcelRecord)). Ok w.what.1.unit) all;
        the_label = c.is ∙ ap (λ (w : Version (ℕ × ParcelRecord)). Ok w.what.1.label) all;
        text = d.given;
        the_text = d.is;
        the_outline = o.is ∙ ap (λ (w : Version (ℕ × ParcelRecord)). Ok w.what.1.outline) all;
        the_source = s.is ∙ ap (λ (w : Version (ℕ × ParcelRecord)). Ok w.what.1.source) all;
        the_since = f.is ∙ ap (λ (w : Version (ℕ × ParcelRecord)). Ok w.since) all;
        the_until = u.is ∙ ap (λ (w : Version (ℕ × ParcelRecord)). Ok w.until) all;
      }

-- ---- what was written decodes

pub parcels_read_back : PrintedLaw → OneAnswerLaw → OutlinesAreAnswered → SameFractionLaw → ParcelsReadBack
parcels_read_back printing one answers shares e since fits exact moment =
    let p = and_parts (is_number e.0) (is_number e.1.unit && (is_storable is_label e.1.label && is_number e.1.source)) fits in
    let q = and_parts (is_number e.1.unit) (is_storable is_label e.1.label && is_number e.1.source) p.1 in
    let r = and_parts (is_storable is_label e.1.label) (is_number e.1.source) q.1 in
    from_cells (whole e.0) (whole e.1.unit) (Text e.1.label) (Text (polygon_text e.1.outline)) (whole e.1.source) (Int since) (Int never)
    (record { what = e; since = since; until = never })
    (record {
      the_number = number_is_read e.0 p.0;
      the_unit = number_is_read e.1.unit q.0;
      the_label = kept_is_read is_label e.1.label r.0;
      text = polygon_text e.1.outline;
      the_text = text_is_read (polygon_text e.1.outline) (printed_is_utf8 e.1.outline exact);
      the_outline = outline_is_read shares printing one answers e.1.outline exact;
      the_source = number_is_read e.1.source r.1;
      the_since = moment_is_read since moment;
      the_until = never_is_read;
    })

-- ---- what decodes was written

seven : {a b c d e f g a' b' c' d' e' f' g' : Value} → a ≡ a' → b ≡ b' → c ≡ c' → d ≡ d' → e ≡ e' → f ≡ f' → g ≡ g'
    → ◌≡◌ {A = List Value} (a' ∷ b' ∷ c' ∷ d' ∷ e' ∷ f' ∷ g' ∷ []) (a ∷ b ∷ c ∷ d ∷ e ∷ f ∷ g ∷ [])
seven p q r s t u w = cc

written : (a b c d e f g : Value) (v : Version (ℕ × ParcelRecord)) → Told a b c d e f g v → (p : laid.Version ParcelRow) × (parcel_form.cells p ≡ a ∷ b ∷ c ∷ d ∷ e ∷ f ∷ g ∷ [])
written a b c d e f g v t = (
  record {
    what = record { number = v.what.0; unit = v.what.1.unit; label = v.what.1.label; outline = t.text; source = v.what.1.source };
    since = v.since;
    until = v.until;
  },
  seven (number_is a v.what.0 t.the_number) (number_is b v.what.1.unit t.the_unit) (kept_is is_label c v.what.1.label t.the_label) (text_is d t.text t.the_text)
      (number_is e v.what.1.source t.the_source) (moment_is f v.since t.the_since) (end_is g v.until t.the_until),
)

module _ (p : laid.Version ParcelRow) (v : Version (ℕ × ParcelRecord)) (h : parcel_in (parcel_form.cells p) ≡ Ok v) where
  the_cells : Told (whole p.what.number) (whole p.what.unit) (Text p.what.label) (Text p.what.outline) (whole p.what.source) (Int p.since) (Int p.until) v
  the_cells = to_cells (whole p.what.number) (whole p.what.unit) (Text p.what.label) (Text p.what.outline) (whole p.what.source) (Int p.since) (Int p.until) v h

  -- the same row with another end
  ending : (stamp : ℤ) → end_in (Int stamp) ≡ Ok stamp
      → Told (whole p.what.number) (whole p.what.unit) (Text p.what.label) (Text p.what.outline) (whole p.what.source) (Int p.since) (Int stamp) (record v { until = stamp })
  ending stamp is_end = record {
    the_number = the_cells.the_number;
    the_unit = the_cells.the_unit;
    the_label = the_cells.the_label;
    text = the_cells.text;
    the_text = the_cells.the_text;
    the_outline = the_cells.the_outline;
    the_source = the_cells.the_source;
    the_since = the_cells.the_since;
    the_until = is_end;
  }

  is_read : (n : ℕ) → IsReadAs parcel_in parcel_form.cells (is_parcel n) (is_numbered n) p v
  is_read n = record {
    same = ap (λ m. m == n) (same_number p.what.number v.what.0 the_cells.the_number);
    until = same_end p.until v.until the_cells.the_until;
    again = λ stamp is_end. from_cells (whole p.what.number) (whole p.what.unit) (Text p.what.label) (Text p.what.outline) (whole p.what.source) (Int p.since) (Int stamp)
        (record v { until = stamp }) (ending stamp is_end);
  }

pub parcel_cells_decode : ParcelCellsDecode
parcel_cells_decode = record {
  found = λ r v e. written (column r 1) (column r 2) (column r 3) (column r 4) (column r 5) (column r 6) (column r 7) v
      (to_cells (column r 1) (column r 2) (column r 3) (column r 4) (column r 5) (column r 6) (column r 7) v e);
  closes = λ n stamp p v moment e. closing parcel_in parcel_form.cells (is_parcel n) (is_numbered n) p v stamp (is_read p v e n) (ends stamp moment) e;
}
