-- Reading the text of a content returns that content.
use Rattle.std.proofs.Common.{◌≡◌, ◌≤◌, ◌^◌, ℕ, suc, List, [], ◌∷◌, true, false, ◌&&◌, not, nat_le, nat_lt, length, map, Option, Some, None, Result, Ok, Err, refl, ap, ◌∙◌, arith}
use Rattle.std.proofs.lemmas.Bool.Decides.{nat_tests}
use Rattle.std.specs.List.{AllByRecursion, list_all}
use Rattle.std.proofs.lemmas.Bool.{and_parts, not-true}
use Rattle.land_core.specs.Contents.{is_amount, is_currency, is_discharge, is_mortgage, is_transfer, is_well_formed_content}
use Rattle.land_core.specs.Mergers.{are_merged_parcels, are_other_units, are_ascending_numbers, is_merger, lists_number, all_above}
use Rattle.land_core.specs.Numbers.{is_number}
use Rattle.land_core.specs.Subdivisions.{have_names, is_new_name, is_part, are_further_parts, is_further_part_count, is_subdivision}
use Rattle.land_core.specs.Texts.{is_label}
use Rattle.land_core.specs.Words.{content_word}
use Rattle.land_core.specs.declared.act.NewParcel.{NewParcel}
use Rattle.land_core.specs.declared.content.Content.{Content}
use Rattle.land_core.specs.declared.content.Content.TheVariants as content
use Rattle.land_core.specs.declared.content.Discharge.{Discharge}
use Rattle.land_core.specs.declared.content.Mortgage.{Mortgage}
use Rattle.land_core.specs.declared.content.Transfer.{Transfer}
use Rattle.land_core.specs.declared.merger.Merger.{Merger}
use Rattle.land_core.specs.declared.subdivision.Part.{Part}
use Rattle.land_core.specs.declared.subdivision.Subdivision.{Subdivision}
use Rattle.land_fraction.specs.Laws.{SameFractionLaw}
use Rattle.land_fraction.specs.Ratio.{IsFraction}
use Rattle.land_shape.specs.Faults.{IsOutlineAnswer}
use Rattle.land_shape.specs.Laws.{PrintedLaw, OneAnswerLaw}
use Rattle.land_shape.specs.Outline.{IsOutline}
use Rattle.land_shape.specs.Place.{Place}
use Rattle.land_shape.specs.Printed.{polygon_text}
use Rattle.land_shape.specs.declared.faults.ShapeFault.{ShapeFault}
use Rattle.land_wire_json.proofs.ShareReading.{share_is_read}
use Rattle.land_wire_json.specs.Bodies.Fields.{each_item, field_at, item_count, items_at, number_at, number_in, object_with, text_at}
use Rattle.land_wire_json.specs.Bodies.Laws.{ContentsRoundTrip, OutlinesAreAnswered}
use Rattle.land_wire_json.specs.Bodies.Mutations.{content_in, content_kind_of, content_of, discharge_of, merger_of, mortgage_of, part_of, rest_of, increasing_at, subdivision_of, transfer_of}
use Rattle.land_wire_json.specs.Bodies.Outlines.{outline_answer, outline_in, outline_of, ring_or_fault}
use Rattle.land_wire_json.specs.Bodies.Shares.{share_at}
use Rattle.land_wire_json.specs.Bodies.Stored.{HasPartOutline, IsExactContent}
use Rattle.land_wire_json.specs.Bodies.Units.{parcel_of}
use Rattle.land_wire_json.specs.Bodies.WireFaults.{◌>>=◌, or_fault}
use Rattle.land_wire_json.specs.Texts.Exact.{is_exact, are_exact}
use Rattle.land_wire_json.specs.Texts.Laws.{CompactLaw}
use Rattle.land_wire_json.specs.Texts.Mergers.{merger_data}
use Rattle.land_wire_json.specs.Texts.Mutations.{content_data, discharge_data, mortgage_data, transfer_data}
use Rattle.land_wire_json.specs.Texts.Subdivisions.{first_data, part_data, subdivision_data}
use Rattle.land_wire_json.specs.Texts.Values.{number_data}
use Rattle.land_wire_json.specs.declared.bodies.wire_fault.WireFault.TheVariants as fault
use Rattle.serde_json.specs.Data.{Data, depth, items_depth}
use Rattle.serde_json.specs.Read.{max_depth}
use Rattle.serde_json.specs.View.{items_of}

-- ---- limits, one at a time

record Mortgaged (it : Mortgage) : Type 0 where
  unit : is_number it.unit ≡ true
  creditor : is_number it.creditor ≡ true
  amount : is_amount it.amount ≡ true
  currency : is_currency it.currency ≡ true

record Merged (it : Merger) : Type 0 where
  unit : is_number it.unit ≡ true
  few : nat_le (length it.others) 15 ≡ true
  above : all_above 0 it.others ≡ true
  others : list_all is_number it.others ≡ true
  without : lists_number it.others it.unit ≡ false
  some : nat_le 2 (length it.parcels) ≡ true
  most : nat_le (length it.parcels) 16 ≡ true
  rise : all_above 0 it.parcels ≡ true
  parcels : list_all is_number it.parcels ≡ true
  label : is_label it.label ≡ true

record Divided (it : Subdivision) : Type 0 where
  unit : is_number it.unit ≡ true
  parcel : is_number it.parcel ≡ true
  label : is_label it.first.label ≡ true
  count : is_further_part_count (length it.rest) ≡ true
  rest : list_all is_part it.rest ≡ true

mortgaged : (it : Mortgage) → is_mortgage it ≡ true → Mortgaged it
mortgaged it e =
    let p = and_parts (is_number it.unit && is_number it.creditor && is_amount it.amount) (is_currency it.currency) e in
    let q = and_parts (is_number it.unit && is_number it.creditor) (is_amount it.amount) p.0 in
    let r = and_parts (is_number it.unit) (is_number it.creditor) q.0 in
    record { unit = r.0; creditor = r.1; amount = q.1; currency = p.1 }

merged : (it : Merger) → is_merger it ≡ true → Merged it
merged it e =
    let p = and_parts (is_number it.unit && are_other_units it.unit it.others && are_merged_parcels it.parcels) (is_label it.label) e in
    let q = and_parts (is_number it.unit && are_other_units it.unit it.others) (are_merged_parcels it.parcels) p.0 in
    let r = and_parts (is_number it.unit) (are_other_units it.unit it.others) q.0 in
    let o = and_parts (nat_le (length it.others) 15 && are_ascending_numbers it.others) (not (lists_number it.others it.unit)) r.1 in
    let s = and_parts (nat_le (length it.others) 15) (are_ascending_numbers it.others) o.0 in
    let t = and_parts (all_above 0 it.others) (list_all is_number it.others) s.1 in
    let u = and_parts (nat_le 2 (length it.parcels) && nat_le (length it.parcels) 16) (are_ascending_numbers it.parcels) q.1 in
    let v = and_parts (nat_le 2 (length it.parcels)) (nat_le (length it.parcels) 16) u.0 in
    let w = and_parts (all_above 0 it.parcels) (list_all is_number it.parcels) u.1 in
    record { unit = r.0; few = s.0; above = t.0; others = t.1; without = not-true (lists_number it.others it.unit) o.1; some = v.0; most = v.1; rise = w.0; parcels = w.1; label = p.1 }

divided : (it : Subdivision) → is_subdivision it ≡ true → Divided it
divided it e =
    let p = and_parts (is_number it.unit && is_number it.parcel && is_label it.first.label) (are_further_parts it.rest) e in
    let q = and_parts (is_number it.unit && is_number it.parcel) (is_label it.first.label) p.0 in
    let r = and_parts (is_number it.unit) (is_number it.parcel) q.0 in
    let s = and_parts (is_further_part_count (length it.rest)) (have_names it.rest) p.1 in
    record { unit = r.0; parcel = r.1; label = q.1; count = s.0; rest = s.1 }

record Transferred (it : Transfer) : Type 0 where
  unit : is_number it.unit ≡ true
  right : is_number it.right ≡ true
  receiver : is_number it.receiver ≡ true

transferred : (it : Transfer) → is_transfer it ≡ true → Transferred it
transferred it e =
    let p = and_parts (is_number it.unit && is_number it.right) (is_number it.receiver) e in
    let q = and_parts (is_number it.unit) (is_number it.right) p.0 in
    record { unit = q.0; right = q.1; receiver = p.1 }

-- ---- the JSON of a content is exact, and its depth is small

fits : (n : ℕ) → is_number n ≡ true → nat_lt n (2 ^ 64) ≡ true
fits n e = let p = and_parts (nat_le 1 n) (nat_le n 1000000000) e in grind (arith, nat_tests, p.1)

amount_fits : (n : ℕ) → is_amount n ≡ true → nat_lt n (2 ^ 64) ≡ true
amount_fits n e = let p = and_parts (nat_le 1 n) (nat_le n 1000000000000000) e in grind (arith, nat_tests, p.1)

numbers_exact : (numbers : List ℕ) → list_all is_number numbers ≡ true → are_exact (items_of (map number_data numbers)) ≡ true
numbers_exact [] e = refl
numbers_exact (n ∷ ns) e = let p = and_parts (is_number n) (list_all is_number ns) e in rw (fits n p.0, numbers_exact ns p.1) refl

numbers_depth : (numbers : List ℕ) → items_depth (items_of (map number_data numbers)) ≤ 1
numbers_depth [] = omega arith
numbers_depth (n ∷ ns) = omega (arith, numbers_depth ns)

part_exact : (part : Part) → is_exact (part_data part) ≡ true
part_exact part = by part.unit
  where
    by : (unit : Option (List ℕ)) → (let it : Part = record { label = part.label; outline = part.outline; unit = unit } in is_exact (part_data it) ≡ true)
    by None = refl
    by (Some name) = refl

parts_exact : (parts : List Part) → are_exact (items_of (map part_data parts)) ≡ true
parts_exact [] = refl
parts_exact (part ∷ parts) = rw (part_exact part, parts_exact parts) refl

part_depth : (part : Part) → depth (part_data part) ≡ 1
part_depth part = by part.unit
  where
    by : (unit : Option (List ℕ)) → (let it : Part = record { label = part.label; outline = part.outline; unit = unit } in depth (part_data it) ≡ 1)
    by None = refl
    by (Some name) = refl

parts_depth : (parts : List Part) → items_depth (items_of (map part_data parts)) ≤ 1
parts_depth [] = omega arith
parts_depth (part ∷ parts) = omega (arith, part_depth part, parts_depth parts)

pub exact : (it : Content) → is_well_formed_content it ≡ true → is_exact (content_data it) ≡ true
exact (content.Transfer it) e = let h = transferred it e in rw (fits it.unit h.unit, fits it.right h.right, fits it.receiver h.receiver) refl
exact (content.Subdivision it) e = let h = divided it e in rw (fits it.unit h.unit, fits it.parcel h.parcel, parts_exact it.rest) refl
exact (content.Merger it) e = let h = merged it e in rw (fits it.unit h.unit, numbers_exact it.others h.others, numbers_exact it.parcels h.parcels) refl
exact (content.Mortgage it) e = let h = mortgaged it e in rw (fits it.unit h.unit, fits it.creditor h.creditor, amount_fits it.amount h.amount) refl
exact (content.Discharge it) e = let h = and_parts (is_number it.unit) (is_number it.mortgage) e in rw (fits it.unit h.0, fits it.mortgage h.1) refl

shallow : (it : Content) → depth (content_data it) ≤ max_depth
shallow (content.Transfer it) = omega arith
shallow (content.Subdivision it) = omega (arith, parts_depth it.rest)
shallow (content.Merger it) = omega (arith, numbers_depth it.others, numbers_depth it.parcels)
shallow (content.Mortgage it) = omega arith
shallow (content.Discharge it) = omega arith

-- ---- arrays

count_is : {A : Type 0} (data_of : A → Data) (xs : List A) → item_count (items_of (map data_of xs)) ≡ length xs
count_is data_of [] = refl
count_is data_of (x ∷ xs) = ap suc (count_is data_of xs)

number_is_read : (n : ℕ) → is_number n ≡ true → number_in (number_data n) ≡ Ok n
unfolding number_in
number_is_read n e = rw e refl

numbers_are_read : (numbers : List ℕ) → list_all is_number numbers ≡ true → each_item number_in (items_of (map number_data numbers)) ≡ Ok numbers
numbers_are_read [] e = refl
numbers_are_read (n ∷ ns) e = let p = and_parts (is_number n) (list_all is_number ns) e in rw (number_is_read n p.0, numbers_are_read ns p.1) refl

none_or_more : (n : ℕ) → nat_le 0 n ≡ true
none_or_more n = grind (arith, nat_tests)

-- ---- contents

answered : PrintedLaw → OneAnswerLaw → (ring : List Place) → IsOutline ring → (answer : Result (List Place) ShapeFault) → IsOutlineAnswer (polygon_text ring) answer → ring_or_fault answer ≡ Ok ring
answered printing one ring h (Ok other) right = ap Ok (printing.alone ring other h right)
answered printing one ring h (Err f) right = absurd (one.not_both (polygon_text ring) ring f (printing.stands ring h) right)

module _ (shares : SameFractionLaw) (printing : PrintedLaw) (one : OneAnswerLaw) (answers : OutlinesAreAnswered) where
  pub outline_is_read : (ring : List Place) → IsOutline ring → outline_of (polygon_text ring) ≡ Ok ring
  unfolding outline_of
  outline_is_read ring h = answered printing one ring h (outline_answer (polygon_text ring)) (answers (polygon_text ring))

  transfer_is_read : (it : Transfer) → is_transfer it ≡ true → IsFraction it.share → transfer_of (transfer_data it) ≡ Ok it
  unfolding transfer_of number_at field_at number_in share_at text_at
  transfer_is_read it e h = let l = transferred it e in rw (l.unit, l.right, l.receiver, share_is_read shares it.share h) refl

  first_is_read : (it : NewParcel) → is_label it.label ≡ true → IsOutline it.outline → parcel_of (first_data it) ≡ Ok it
  unfolding parcel_of object_with field_at text_at outline_in
  first_is_read it e h = rw (e, outline_is_read it.outline h) refl

  part_is_read : (part : Part) → is_part part ≡ true → IsOutline part.outline → part_of (part_data part) ≡ Ok part
  unfolding part_of object_with field_at text_at outline_in
  part_is_read part e h =
      let p = and_parts (is_label part.label) (is_new_name part.unit) e in
      by part.unit part.label part.outline p.0 (outline_is_read part.outline h) p.1
    where
      by : (unit : Option (List ℕ)) (label : List ℕ) (outline : List Place) → is_label label ≡ true → outline_of (polygon_text outline) ≡ Ok outline → is_new_name unit ≡ true
          → (let it : Part = record { label = label; outline = outline; unit = unit } in part_of (part_data it) ≡ Ok it)
      by None label outline l r u = rw (l, r) refl
      by (Some name) label outline l r u = rw (l, r, u) refl

  parts_are_read : (parts : List Part) → list_all is_part parts ≡ true → AllByRecursion HasPartOutline parts → each_item part_of (items_of (map part_data parts)) ≡ Ok parts
  parts_are_read [] e h = refl
  parts_are_read (part ∷ parts) e h =
      let p = and_parts (is_part part) (list_all is_part parts) e in
      rw (part_is_read part p.0 h.0, parts_are_read parts p.1 h.1) refl

  subdivision_is_read : (it : Subdivision) → is_subdivision it ≡ true → IsOutline it.first.outline → AllByRecursion HasPartOutline it.rest
      → subdivision_of (subdivision_data it) ≡ Ok it
  unfolding subdivision_of number_at field_at number_in rest_of items_at
  subdivision_is_read it e first rest =
      let l = divided it e in
      rw (l.unit, l.parcel, first_is_read it.first l.label first, count_is part_data it.rest, l.count, parts_are_read it.rest l.rest rest) refl

  merger_is_read : (it : Merger) → is_merger it ≡ true → IsOutline it.outline → merger_of (merger_data it) ≡ Ok it
  unfolding merger_of number_at field_at number_in increasing_at items_at text_at outline_in
  merger_is_read it e h =
      let l = merged it e in
      rw (
        l.unit,
        count_is number_data it.others,
        none_or_more (length it.others),
        l.few,
        numbers_are_read it.others l.others,
        l.above,
        l.without,
        count_is number_data it.parcels,
        l.some,
        l.most,
        numbers_are_read it.parcels l.parcels,
        l.rise,
        l.label,
        outline_is_read it.outline h,
      ) refl

  mortgage_is_read : (it : Mortgage) → is_mortgage it ≡ true → mortgage_of (mortgage_data it) ≡ Ok it
  unfolding mortgage_of number_at field_at number_in text_at
  mortgage_is_read it e = let l = mortgaged it e in rw (l.unit, l.creditor, l.amount, l.currency) refl

  discharge_is_read : (it : Discharge) → is_discharge it ≡ true → discharge_of (discharge_data it) ≡ Ok it
  unfolding discharge_of number_at field_at number_in
  discharge_is_read it e = let p = and_parts (is_number it.unit) (is_number it.mortgage) e in rw (p.0, p.1) refl

  data_is_read : (it : Content) → is_well_formed_content it ≡ true → IsExactContent it → (content_kind_of (content_word it) >>= λ which. content_of which (content_data it)) ≡ Ok it
  unfolding content_of object_with
  data_is_read (content.Transfer it) e h = rw (transfer_is_read it e h) refl
  data_is_read (content.Subdivision it) e h = rw (subdivision_is_read it e h.0 h.1) refl
  data_is_read (content.Merger it) e h = rw (merger_is_read it e h) refl
  data_is_read (content.Mortgage it) e h = rw (mortgage_is_read it e) refl
  data_is_read (content.Discharge it) e h = rw (discharge_is_read it e) refl

pub content_is_read : CompactLaw → SameFractionLaw → PrintedLaw → OneAnswerLaw → OutlinesAreAnswered → ContentsRoundTrip
unfolding content_in
content_is_read compact shares printing one answers it h =
    ap (λ found. content_kind_of (content_word it) >>= λ which. or_fault found fault.Json >>= λ value. content_of which value)
    (compact (content_data it) (exact it h.within_limits) (shallow it))
    ∙ data_is_read shares printing one answers it h.within_limits h.is_exact
