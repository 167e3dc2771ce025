-- The content of a mutation is written in UTF-8.
use Rattle.std.proofs.Common.{◌≡◌, ◌≤◌, ◌^◌, ◌&&◌, ℕ, List, [], ◌∷◌, ◌++◌, map, Bool, true, false, codes, decimal, Option, Some, None, IsUtf8, refl, ltb-true, arith}
use Rattle.std.proofs.lemmas.Fmt.{IsAscii-decimal}
use Rattle.std.proofs.lemmas.Str.{IsUtf8-append, IsUtf8-from_ascii, IsUtf8-from_is_utf8, is_utf8-from_IsUtf8}
use Rattle.std.specs.Bool.{⊤}
use Rattle.std.specs.List.{AllByRecursion, list_all}
use Rattle.std.specs.Str.{is_utf8}
use Rattle.std.proofs.lemmas.Bool.{and_parts}
use Rattle.json.proofs.Printed.Utf8.{IsUtf8-are_ascii, IsUtf8-boolean, IsUtf8-quoted, are_ascii}
use Rattle.json.specs.Print.{quoted}
use Rattle.land_core.specs.Contents.{is_well_formed_content}
use Rattle.land_core.specs.declared.content.Content.{Content}
use Rattle.land_core.specs.declared.content.Content.TheVariants as content
use Rattle.land_core.specs.declared.subdivision.Part.{Part}
use Rattle.land_fraction.specs.Ratio.{Ratio, IsFraction}
use Rattle.land_fraction.specs.Text.{fraction_text}
use Rattle.land_tables_rows.proofs.TextReadings.{ascii_is_utf8, printed_is_utf8}
use Rattle.land_tables_rows.specs.Mutation.Cells.{is_content_kept, is_new_name_kept, is_part_kept}
use Rattle.land_wire_json.proofs.ContentReading.{exact}
use Rattle.land_wire_json.specs.Bodies.Stored.{HasPartOutline, IsExactContent}
use Rattle.land_wire_json.specs.Texts.Exact.{are_keys_after, are_exact, is_exact, is_u64, has_increasing_keys}
use Rattle.land_wire_json.specs.Texts.Mutations.{content_data, content_text}
use Rattle.land_wire_json.specs.Texts.Subdivisions.{name_members, part_data}
use Rattle.land_wire_json.specs.Texts.Values.{number_data}
use Rattle.serde_json.specs.Data.{Num, unsigned, negative, float, Data, null, boolean, number, string, array, object, Items, no_items, item, Members, no_members, member}
use Rattle.serde_json.specs.View.{items_of}
use Rattle.serde_json.specs.Written.{comma_if, compact_text, items_text, members_text, number_text}

-- ---- JSON whose strings are in UTF-8 is written in UTF-8

abbrev mutual
  IsReadable : Data → Type 0
  IsReadable null = ⊤
  IsReadable (boolean b) = ⊤
  IsReadable (number n) = ⊤
  IsReadable (string s) = is_utf8 s ≡ true
  IsReadable (array items) = AreReadable items
  IsReadable (object members) = HaveReadable members

  AreReadable : Items → Type 0
  AreReadable no_items = ⊤
  AreReadable (item value items) = IsReadable value × AreReadable items

  HaveReadable : Members → Type 0
  HaveReadable no_members = ⊤
  HaveReadable (member key value members) = (are_ascii key ≡ true) × IsReadable value × HaveReadable members

number_utf8 : (n : Num) → is_u64 n ≡ true → IsUtf8 (number_text n)
number_utf8 (unsigned n) e = IsUtf8-from_ascii (decimal n) (IsAscii-decimal n (ltb-true n (2 ^ 64) e))
number_utf8 (negative z) e = let none : ⊥ = cc in absurd none
number_utf8 (float x) e = let none : ⊥ = cc in absurd none

comma_utf8 : (later : Bool) → IsUtf8 (comma_if later)
comma_utf8 true = IsUtf8-are_ascii (44 ∷ []) refl
comma_utf8 false = IsUtf8-are_ascii [] refl

byte_then : (b : ℕ) (text : List ℕ) → IsUtf8 (b ∷ []) → IsUtf8 text → IsUtf8 (b ∷ text)
byte_then b text one h = IsUtf8-append (b ∷ []) text one h

quoted_utf8 : (s : List ℕ) → is_utf8 s ≡ true → IsUtf8 (quoted s)
quoted_utf8 s e = IsUtf8-quoted s (IsUtf8-from_is_utf8 s e)

mutual
  text_utf8 : (value : Data) → is_exact value ≡ true → IsReadable value → IsUtf8 (compact_text value)
  text_utf8 null e r = IsUtf8-are_ascii (compact_text null) refl
  text_utf8 (boolean b) e r = IsUtf8-boolean b
  text_utf8 (number n) e r = number_utf8 n e
  text_utf8 (string s) e r = quoted_utf8 s r
  text_utf8 (array items) e r = byte_then 91 (items_text false items) (IsUtf8-are_ascii (91 ∷ []) refl) (items_utf8 false items e r)
  text_utf8 (object members) e r = byte_then 123 (members_text false members) (IsUtf8-are_ascii (123 ∷ []) refl) (members_utf8 false members e r)

  items_utf8 : (later : Bool) (items : Items) → are_exact items ≡ true → AreReadable items → IsUtf8 (items_text later items)
  items_utf8 later no_items e r = IsUtf8-are_ascii (93 ∷ []) refl
  items_utf8 later (item value items) e r =
      let p = and_parts (is_exact value) (are_exact items) e in
      IsUtf8-append (comma_if later) (compact_text value ++ items_text true items) (comma_utf8 later)
      (IsUtf8-append (compact_text value) (items_text true items) (text_utf8 value p.0 r.0) (items_utf8 true items p.1 r.1))

  members_utf8 : (later : Bool) (members : Members) → has_increasing_keys members ≡ true → HaveReadable members → IsUtf8 (members_text later members)
  members_utf8 later no_members e r = IsUtf8-are_ascii (125 ∷ []) refl
  members_utf8 later (member key value members) e r =
      let p = and_parts (is_exact value && are_keys_after key members) (has_increasing_keys members) e in
      let o = and_parts (is_exact value) (are_keys_after key members) p.0 in
      IsUtf8-append (comma_if later) (quoted key ++ 58 ∷ (compact_text value ++ members_text true members)) (comma_utf8 later)
      (IsUtf8-append (quoted key) (58 ∷ (compact_text value ++ members_text true members)) (quoted_utf8 key (ascii_is_utf8 key r.0))
      (byte_then 58 (compact_text value ++ members_text true members) (IsUtf8-are_ascii (58 ∷ []) refl)
      (IsUtf8-append (compact_text value) (members_text true members) (text_utf8 value o.0 r.1) (members_utf8 true members p.1 r.2))))

-- ---- contents

share_utf8 : (f : Ratio) → IsFraction f → IsUtf8 (fraction_text f)
share_utf8 f h =
    let below : f.denominator ≤ 1000000000 = h.not_too_fine in
    let most : f.numerator ≤ f.denominator = h.proper.at_most_one in
    let n : IsUtf8 (decimal f.numerator) = IsUtf8-from_ascii (decimal f.numerator) (IsAscii-decimal f.numerator (omega arith)) in
    let d : IsUtf8 (decimal f.denominator) = IsUtf8-from_ascii (decimal f.denominator) (IsAscii-decimal f.denominator (omega arith)) in
    IsUtf8-append (decimal f.numerator ++ codes "/") (decimal f.denominator) (IsUtf8-append (decimal f.numerator) (codes "/") n (IsUtf8-are_ascii (codes "/") refl)) d

share_is_utf8 : (f : Ratio) → IsFraction f → is_utf8 (fraction_text f) ≡ true
share_is_utf8 f h = is_utf8-from_IsUtf8 (fraction_text f) (share_utf8 f h)

numbers_readable : (numbers : List ℕ) → AreReadable (items_of (map number_data numbers))
numbers_readable [] = tt
numbers_readable (n ∷ ns) = (tt, numbers_readable ns)

name_readable : (unit : Option (List ℕ)) → is_new_name_kept unit ≡ true → HaveReadable (name_members unit)
name_readable None e = tt
name_readable (Some name) e = (refl, e, tt)

part_readable : (part : Part) → is_part_kept part ≡ true → HasPartOutline part → IsReadable (part_data part)
part_readable part e h =
    let p = and_parts (is_utf8 part.label) (is_new_name_kept part.unit) e in
    (refl, p.0, (refl, printed_is_utf8 part.outline h, name_readable part.unit p.1))

parts_readable : (parts : List Part) → list_all is_part_kept parts ≡ true → AllByRecursion HasPartOutline parts → AreReadable (items_of (map part_data parts))
parts_readable [] e h = tt
parts_readable (part ∷ parts) e h =
    let p = and_parts (is_part_kept part) (list_all is_part_kept parts) e in
    (part_readable part p.0 h.0, parts_readable parts p.1 h.1)

readable : (it : Content) → is_content_kept it ≡ true → IsExactContent it → IsReadable (content_data it)
readable (content.Transfer it) e h = (refl, tt, (refl, tt, (refl, share_is_utf8 it.share h, (refl, tt, tt))))
readable (content.Subdivision it) e h =
    let p = and_parts (is_utf8 it.first.label) (list_all is_part_kept it.rest) e in
    (refl, (refl, p.0, (refl, printed_is_utf8 it.first.outline h.0, tt)), (refl, tt, (refl, parts_readable it.rest p.1 h.1, (refl, tt, tt))))
readable (content.Merger it) e h =
    (refl, e, (refl, numbers_readable it.others, (refl, printed_is_utf8 it.outline h, (refl, numbers_readable it.parcels, (refl, tt, tt)))))
readable (content.Mortgage it) e h = (refl, tt, (refl, tt, (refl, e, (refl, tt, tt))))
readable (content.Discharge it) e h = (refl, tt, (refl, tt, tt))

pub content_is_utf8 : (it : Content) → is_well_formed_content it ≡ true → is_content_kept it ≡ true → IsExactContent it → is_utf8 (content_text it) ≡ true
content_is_utf8 it formed kept whole =
    is_utf8-from_IsUtf8 (content_text it) (text_utf8 (content_data it) (exact it formed) (readable it kept whole))
