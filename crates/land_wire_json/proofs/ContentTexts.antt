-- Texts of contents of mutations, as plain bytes.
use Rattle.std.proofs.Common.{◌≡◌, ◌∙◌, ℕ, List, [], ◌∷◌, ◌++◌, map, true, false, Option, Some, None, refl, ap, codes, decimal}
use Rattle.land_core.specs.declared.content.Content.{Content}
use Rattle.land_core.specs.declared.content.Content.TheVariants as content
use Rattle.land_core.specs.declared.merger.Merger.{Merger}
use Rattle.land_core.specs.declared.subdivision.Part.{Part}
use Rattle.land_core.specs.declared.subdivision.Subdivision.{Subdivision}
use Rattle.land_wire_json.proofs.PartyTexts.{all_numbers, one_more}
use Rattle.land_wire_json.specs.Texts.Mergers.{merger_data, merger_text}
use Rattle.land_wire_json.specs.Texts.Mutations.{content_text, content_text_by_kind}
use Rattle.land_wire_json.specs.Texts.Subdivisions.{name_members, part_data, first_text, name_text, part_text, subdivision_data, subdivision_text}
use Rattle.land_wire_json.specs.Texts.Values.{number_data, after_comma, with_commas, outline_text, string_text}
use Rattle.serde_json.proofs.OnLiterals.{serde_json_on_literals}
use Rattle.serde_json.specs.View.{items_of}
use Rattle.serde_json.specs.Written.{compact_text, items_text, members_text}

-- ---- subdivisions

name-text : (name : Option (List ℕ)) → members_text true (name_members name) ≡ name_text name ++ codes "}"
unfolding serde_json_on_literals
name-text None = refl
name-text (Some name) = refl

part-text : (part : Part) → compact_text (part_data part) ≡ part_text part
unfolding serde_json_on_literals
part-text part =
    ap (λ (t : List ℕ). codes "{\"label\":" ++ (string_text part.label ++ (codes ",\"outline\":" ++ (outline_text part.outline ++ t))))
    (name-text part.unit)

more_parts : (ps : List Part) (rest : List ℕ) → items_text true (items_of (map part_data ps)) ++ rest ≡ after_comma (map part_text ps) ++ (93 ∷ rest)
more_parts [] rest = refl
more_parts (p ∷ ps) rest =
    ap (λ (t : List ℕ). 44 ∷ t)
    (one_more (compact_text (part_data p)) (part_text p) (items_text true (items_of (map part_data ps))) rest
    (after_comma (map part_text ps)) (93 ∷ rest) (part-text p) (more_parts ps rest))

all_parts : (ps : List Part) (rest : List ℕ) → items_text false (items_of (map part_data ps)) ++ rest ≡ with_commas (map part_text ps) ++ (93 ∷ rest)
all_parts [] rest = refl
all_parts (p ∷ ps) rest =
    one_more (compact_text (part_data p)) (part_text p) (items_text true (items_of (map part_data ps))) rest
    (after_comma (map part_text ps)) (93 ∷ rest) (part-text p) (more_parts ps rest)

subdivision-text : (it : Subdivision) → compact_text (subdivision_data it) ≡ subdivision_text it
unfolding serde_json_on_literals
subdivision-text it =
    ap (λ (t : List ℕ). codes "{\"first\":" ++ (first_text it.first ++ (codes ",\"parcel\":" ++ (decimal it.parcel ++ (codes ",\"rest\":[" ++ t)))))
    (all_parts it.rest (codes ",\"unit\":" ++ (decimal it.unit ++ codes "}")))

-- ---- mergers

merger_parts : (L A M W B O C N V E : List ℕ) → ((rest : List ℕ) → M ++ rest ≡ W ++ (93 ∷ rest)) → ((rest : List ℕ) → N ++ rest ≡ V ++ (93 ∷ rest))
    → L ++ (A ++ (M ++ (B ++ (O ++ (C ++ (N ++ E)))))) ≡ L ++ (A ++ (W ++ (93 ∷ (B ++ (O ++ (C ++ (V ++ (93 ∷ E))))))))
merger_parts L A M W B O C N V E m n =
    ap (λ (t : List ℕ). L ++ (A ++ t))
    (m (B ++ (O ++ (C ++ (N ++ E)))) ∙ ap (λ (t : List ℕ). W ++ (93 ∷ (B ++ (O ++ (C ++ t))))) (n E))

merger-text : (it : Merger) → compact_text (merger_data it) ≡ merger_text it
unfolding serde_json_on_literals
merger-text it =
    ap (λ (t : List ℕ). codes "{\"label\":" ++ t)
    (merger_parts (string_text it.label) (codes ",\"others\":[") (items_text false (items_of (map number_data it.others)))
    (with_commas (map decimal it.others)) (codes ",\"outline\":") (outline_text it.outline) (codes ",\"parcels\":[")
    (items_text false (items_of (map number_data it.parcels))) (with_commas (map decimal it.parcels))
    (codes ",\"unit\":" ++ (decimal it.unit ++ codes "}")) (all_numbers it.others) (all_numbers it.parcels))

pub content-text : (it : Content) → content_text it ≡ content_text_by_kind it
unfolding serde_json_on_literals
content-text (content.Transfer it) = refl
content-text (content.Subdivision it) = subdivision-text it
content-text (content.Merger it) = merger-text it
content-text (content.Mortgage it) = refl
content-text (content.Discharge it) = refl
