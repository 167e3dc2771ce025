-- The cells in which mutations are written.
use Rattle.std.specs.Prelude.{ℕ, ℤ, pos, ◌&&◌, Bool, true, int_le, List, Option, Some, None}
use Rattle.std.specs.List.{list_all}
use Rattle.std.specs.Str.{is_utf8}
use Rattle.land_core.specs.Contents.{is_well_formed_content}
use Rattle.land_core.specs.Numbers.{is_number, last_moment}
use Rattle.land_core.specs.Texts.{is_reference}
use Rattle.land_core.specs.Words.{content_word, state_word}
use Rattle.land_core.specs.declared.content.Content.{Content}
use Rattle.land_core.specs.declared.content.Content.TheVariants as content
use Rattle.land_core.specs.declared.mutation.MutationRecord.{MutationRecord}
use Rattle.land_core.specs.declared.subdivision.Part.{Part}
use Rattle.land_tables_rows.specs.Cells.Texts.{is_storable}
use Rattle.land_tables_schema.specs.Rows.Mutation.{MutationRow}
use Rattle.land_wire_json.specs.Bodies.Stored.{IsExactContent}
use Rattle.land_wire_json.specs.Texts.Mutations.{content_text}

-- the word of its act, and its content as JSON
abbrev pub mutation_row_of : ℕ × MutationRecord → MutationRow
mutation_row_of e = record {
  number = e.0;
  lodger = e.1.lodger;
  reference = e.1.reference;
  source = e.1.source;
  lodged = e.1.lodged;
  act = content_word e.1.content;
  content = content_text e.1.content;
  state = state_word e.1.state;
}

-- ---- the strings of the content are in UTF-8

abbrev pub is_new_name_kept : Option (List ℕ) → Bool
is_new_name_kept None = true
is_new_name_kept (Some name) = is_utf8 name

abbrev pub is_part_kept : Part → Bool
is_part_kept part = is_utf8 part.label && is_new_name_kept part.unit

abbrev pub is_content_kept : Content → Bool
is_content_kept (content.Transfer it) = true
is_content_kept (content.Subdivision it) = is_utf8 it.first.label && list_all is_part_kept it.rest
is_content_kept (content.Merger it) = is_utf8 it.label
is_content_kept (content.Mortgage it) = is_utf8 it.currency
is_content_kept (content.Discharge it) = true

-- ---- limits

-- a moment: Unix time in milliseconds
abbrev pub is_moment : ℤ → Bool
is_moment z = int_le (pos 0) z && int_le z last_moment

-- its numbers, its reference and its content are within their limits, and it was lodged at a moment
abbrev pub fits_mutation : ℕ × MutationRecord → Bool
fits_mutation e =
    is_number e.0
    && (is_number e.1.lodger
    && (is_storable is_reference e.1.reference && (is_number e.1.source && (is_moment e.1.lodged
    && (is_content_kept e.1.content && is_well_formed_content e.1.content)))))

-- the share in its content is a fraction, and its outlines are valid rings
abbrev pub IsExactMutation : MutationRecord → Type 0
IsExactMutation mutation = IsExactContent mutation.content
