-- The act `lodge`: a mutation is filed with its document, undecided. Lodging does not read the objects to
-- which the content refers.
use Rattle.std.specs.Prelude.{ℕ, ◌+◌, ℤ, Bool, false, not, ◌&&◌, nat_lt, List, [], ◌∷◌, Option, Some, None}
use Rattle.std.specs.Prelude.{is_none, if◌then◌else◌}
use Rattle.std.specs.List.{find}
use Rattle.std.specs.Option.{option_map_or}
use Rattle.std.specs.Str.{bytes_eq}
use Rattle.std.specs.FinMap as map
use Rattle.land_acts.specs.Mutations.Planning.{document_source, runs_out_of_numbers}
use Rattle.land_acts.specs.declared.mutations.refusal.Refusal.{Refusal}
use Rattle.land_acts.specs.declared.mutations.refusal.Refusal.TheVariants.{TooMany, ReferenceUsed, ClockOut}
use Rattle.land_core.specs.Changes.{no_put, no_ended}
use Rattle.land_core.specs.Contents.{is_same_content}
use Rattle.land_core.specs.Mutations.{is_lodged_as}
use Rattle.land_core.specs.declared.act.Lodging.{Lodging}
use Rattle.land_core.specs.declared.caller.Caller.{Caller}
use Rattle.land_core.specs.declared.change.Change.{Change}
use Rattle.land_core.specs.declared.change.Done.{Done}
use Rattle.land_core.specs.declared.content.Content.{Content}
use Rattle.land_core.specs.declared.content.Content.TheVariants as content
use Rattle.land_core.specs.declared.mutation.MutationRecord.{MutationRecord}
use Rattle.land_core.specs.declared.mutation.MutationState.TheVariants.{Lodged}
use Rattle.land_core.specs.declared.register.Register.{Register}
use Rattle.land_core.specs.declared.source.SourceKind.{SourceKind}
use Rattle.land_core.specs.declared.source.SourceKind.TheVariants.{Administrative, Spatial}

-- the mutation that a party has lodged under a reference, with its number; there is at most one
abbrev pub mutation_with_reference : Register → (lodger : ℕ) → (reference : List ℕ)
    → Option (ℕ × MutationRecord)
mutation_with_reference r lodger reference = find (λ e. is_lodged_as lodger reference e.1)
    (map.entries r.mutations)

-- whether a source exists and has this title
abbrev pub has_title : Register → (source : ℕ) → (title : List ℕ) → Bool
has_title r source title = option_map_or (λ s. bytes_eq s.title title) (map.get r.sources source) false

-- whether a mutation was lodged with the same document and the same content
abbrev pub is_same_lodging : Register → Lodging → MutationRecord → Bool
is_same_lodging r it m = has_title r m.source it.document && is_same_content m.content it.content

-- two numbers in ascending order
abbrev pub ascending_pair : ℕ → ℕ → List ℕ
ascending_pair m n = if nat_lt n m then n ∷ m ∷ [] else m ∷ n ∷ []

-- the receipt that a lodging got: it created the mutation and its source
abbrev pub receipt_of_lodging : ℕ × MutationRecord → Done
receipt_of_lodging e = record { number = e.0; made = ascending_pair e.1.source e.0; stamp = e.1.lodged }

-- the receipt of an earlier lodging, if this one repeats it
abbrev pub repeat_of : Register → Lodging → Option (ℕ × MutationRecord) → Option Done
repeat_of r it None = None
repeat_of r it (Some e) = if is_same_lodging r it e.1 then Some (receipt_of_lodging e) else None

-- the same, with the lodging under the reference
abbrev pub lodge_repeat : Register → Caller → Lodging → Option Done
lodge_repeat r caller it = repeat_of r it (mutation_with_reference r caller.party it.reference)

-- whether the caller has lodged another document or content under the reference
abbrev pub has_lodged_other : Register → Caller → Lodging → Bool
has_lodged_other r caller it =
    option_map_or (λ e. not (is_same_lodging r it e.1))
    (mutation_with_reference r caller.party it.reference) false

-- the refusals with their conditions, in ascending order
abbrev pub lodge_refusals : Register → Caller → Lodging → Option ℤ → List (Refusal × Bool)
lodge_refusals r caller it stamp =
    (TooMany, runs_out_of_numbers r 2) ∷ (ReferenceUsed, has_lodged_other r caller it)
    ∷ (ClockOut, is_none stamp)
    ∷ []

-- the document of a subdivision or a merger is a plan, which is a spatial source
abbrev pub document_kind : Content → SourceKind
document_kind (content.Transfer it) = Administrative
document_kind (content.Subdivision it) = Spatial
document_kind (content.Merger it) = Spatial
document_kind (content.Mortgage it) = Administrative
document_kind (content.Discharge it) = Administrative

-- the new mutation, undecided
abbrev pub new_mutation_record : Caller → Lodging → (source : ℕ) → ℤ → MutationRecord
new_mutation_record caller it source stamp =
    record {
      lodger = caller.party;
      reference = it.reference;
      source = source;
      lodged = stamp;
      state = Lodged;
      content = it.content;
    }

-- the source gets the next number, and the mutation the one after it
abbrev pub lodge_change : Register → Caller → Lodging → ℤ → Change
lodge_change r caller it stamp = record {
  put = record no_put {
    sources = document_source r.next (document_kind it.content) it.document;
    mutations = (r.next + 1, new_mutation_record caller it r.next stamp) ∷ [];
  };
  ended = no_ended;
  next = r.next + 2;
}

-- the receipt is about the mutation
abbrev pub lodge_done : Register → ℤ → Done
lodge_done r stamp = record { number = r.next + 1; made = r.next ∷ (r.next + 1) ∷ []; stamp = stamp }
