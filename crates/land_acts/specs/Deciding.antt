-- The acts `approve` and `refuse`: a mutation is decided, and an approval executes its content.
use Rattle.std.specs.Prelude.{ℕ, ℤ, Bool, true, false, not, List, [], ◌∷◌, Option, is_none}
use Rattle.std.specs.Option.{option_map_or}
use Rattle.std.specs.FinMap as map
use Rattle.land_acts.specs.Mutations.ByContent.{content_change, content_made, content_refusals, has_room}
use Rattle.land_acts.specs.declared.mutations.refusal.Refusal.{Refusal}
use Rattle.land_acts.specs.declared.mutations.refusal.Refusal.TheVariants.{NotLodged, ClockOut}
use Rattle.land_core.specs.Changes.{no_change}
use Rattle.land_core.specs.Mutations.{is_undecided}
use Rattle.land_core.specs.declared.act.Decision.{Decision}
use Rattle.land_core.specs.declared.change.Change.{Change}
use Rattle.land_core.specs.declared.change.Done.{Done}
use Rattle.land_core.specs.declared.mutation.MutationRecord.{MutationRecord}
use Rattle.land_core.specs.declared.mutation.MutationState.{MutationState}
use Rattle.land_core.specs.declared.mutation.MutationState.TheVariants.{Approved, Refused}
use Rattle.land_core.specs.declared.register.Register.{Register}

-- whether an undecided mutation exists at a number
abbrev pub is_lodged : Register → ℕ → Bool
is_lodged r n = option_map_or is_undecided (map.get r.mutations n) false

-- the mutation in another state
abbrev pub decided_mutation : MutationState → MutationRecord → MutationRecord
decided_mutation state m = record m { state = state }

-- a change that also sets the state of a mutation
abbrev pub with_state : MutationState → (number : ℕ) → MutationRecord → Change → Change
with_state state number m change =
    record change { put = record change.put { mutations = (number, decided_mutation state m) ∷ [] } }

-- the refusals with their conditions: first 201, then those of the content in ascending order
abbrev pub approve_refusals : Register → Decision → Option ℤ → List (Refusal × Bool)
approve_refusals r it stamp =
    (NotLodged, not (is_lodged r it.mutation))
    ∷ option_map_or (λ m. content_refusals r m.content stamp) (map.get r.mutations it.mutation) []

-- the refusals of a refusal with their conditions, in ascending order
abbrev pub refuse_refusals : Register → Decision → Option ℤ → List (Refusal × Bool)
refuse_refusals r it stamp = (NotLodged, not (is_lodged r it.mutation)) ∷ (ClockOut, is_none stamp) ∷ []

-- the change of the content, with the mutation's source, and the mutation is approved
abbrev pub approve_change : Register → Decision → Change
approve_change r it =
    option_map_or (λ m. with_state Approved it.mutation m (content_change r m.source m.content))
    (map.get r.mutations it.mutation) (no_change r.next)

-- the mutation is refused, and nothing else changes
abbrev pub refuse_change : Register → Decision → Change
refuse_change r it =
    option_map_or (λ m. with_state Refused it.mutation m (no_change r.next)) (map.get r.mutations it.mutation)
    (no_change r.next)

-- the receipt is about the mutation
abbrev pub approve_done : Register → Decision → ℤ → Done
approve_done r it stamp =
    record {
      number = it.mutation;
      made = option_map_or (λ m. content_made r m.content)
          (map.get r.mutations it.mutation) [];
      stamp = stamp;
    }

-- the numbers and ranks that the content creates stay in range
abbrev pub approve_has_room : Register → Decision → Bool
approve_has_room r it = option_map_or (λ m. has_room r m.content) (map.get r.mutations it.mutation) true
