-- The approval of a merger keeps a register sound, and its change has each key once.
use Rattle.std.proofs.Common.{◌≡◌, ◌≤◌, ◌+◌, ℕ, true, ◌&&◌, Option, Some, None, refl, arith}
use Rattle.std.specs.Prelude.{ℤ}
use Rattle.std.specs.FinMap as map
use Rattle.std.specs.FinMap.{nat_cmp-IsAntisymmetric}
use Rattle.std.specs.Cmp.{nat_cmp_total}
use Rattle.std.proofs.lemmas.Bool.{ltb-false, and_parts, not-false}
use Rattle.land_acts.proofs.DecidedMutations.{decided_is_sound}
use Rattle.land_acts.proofs.MergedKeys.{merger_names_once, unrefused_merger}
use Rattle.land_acts.proofs.MergedUnits.{merged_is_sound}
use Rattle.land_acts.specs.Deciding.{with_state}
use Rattle.land_acts.specs.Mutations.ByContent.{StaysInRange, content_refusals}
use Rattle.land_acts.specs.Mutations.Merging.{merger_change}
use Rattle.land_acts.specs.Mutations.Planning.{first_refusal_of}
use Rattle.land_core.proofs.Reflection.{none_at}
use Rattle.land_core.proofs.SoundRegisters.{refers}
use Rattle.land_core.specs.Changes.{NamesKeysOnce, after}
use Rattle.land_core.specs.Contents.{is_well_formed_content}
use Rattle.land_core.specs.Entries.{has}
use Rattle.land_core.specs.Numbers.{last_next}
use Rattle.land_core.specs.Soundness.{IsSound, is_dangling_mutation}
use Rattle.land_core.specs.declared.content.Content.TheVariants as content
use Rattle.land_core.specs.declared.merger.Merger.{Merger}
use Rattle.land_core.specs.declared.mutation.MutationRecord.{MutationRecord}
use Rattle.land_core.specs.declared.mutation.MutationState.TheVariants.{Approved}
use Rattle.land_core.specs.declared.register.Register.{Register}
use Rattle.land_core.specs.declared.soundness.Unsound.TheVariants.{Reference}

-- in a sound register, the source of a mutation exists, and its content is within its limits
pub record IsTight (r : Register) (m : MutationRecord) : Type 0 where
  pub source : has r.sources m.source ≡ true
  pub formed : is_well_formed_content m.content ≡ true

pub tight_mutation : (r : Register) → IsSound r → (n : ℕ) (m : MutationRecord) → map.get r.mutations n ≡ Some m → IsTight r m
tight_mutation r sound n m is =
    let all = not-false _ (none_at nat_cmp_total nat_cmp-IsAntisymmetric (λ n m. is_dangling_mutation r m) r.mutations n m (refers r (sound Reference)).mutations is) in
    let parts = and_parts (has r.parties m.lodger && has r.sources m.source) (is_well_formed_content m.content) all in
    record { source = (and_parts (has r.parties m.lodger) (has r.sources m.source) parts.0).1; formed = parts.1 }

module _ (r : Register) (it : Merger) (stamp : Option ℤ) (none : first_refusal_of (content_refusals r (content.Merger it) stamp) ≡ None) where
  pub approved_merger_is_sound : IsSound r → (number : ℕ) (m : MutationRecord) → map.get r.mutations number ≡ Some m → is_well_formed_content (content.Merger it) ≡ true
      → IsSound (after (with_state Approved number m (merger_change r m.source it)) r)
  approved_merger_is_sound sound number m is formed =
      let unrefused = unrefused_merger r it stamp none in
      decided_is_sound (after (merger_change r m.source it) r) number m Approved is
      (merged_is_sound r m.source it sound (tight_mutation r sound number m is).source formed unrefused.units unrefused.parcels unrefused.alike unrefused.room unrefused.few)

  pub approved_merger_once : IsSound r → (number : ℕ) (m : MutationRecord) → is_well_formed_content (content.Merger it) ≡ true
      → NamesKeysOnce (with_state Approved number m (merger_change r m.source it))
  approved_merger_once sound number m formed =
      let once = merger_names_once r m.source it sound formed (unrefused_merger r it stamp none).parcels in
      record { parties = once.parties; roles = once.roles; members = once.members; units = once.units; parcels = once.parcels; rrrs = once.rrrs; sources = once.sources; mutations = refl; mandates = refl }

  -- its new parcel has a valid number
  pub merger_fits : StaysInRange r (content.Merger it)
  merger_fits =
      let most : r.next + 1 ≤ last_next = ltb-false last_next (r.next + 1) (unrefused_merger r it stamp none).room in
      omega (arith, most)
