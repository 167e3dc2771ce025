-- Decisions keep a register sound, and their changes have each key once.
use Rattle.std.proofs.Common.{◌≡◌, ℕ, ◌≤◌, true, ◌&&◌, Option, Some, None, [], refl, sym, ap, subst, arith}
use Rattle.std.specs.Prelude.{ℤ, is_some}
use Rattle.std.specs.Option.{option_map_or}
use Rattle.std.specs.Cmp.{nat_cmp_total}
use Rattle.std.specs.FinMap as map
use Rattle.std.specs.FinMap.{nat_cmp-IsAntisymmetric}
use Rattle.std.proofs.lemmas.Bool.{false≢true, and_parts, not-false}
use Rattle.land_acts.proofs.DecidedMutations.{decided_is_sound}
use Rattle.land_acts.proofs.DischargedEntries.{discharged_is_sound}
use Rattle.land_acts.proofs.MergedApprovals.{approved_merger_is_sound, approved_merger_once, tight_mutation}
use Rattle.land_acts.proofs.MortgagedUnits.{mortgaged_is_sound}
use Rattle.land_acts.proofs.SubdividedGrounds.{unrefused_subdivision}
use Rattle.land_acts.proofs.SubdividedKeys.{subdivision_names_once}
use Rattle.land_acts.proofs.SubdividedRegisters.{subdivided_is_sound, subdivision_grows}
use Rattle.land_acts.proofs.Transfers.{sound_names_once, transferred_is_sound}
use Rattle.land_acts.proofs.UnrefusedContents.{unrefused_discharge, unrefused_mortgage, unrefused_move}
use Rattle.land_acts.specs.Deciding.{approve_change, refuse_change, with_state}
use Rattle.land_acts.specs.Mutations.ByContent.{content_change, content_refusals, transfer_change}
use Rattle.land_acts.specs.Mutations.Discharging.{discharge_change}
use Rattle.land_acts.specs.Mutations.Mortgaging.{mortgage_change}
use Rattle.land_acts.specs.Mutations.Planning.{first_refusal_of}
use Rattle.land_acts.specs.Mutations.Subdividing.{subdivision_change}
use Rattle.land_acts.specs.Mutations.Transferring.{right_of_receiver, right_at, move_change, number_after}
use Rattle.land_acts.specs.declared.mutations.transfer.HeldRight.{HeldRight}
use Rattle.land_core.proofs.Reflection.{none_at}
use Rattle.land_core.proofs.SoundRegisters.{refers, single_from, stands_from}
use Rattle.land_core.specs.Changes.{NamesKeysOnce, after, no_change}
use Rattle.land_core.specs.Contents.{is_well_formed_content}
use Rattle.land_core.specs.Entries.{has}
use Rattle.land_core.specs.Grants.{grant_to}
use Rattle.land_core.specs.Register.{has_single_party, holds}
use Rattle.land_core.specs.Soundness.{IsSound, is_dangling_mutation}
use Rattle.land_core.specs.declared.act.Decision.{Decision}
use Rattle.land_core.specs.declared.caller.Caller.{Caller}
use Rattle.land_core.specs.declared.content.Content.{Content}
use Rattle.land_core.specs.declared.content.Content.TheVariants as content
use Rattle.land_core.specs.declared.mutation.MutationRecord.{MutationRecord}
use Rattle.land_core.specs.declared.mutation.MutationState.TheVariants.{Approved, Refused}
use Rattle.land_core.specs.declared.register.Register.{Register}
use Rattle.land_core.specs.declared.soundness.Unsound.TheVariants.{Reference}
use Rattle.land_fraction.specs.Laws.{WholenessLaw}

-- a party that holds a role exists
pub caller_is_single : (r : Register) (caller : Caller) → IsSound r → holds r caller.party caller.role ≡ true → has_single_party r caller.party ≡ true
caller_is_single r caller sound held =
    single_from r (refers r (sound Reference)).grants (grant_to caller.party caller.role) (granted (map.get r.roles (grant_to caller.party caller.role)) held)
  where
    granted : (o : Option (Unit {0})) → is_some o ≡ true → o ≡ Some tt
    granted None h = absurd (false≢true h)
    granted (Some u) h = refl

pub caller_stands : (r : Register) (caller : Caller) → IsSound r → holds r caller.party caller.role ≡ true → has r.parties caller.party ≡ true
caller_stands r caller sound held = let it = stands_from r caller.party (caller_is_single r caller sound held) in ap is_some it.there

-- the source of a mutation exists
source_stands : (r : Register) → IsSound r → (n : ℕ) (m : MutationRecord) → map.get r.mutations n ≡ Some m → has r.sources m.source ≡ true
source_stands r sound n m is =
    let all = not-false _ (none_at nat_cmp_total nat_cmp-IsAntisymmetric (λ n m. is_dangling_mutation r m) r.mutations n m (refers r (sound Reference)).mutations is) in
    (and_parts (has r.parties m.lodger) (has r.sources m.source) (and_parts (has r.parties m.lodger && has r.sources m.source) (is_well_formed_content m.content) all).0).1

-- ---- approvals

module _ (law : WholenessLaw) (r : Register) (stamp : ℤ) (sound : IsSound r) where
  content_is_sound : (number : ℕ) (m : MutationRecord) (c : Content) → map.get r.mutations number ≡ Some m → is_well_formed_content c ≡ true → first_refusal_of (content_refusals r c (Some stamp)) ≡ None
      → IsSound (after (with_state Approved number m (content_change r m.source c)) r)
  content_is_sound number m (content.Transfer it) is formed none =
      let move = unrefused_move r it (Some stamp) none in
      subst (λ (o : Option HeldRight). IsSound (after (with_state Approved number m (transfer_change r m.source it o)) r)) (sym move.held)
      (decided_is_sound (after (move_change r m.source it move.from) r) number m Approved is
      (transferred_is_sound law r m.source it move.from sound move.held (source_stands r sound number m is) move.receiver move.not_large move.not_fine move.not_many move.other))
  content_is_sound number m (content.Merger it) is formed none = approved_merger_is_sound r it (Some stamp) none sound number m is formed
  content_is_sound number m (content.Subdivision it) is formed none =
      let free = unrefused_subdivision r it (Some stamp) none in
      decided_is_sound (after (subdivision_change r m.source it) r) number m Approved is
      (subdivided_is_sound r m.source it sound (source_stands r sound number m is) free.unit free.parcel free.room free.few)
  content_is_sound number m (content.Mortgage it) is formed none =
      let mortgage = unrefused_mortgage r it (Some stamp) none in
      decided_is_sound (after (mortgage_change r m.source it) r) number m Approved is
      (mortgaged_is_sound r m.source it sound (source_stands r sound number m is) mortgage.unit mortgage.creditor mortgage.room mortgage.few)
  content_is_sound number m (content.Discharge it) is formed none =
      decided_is_sound (after (discharge_change r it) r) number m Approved is (discharged_is_sound r it sound (unrefused_discharge r it (Some stamp) none))

  pub approved_is_sound : (it : Decision) → first_refusal_of (option_map_or (λ m. content_refusals r m.content (Some stamp)) (map.get r.mutations it.mutation) []) ≡ None → IsSound (after (approve_change r it) r)
  approved_is_sound it none = found (map.get r.mutations it.mutation) refl none
    where
      found : (o : Option MutationRecord) → map.get r.mutations it.mutation ≡ o → first_refusal_of (option_map_or (λ m. content_refusals r m.content (Some stamp)) o []) ≡ None
          → IsSound (after (option_map_or (λ m. with_state Approved it.mutation m (content_change r m.source m.content)) o (no_change r.next)) r)
      found None e h = sound
      found (Some m) e h = content_is_sound it.mutation m m.content e (tight_mutation r sound it.mutation m e).formed h

pub refused_is_sound : (r : Register) (it : Decision) → IsSound r → IsSound (after (refuse_change r it) r)
refused_is_sound r it sound = found (map.get r.mutations it.mutation) refl
  where
    found : (o : Option MutationRecord) → map.get r.mutations it.mutation ≡ o → IsSound (after (option_map_or (λ m. with_state Refused it.mutation m (no_change r.next)) o (no_change r.next)) r)
    found None e = sound
    found (Some m) e = decided_is_sound r it.mutation m Refused e sound

-- ---- numbers and keys

content_grows : (r : Register) (source : ℕ) (c : Content) → r.next ≤ (content_change r source c).next
content_grows r source (content.Transfer it) = found (right_at r it.unit it.right)
  where
    counted : (from : HeldRight) (to : Option HeldRight) → r.next ≤ number_after r to
    counted from None = omega arith
    counted from (Some to) = omega arith

    found : (o : Option HeldRight) → r.next ≤ (transfer_change r source it o).next
    found None = omega arith
    found (Some from) = counted from (right_of_receiver r it from)
content_grows r source (content.Merger it) = omega arith
content_grows r source (content.Subdivision it) = subdivision_grows r source it
content_grows r source (content.Mortgage it) = omega arith
content_grows r source (content.Discharge it) = omega arith

pub approve_grows : (r : Register) (it : Decision) → r.next ≤ (approve_change r it).next
approve_grows r it = found (map.get r.mutations it.mutation)
  where
    found : (o : Option MutationRecord) → r.next ≤ (option_map_or (λ m. with_state Approved it.mutation m (content_change r m.source m.content)) o (no_change r.next)).next
    found None = omega arith
    found (Some m) = content_grows r m.source m.content

pub refuse_grows : (r : Register) (it : Decision) → r.next ≤ (refuse_change r it).next
refuse_grows r it = found (map.get r.mutations it.mutation)
  where
    found : (o : Option MutationRecord) → r.next ≤ (option_map_or (λ m. with_state Refused it.mutation m (no_change r.next)) o (no_change r.next)).next
    found None = omega arith
    found (Some m) = omega arith

nothing_once : (next : ℕ) → NamesKeysOnce (no_change next)
nothing_once next = record { parties = refl; roles = refl; members = refl; units = refl; parcels = refl; rrrs = refl; sources = refl; mutations = refl; mandates = refl }

content_once : (r : Register) (number : ℕ) (m : MutationRecord) (c : Content) (stamp : ℤ) → IsSound r → is_well_formed_content c ≡ true → first_refusal_of (content_refusals r c (Some stamp)) ≡ None
    → NamesKeysOnce (with_state Approved number m (content_change r m.source c))
content_once r number m (content.Transfer it) stamp sound formed none =
    let move = unrefused_move r it (Some stamp) none in
    subst (λ (o : Option HeldRight). NamesKeysOnce (with_state Approved number m (transfer_change r m.source it o))) (sym move.held)
    (record { parties = refl; roles = refl; members = refl; units = refl; parcels = refl; rrrs = (sound_names_once r m.source it move.from sound move.held move.other).rrrs; sources = refl; mutations = refl; mandates = refl })
content_once r number m (content.Merger it) stamp sound formed none = approved_merger_once r it (Some stamp) none sound number m formed
content_once r number m (content.Subdivision it) stamp sound formed none =
    let named = subdivision_names_once r m.source it sound (unrefused_subdivision r it (Some stamp) none).parcel in
    record { parties = refl; roles = refl; members = refl; units = named.units; parcels = named.parcels; rrrs = named.rrrs; sources = refl; mutations = refl; mandates = refl }
content_once r number m (content.Mortgage it) stamp sound formed none = record { parties = refl; roles = refl; members = refl; units = refl; parcels = refl; rrrs = refl; sources = refl; mutations = refl; mandates = refl }
content_once r number m (content.Discharge it) stamp sound formed none = record { parties = refl; roles = refl; members = refl; units = refl; parcels = refl; rrrs = refl; sources = refl; mutations = refl; mandates = refl }

pub approve_once : (r : Register) (it : Decision) (stamp : ℤ) → IsSound r → first_refusal_of (option_map_or (λ m. content_refusals r m.content (Some stamp)) (map.get r.mutations it.mutation) []) ≡ None
    → NamesKeysOnce (approve_change r it)
approve_once r it stamp sound none = found (map.get r.mutations it.mutation) refl none
  where
    found : (o : Option MutationRecord) → map.get r.mutations it.mutation ≡ o → first_refusal_of (option_map_or (λ m. content_refusals r m.content (Some stamp)) o []) ≡ None
        → NamesKeysOnce (option_map_or (λ m. with_state Approved it.mutation m (content_change r m.source m.content)) o (no_change r.next))
    found None e h = nothing_once r.next
    found (Some m) e h = content_once r it.mutation m m.content stamp sound (tight_mutation r sound it.mutation m e).formed h

pub refuse_once : (r : Register) (it : Decision) → NamesKeysOnce (refuse_change r it)
refuse_once r it = found (map.get r.mutations it.mutation)
  where
    found : (o : Option MutationRecord) → NamesKeysOnce (option_map_or (λ m. with_state Refused it.mutation m (no_change r.next)) o (no_change r.next))
    found None = nothing_once r.next
    found (Some m) = record { parties = refl; roles = refl; members = refl; units = refl; parcels = refl; rrrs = refl; sources = refl; mutations = refl; mandates = refl }
