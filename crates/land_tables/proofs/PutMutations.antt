-- Which mutations an accepted change inserts: a new one, or an existing one in another state. It ends none.
use Rattle.std.proofs.Common.{◌≡◌, ℕ, ◌<◌, Option, Some, None, [], refl, subst, arith, inl, inr}
use Rattle.std.specs.Prelude.{ℤ}
use Rattle.std.specs.FinMap as map
use Rattle.std.specs.Option.{option_map_or}
use Rattle.land_acts.proofs.Accepted.{plan_of}
use Rattle.land_acts.specs.Deciding.{with_state}
use Rattle.land_acts.specs.Laws.{IsAccepted}
use Rattle.land_acts.specs.Mutations.ByContent.{content_change, transfer_change}
use Rattle.land_acts.specs.Mutations.Transferring.{right_at}
use Rattle.land_acts.specs.Outcome.{change_of}
use Rattle.land_acts.specs.declared.mutations.transfer.HeldRight.{HeldRight}
use Rattle.land_core.proofs.SoundRegisters.{are_used, refers, used_bounds, used_from}
use Rattle.land_core.specs.Changes.{no_change}
use Rattle.land_core.specs.Soundness.{IsSound}
use Rattle.land_core.specs.declared.act.Act.{Act}
use Rattle.land_core.specs.declared.act.Act.TheVariants as act
use Rattle.land_core.specs.declared.caller.Caller.{Caller}
use Rattle.land_core.specs.declared.change.Change.{Change}
use Rattle.land_core.specs.declared.content.Content.{Content}
use Rattle.land_core.specs.declared.content.Content.TheVariants as content
use Rattle.land_core.specs.declared.content.Transfer.{Transfer}
use Rattle.land_core.specs.declared.mutation.MutationRecord.{MutationRecord}
use Rattle.land_core.specs.declared.mutation.MutationState.{MutationState}
use Rattle.land_core.specs.declared.mutation.MutationState.TheVariants.{Approved, Refused}
use Rattle.land_core.specs.declared.register.Register.{Register}
use Rattle.land_core.specs.declared.soundness.Unsound.TheVariants.{Reference}
use Rattle.land_tables_history.specs.Laws.{PutsMutations}

module _ (r : Register) (sound : IsSound r) where
  below : (n : ℕ) (m : MutationRecord) → map.get r.mutations n ≡ Some m → n < r.next
  below n m is = (used_bounds r n (used_from r r.mutations (are_used r (refers r (sound Reference)).numbers).mutations n m is)).1

  transfer_ends : (source : ℕ) (it : Transfer) (o : Option HeldRight) → (transfer_change r source it o).ended.mutations ≡ []
  transfer_ends source it None = refl
  transfer_ends source it (Some from) = refl

  -- no content ends a mutation
  content_ends : (source : ℕ) (c : Content) → (content_change r source c).ended.mutations ≡ []
  content_ends source (content.Transfer it) = transfer_ends source it (right_at r it.unit it.right)
  content_ends source (content.Subdivision it) = refl
  content_ends source (content.Merger it) = refl
  content_ends source (content.Mortgage it) = refl
  content_ends source (content.Discharge it) = refl

  -- a decision replaces the current mutation with that number, in its new state
  by_decision : (number : ℕ) (state : MutationState) (change : MutationRecord → Change) → ((m : MutationRecord) → (change m).ended.mutations ≡ []) → (o : Option MutationRecord) → map.get r.mutations number ≡ o
      → PutsMutations r (option_map_or (λ m. with_state state number m (change m)) o (no_change r.next))
  by_decision number state change ends None e = record { used = below; put = tt; ended = refl }
  by_decision number state change ends (Some m) e = record { used = below; put = (inr (record { old = m; there = e; units = refl }), tt); ended = ends m }

  puts : (caller : Caller) (a : Act) (stamp : ℤ) → PutsMutations r (change_of r caller a stamp)
  puts caller (act.Enrol it) stamp = record { used = below; put = tt; ended = refl }
  puts caller (act.Group it) stamp = record { used = below; put = tt; ended = refl }
  puts caller (act.Regroup it) stamp = record { used = below; put = tt; ended = refl }
  puts caller (act.Grant it) stamp = record { used = below; put = tt; ended = refl }
  puts caller (act.Revoke it) stamp = record { used = below; put = tt; ended = refl }
  puts caller (act.Mandate it) stamp = record { used = below; put = tt; ended = refl }
  puts caller (act.Withdraw it) stamp = record { used = below; put = tt; ended = refl }
  puts caller (act.Register it) stamp = record { used = below; put = tt; ended = refl }
  puts caller (act.Burden it) stamp = record { used = below; put = tt; ended = refl }
  puts caller (act.Lift it) stamp = record { used = below; put = tt; ended = refl }
  puts caller (act.Lodge it) stamp = record { used = below; put = (inl (omega arith), tt); ended = refl }
  puts caller (act.Approve it) stamp =
      by_decision it.mutation Approved (λ m. content_change r m.source m.content) (λ m. content_ends m.source m.content) (map.get r.mutations it.mutation) refl
  puts caller (act.Refuse it) stamp = by_decision it.mutation Refused (λ m. no_change r.next) (λ m. refl) (map.get r.mutations it.mutation) refl

pub accepted_puts : (r : Register) (change : Change) (stamp : ℤ) → IsSound r → IsAccepted r change stamp → PutsMutations r change
accepted_puts r change stamp sound h = subst (PutsMutations r) (plan_of r h.caller h.act stamp change h.done h.outcome).same (puts r sound h.caller h.act stamp)
