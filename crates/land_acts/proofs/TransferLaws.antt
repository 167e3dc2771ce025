-- Proves the laws on transfers to which no refusal applies.
use Rattle.std.proofs.Common.{◌≡◌, false, Some, None, sym, ◌∙◌, subst}
use Rattle.std.specs.Prelude.{ℤ}
use Rattle.land_acts.proofs.TransferShares.{same_some}
use Rattle.land_acts.proofs.Transfers.{receiver_has_one_right, transferred_keeps_sum}
use Rattle.land_acts.proofs.UnrefusedContents.{IsUnrefusedMove, unrefused_move}
use Rattle.land_acts.specs.Mutations.Planning.{first_refusal_of}
use Rattle.land_acts.specs.Mutations.TransferLaws.{ReceiversHaveOneRight, TransfersKeepSums}
use Rattle.land_acts.specs.Mutations.Transferring.{are_too_fine, right_at, gives_to_itself, is_too_large, transfer_refusals}
use Rattle.land_acts.specs.declared.mutations.transfer.HeldRight.{HeldRight}
use Rattle.land_core.specs.declared.content.Transfer.{Transfer}
use Rattle.land_core.specs.declared.register.Register.{Register}
use Rattle.land_fraction.proofs.Wholes.{the_wholeness, wholeness-is}
use Rattle.land_fraction.specs.Laws.{WholenessLaw}
use Rattle.land_fraction.specs.Wholeness.{IsWholeness}
use Rattle.land_fraction.specs.declared.lists.Whole.{Whole}

pub whole_law : WholenessLaw
whole_law shares whole = (the_wholeness shares whole, λ e. subst (λ (w : Whole). IsWholeness shares w) (sym e) (wholeness-is shares))

module _ (r : Register) (it : Transfer) (from : HeldRight) (stamp : ℤ) (none : first_refusal_of (transfer_refusals r it (Some stamp)) ≡ None) (held : right_at r it.unit it.right ≡ Some from) where
  move : IsUnrefusedMove r it
  move = unrefused_move r it (Some stamp) none

  -- a condition on the right that the transfer finds is a condition on this one
  of_right : (P : HeldRight → Type 0) → P move.from → P from
  of_right P = subst P (same_some (sym move.held ∙ held))

  not_large : is_too_large r it from ≡ false
  not_large = of_right (λ h. is_too_large r it h ≡ false) move.not_large

  not_fine : are_too_fine r it from ≡ false
  not_fine = of_right (λ h. are_too_fine r it h ≡ false) move.not_fine

  other : gives_to_itself it from ≡ false
  other = of_right (λ h. gives_to_itself it h ≡ false) move.other

pub transfers_keep_sums : TransfersKeepSums
transfers_keep_sums r source it from stamp parts sound none held =
    transferred_keeps_sum whole_law r source it from parts sound held (not_large r it from stamp none held) (not_fine r it from stamp none held) (other r it from stamp none held)

pub receivers_have_one_right : ReceiversHaveOneRight
receivers_have_one_right r source it from stamp sound none held =
    receiver_has_one_right whole_law r source it from sound held (not_large r it from stamp none held) (not_fine r it from stamp none held) (other r it from stamp none held)
