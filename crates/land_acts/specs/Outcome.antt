-- The outcome of an act: the first refusal whose condition holds, or else a change of the register and a
-- receipt.
use Rattle.std.specs.Prelude.{◌≡◌, Bool, true, List, Option, Some, None, Result, Ok, Err, ℤ}
use Rattle.land_acts.specs.Burdening.{burden_refusals, burden_change, burden_done}
use Rattle.land_acts.specs.Deciding.{approve_refusals, approve_change, approve_done, approve_has_room}
use Rattle.land_acts.specs.Deciding.{refuse_refusals, refuse_change}
use Rattle.land_acts.specs.Enrolment.{enrol_refusals, enrol_change, enrol_done}
use Rattle.land_acts.specs.Granting.{grant_refusals, grant_change, grant_done}
use Rattle.land_acts.specs.Grouping.{group_refusals, group_change, group_done}
use Rattle.land_acts.specs.Lifting.{lift_refusals, lift_change, lift_done}
use Rattle.land_acts.specs.Lodging.{lodge_repeat, lodge_refusals, lodge_change, lodge_done}
use Rattle.land_acts.specs.Mandating.{mandate_refusals, mandate_change, mandate_done}
use Rattle.land_acts.specs.Mutations.Planning.{done_on, first_refusal_of}
use Rattle.land_acts.specs.Registering.{register_refusals, register_change, register_done}
use Rattle.land_acts.specs.Regrouping.{regroup_refusals, regroup_change, regroup_done}
use Rattle.land_acts.specs.Revoking.{revoke_refusals, revoke_change, revoke_done}
use Rattle.land_acts.specs.Withdrawing.{withdraw_refusals, withdraw_change, withdraw_done}
use Rattle.land_acts.specs.declared.mutations.refusal.Planned.{Planned}
use Rattle.land_acts.specs.declared.mutations.refusal.Planned.TheVariants.{New, Repeat}
use Rattle.land_acts.specs.declared.mutations.refusal.Refusal.{Refusal}
use Rattle.land_acts.specs.declared.mutations.refusal.Refusal.TheVariants.{ClockOut}
use Rattle.land_core.specs.declared.act.Act.{Act}
use Rattle.land_core.specs.declared.act.Act.TheVariants.{Enrol, Group, Regroup, Grant, Revoke, Mandate}
use Rattle.land_core.specs.declared.act.Act.TheVariants.{Withdraw, Register as RegisterUnit, Burden, Lift}
use Rattle.land_core.specs.declared.act.Act.TheVariants.{Lodge, Approve, Refuse}
use Rattle.land_core.specs.declared.caller.Caller.{Caller}
use Rattle.land_core.specs.declared.change.Change.{Change}
use Rattle.land_core.specs.declared.change.Done.{Done}
use Rattle.land_core.specs.declared.register.Register.{Register}

-- the refusals of an act with their conditions, in ascending order
abbrev pub refusals_of : Register → Caller → Act → Option ℤ → List (Refusal × Bool)
refusals_of r caller (Enrol it) stamp = enrol_refusals r stamp
refusals_of r caller (Group it) stamp = group_refusals r it stamp
refusals_of r caller (Regroup it) stamp = regroup_refusals r it stamp
refusals_of r caller (Grant it) stamp = grant_refusals r it stamp
refusals_of r caller (Revoke it) stamp = revoke_refusals r it stamp
refusals_of r caller (Mandate it) stamp = mandate_refusals r caller it stamp
refusals_of r caller (Withdraw it) stamp = withdraw_refusals r it stamp
refusals_of r caller (RegisterUnit it) stamp = register_refusals r it stamp
refusals_of r caller (Burden it) stamp = burden_refusals r it stamp
refusals_of r caller (Lift it) stamp = lift_refusals r it stamp
refusals_of r caller (Lodge it) stamp = lodge_refusals r caller it stamp
refusals_of r caller (Approve it) stamp = approve_refusals r it stamp
refusals_of r caller (Refuse it) stamp = refuse_refusals r it stamp

-- the change of an act to which no refusal applies
abbrev pub change_of : Register → Caller → Act → ℤ → Change
change_of r caller (Enrol it) stamp = enrol_change r it
change_of r caller (Group it) stamp = group_change r it
change_of r caller (Regroup it) stamp = regroup_change r it
change_of r caller (Grant it) stamp = grant_change r it
change_of r caller (Revoke it) stamp = revoke_change r it
change_of r caller (Mandate it) stamp = mandate_change r caller it
change_of r caller (Withdraw it) stamp = withdraw_change r it
change_of r caller (RegisterUnit it) stamp = register_change r it
change_of r caller (Burden it) stamp = burden_change r it
change_of r caller (Lift it) stamp = lift_change r it
change_of r caller (Lodge it) stamp = lodge_change r caller it stamp
change_of r caller (Approve it) stamp = approve_change r it
change_of r caller (Refuse it) stamp = refuse_change r it

-- the receipt of an act to which no refusal applies
abbrev pub done_of : Register → Caller → Act → ℤ → Done
done_of r caller (Enrol it) stamp = enrol_done r it stamp
done_of r caller (Group it) stamp = group_done r stamp
done_of r caller (Regroup it) stamp = regroup_done it stamp
done_of r caller (Grant it) stamp = grant_done it stamp
done_of r caller (Revoke it) stamp = revoke_done it stamp
done_of r caller (Mandate it) stamp = mandate_done it stamp
done_of r caller (Withdraw it) stamp = withdraw_done it stamp
done_of r caller (RegisterUnit it) stamp = register_done r it stamp
done_of r caller (Burden it) stamp = burden_done r stamp
done_of r caller (Lift it) stamp = lift_done it stamp
done_of r caller (Lodge it) stamp = lodge_done r stamp
done_of r caller (Approve it) stamp = approve_done r it stamp
done_of r caller (Refuse it) stamp = done_on it.mutation stamp

-- a refusal, or else the plan
abbrev pub refusal_or : Option Refusal → Result Planned Refusal → Result Planned Refusal
refusal_or None else_planned = else_planned
refusal_or (Some refusal) else_planned = Err refusal

-- the plan of an act to which no refusal applies; without a stamp it is refused
abbrev pub plan_with_stamp : (ℤ → Change) → (ℤ → Done) → Option ℤ → Result Planned Refusal
plan_with_stamp change done (Some stamp) = Ok (New (change stamp) (done stamp))
plan_with_stamp change done None = Err ClockOut

-- the receipt that a repeated act got before; only a lodging can be a repeat
abbrev pub repeat_receipt_of : Register → Caller → Act → Option Done
repeat_receipt_of r caller (Enrol it) = None
repeat_receipt_of r caller (Group it) = None
repeat_receipt_of r caller (Regroup it) = None
repeat_receipt_of r caller (Grant it) = None
repeat_receipt_of r caller (Revoke it) = None
repeat_receipt_of r caller (Mandate it) = None
repeat_receipt_of r caller (Withdraw it) = None
repeat_receipt_of r caller (RegisterUnit it) = None
repeat_receipt_of r caller (Burden it) = None
repeat_receipt_of r caller (Lift it) = None
repeat_receipt_of r caller (Lodge it) = lodge_repeat r caller it
repeat_receipt_of r caller (Approve it) = None
repeat_receipt_of r caller (Refuse it) = None

-- a repeat gets the earlier receipt, even if a refusal would apply
abbrev pub repeat_or : Option Done → Result Planned Refusal → Result Planned Refusal
repeat_or None else_planned = else_planned
repeat_or (Some done) else_planned = Ok (Repeat done)

-- the outcome of an act with a stamp, or without one if no later stamp exists
abbrev pub outcome_of : Register → Caller → Act → Option ℤ → Result Planned Refusal
outcome_of r caller a stamp =
    repeat_or (repeat_receipt_of r caller a)
    (refusal_or (first_refusal_of (refusals_of r caller a stamp))
    (plan_with_stamp (λ at. change_of r caller a at) (λ at. done_of r caller a at) stamp))

-- no refusal applies, with some stamp or without one
pub record HasNoRefusal (r : Register) (caller : Caller) (a : Act) : Type 0 where
  pub stamp : Option ℤ
  pub none_holds : first_refusal_of (refusals_of r caller a stamp) ≡ None

-- the numbers and ranks that the act creates stay in range. Refusals bound all of them except the rank of a
-- mortgage and the right of a transfer; in a sound register these are in range, too
abbrev pub has_room_for : Register → Act → Bool
has_room_for r (Enrol it) = true
has_room_for r (Group it) = true
has_room_for r (Regroup it) = true
has_room_for r (Grant it) = true
has_room_for r (Revoke it) = true
has_room_for r (Mandate it) = true
has_room_for r (Withdraw it) = true
has_room_for r (RegisterUnit it) = true
has_room_for r (Burden it) = true
has_room_for r (Lift it) = true
has_room_for r (Lodge it) = true
has_room_for r (Approve it) = approve_has_room r it
has_room_for r (Refuse it) = true
