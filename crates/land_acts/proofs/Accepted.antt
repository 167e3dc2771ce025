-- Accepted acts keep a register sound, and write or end no key twice.
use Rattle.std.proofs.Common.{◌≡◌, ◌≤◌, true, false, ◌&&◌, not, Some, None, Ok, [], ◌∷◌, length, refl, subst, arith}
use Rattle.std.specs.Prelude.{ℤ, ◌||◌, ◌+◌, nat_eq, map as map_list}
use Rattle.std.specs.FinMap as map
use Rattle.std.specs.Option.{option_map_or}
use Rattle.std.proofs.lemmas.Bool.{and_parts, not-false, or_parts}
use Rattle.land_acts.proofs.Approvals.{approve_grows, approve_once, approved_is_sound, caller_is_single, caller_stands, refuse_grows, refuse_once, refused_is_sound}
use Rattle.land_acts.proofs.BurdenedUnits.{burdened_is_sound}
use Rattle.land_acts.proofs.GroupActs.{enrolled_is_sound, grouped_is_sound, regrouped_is_sound}
use Rattle.land_acts.proofs.LiftedEntries.{lifted_is_sound}
use Rattle.land_acts.proofs.LodgedMutations.{fresh, lodged_is_sound}
use Rattle.land_acts.proofs.MandateActs.{mandated_is_sound, withdrawn_is_sound}
use Rattle.land_acts.proofs.NewObjects.{numbered_once}
use Rattle.land_acts.proofs.Outcomes.{IsPlanned, planned_from, unstamped}
use Rattle.land_acts.proofs.Refusals.{first_none, none_hold}
use Rattle.land_acts.proofs.RegisteredUnits.{registered_is_sound}
use Rattle.land_acts.proofs.RoleActs.{granted_is_sound, revoked_is_sound}
use Rattle.land_acts.proofs.TransferLaws.{whole_law}
use Rattle.land_acts.specs.Deciding.{is_lodged}
use Rattle.land_acts.specs.FirstRights.{lists_absent_party, are_types_too_fine, are_types_whole, has_right_twice}
use Rattle.land_acts.specs.Laws.{AcceptedKeepsSound, AcceptedNamesKeysOnce, AcceptedReturnsStamp, NothingWithoutStamp}
use Rattle.land_acts.specs.Lifting.{has_burden}
use Rattle.land_acts.specs.Lodging.{has_lodged_other}
use Rattle.land_acts.specs.Mandating.{mandate_of_caller}
use Rattle.land_acts.specs.Mutations.ByContent.{content_refusals}
use Rattle.land_acts.specs.Mutations.Planning.{would_exceed_entries, first_refusal_of, runs_out_of_numbers}
use Rattle.land_acts.specs.Outcome.{outcome_of, refusals_of, change_of, done_of, repeat_receipt_of}
use Rattle.land_acts.specs.Registering.{new_count, new_parcel_record, new_right_record}
use Rattle.land_acts.specs.Revoking.{has_other_administrator}
use Rattle.land_acts.specs.Sharing.{lists_no_single_party, are_too_fine, are_whole, lists_twice}
use Rattle.land_acts.specs.declared.mutations.refusal.Planned.TheVariants.{New}
use Rattle.land_acts.specs.declared.mutations.refusal.Refusal.TheVariants.{NotLodged, NoSuchUnit, NoSuchRight, NoSuchParty, SharesTooFine, TooMany, SharesNotWhole, ReferenceUsed, RoleHeld, RoleNotHeld, ClockOut, LastAdministrator, SameParty, MandateHeld}
use Rattle.land_core.specs.Acts.{is_well_formed, are_members, have_numbers}
use Rattle.land_core.specs.Changes.{after, NamesKeysOnce}
use Rattle.land_core.specs.Contents.{is_well_formed_content}
use Rattle.land_core.specs.Entries.{has}
use Rattle.land_core.specs.Mandates.{has_mandate}
use Rattle.land_core.specs.Members.{is_group_size}
use Rattle.land_core.specs.Numbers.{is_number}
use Rattle.land_core.specs.Register.{has_single_party, has_group, holds}
use Rattle.land_core.specs.Role.{is_role}
use Rattle.land_core.specs.Soundness.{IsSound}
use Rattle.land_core.specs.Texts.{is_name, is_reference, is_title}
use Rattle.land_core.specs.declared.act.Act.{Act}
use Rattle.land_core.specs.declared.act.Act.TheVariants as act
use Rattle.land_core.specs.declared.caller.Caller.{Caller}
use Rattle.land_core.specs.declared.change.Change.{Change}
use Rattle.land_core.specs.declared.change.Done.{Done}
use Rattle.land_core.specs.declared.register.Register.{Register}
use Rattle.land_core.specs.declared.role.Role.TheVariants.{StateAdministrator}
use Rattle.land_fraction.specs.Laws.{WholenessLaw}

-- ---- each act to which no refusal applies

sound_after : (law : WholenessLaw) (r : Register) (caller : Caller) (a : Act) (stamp : ℤ) → IsSound r → is_well_formed a ≡ true → holds r caller.party caller.role ≡ true → repeat_receipt_of r caller a ≡ None
    → first_refusal_of (refusals_of r caller a (Some stamp)) ≡ None → IsSound (after (change_of r caller a stamp) r)
sound_after law r caller (act.Enrol it) stamp sound formed held new none =
    enrolled_is_sound r it sound (and_parts _ _ formed).0 (none_hold ((TooMany, runs_out_of_numbers r 1) ∷ (ClockOut, false) ∷ []) none).0
sound_after law r caller (act.Group it) stamp sound formed held new none =
    let fails = none_hold ((NoSuchParty, lists_no_single_party r it.members) ∷ (SharesTooFine, are_too_fine it.members) ∷ (TooMany, runs_out_of_numbers r 1) ∷ (SharesNotWhole, not (are_whole it.members)) ∷ (ClockOut, false) ∷ (SameParty, lists_twice it.members) ∷ []) none in
    let known = fails.0 in
    let room = fails.1.1.0 in
    let whole = fails.1.1.1.0 in
    let once = fails.1.1.1.1.1.0 in
    let size : is_group_size (length it.members) ≡ true = (and_parts _ (have_numbers it.members) (and_parts (is_name it.name) (are_members it.members) formed).1).0 in
    grouped_is_sound r it sound size known room (not-false _ whole) once
sound_after law r caller (act.Regroup it) stamp sound formed held new none =
    let fails = none_hold ((NoSuchParty, not (has_group r it.group) || lists_no_single_party r it.members) ∷ (SharesTooFine, are_too_fine it.members) ∷ (SharesNotWhole, not (are_whole it.members)) ∷ (ClockOut, false) ∷ (SameParty, lists_twice it.members) ∷ []) none in
    let known = fails.0 in
    let whole = fails.1.1.0 in
    let once = fails.1.1.1.1.0 in
    let parties = or_parts (not (has_group r it.group)) (lists_no_single_party r it.members) known in
    let size : is_group_size (length it.members) ≡ true = (and_parts _ (have_numbers it.members) (and_parts (is_number it.group) (are_members it.members) formed).1).0 in
    regrouped_is_sound r it sound size (not-false _ parties.0) parties.1 (not-false _ whole) once
sound_after law r caller (act.Grant it) stamp sound formed held new none =
    granted_is_sound r it sound (not-false _ (none_hold ((NoSuchParty, not (has_single_party r it.party)) ∷ (RoleHeld, holds r it.party it.role) ∷ (ClockOut, false) ∷ []) none).0)
sound_after law r caller (act.Revoke it) stamp sound formed held new none =
    let last = is_role it.role StateAdministrator && not (has_other_administrator r it.party) in
    let fails = none_hold ((NoSuchParty, not (has_single_party r it.party)) ∷ (RoleNotHeld, not (holds r it.party it.role)) ∷ (ClockOut, false) ∷ (LastAdministrator, last) ∷ []) none in
    let other = fails.1.1.1.0 in
    revoked_is_sound r it sound other
sound_after law r caller (act.Mandate it) stamp sound formed held new none =
    let pair = has_mandate r.mandates (mandate_of_caller caller it) in
    let fails = none_hold ((NoSuchParty, not (has_single_party r it.agent)) ∷ (ClockOut, false) ∷ (SameParty, nat_eq it.agent caller.party) ∷ (MandateHeld, pair) ∷ []) none in
    let known = fails.0 in
    let apart = fails.1.1.0 in
    mandated_is_sound r caller it sound (caller_is_single r caller sound held) (not-false _ known) apart
sound_after law r caller (act.Withdraw it) stamp sound formed held new none = withdrawn_is_sound r it sound
sound_after law r caller (act.Register it) stamp sound formed held new none =
    let fails = none_hold ((NoSuchParty, lists_absent_party r it.rights) ∷ (SharesTooFine, it.checked && are_types_too_fine it.rights) ∷ (TooMany, runs_out_of_numbers r (new_count it)) ∷ (SharesNotWhole, it.checked && not (are_types_whole it.rights)) ∷ (ClockOut, false) ∷ (SameParty, has_right_twice it.rights) ∷ []) none in
    let known = fails.0 in
    let room = fails.1.1.0 in
    let whole = fails.1.1.1.0 in
    let once = fails.1.1.1.1.1.0 in
    registered_is_sound r it sound formed known room whole once
sound_after law r caller (act.Burden it) stamp sound formed held new none =
    let fails = none_hold ((NoSuchUnit, not (has r.units it.unit)) ∷ (NoSuchParty, not (has r.parties it.party)) ∷ (TooMany, runs_out_of_numbers r 2 || would_exceed_entries r it.unit 1) ∷ (ClockOut, false) ∷ []) none in
    let unit = fails.0 in
    let party = fails.1.0 in
    let many = fails.1.1.0 in
    let room = or_parts (runs_out_of_numbers r 2) (would_exceed_entries r it.unit 1) many in
    burdened_is_sound r it sound (not-false _ unit) (not-false _ party) room.0 room.1
sound_after law r caller (act.Lift it) stamp sound formed held new none =
    lifted_is_sound r it (not-false _ (none_hold ((NoSuchRight, not (has_burden r it.rrr)) ∷ (ClockOut, false) ∷ []) none).0) sound
sound_after law r caller (act.Lodge it) stamp sound formed held new none =
    let fails = none_hold ((TooMany, runs_out_of_numbers r 2) ∷ (ReferenceUsed, has_lodged_other r caller it) ∷ (ClockOut, false) ∷ []) none in
    let room = fails.0 in
    let other = fails.1.0 in
    let content = (and_parts (is_reference it.reference && is_title it.document) (is_well_formed_content it.content) formed).1 in
    lodged_is_sound r caller it stamp sound (caller_stands r caller sound held) content room (fresh r caller it new other)
sound_after law r caller (act.Approve it) stamp sound formed held new none = approved_is_sound law r stamp sound it (first_none NotLodged (not (is_lodged r it.mutation)) (option_map_or (λ m. content_refusals r m.content (Some stamp)) (map.get r.mutations it.mutation) []) none).rest
sound_after law r caller (act.Refuse it) stamp sound formed held new none = refused_is_sound r it sound

next_grows : (r : Register) (caller : Caller) (a : Act) (stamp : ℤ) → r.next ≤ (change_of r caller a stamp).next
next_grows r caller (act.Enrol it) stamp = omega arith
next_grows r caller (act.Group it) stamp = omega arith
next_grows r caller (act.Regroup it) stamp = omega arith
next_grows r caller (act.Grant it) stamp = omega arith
next_grows r caller (act.Revoke it) stamp = omega arith
next_grows r caller (act.Mandate it) stamp = omega arith
next_grows r caller (act.Withdraw it) stamp = omega arith
next_grows r caller (act.Register it) stamp = omega arith
next_grows r caller (act.Burden it) stamp = omega arith
next_grows r caller (act.Lift it) stamp = omega arith
next_grows r caller (act.Lodge it) stamp = omega arith
next_grows r caller (act.Approve it) stamp = approve_grows r it
next_grows r caller (act.Refuse it) stamp = refuse_grows r it

names_once : (r : Register) (caller : Caller) (a : Act) (stamp : ℤ) → IsSound r → first_refusal_of (refusals_of r caller a (Some stamp)) ≡ None → NamesKeysOnce (change_of r caller a stamp)
names_once r caller (act.Enrol it) stamp sound none = record { parties = refl; roles = refl; members = refl; units = refl; parcels = refl; rrrs = refl; sources = refl; mutations = refl; mandates = refl }
names_once r caller (act.Group it) stamp sound none = record { parties = refl; roles = refl; members = refl; units = refl; parcels = refl; rrrs = refl; sources = refl; mutations = refl; mandates = refl }
names_once r caller (act.Regroup it) stamp sound none = record { parties = refl; roles = refl; members = refl; units = refl; parcels = refl; rrrs = refl; sources = refl; mutations = refl; mandates = refl }
names_once r caller (act.Grant it) stamp sound none = record { parties = refl; roles = refl; members = refl; units = refl; parcels = refl; rrrs = refl; sources = refl; mutations = refl; mandates = refl }
names_once r caller (act.Register it) stamp sound none = record {
  parties = refl;
  roles = refl;
  members = refl;
  units = refl;
  parcels = numbered_once (r.next + 2) (map_list (new_parcel_record (r.next + 1) r.next) it.parcels);
  rrrs = numbered_once (r.next + 2 + length it.parcels) (map_list (new_right_record (r.next + 1) r.next) it.rights);
  sources = refl;
  mutations = refl;
  mandates = refl;
}
names_once r caller (act.Burden it) stamp sound none = record { parties = refl; roles = refl; members = refl; units = refl; parcels = refl; rrrs = refl; sources = refl; mutations = refl; mandates = refl }
names_once r caller (act.Lift it) stamp sound none = record { parties = refl; roles = refl; members = refl; units = refl; parcels = refl; rrrs = refl; sources = refl; mutations = refl; mandates = refl }
names_once r caller (act.Lodge it) stamp sound none = record { parties = refl; roles = refl; members = refl; units = refl; parcels = refl; rrrs = refl; sources = refl; mutations = refl; mandates = refl }
names_once r caller (act.Approve it) stamp sound none = approve_once r it stamp sound (first_none NotLodged (not (is_lodged r it.mutation)) (option_map_or (λ m. content_refusals r m.content (Some stamp)) (map.get r.mutations it.mutation) []) none).rest
names_once r caller (act.Refuse it) stamp sound none = refuse_once r it
names_once r caller (act.Revoke it) stamp sound none = record { parties = refl; roles = refl; members = refl; units = refl; parcels = refl; rrrs = refl; sources = refl; mutations = refl; mandates = refl }
names_once r caller (act.Mandate it) stamp sound none = record { parties = refl; roles = refl; members = refl; units = refl; parcels = refl; rrrs = refl; sources = refl; mutations = refl; mandates = refl }
names_once r caller (act.Withdraw it) stamp sound none = record { parties = refl; roles = refl; members = refl; units = refl; parcels = refl; rrrs = refl; sources = refl; mutations = refl; mandates = refl }

-- the receipt has the stamp
stamp_told : (r : Register) (caller : Caller) (a : Act) (stamp : ℤ) → (done_of r caller a stamp).stamp ≡ stamp
stamp_told r caller (act.Enrol it) stamp = refl
stamp_told r caller (act.Group it) stamp = refl
stamp_told r caller (act.Regroup it) stamp = refl
stamp_told r caller (act.Grant it) stamp = refl
stamp_told r caller (act.Revoke it) stamp = refl
stamp_told r caller (act.Mandate it) stamp = refl
stamp_told r caller (act.Withdraw it) stamp = refl
stamp_told r caller (act.Register it) stamp = refl
stamp_told r caller (act.Burden it) stamp = refl
stamp_told r caller (act.Lift it) stamp = refl
stamp_told r caller (act.Lodge it) stamp = refl
stamp_told r caller (act.Approve it) stamp = refl
stamp_told r caller (act.Refuse it) stamp = refl

-- ---- any act

pub plan_of : (r : Register) (caller : Caller) (a : Act) (stamp : ℤ) (change : Change) (done : Done) → outcome_of r caller a (Some stamp) ≡ Ok (New change done)
    → IsPlanned (repeat_receipt_of r caller a) (refusals_of r caller a (Some stamp)) (λ at. change_of r caller a at) change (λ at. done_of r caller a at) done stamp
plan_of r caller a stamp change done is =
    planned_from (repeat_receipt_of r caller a) (refusals_of r caller a (Some stamp)) (λ at. change_of r caller a at) change (λ at. done_of r caller a at) done stamp is

pub accepted_sound : AcceptedKeepsSound
accepted_sound r change stamp sound h =
    let plan = plan_of r h.caller h.act stamp change h.done h.outcome in
    subst (λ (made : Change). IsSound (after made r) × (r.next ≤ made.next)) plan.same
    (sound_after whole_law r h.caller h.act stamp sound h.well_formed h.role_held plan.new plan.none_holds, next_grows r h.caller h.act stamp)

pub accepted_once : AcceptedNamesKeysOnce
accepted_once r change stamp sound h =
    let plan = plan_of r h.caller h.act stamp change h.done h.outcome in
    subst NamesKeysOnce plan.same (names_once r h.caller h.act stamp sound plan.none_holds)

pub tells_stamp : AcceptedReturnsStamp
tells_stamp r change stamp h =
    let plan = plan_of r h.caller h.act stamp change h.done h.outcome in
    subst (λ (done : Done). done.stamp ≡ stamp) plan.is_told (stamp_told r h.caller h.act stamp)

pub nothing_unstamped : NothingWithoutStamp
nothing_unstamped r caller a change done is =
    unstamped (repeat_receipt_of r caller a) (refusals_of r caller a None) (λ at. change_of r caller a at) change (λ at. done_of r caller a at) done is
