-- The numbers and ranks that an approval creates are in range if no refusal applies and the numbers of the
-- register are small enough, as in a sound register.
use Rattle.std.proofs.Common.{◌≡◌, ℕ, ◌+◌, ◌<◌, ◌≤◌, true, false, ◌||◌, ◌&&◌, not, Option, Some, None, [], refl, sym, ap, ◌∙◌, subst, arith}
use Rattle.std.specs.Prelude.{ℤ, is_none, nat_lt}
use Rattle.std.specs.Option.{option_map_or}
use Rattle.std.specs.FinMap as map
use Rattle.std.proofs.lemmas.Bool.{lt-ltb, ltb-false, ltb-true, and_parts, or_parts}
use Rattle.land_acts.proofs.MergedApprovals.{merger_fits}
use Rattle.land_acts.proofs.MortgageRanks.{next_rank_fits_kept}
use Rattle.land_acts.proofs.Refusals.{first_none}
use Rattle.land_acts.proofs.SubdividedGrounds.{unrefused_subdivision}
use Rattle.land_acts.proofs.UnrefusedContents.{unrefused_mortgage, unrefused_move}
use Rattle.land_acts.specs.Deciding.{approve_has_room, approve_refusals, is_lodged}
use Rattle.land_acts.specs.Mutations.ByContent.{StaysInRange, content_refusals, has_room}
use Rattle.land_acts.specs.Mutations.Mortgaging.{greatest, next_rank, ranks_in}
use Rattle.land_acts.specs.Mutations.Planning.{first_refusal_of, runs_out_of_numbers}
use Rattle.land_acts.specs.Mutations.Subdividing.{subdivision_count}
use Rattle.land_acts.specs.Mutations.Transferring.{are_too_many, right_of_receiver, move_change, number_after}
use Rattle.land_acts.specs.Outcome.{HasNoRefusal, has_room_for}
use Rattle.land_acts.specs.Slices.{IsSliceOfSound, includes_rrr}
use Rattle.land_acts.specs.declared.mutations.refusal.Refusal.TheVariants.{NotLodged}
use Rattle.land_acts.specs.declared.mutations.transfer.HeldRight.{HeldRight}
use Rattle.land_core.proofs.SoundRegisters.{refers}
use Rattle.land_core.specs.Changes.{after}
use Rattle.land_core.specs.Numbers.{last_next}
use Rattle.land_core.specs.Units.{rrr_count}
use Rattle.land_core.specs.declared.act.Act.{Act}
use Rattle.land_core.specs.declared.act.Act.TheVariants as act
use Rattle.land_core.specs.declared.act.Decision.{Decision}
use Rattle.land_core.specs.declared.caller.Caller.{Caller}
use Rattle.land_core.specs.declared.content.Content.{Content}
use Rattle.land_core.specs.declared.content.Content.TheVariants as content
use Rattle.land_core.specs.declared.mutation.MutationRecord.{MutationRecord}
use Rattle.land_core.specs.declared.register.Register.{Register}
use Rattle.land_core.specs.declared.soundness.Unsound.TheVariants.{Reference}

one_left : (s : Register) → runs_out_of_numbers s 1 ≡ false → s.next ≤ 1000000000
one_left s h = let most : s.next + 1 ≤ last_next = ltb-false last_next (s.next + 1) h in omega (arith, most)

-- if no refusal applies to an approval, none applies to its content
content_unrefused : (s : Register) (it : Decision) (stamp : Option ℤ) (m : MutationRecord) → map.get s.mutations it.mutation ≡ Some m
    → first_refusal_of (approve_refusals s it stamp) ≡ None → first_refusal_of (content_refusals s m.content stamp) ≡ None
content_unrefused s it stamp m is none =
    let lines = (first_none NotLodged (not (is_lodged s it.mutation)) (option_map_or (λ m. content_refusals s m.content stamp) (map.get s.mutations it.mutation) []) none).rest in
    sym (ap (λ o. first_refusal_of (option_map_or (λ m. content_refusals s m.content stamp) o [])) is) ∙ lines

next_bound : (s : Register) → nat_lt s.next 1000000002 ≡ true → s.next ≤ last_next
next_bound s room = let under = ltb-true s.next 1000000002 room in omega (arith, under)

room_next : (s : Register) (c : Content) → has_room s c ≡ true → s.next ≤ last_next
room_next s (content.Transfer it) room = next_bound s room
room_next s (content.Subdivision it) room = next_bound s room
room_next s (content.Merger it) room = next_bound s room
room_next s (content.Mortgage it) room = next_bound s (and_parts (nat_lt s.next 1000000002) (nat_lt (greatest (ranks_in s it.unit)) 1000000000) room).0
room_next s (content.Discharge it) room = next_bound s room

-- ---- the range, from the numbers of the register

counted : (s : Register) (o to : Option HeldRight) → s.next ≤ last_next → o ≡ to → (is_none to ≡ true → runs_out_of_numbers s 1 ≡ false) → number_after s to ≤ last_next
counted s o None most e h = let few = one_left s (h refl) in omega (arith, few)
counted s o (Some to) most e h = most

content_fits : (s : Register) (stamp : Option ℤ) (c : Content) → has_room s c ≡ true → first_refusal_of (content_refusals s c stamp) ≡ None → StaysInRange s c
content_fits s stamp (content.Transfer it) room none = λ from held.
    let move = unrefused_move s it stamp none in
    let same : move.from ≡ from = one_right (sym move.held ∙ held) in
    let many : are_too_many s it from ≡ false = subst (λ (h : HeldRight). are_too_many s it h ≡ false) same move.not_many in
    counted s (right_of_receiver s it from) (right_of_receiver s it from) (room_next s (content.Transfer it) room) refl (λ new. (or_parts (runs_out_of_numbers s 1) (nat_lt 256 (rrr_count (after (move_change s 0 it from) s) it.unit)) (sym (ap (λ b. b && (runs_out_of_numbers s 1 || nat_lt 256 (rrr_count (after (move_change s 0 it from) s) it.unit))) new) ∙ many)).0)
  where
    one_right : {a b : HeldRight} → Some a ≡ Some b → a ≡ b
    one_right e = cc
content_fits s stamp (content.Subdivision it) room none = ltb-false last_next (s.next + subdivision_count s it) (unrefused_subdivision s it stamp none).room
content_fits s stamp (content.Merger it) room none = merger_fits s it stamp none
content_fits s stamp (content.Mortgage it) room none =
    let mortgage = unrefused_mortgage s it stamp none in
    let rank : greatest (ranks_in s it.unit) < 1000000000 = ltb-true (greatest (ranks_in s it.unit)) 1000000000 (and_parts (nat_lt s.next 1000000002) (nat_lt (greatest (ranks_in s it.unit)) 1000000000) room).1 in
    (one_left s mortgage.room, omega (arith, rank))
content_fits s stamp (content.Discharge it) room none = tt

pub contents_fit : (s : Register) (caller : Caller) (it : Decision) → approve_has_room s it ≡ true → HasNoRefusal s caller (act.Approve it)
    → (m : MutationRecord) → map.get s.mutations it.mutation ≡ Some m → StaysInRange s m.content
contents_fit s caller it room unrefused m is =
    let here : has_room s m.content ≡ true = sym (ap (λ o. option_map_or (λ m. has_room s m.content) o true) is) ∙ room in
    content_fits s unrefused.stamp m.content here (content_unrefused s it unrefused.stamp m is unrefused.none_holds)

-- ---- the numbers of a sound register

module _ (s : Register) (caller : Caller) (it : Decision) (slice : IsSliceOfSound s caller (act.Approve it)) where
  next_same : s.next ≡ slice.register.next
  next_same = ap (λ (r : Register). r.next) slice.is

  most : s.next ≤ last_next
  most = subst (λ (n : ℕ). n ≤ last_next) (sym next_same) (ltb-false last_next slice.register.next (refers slice.register (slice.sound Reference)).room)

  rank_fits : (unit : ℕ) → runs_out_of_numbers s 1 ≡ false → next_rank s unit ≤ 1000000000
  rank_fits unit room =
      let rank = next_rank_fits_kept slice.register slice.sound unit s (λ n e. includes_rrr slice.parts slice.register (act.Approve it) n e) (ap (λ (r : Register). r.rrrs) slice.is) in
      let few = one_left s room in
      let same = next_same in
      omega (arith, rank, few, same)

  next_room : nat_lt s.next 1000000002 ≡ true
  next_room = let fits = most in lt-ltb s.next 1000000002 (omega (arith, fits))

  content_room : (stamp : Option ℤ) (c : Content) → first_refusal_of (content_refusals s c stamp) ≡ None → has_room s c ≡ true
  content_room stamp (content.Transfer it) none = next_room
  content_room stamp (content.Subdivision it) none = next_room
  content_room stamp (content.Merger it) none = next_room
  content_room stamp (content.Mortgage it) none =
      let rank = rank_fits it.unit (unrefused_mortgage s it stamp none).room in
      let fits : nat_lt (greatest (ranks_in s it.unit)) 1000000000 ≡ true = lt-ltb (greatest (ranks_in s it.unit)) 1000000000 (omega (arith, rank)) in
      rw (next_room, fits) refl
  content_room stamp (content.Discharge it) none = next_room

  approval_room : (o : Option MutationRecord) → map.get s.mutations it.mutation ≡ o → HasNoRefusal s caller (act.Approve it)
      → option_map_or (λ m. has_room s m.content) o true ≡ true
  approval_room None is unrefused = refl
  approval_room (Some m) is unrefused = content_room unrefused.stamp m.content (content_unrefused s it unrefused.stamp m is unrefused.none_holds)

-- so they are always small enough in a slice of a sound register
pub sound_has_room : (s : Register) (caller : Caller) (a : Act) → IsSliceOfSound s caller a → HasNoRefusal s caller a → has_room_for s a ≡ true
sound_has_room s caller (act.Enrol it) sound unrefused = refl
sound_has_room s caller (act.Group it) sound unrefused = refl
sound_has_room s caller (act.Regroup it) sound unrefused = refl
sound_has_room s caller (act.Grant it) sound unrefused = refl
sound_has_room s caller (act.Revoke it) sound unrefused = refl
sound_has_room s caller (act.Mandate it) sound unrefused = refl
sound_has_room s caller (act.Withdraw it) sound unrefused = refl
sound_has_room s caller (act.Register it) sound unrefused = refl
sound_has_room s caller (act.Burden it) sound unrefused = refl
sound_has_room s caller (act.Lift it) sound unrefused = refl
sound_has_room s caller (act.Lodge it) sound unrefused = refl
sound_has_room s caller (act.Approve it) sound unrefused = approval_room s caller it sound (map.get s.mutations it.mutation) refl unrefused
sound_has_room s caller (act.Refuse it) sound unrefused = refl
