-- Transfers keep a register sound, preserve the sum of the shares of the type, leave the receiver exactly one
-- right of it, and write each entry once.
use Rattle.std.proofs.Common.{◌≡◌, ◌≢◌, ℕ, ◌+◌, ◌<◌, ◌≤◌, Bool, true, false, cond, not, ◌&&◌, ◌||◌, Option, Some, None, List, [], ◌∷◌, ◌++◌, Result, Ok, Err, refl, sym, ap, ◌∙◌, subst, arith}
use Rattle.std.specs.Prelude.{is_none, nat_eq, nat_lt, map as map_list}
use Rattle.std.specs.Option.{option_map_or}
use Rattle.std.specs.Ordering.{nat_cmp, is_eq}
use Rattle.std.specs.Cmp.{nat_cmp_total, tied_itself}
use Rattle.std.specs.FinMap as map
use Rattle.std.specs.FinMap.{FinMap}
use Rattle.std.proofs.lemmas.Bool.{false≢true, eq-eqb, eqb-true, ltb-false, ne_eqb, or_parts}
use Rattle.land_acts.proofs.EnteredEntries.{here}
use Rattle.land_acts.proofs.TransferLookUps.{moved_is_sound, pairs_moved}
use Rattle.land_acts.proofs.TransferMoves.{IsBefore, IsMoved, moved_count, right_left}
use Rattle.land_acts.proofs.TransferShares.{IsHeldAt, IsHeldBy, held_there, held_by_there, none_held_by, same_some}
use Rattle.land_acts.proofs.TransferSums.{apart_to, length-filter}
use Rattle.land_acts.proofs.TransferWholes.{IsGrown, any_source, from_at_most_one, had_some, left_of, sum_kept, whole_kept}
use Rattle.land_acts.specs.Mutations.Planning.{runs_out_of_numbers}
use Rattle.land_acts.specs.Mutations.TransferLaws.{HasOneRight, IsRightOf}
use Rattle.land_acts.specs.Mutations.Transferring.{are_too_fine, are_too_many, ended_rights, increased_entry, right_of_receiver, right_at, is_above, is_above_one, is_checked, gives_to_itself, is_too_fine, is_too_large, remaining_entry, move_change, number_after, entries_of_receiver, right_entry, increased_share, remaining_share}
use Rattle.land_acts.specs.declared.mutations.transfer.HeldRight.{HeldRight}
use Rattle.land_core.proofs.FiniteMaps.{none_is_not_some}
use Rattle.land_core.proofs.RecordLookups.{by_look_ups}
use Rattle.land_core.proofs.SoundRegisters.{are_used, refers, used_bounds, used_from}
use Rattle.land_core.specs.Changes.{after, NamesKeysOnce}
use Rattle.land_core.specs.Entries.{has, with_changes, are_distinct}
use Rattle.land_core.specs.Laws.{IsSoundByNumber}
use Rattle.land_core.specs.Numbers.{last_next}
use Rattle.land_core.specs.Soundness.{IsSound}
use Rattle.land_core.specs.Units.{rrr_count, type_shares}
use Rattle.land_core.specs.declared.content.Transfer.{Transfer}
use Rattle.land_core.specs.declared.register.Register.{Register}
use Rattle.land_core.specs.declared.rrr.RightType.{RightType}
use Rattle.land_core.specs.declared.rrr.RrrRecord.{RrrRecord}
use Rattle.land_core.specs.declared.soundness.Unsound.TheVariants.{Reference}
use Rattle.land_core.specs.declared.unit.UnitRecord.{UnitRecord}
use Rattle.land_fraction.proofs.Wholes.{common_of-is}
use Rattle.land_fraction.specs.Laws.{WholenessLaw}
use Rattle.land_fraction.specs.Ratio.{Ratio}
use Rattle.land_fraction.specs.Wholeness.{IsCommon, IsCommonMultiple, IsWhole, common_of, parts_of}
use Rattle.land_fraction.specs.declared.fault.FractionFault.{FractionFault}
use Rattle.land_fraction.specs.declared.fault.FractionFault.TheVariants.{Zero, AboveOne, TooFine}

-- ---- two entries of a map that change

module _ (m : FinMap nat_cmp RrrRecord) (k : ℕ) where
  inserted_else : (v : RrrRecord) (n : ℕ) → n ≢ k → map.get (map.insert m k v) n ≡ map.get m n
  inserted_else v n apart = map.get-insert nat_cmp_total m k v n ∙ ap (λ b. cond b (Some v) (map.get m n)) (apart_to n k apart)

  removed_here : map.get (map.remove m k) k ≡ None
  removed_here = map.get-remove nat_cmp_total m k k ∙ ap (λ b. cond b None (map.get m k)) (ap is_eq (tied_itself nat_cmp_total k))

  removed_else : (n : ℕ) → n ≢ k → map.get (map.remove m k) n ≡ map.get m n
  removed_else n apart = map.get-remove nat_cmp_total m k n ∙ ap (λ b. cond b None (map.get m n)) (apart_to n k apart)

-- the number of the receiver's right
abbrev pub number_of_right : Register → Option HeldRight → ℕ
number_of_right r None = r.next
number_of_right r (Some held) = held.number

module _ (r : Register) (it : Transfer) (from : HeldRight) where
  -- the entries after the transfer, from the remaining share and the receiver's earlier right
  abbrev entries_after : (source : ℕ) → Result Ratio FractionFault → Option HeldRight → FinMap nat_cmp RrrRecord
  entries_after source left to = with_changes r.rrrs (remaining_entry source it from left ++ entries_of_receiver r source it from to) (ended_rights from left)

  abbrev register_after : (source : ℕ) → Option HeldRight → Register
  register_after source to = record r { rrrs = entries_after source (remaining_share it from) to; next = number_after r to }

  module _ (source number : ℕ) (share : Ratio) (to : Option HeldRight) (first : IsHeldAt r.rrrs it.unit from) (apart : from.number ≢ number)
      (got : entries_of_receiver r source it from to ≡ (number, right_entry it.unit it.receiver from.right_type share source) ∷ []) (second : IsBefore r it.unit it.receiver from.right_type number to) where
    moved : (left : Result Ratio FractionFault) → IsMoved r (entries_after source left to) it.unit it.receiver source from (left_of left) number share to
    moved left = record {
      first = first;
      differ = record { apart = apart; elsewhere = λ n off away. at_other left n off away };
      at_first = at_first left;
      at_second = at_second left;
      second = second;
    }
      where
        entry : RrrRecord
        entry = right_entry it.unit it.receiver from.right_type share source

        -- the entries with the giver's right after the transfer
        one_changed : Result Ratio FractionFault → FinMap nat_cmp RrrRecord
        one_changed (Ok s) = map.insert r.rrrs from.number (right_entry it.unit from.party from.right_type s source)
        one_changed (Err fault) = map.remove r.rrrs from.number

        both_changed : (left : Result Ratio FractionFault) → entries_after source left to ≡ map.insert (one_changed left) number entry
        both_changed (Ok s) =
            ap (λ (put : List (ℕ × RrrRecord)). with_changes r.rrrs (remaining_entry source it from (Ok s) ++ put) []) got
        both_changed (Err fault) =
            ap (λ (put : List (ℕ × RrrRecord)). with_changes r.rrrs put (from.number ∷ [])) got

        at_first : (left : Result Ratio FractionFault) → map.get (entries_after source left to) from.number ≡ right_left it.unit from.party from.right_type source (left_of left)
        at_first left = ap (λ (m : FinMap nat_cmp RrrRecord). map.get m from.number) (both_changed left) ∙ inserted_else (one_changed left) number entry from.number apart ∙ one left
          where
            one : (left : Result Ratio FractionFault) → map.get (one_changed left) from.number ≡ right_left it.unit from.party from.right_type source (left_of left)
            one (Ok s) = here r.rrrs from.number (right_entry it.unit from.party from.right_type s source)
            one (Err fault) = removed_here r.rrrs from.number

        at_second : (left : Result Ratio FractionFault) → map.get (entries_after source left to) number ≡ Some entry
        at_second left = ap (λ (m : FinMap nat_cmp RrrRecord). map.get m number) (both_changed left) ∙ here (one_changed left) number entry

        at_other : (left : Result Ratio FractionFault) (n : ℕ) → n ≢ from.number → n ≢ number → map.get (entries_after source left to) n ≡ map.get r.rrrs n
        at_other left n off away = ap (λ (m : FinMap nat_cmp RrrRecord). map.get m n) (both_changed left) ∙ inserted_else (one_changed left) number entry n away ∙ one left
          where
            one : (left : Result Ratio FractionFault) → map.get (one_changed left) n ≡ map.get r.rrrs n
            one (Ok s) = inserted_else r.rrrs from.number (right_entry it.unit from.party from.right_type s source) n off
            one (Err fault) = removed_else r.rrrs from.number n off

  -- ---- if no refusal applies

  abbrev too_large : Option HeldRight → Bool
  too_large to = is_above it from || not (gives_to_itself it from) && option_map_or (λ held. is_above_one (increased_share it held)) to false

  abbrev too_fine : Option HeldRight → Bool
  too_fine to =
      not (gives_to_itself it from)
      && (is_too_fine (remaining_share it from) || option_map_or (λ held. is_too_fine (increased_share it held)) to false
      || is_checked r it.unit && is_none (common_of (type_shares (register_after 0 to) it.unit from.right_type)))

  abbrev too_many : Option HeldRight → Bool
  too_many to = is_none to && (runs_out_of_numbers r 1 || nat_lt 256 (rrr_count (register_after 0 to) it.unit))

  record IsAllowed (to : Option HeldRight) : Type 0 where
    not_above : is_above it from ≡ false
    within_one : option_map_or (λ held. is_above_one (increased_share it held)) to false ≡ false
    left_coarse : is_too_fine (remaining_share it from) ≡ false
    grown_coarse : option_map_or (λ held. is_too_fine (increased_share it held)) to false ≡ false
    shares_coarse : is_checked r it.unit ≡ true → is_none (common_of (type_shares (register_after 0 to) it.unit from.right_type)) ≡ false

  allowed : (to : Option HeldRight) → gives_to_itself it from ≡ false → too_large to ≡ false → too_fine to ≡ false → IsAllowed to
  allowed to other large fine =
      let sizes = or_parts (is_above it from) (not (gives_to_itself it from) && option_map_or (λ held. is_above_one (increased_share it held)) to false) large in
      let all = sym (ap (λ b. not b
      && (is_too_fine (remaining_share it from) || option_map_or (λ held. is_too_fine (increased_share it held)) to false
      || is_checked r it.unit && is_none (common_of (type_shares (register_after 0 to) it.unit from.right_type)))) other) ∙ fine in
      let parts = or_parts (is_too_fine (remaining_share it from) || option_map_or (λ held. is_too_fine (increased_share it held)) to false)
      (is_checked r it.unit && is_none (common_of (type_shares (register_after 0 to) it.unit from.right_type))) all in
      let changed = or_parts (is_too_fine (remaining_share it from)) (option_map_or (λ held. is_too_fine (increased_share it held)) to false) parts.0 in
      record {
        not_above = sizes.0;
        within_one = sym (ap (λ b. not b && option_map_or (λ held. is_above_one (increased_share it held)) to false) other) ∙ sizes.1;
        left_coarse = changed.0;
        grown_coarse = changed.1;
        shares_coarse = λ checked. sym (ap (λ b. b && is_none (common_of (type_shares (register_after 0 to) it.unit from.right_type))) checked) ∙ parts.1;
      }

  -- the receiver's right is not the giver's
  two_rights : {held : HeldRight} → IsHeldAt r.rrrs it.unit from → IsHeldBy r.rrrs it.unit it.receiver from.right_type held → gives_to_itself it from ≡ false → from.number ≢ held.number
  two_rights first right other same =
      let one : first.entry ≡ right.held_right.entry = same_some (sym first.there ∙ ap (map.get r.rrrs) same ∙ right.held_right.there) in
      let party : from.party ≡ it.receiver = sym first.party ∙ ap (λ (e : RrrRecord). e.party) one ∙ right.held_right.party ∙ right.by_party in
      false≢true (sym other ∙ eq-eqb from.party it.receiver party)

  -- the change of the entries, for any source
  record IsTransferred (to : Option HeldRight) : Type 0 where
    number : ℕ
    share : Ratio
    moved_by : (source : ℕ) → IsMoved r (entries_after source (remaining_share it from) to) it.unit it.receiver source from (left_of (remaining_share it from)) number share to
    has_grown : IsGrown it share to
    positive : 0 < number
    below : number < number_after r to
    grows : r.next ≤ number_after r to

  module _ (law : WholenessLaw) (sound : IsSound r) (first : IsHeldAt r.rrrs it.unit from) where
    before : IsSoundByNumber r
    before = (by_look_ups law r).0 sound

    from_in_use : (0 < from.number) × (from.number < r.next)
    from_in_use = let it = before.numbers_of_entries from.number first.entry first.there in (it.positive, it.below)

    -- the receiver had no right of the type, and gets one
    transferred_new : right_of_receiver r it from ≡ None → IsTransferred None
    transferred_new none =
        let low = from_in_use.1 in
        let high = from_in_use.0 in
        record {
          number = r.next;
          share = it.share;
          moved_by = λ source. moved source r.next it.share None first (λ same. fresh_apart same low) refl (next_free, none_held_by r it.unit it.receiver from.right_type none) (remaining_share it from);
          has_grown = refl;
          positive = omega (arith, low, high);
          below = omega arith;
          grows = omega arith;
        }
      where
        fresh_apart : from.number ≡ r.next → from.number < r.next → ⊥
        fresh_apart same low = omega arith

        free : (o : Option RrrRecord) → map.get r.rrrs r.next ≡ o → map.get r.rrrs r.next ≡ None
        free None is = is
        free (Some e) is = let low = (before.numbers_of_entries r.next e is).below in absurd (omega (arith, low))

        next_free : map.get r.rrrs r.next ≡ None
        next_free = free (map.get r.rrrs r.next) refl

    -- the receiver had a right of the type, whose share increases
    transferred_grown : (held : HeldRight) → gives_to_itself it from ≡ false → right_of_receiver r it from ≡ Some held → IsAllowed (Some held) → IsTransferred (Some held)
    transferred_grown held other some allow = by_sum (increased_share it held) refl allow.within_one allow.grown_coarse
      where
        right : IsHeldBy r.rrrs it.unit it.receiver from.right_type held
        right = held_by_there r it.unit it.receiver from.right_type held some

        apart : from.number ≢ held.number
        apart = two_rights first right other

        in_use : (0 < held.number) × (held.number < r.next)
        in_use = let it = before.numbers_of_entries held.number right.held_right.entry right.held_right.there in (it.positive, it.below)

        by_sum : (o : Result Ratio FractionFault) → increased_share it held ≡ o → is_above_one o ≡ false → is_too_fine o ≡ false → IsTransferred (Some held)
        by_sum (Ok share) is within coarse = record {
          number = held.number;
          share = share;
          moved_by = λ source. moved source held.number share (Some held) first apart (got source) (right, refl) (remaining_share it from);
          has_grown = is;
          positive = in_use.0;
          below = in_use.1;
          grows = omega arith;
        }
          where
            got : (source : ℕ) → entries_of_receiver r source it from (Some held) ≡ (held.number, right_entry it.unit it.receiver from.right_type share source) ∷ []
            got source =
                ap (increased_entry source it held) is
                ∙ ap (λ (t : RightType). (held.number, right_entry it.unit it.receiver t share source) ∷ []) right.of_type
        by_sum (Err Zero) is within coarse = absurd (false≢true (sym within))
        by_sum (Err AboveOne) is within coarse = absurd (false≢true (sym within))
        by_sum (Err TooFine) is within coarse = absurd (false≢true (sym coarse))

    transferred : (to : Option HeldRight) → right_of_receiver r it from ≡ to → gives_to_itself it from ≡ false → IsAllowed to → IsTransferred to
    transferred None is other allow = transferred_new is
    transferred (Some held) is other allow = transferred_grown held other is allow

    was_whole : (to : Option HeldRight) → IsTransferred to → (u : UnitRecord) → map.get r.units it.unit ≡ Some u → u.checked ≡ true → IsWhole (type_shares r it.unit from.right_type)
    was_whole to h u is checked =
        (before.units it.unit u is).whole checked from.right_type
        (had_some r (entries_after 0 (remaining_share it from) to) it.unit it.receiver 0 from (left_of (remaining_share it from)) h.number h.share to (h.moved_by 0))

    -- ---- the sum of the shares

    -- in a checked unit no share is above one
    at_most_one : (to : Option HeldRight) → IsTransferred to → (is_checked r it.unit ≡ false → from.share.numerator ≤ from.share.denominator) → from.share.numerator ≤ from.share.denominator
    at_most_one to h unchecked = found (map.get r.units it.unit) refl unchecked
      where
        by_check : (u : UnitRecord) → map.get r.units it.unit ≡ Some u → (b : Bool) → u.checked ≡ b → (b ≡ false → from.share.numerator ≤ from.share.denominator) → from.share.numerator ≤ from.share.denominator
        by_check u is true checked otherwise =
            from_at_most_one r (entries_after 0 (remaining_share it from) to) it.unit it.receiver 0 from (left_of (remaining_share it from)) h.number h.share to (h.moved_by 0) (was_whole to h u is checked)
        by_check u is false checked otherwise = otherwise refl

        found : (o : Option UnitRecord) → map.get r.units it.unit ≡ o → (option_map_or (λ u. u.checked) o false ≡ false → from.share.numerator ≤ from.share.denominator) → from.share.numerator ≤ from.share.denominator
        found None is otherwise = otherwise refl
        found (Some u) is otherwise = by_check u is u.checked refl otherwise

    same_sum : (to : Option HeldRight) → IsTransferred to → IsAllowed to → (is_checked r it.unit ≡ false → from.share.numerator ≤ from.share.denominator) → (source parts : ℕ)
        → IsCommonMultiple parts (type_shares r it.unit from.right_type) → IsCommonMultiple parts (type_shares (register_after source to) it.unit from.right_type)
        → parts_of parts (type_shares (register_after source to) it.unit from.right_type) ≡ parts_of parts (type_shares r it.unit from.right_type)
    same_sum to h allow unchecked source parts =
        sum_kept r (entries_after source (remaining_share it from) to) it.unit it.receiver source from (left_of (remaining_share it from)) h.number h.share to (h.moved_by source)
        it (remaining_share it from) refl refl allow.left_coarse allow.not_above h.has_grown (at_most_one to h unchecked) parts

    -- ---- the receiver's right

    one_right : (to : Option HeldRight) → IsTransferred to → (source : ℕ) → HasOneRight (register_after source to) it.unit it.receiver from.right_type
    one_right to h source = record {
      number = h.number;
      entry = entry;
      there = (h.moved_by source).at_second;
      is_right = record { in_unit = refl; by_party = refl; of_type = refl };
      alone = alone;
    }
      where
        entry : RrrRecord
        entry = right_entry it.unit it.receiver from.right_type h.share source

        alone : (n : ℕ) (other : RrrRecord) → map.get (entries_after source (remaining_share it from) to) n ≡ Some other → IsRightOf it.unit it.receiver from.right_type other → n ≡ h.number
        alone n other is right =
            elim (nat_eq n h.number) as (λ b. nat_eq n h.number ≡ b → n ≡ h.number) [
              | true ↦ λ same. eqb-true n h.number same
              | false ↦ λ apart. absurd ((pairs_moved r (entries_after source (remaining_share it from) to) it.unit it.receiver source from (left_of (remaining_share it from)) h.number h.share to (h.moved_by source) before.pairs
                  n h.number other entry is (h.moved_by source).at_second (λ same. false≢true (sym apart ∙ eq-eqb n h.number same)) right.in_unit).rights from.right_type right.by_party right.of_type refl)
            ] refl

    -- ---- soundness

    module _ (source : ℕ) (has_source : has r.sources source ≡ true) (has_receiver : has r.parties it.receiver ≡ true) where
      checked_at : (u : UnitRecord) → map.get r.units it.unit ≡ Some u → u.checked ≡ true → is_checked r it.unit ≡ true
      checked_at u is checked = ap (λ (o : Option UnitRecord). option_map_or (λ u. u.checked) o false) is ∙ checked

      sound_with : (to : Option HeldRight) → IsTransferred to → IsAllowed to → number_after r to ≤ last_next → (to ≡ None → rrr_count (register_after 0 to) it.unit ≤ 256) → IsSound (register_after source to)
      sound_with to h allow room few =
          (by_look_ups law (register_after source to)).1
          (moved_is_sound r (entries_after source (remaining_share it from) to) it.unit it.receiver source from (left_of (remaining_share it from)) h.number h.share to (h.moved_by source) (number_after r to)
          before h.grows room h.positive h.below has_source has_receiver
          (λ none. subst (λ (n : ℕ). n ≤ 256) same_count (few none))
          (λ u is checked. stays_whole u is checked (common_of (type_shares (register_after 0 to) it.unit from.right_type)) (common_of-is (type_shares (register_after 0 to) it.unit from.right_type)) (allow.shares_coarse (checked_at u is checked))))
        where
          same_count : rrr_count (register_after 0 to) it.unit ≡ rrr_count (register_after source to) it.unit
          same_count =
              let one = moved_count r (entries_after source (remaining_share it from) to) it.unit it.receiver source from (left_of (remaining_share it from)) h.number h.share to (h.moved_by source) it.unit in
              let other = moved_count r (entries_after 0 (remaining_share it from) to) it.unit it.receiver 0 from (left_of (remaining_share it from)) h.number h.share to (h.moved_by 0) it.unit in
              let counted = length-filter (λ (e : ℕ × RrrRecord). nat_eq e.1.unit it.unit) (map.entries (entries_after source (remaining_share it from) to)) in
              let like_counted = length-filter (λ (e : ℕ × RrrRecord). nat_eq e.1.unit it.unit) (map.entries (entries_after 0 (remaining_share it from) to)) in
              omega (arith, one, other, counted, like_counted)

          stays_whole : (u : UnitRecord) → map.get r.units it.unit ≡ Some u → u.checked ≡ true → (o : Option ℕ) → IsCommon (type_shares (register_after 0 to) it.unit from.right_type) o → is_none o ≡ false
              → IsWhole (type_shares (register_after source to) it.unit from.right_type)
          stays_whole u is checked None common coarse = absurd (false≢true (sym coarse))
          stays_whole u is checked (Some m) common coarse =
              whole_kept r (entries_after source (remaining_share it from) to) it.unit it.receiver source from (left_of (remaining_share it from)) h.number h.share to (h.moved_by source)
              it (remaining_share it from) refl refl allow.left_coarse allow.not_above h.has_grown m common.0
              (any_source r (entries_after source (remaining_share it from) to) it.unit it.receiver source from (left_of (remaining_share it from)) h.number h.share to (h.moved_by source)
              (entries_after 0 (remaining_share it from) to) 0 (h.moved_by 0) m common.1)
              (was_whole to h u is checked)

      sound_after : (to : Option HeldRight) → IsTransferred to → IsAllowed to → too_many to ≡ false → IsSound (register_after source to)
      sound_after None h allow many =
          let limits = or_parts (runs_out_of_numbers r 1) (nat_lt 256 (rrr_count (register_after 0 None) it.unit)) many in
          sound_with None h allow (below_end limits.0) (λ is. ltb-false 256 (rrr_count (register_after 0 None) it.unit) limits.1)
        where
          below_end : runs_out_of_numbers r 1 ≡ false → r.next + 1 ≤ last_next
          below_end room = ltb-false last_next (r.next + 1) room
      sound_after (Some held) h allow many = sound_with (Some held) h allow before.room (λ none. absurd (none_is_not_some (sym none)))

-- a transfer to which no refusal applies keeps a register sound
pub transferred_is_sound : WholenessLaw → (r : Register) (source : ℕ) (it : Transfer) (from : HeldRight) → IsSound r → right_at r it.unit it.right ≡ Some from → has r.sources source ≡ true
    → has r.parties it.receiver ≡ true → is_too_large r it from ≡ false → are_too_fine r it from ≡ false → are_too_many r it from ≡ false → gives_to_itself it from ≡ false
    → IsSound (after (move_change r source it from) r)
transferred_is_sound law r source it from sound held has_source has_receiver large fine many other =
    let first = (held_there r it.unit it.right from held).0 in
    let allow = allowed r it from (right_of_receiver r it from) other large fine in
    sound_after r it from law sound first source has_source has_receiver (right_of_receiver r it from) (transferred r it from law sound first (right_of_receiver r it from) refl other allow) allow many

-- and preserves the sum of the shares of the right's type in the unit
pub transferred_keeps_sum : WholenessLaw → (r : Register) (source : ℕ) (it : Transfer) (from : HeldRight) (parts : ℕ) → IsSound r → right_at r it.unit it.right ≡ Some from
    → is_too_large r it from ≡ false → are_too_fine r it from ≡ false → gives_to_itself it from ≡ false → (is_checked r it.unit ≡ false → from.share.numerator ≤ from.share.denominator)
    → IsCommonMultiple parts (type_shares r it.unit from.right_type) → IsCommonMultiple parts (type_shares (after (move_change r source it from) r) it.unit from.right_type)
    → parts_of parts (type_shares (after (move_change r source it from) r) it.unit from.right_type) ≡ parts_of parts (type_shares r it.unit from.right_type)
transferred_keeps_sum law r source it from parts sound held large fine other unchecked =
    let first = (held_there r it.unit it.right from held).0 in
    let allow = allowed r it from (right_of_receiver r it from) other large fine in
    same_sum r it from law sound first (right_of_receiver r it from) (transferred r it from law sound first (right_of_receiver r it from) refl other allow) allow unchecked source parts

-- and leaves the receiver exactly one right of the type
pub receiver_has_one_right : WholenessLaw → (r : Register) (source : ℕ) (it : Transfer) (from : HeldRight) → IsSound r → right_at r it.unit it.right ≡ Some from
    → is_too_large r it from ≡ false → are_too_fine r it from ≡ false → gives_to_itself it from ≡ false → HasOneRight (after (move_change r source it from) r) it.unit it.receiver from.right_type
receiver_has_one_right law r source it from sound held large fine other =
    let first = (held_there r it.unit it.right from held).0 in
    let allow = allowed r it from (right_of_receiver r it from) other large fine in
    one_right r it from law sound first (right_of_receiver r it from) (transferred r it from law sound first (right_of_receiver r it from) refl other allow) source

-- ---- keys

two_apart : (k j : ℕ) → k ≢ j → are_distinct nat_eq (k ∷ j ∷ []) ≡ true
two_apart k j apart = ap (λ b. not (b || false) && true) (ne_eqb k j apart)

module _ (r : Register) (source : ℕ) (it : Transfer) (from : HeldRight) where
  abbrev numbers : Result Ratio FractionFault → List (ℕ × RrrRecord) → List ℕ
  numbers left put = map_list (λ e. e.0) (remaining_entry source it from left ++ put) ++ ended_rights from left

  once_with : (left : Result Ratio FractionFault) (e : ℕ × RrrRecord) → from.number ≢ e.0 → are_distinct nat_eq (numbers left (e ∷ [])) ≡ true
  once_with (Ok share) e apart = two_apart from.number e.0 apart
  once_with (Err fault) e apart = two_apart e.0 from.number (λ same. apart (sym same))

  once_alone : (left : Result Ratio FractionFault) → are_distinct nat_eq (numbers left []) ≡ true
  once_alone (Ok share) = refl
  once_alone (Err fault) = refl

  once_grown : (left : Result Ratio FractionFault) (held : HeldRight) (sum : Result Ratio FractionFault) → from.number ≢ held.number → are_distinct nat_eq (numbers left (increased_entry source it held sum)) ≡ true
  once_grown left held (Ok share) apart = once_with left (held.number, right_entry it.unit it.receiver held.right_type share source) apart
  once_grown left held (Err fault) apart = once_alone left

  once : right_at r it.unit it.right ≡ Some from → gives_to_itself it from ≡ false → from.number ≢ r.next → (to : Option HeldRight) → right_of_receiver r it from ≡ to
      → are_distinct nat_eq (numbers (remaining_share it from) (entries_of_receiver r source it from to)) ≡ true
  once held other apart None is = once_with (remaining_share it from) (r.next, right_entry it.unit it.receiver from.right_type it.share source) apart
  once held other apart (Some to) is =
      once_grown (remaining_share it from) to (increased_share it to)
      (two_rights r it from (held_there r it.unit it.right from held).0 (held_by_there r it.unit it.receiver from.right_type to is) other)

  -- the two rights are different entries if there is no right at the next number
  pub move_names_once : right_at r it.unit it.right ≡ Some from → gives_to_itself it from ≡ false → from.number ≢ r.next → NamesKeysOnce (move_change r source it from)
  move_names_once held other apart = record {
    parties = refl;
    roles = refl;
    members = refl;
    units = refl;
    parcels = refl;
    rrrs = once held other apart (right_of_receiver r it from) refl;
    sources = refl;
    mutations = refl;
    mandates = refl;
  }

  -- in a sound register there is none
  pub sound_names_once : IsSound r → right_at r it.unit it.right ≡ Some from → gives_to_itself it from ≡ false → NamesKeysOnce (move_change r source it from)
  sound_names_once sound held other = move_names_once held other (λ same. omega (arith, same, below))
    where
      first : IsHeldAt r.rrrs it.unit from
      first = (held_there r it.unit it.right from held).0

      below : from.number < r.next
      below = (used_bounds r from.number (used_from r r.rrrs (are_used r (refers r (sound Reference)).numbers).rrrs from.number first.entry first.there)).1
