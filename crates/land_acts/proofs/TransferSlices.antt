-- A transfer has the same refusals and the same change on the slice as on the register.
use Rattle.std.proofs.Common.{◌≡◌, ℕ, Bool, true, false, cond, Option, Some, None, List, [], ◌∷◌, ◌++◌, length, refl, sym, ap, ◌∙◌}
use Rattle.std.specs.Prelude.{ℤ, Ok, Err, Result, filter, nat_eq}
use Rattle.std.specs.List.{AllByRecursion, filter_map, find}
use Rattle.std.specs.Option.{option_map_or}
use Rattle.std.specs.Cmp.{nat_cmp_total}
use Rattle.std.specs.FinMap as map
use Rattle.std.specs.FinMap.{FinMap, nat_cmp-IsAntisymmetric}
use Rattle.std.specs.Ordering.{nat_cmp}
use Rattle.std.proofs.lemmas.Bool.{false≢true}
use Rattle.std.proofs.lemmas.Cmp.{nat_eq_equiv}
use Rattle.land_acts.proofs.EndedEntries.{filter_map-kept, filter_within}
use Rattle.land_acts.proofs.KeptEntries.{get-kept, kept_at, with_changes-kept}
use Rattle.land_acts.proofs.MortgageSlices.{AgreeOnUnit}
use Rattle.land_acts.specs.Mutations.ByContent.{transfer_change, transfer_made}
use Rattle.land_acts.specs.Mutations.Transferring.{are_too_fine, are_too_many, ended_rights, increased_entry, right_of_receiver, has_right_where, right_at, right_in_unit, right_of_class, is_right_held_by, gives_to_itself, is_too_large, remaining_entry, move_change, entries_of_receiver, increased_share, remaining_share, transfer_refusals}
use Rattle.land_acts.specs.declared.mutations.transfer.HeldRight.{HeldRight}
use Rattle.land_core.proofs.Reflection.{entries-entries_where}
use Rattle.land_core.specs.Changes.{after}
use Rattle.land_core.specs.Entries.{has, entries_where, with_changes}
use Rattle.land_core.specs.Units.{rrr_count, share_in_unit, share_of, type_shares}
use Rattle.land_core.specs.declared.content.Transfer.{Transfer}
use Rattle.land_core.specs.declared.register.Register.{Register}
use Rattle.land_core.specs.declared.rrr.RightType.{RightType}
use Rattle.land_core.specs.declared.rrr.RrrRecord.{RrrRecord}
use Rattle.land_fraction.specs.Ratio.{Ratio}
use Rattle.land_fraction.specs.declared.fault.FractionFault.{FractionFault}

module _ (s r : Register) (it : Transfer) (agree : AgreeOnUnit s r it.unit) where
  -- an entry outside the slice belongs to another unit
  elsewhere : (n : ℕ) (e : RrrRecord) → agree.kept n e ≡ false → nat_eq e.unit it.unit ≡ false
  elsewhere n e lost = elim (nat_eq e.unit it.unit) as (λ b. nat_eq e.unit it.unit ≡ b → b ≡ false) [
    | true ↦ λ here. absurd (false≢true (sym lost ∙ agree.keeps n e here))
    | false ↦ λ other. refl
  ] refl

  -- values that are taken only from the entries of the unit
  module _ {Y : Type 0} (take : ℕ × RrrRecord → Option Y) (other : (e : ℕ × RrrRecord) → nat_eq e.1.unit it.unit ≡ false → take e ≡ None) where
    none_taken : (es : List (ℕ × RrrRecord)) → AllByRecursion (λ e. agree.kept e.0 e.1 ≡ false → take e ≡ None) es
    none_taken [] = tt
    none_taken (e ∷ es) = (λ lost. other e (elsewhere e.0 e.1 lost), none_taken es)

    taken_same : (m : FinMap nat_cmp RrrRecord) → filter_map take (map.entries (entries_where agree.kept m)) ≡ filter_map take (map.entries m)
    taken_same m =
        ap (filter_map take) (entries-entries_where nat_cmp_total nat_cmp-IsAntisymmetric agree.kept m)
        ∙ filter_map-kept take (λ e. agree.kept e.0 e.1) (map.entries m) (none_taken (map.entries m))

  -- ---- the rights

  no_right : (n : ℕ) (e : RrrRecord) → nat_eq e.unit it.unit ≡ false → right_in_unit it.unit n e ≡ None
  no_right n e other = ap (λ b. cond b (right_of_class n e.party e.class) None) other

  held_at_same : right_at s it.unit it.right ≡ right_at r it.unit it.right
  held_at_same =
      ap (λ m. option_map_or (right_in_unit it.unit it.right) (map.get m it.right) None) agree.entries
      ∙ ap (λ o. option_map_or (right_in_unit it.unit it.right) o None) (get-kept agree.kept r.rrrs it.right)
      ∙ by_case (map.get r.rrrs it.right)
    where
      by_case : (o : Option RrrRecord) → option_map_or (right_in_unit it.unit it.right) (kept_at agree.kept it.right o) None ≡ option_map_or (right_in_unit it.unit it.right) o None
      by_case None = refl
      by_case (Some e) =
          elim (agree.kept it.right e) as (λ b. agree.kept it.right e ≡ b → option_map_or (right_in_unit it.unit it.right) (cond b (Some e) None) None ≡ right_in_unit it.unit it.right e) [
            | true ↦ λ stays. refl
            | false ↦ λ lost. sym (no_right it.right e (elsewhere it.right e lost))
          ] refl

  grows_same : (from : HeldRight) → right_of_receiver s it from ≡ right_of_receiver r it from
  grows_same from =
      ap (λ m. find (is_right_held_by it.receiver from.right_type) (filter_map (λ e. right_in_unit it.unit e.0 e.1) (map.entries m))) agree.entries
      ∙ ap (find (is_right_held_by it.receiver from.right_type)) (taken_same (λ e. right_in_unit it.unit e.0 e.1) (λ e other. no_right e.0 e.1 other) r.rrrs)

  move_same : (source : ℕ) (from : HeldRight) → move_change s source it from ≡ move_change r source it from
  move_same source from = rw (grows_same from, agree.next) refl

  -- ---- the entries of the unit after the transfer

  kept_entry : (n : ℕ) (e : RrrRecord) → e.unit ≡ it.unit → agree.kept n e ≡ true
  kept_entry n e here = agree.keeps n e (ap (λ u. nat_eq u it.unit) here ∙ nat_eq_equiv.refl it.unit)

  grown_kept : (source : ℕ) (to : HeldRight) (share : Result Ratio FractionFault) → AllByRecursion (λ e. agree.kept e.0 e.1 ≡ true) (increased_entry source it to share)
  grown_kept source to (Ok share) = (kept_entry to.number _ refl, tt)
  grown_kept source to (Err fault) = tt

  put_kept : (source : ℕ) (from : HeldRight) (to : Option HeldRight) → AllByRecursion (λ e. agree.kept e.0 e.1 ≡ true) (entries_of_receiver r source it from to)
  put_kept source from None = (kept_entry r.next _ refl, tt)
  put_kept source from (Some to) = grown_kept source to (increased_share it to)

  all_kept : (source : ℕ) (from : HeldRight) (left : Result Ratio FractionFault) (to : Option HeldRight)
      → AllByRecursion (λ e. agree.kept e.0 e.1 ≡ true) (remaining_entry source it from left ++ entries_of_receiver r source it from to)
  all_kept source from (Ok share) to = (kept_entry from.number _ refl, put_kept source from to)
  all_kept source from (Err fault) to = put_kept source from to

  entries_after : (source : ℕ) (from : HeldRight) → (after (move_change s source it from) s).rrrs ≡ entries_where agree.kept (after (move_change r source it from) r).rrrs
  entries_after source from =
      ap (λ change. with_changes s.rrrs change.put.rrrs change.ended.rrrs) (move_same source from)
      ∙ ap (λ m. with_changes m (move_change r source it from).put.rrrs (ended_rights from (remaining_share it from))) agree.entries
      ∙ with_changes-kept agree.kept r.rrrs (remaining_entry source it from (remaining_share it from) ++ entries_of_receiver r source it from (right_of_receiver r it from)) (ended_rights from (remaining_share it from))
      (all_kept source from (remaining_share it from) (right_of_receiver r it from))

  shares_after : (source : ℕ) (from : HeldRight) (type : RightType) → type_shares (after (move_change s source it from) s) it.unit type ≡ type_shares (after (move_change r source it from) r) it.unit type
  shares_after source from type =
      ap (λ m. filter_map (λ e. share_in_unit it.unit type e.1) (map.entries m)) (entries_after source from)
      ∙ taken_same (λ e. share_in_unit it.unit type e.1) (λ e other. ap (λ b. cond b (share_of type e.1.class) None) other) (after (move_change r source it from) r).rrrs

  count_after : (source : ℕ) (from : HeldRight) → rrr_count (after (move_change s source it from) s) it.unit ≡ rrr_count (after (move_change r source it from) r) it.unit
  count_after source from =
      ap (λ m. length (filter (λ e. nat_eq e.1.unit it.unit) (map.entries m))) (entries_after source from)
      ∙ ap (λ es. length (filter (λ e. nat_eq e.1.unit it.unit) es)) (entries-entries_where nat_cmp_total nat_cmp-IsAntisymmetric agree.kept (after (move_change r source it from) r).rrrs)
      ∙ ap length (filter_within (λ e. nat_eq e.1.unit it.unit) (λ e. agree.kept e.0 e.1) (λ e here. agree.keeps e.0 e.1 here) (map.entries (after (move_change r source it from) r).rrrs))

  -- ---- the refusals

  large_same : (from : HeldRight) → is_too_large s it from ≡ is_too_large r it from
  large_same from = rw (grows_same from) refl

  fine_same : map.get s.units it.unit ≡ map.get r.units it.unit → (from : HeldRight) → are_too_fine s it from ≡ are_too_fine r it from
  fine_same units from = rw (shares_after 0 from from.right_type, grows_same from, units) refl

  many_same : (from : HeldRight) → are_too_many s it from ≡ are_too_many r it from
  many_same from = rw (count_after 0 from, grows_same from, agree.next) refl

  -- a condition on the right, if the conditions are equal
  right_same : (p q : HeldRight → Bool) → ((from : HeldRight) → p from ≡ q from) → has_right_where p s it ≡ has_right_where q r it
  right_same p q same = ap (λ o. option_map_or p o false) held_at_same ∙ by_case (right_at r it.unit it.right)
    where
      by_case : (o : Option HeldRight) → option_map_or p o false ≡ option_map_or q o false
      by_case None = refl
      by_case (Some from) = same from

  pub record TransferAgrees : Type 0 where
    pub refusals : (stamp : Option ℤ) → transfer_refusals s it stamp ≡ transfer_refusals r it stamp
    pub change : (source : ℕ) → transfer_change s source it (right_at s it.unit it.right) ≡ transfer_change r source it (right_at r it.unit it.right)
    pub made : transfer_made s it (right_at s it.unit it.right) ≡ transfer_made r it (right_at r it.unit it.right)

  pub transfer_agrees : has s.parties it.receiver ≡ has r.parties it.receiver → map.get s.units it.unit ≡ map.get r.units it.unit → TransferAgrees
  transfer_agrees receiver units = record {
    refusals = λ stamp. rw (
      right_same (is_too_large s it) (is_too_large r it) large_same,
      right_same (are_too_fine s it) (are_too_fine r it) (fine_same units),
      right_same (are_too_many s it) (are_too_many r it) many_same,
      right_same (gives_to_itself it) (gives_to_itself it) (λ from. refl),
      held_at_same,
      agree.stands,
      receiver,
    ) refl;
    change = λ source. ap (transfer_change s source it) held_at_same ∙ changed source (right_at r it.unit it.right);
    made = ap (transfer_made s it) held_at_same ∙ made_same (right_at r it.unit it.right);
  }
    where
      changed : (source : ℕ) (o : Option HeldRight) → transfer_change s source it o ≡ transfer_change r source it o
      changed source None = rw (agree.next) refl
      changed source (Some from) = move_same source from

      made_same : (o : Option HeldRight) → transfer_made s it o ≡ transfer_made r it o
      made_same None = refl
      made_same (Some from) = rw (grows_same from, agree.next) refl
