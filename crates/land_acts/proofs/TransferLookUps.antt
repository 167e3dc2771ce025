-- A share moves from one right to another, and the register stays sound if the shares of the type still sum
-- to one.
use Rattle.std.proofs.Common.{◌≡◌, ◌≢◌, ℕ, ◌+◌, ◌<◌, ◌≤◌, true, false, cond, ◌&&◌, Option, Some, None, [], ◌⊎◌, inl, inr, refl, sym, ap, ◌∙◌, subst, arith}
use Rattle.std.specs.Prelude.{nat_eq}
use Rattle.std.specs.Ordering.{nat_cmp, eq_by_cmp}
use Rattle.std.specs.FinMap as map
use Rattle.std.specs.FinMap.{FinMap}
use Rattle.std.proofs.lemmas.Bool.{eqb-true, and_parts}
use Rattle.land_acts.proofs.Numbers.{one_number}
use Rattle.land_acts.proofs.TransferMoves.{IsBefore, IsMoved, each_entry, moved_count, none_other, other_whole}
use Rattle.land_acts.proofs.TransferShares.{same_some}
use Rattle.land_acts.proofs.TransferSums.{apart_from, length-filter, weigh_map, weight_of}
use Rattle.land_acts.specs.Mutations.Transferring.{right_entry}
use Rattle.land_acts.specs.declared.mutations.transfer.HeldRight.{HeldRight}
use Rattle.land_core.proofs.FiniteMaps.{none_is_not_some}
use Rattle.land_core.proofs.RecordLookups.{one_type}
use Rattle.land_core.specs.Entries.{has}
use Rattle.land_core.specs.Laws.{EntryRefers, GoTogether, HasOwner, IsInUse, IsSoundByNumber, IsSoundUnit}
use Rattle.land_core.specs.Numbers.{last_next}
use Rattle.land_core.specs.Units.{is_type, rank_of, rrr_count, type_of, type_shares}
use Rattle.land_core.specs.declared.register.Register.{Register}
use Rattle.land_core.specs.declared.rrr.Class.{Class}
use Rattle.land_core.specs.declared.rrr.Class.TheVariants as class
use Rattle.land_core.specs.declared.rrr.RightType.{RightType}
use Rattle.land_core.specs.declared.rrr.RightType.TheVariants.{Ownership}
use Rattle.land_core.specs.declared.rrr.RrrRecord.{RrrRecord}
use Rattle.land_core.specs.declared.unit.UnitRecord.{UnitRecord}
use Rattle.land_fraction.specs.Ratio.{Ratio}
use Rattle.land_fraction.specs.Wholeness.{IsWhole}

-- ---- entries that differ only in share and source

record IsLike (e f : RrrRecord) : Type 0 where
  unit : e.unit ≡ f.unit
  party : e.party ≡ f.party
  type : type_of e.class ≡ type_of f.class
  rank : rank_of e.class ≡ rank_of f.class

like_itself : (e : RrrRecord) → IsLike e e
like_itself e = record { unit = refl; party = refl; type = refl; rank = refl }

together_like : (e f a b : RrrRecord) → IsLike e a → IsLike f b → GoTogether a b → GoTogether e f
together_like e f a b first second h = record {
  rights = λ type party x y. h.rights type (sym first.party ∙ party ∙ second.party) (sym first.type ∙ x) (sym second.type ∙ y);
  ranks = λ rank x y. h.ranks rank (sym first.rank ∙ x) (sym second.rank ∙ y);
}

turned : (e f : RrrRecord) → GoTogether f e → GoTogether e f
turned e f h = record {
  rights = λ type party x y. h.rights type (sym party) y x;
  ranks = λ rank x y. h.ranks rank y x;
}

-- the type and the rank of a right
right_is : (it : Class) (type : RightType) (share : Ratio) → it ≡ class.Right type share → (type_of it ≡ Some type) × (rank_of it ≡ None)
right_is it type share is = (ap type_of is, ap rank_of is)

module _ (r : Register) (rrrs : FinMap nat_cmp RrrRecord) (unit receiver source : ℕ) (from : HeldRight) (left : Option Ratio) (number : ℕ) (share : Ratio) (to : Option HeldRight)
    (moved : IsMoved r rrrs unit receiver source from left number share to) where
  -- the earlier entry in the place of a current one
  record Follows (n : ℕ) (e : RrrRecord) : Type 0 where
    entry : RrrRecord
    there : map.get r.rrrs n ≡ Some entry
    like : IsLike e entry

  -- a new right of a party that had none of the type
  record IsNew (n : ℕ) (e : RrrRecord) : Type 0 where
    number_is : n ≡ number
    unit_is : e.unit ≡ unit
    party_is : e.party ≡ receiver
    type_is : type_of e.class ≡ Some from.right_type
    rank_is : rank_of e.class ≡ None
    alone : (k : ℕ) (f : RrrRecord) → map.get r.rrrs k ≡ Some f → f.unit ≡ unit → f.party ≡ receiver → type_of f.class ≢ Some from.right_type

  comes : (n : ℕ) (e : RrrRecord) → map.get rrrs n ≡ Some e → Follows n e ⊎ IsNew n e
  comes =
      each_entry r rrrs unit receiver source from left number share to moved (λ n e. Follows n e ⊎ IsNew n e)
      (λ s at. inl (follows_first s))
      (second to moved.second)
      (λ n e off away is. inl (record { entry = e; there = is; like = like_itself e }))
    where
      follows_first : (s : Ratio) → Follows from.number (right_entry unit from.party from.right_type s source)
      follows_first s =
          let is = right_is moved.first.entry.class from.right_type from.share moved.first.class in
          record {
            entry = moved.first.entry;
            there = moved.first.there;
            like = record { unit = sym moved.first.in_unit; party = sym moved.first.party; type = sym is.0; rank = sym is.1 };
          }

      second : (o : Option HeldRight) → IsBefore r unit receiver from.right_type number o
          → Follows number (right_entry unit receiver from.right_type share source) ⊎ IsNew number (right_entry unit receiver from.right_type share source)
      second None h = inr (record { number_is = refl; unit_is = refl; party_is = refl; type_is = refl; rank_is = refl; alone = h.1 })
      second (Some held) h =
          let right = h.0.held_right in
          let is = right_is right.entry.class held.right_type held.share right.class in
          inl (record {
            entry = right.entry;
            there = ap (map.get r.rrrs) (sym h.1) ∙ right.there;
            like = record { unit = sym right.in_unit; party = sym (right.party ∙ h.0.by_party); type = sym (is.0 ∙ ap Some h.0.of_type); rank = sym is.1 };
          })

  -- a new right is compatible with the earlier entries
  with_new : (m n : ℕ) (e f : RrrRecord) → Follows m e → IsNew n f → e.unit ≡ f.unit → GoTogether e f
  with_new m n e f old new same = record {
    rights = λ type party x y.
        new.alone m old.entry old.there (sym old.like.unit ∙ same ∙ new.unit_is) (sym old.like.party ∙ party ∙ new.party_is) (sym old.like.type ∙ x ∙ sym y ∙ new.type_is);
    ranks = λ rank x y. none_is_not_some (sym new.rank_is ∙ y);
  }

  pub pairs_moved : ((m n : ℕ) (e f : RrrRecord) → map.get r.rrrs m ≡ Some e → map.get r.rrrs n ≡ Some f → m ≢ n → e.unit ≡ f.unit → GoTogether e f)
      → (m n : ℕ) (e f : RrrRecord) → map.get rrrs m ≡ Some e → map.get rrrs n ≡ Some f → m ≢ n → e.unit ≡ f.unit → GoTogether e f
  pairs_moved before m n e f is that apart same = by_origin (comes m e is) (comes n f that)
    where
      by_origin : Follows m e ⊎ IsNew m e → Follows n f ⊎ IsNew n f → GoTogether e f
      by_origin (inl x) (inl y) =
          together_like e f x.entry y.entry x.like y.like (before m n x.entry y.entry x.there y.there apart (sym x.like.unit ∙ same ∙ y.like.unit))
      by_origin (inl x) (inr y) = with_new m n e f x y same
      by_origin (inr x) (inl y) = turned e f (with_new n m f e y x (sym same))
      by_origin (inr x) (inr y) = absurd (apart (x.number_is ∙ sym y.number_is))

  pub ranks_moved : ((n : ℕ) (e : RrrRecord) (rank : ℕ) → map.get r.rrrs n ≡ Some e → rank_of e.class ≡ Some rank → IsInUse r rank)
      → (n : ℕ) (e : RrrRecord) (rank : ℕ) → map.get rrrs n ≡ Some e → rank_of e.class ≡ Some rank → IsInUse r rank
  ranks_moved before n e rank is at_rank = by_origin (comes n e is)
    where
      by_origin : Follows n e ⊎ IsNew n e → IsInUse r rank
      by_origin (inl x) = before n x.entry rank x.there (sym x.like.rank ∙ at_rank)
      by_origin (inr x) = absurd (none_is_not_some (sym x.rank_is ∙ at_rank))

  module _ (next : ℕ) where
    abbrev new : Register
    new = record r { rrrs = rrrs; next = next }

    -- the unit has an owner as before, or the receiver is one
    owner_moved : (n : ℕ) → HasOwner r n → HasOwner new n
    owner_moved n h =
        elim (eq_by_cmp nat_cmp h.number from.number) as (λ b. eq_by_cmp nat_cmp h.number from.number ≡ b → HasOwner new n) [
          | true ↦ λ at.
              let same : h.entry ≡ moved.first.entry = same_some (sym h.there ∙ ap (map.get r.rrrs) (one_number h.number from.number at) ∙ moved.first.there) in
              receives (sym (ap (λ (e : RrrRecord). e.unit) same ∙ moved.first.in_unit) ∙ h.in_unit)
              (sym (right_is moved.first.entry.class from.right_type from.share moved.first.class).0 ∙ ap (λ (e : RrrRecord). type_of e.class) (sym same) ∙ h.owns)
          | false ↦ λ off.
              elim (eq_by_cmp nat_cmp h.number number) as (λ b. eq_by_cmp nat_cmp h.number number ≡ b → HasOwner new n) [
                | true ↦ λ at. grows (ap (map.get r.rrrs) (sym (one_number h.number number at)) ∙ h.there) to moved.second
                | false ↦ λ away.
                    record {
                      number = h.number;
                      entry = h.entry;
                      there = moved.differ.elsewhere h.number (apart_from h.number from.number off) (apart_from h.number number away) ∙ h.there;
                      in_unit = h.in_unit;
                      owns = h.owns;
                    }
              ] refl
        ] refl
      where
        receives : unit ≡ n → Some from.right_type ≡ Some Ownership → HasOwner new n
        receives in_unit owns = record { number = number; entry = right_entry unit receiver from.right_type share source; there = moved.at_second; in_unit = in_unit; owns = owns }

        grows : map.get r.rrrs number ≡ Some h.entry → (o : Option HeldRight) → IsBefore r unit receiver from.right_type number o → HasOwner new n
        grows there None before = absurd (none_is_not_some (sym before.0 ∙ there))
        grows there (Some held) before =
            let right = before.0.held_right in
            let same : h.entry ≡ right.entry = same_some (sym there ∙ ap (map.get r.rrrs) (sym before.1) ∙ right.there) in
            receives (sym (ap (λ (e : RrrRecord). e.unit) same ∙ right.in_unit) ∙ h.in_unit)
            (ap Some (sym before.0.of_type) ∙ sym (right_is right.entry.class held.right_type held.share right.class).0 ∙ ap (λ (e : RrrRecord). type_of e.class) (sym same) ∙ h.owns)

    -- only the unit of a new right has more entries
    count_moved : (n : ℕ) → rrr_count r n ≤ 256 → (to ≡ None → rrr_count new unit ≤ 256) → rrr_count new n ≤ 256
    count_moved n before few =
        let sum = moved_count r rrrs unit receiver source from left number share to moved n in
        let counted = length-filter (λ (e : ℕ × RrrRecord). nat_eq e.1.unit n) (map.entries rrrs) in
        let was = length-filter (λ (e : ℕ × RrrRecord). nat_eq e.1.unit n) (map.entries r.rrrs) in
        let kept = not_more (cond (nat_eq unit n) 1 0) left in
        by_before to refl
        (elim (nat_eq unit n) as (λ b. nat_eq unit n ≡ b → (unit ≡ n) ⊎ ◌≡◌ {A = ℕ} (cond b 1 0) 0) [ true ↦ λ same. inl (eqb-true unit n same) | false ↦ λ other. inr refl ] refl)
        sum counted was kept
      where
        not_more : (c : ℕ) (o : Option Ratio) → weight_of (λ (s : Ratio). c) o ≤ c
        not_more c None = omega arith
        not_more c (Some s) = omega arith

        by_before : (o : Option HeldRight) → to ≡ o → (unit ≡ n) ⊎ ◌≡◌ {A = ℕ} (cond (nat_eq unit n) 1 0) 0
            → weigh_map (λ e. cond (nat_eq e.unit n) 1 0) rrrs + (cond (nat_eq unit n) 1 0 + weight_of (λ (held : HeldRight). cond (nat_eq unit n) 1 0) o)
            ≡ weigh_map (λ e. cond (nat_eq e.unit n) 1 0) r.rrrs + (weight_of (λ (s : Ratio). cond (nat_eq unit n) 1 0) left + cond (nat_eq unit n) 1 0)
            → rrr_count new n ≡ weigh_map (λ e. cond (nat_eq e.unit n) 1 0) rrrs → rrr_count r n ≡ weigh_map (λ e. cond (nat_eq e.unit n) 1 0) r.rrrs
            → weight_of (λ (s : Ratio). cond (nat_eq unit n) 1 0) left ≤ cond (nat_eq unit n) 1 0 → rrr_count new n ≤ 256
        by_before (Some held) is which sum counted was kept = omega (arith, sum, counted, was, kept, before)
        by_before None is (inl same) sum counted was kept = subst (λ (u : ℕ). rrr_count new u ≤ 256) same (few is)
        by_before None is (inr nothing) sum counted was kept = omega (arith, sum, counted, was, kept, nothing, before)

    -- the shares of each type in a checked unit sum to one, if those of the type do in the unit of the
    -- transfer
    whole_moved : (n : ℕ) (u : UnitRecord) → IsSoundUnit r n u → (n ≡ unit → u.checked ≡ true → IsWhole (type_shares new unit from.right_type))
        → u.checked ≡ true → (t : RightType) → type_shares new n t ≢ [] → IsWhole (type_shares new n t)
    whole_moved n u before here checked t some =
        elim (nat_eq unit n && is_type from.right_type t) as (λ b. (nat_eq unit n && is_type from.right_type t) ≡ b → IsWhole (type_shares new n t)) [
          | true ↦ λ same.
              let parts = and_parts (nat_eq unit n) (is_type from.right_type t) same in
              let in_unit : unit ≡ n = eqb-true unit n parts.0 in
              subst (λ (k : ℕ). IsWhole (type_shares new k t)) in_unit
              (subst (λ (x : RightType). IsWhole (type_shares new unit x)) (one_type from.right_type t parts.1) (here (sym in_unit) checked))
          | false ↦ λ other.
              other_whole r rrrs unit receiver source from left number share to moved n t other
              (before.whole checked t (λ none. some (none_other r rrrs unit receiver source from left number share to moved n t other none)))
        ] refl

    pub moved_is_sound : IsSoundByNumber r → r.next ≤ next → next ≤ last_next → 0 < number → number < next → has r.sources source ≡ true → has r.parties receiver ≡ true
        → (to ≡ None → rrr_count new unit ≤ 256) → ((u : UnitRecord) → map.get r.units unit ≡ Some u → u.checked ≡ true → IsWhole (type_shares new unit from.right_type)) → IsSoundByNumber new
    moved_is_sound before grows room above below has_source has_receiver few whole = record {
      room = room;
      numbers_of_parties = λ n party is. still (before.numbers_of_parties n party is);
      numbers_of_units = λ n unit is. still (before.numbers_of_units n unit is);
      numbers_of_parcels = λ n parcel is. still (before.numbers_of_parcels n parcel is);
      numbers_of_entries = each_entry r rrrs unit receiver source from left number share to moved (λ n e. IsInUse new n)
          (λ s at. still (before.numbers_of_entries from.number moved.first.entry moved.first.there))
          (record { positive = above; below = below })
          (λ n e off away is. still (before.numbers_of_entries n e is));
      numbers_of_sources = λ n source is. still (before.numbers_of_sources n source is);
      numbers_of_mutations = λ n mutation is. still (before.numbers_of_mutations n mutation is);
      roles = before.roles;
      members = λ group members is. let it = before.members group members is in record { grouped = it.grouped; single = it.single };
      parcels = λ n parcel is. let it = before.parcels n parcel is in record { unit = it.unit; source = it.source };
      entries = each_entry r rrrs unit receiver source from left number share to moved (λ n e. EntryRefers new e)
          (λ s at. record { unit = in_unit; party = ap (has r.parties) (sym moved.first.party) ∙ first.party; source = has_source })
          (record { unit = in_unit; party = has_receiver; source = has_source })
          (λ n e off away is. let it = before.entries n e is in record { unit = it.unit; party = it.party; source = it.source });
      mutations = λ n mutation is. let it = before.mutations n mutation is in record { lodger = it.lodger; source = it.source; content = it.content };
      mandates = λ principal agent h.
          let it = before.mandates principal agent h in record { principal_single = it.principal_single; agent_single = it.agent_single; apart = it.apart };
      groups = before.groups;
      units = λ n u is.
          let it = before.units n u is in
          record {
            parcel = record { number = it.parcel.number; parcel = it.parcel.parcel; there = it.parcel.there; in_unit = it.parcel.in_unit };
            owner = owner_moved n it.owner;
            parcels = it.parcels;
            entries = count_moved n it.entries few;
            whole = whole_moved n u it (λ same. whole u (ap (map.get r.units) (sym same) ∙ is));
          };
      pairs = pairs_moved before.pairs;
      ranks = λ n e rank is at_rank. still (ranks_moved before.ranks n e rank is at_rank);
      references = before.references;
      administrator = before.administrator;
    }
      where
        still : {n : ℕ} → IsInUse r n → IsInUse new n
        still {n} h = record { positive = h.positive; below = let low = h.below in omega (arith, low, grows) }

        first : EntryRefers r moved.first.entry
        first = before.entries from.number moved.first.entry moved.first.there

        in_unit : has r.units unit ≡ true
        in_unit = ap (has r.units) (sym moved.first.in_unit) ∙ first.unit
