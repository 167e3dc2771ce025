-- A unit whose entries remain has the same shares, owners and count of entries, no matter which entries of
-- other units end.
use Rattle.std.proofs.Common.{◌≡◌, ℕ, Bool, true, false, cond, ◌&&◌, None, List, [], ◌∷◌, length, refl, sym, ap, ◌∙◌}
use Rattle.std.specs.Prelude.{filter, nat_eq}
use Rattle.std.specs.List.{AllByRecursion, filter_map, list_any}
use Rattle.std.specs.Cmp.{nat_cmp_total}
use Rattle.std.specs.FinMap as map
use Rattle.std.specs.FinMap.{nat_cmp-IsAntisymmetric}
use Rattle.std.proofs.lemmas.Bool.{false≢true, and_parts}
use Rattle.land_acts.proofs.EndedEntries.{filter_map-kept, filter_within}
use Rattle.land_core.proofs.Reflection.{entries-entries_where, list_any-filter}
use Rattle.land_core.specs.Entries.{entries_where}
use Rattle.land_core.specs.Units.{are_whole_or_none, has_owner, has_whole_shares, is_right_in, is_right_of, rrr_count, share_in_unit, share_of, type_shares}
use Rattle.land_core.specs.declared.register.Register.{Register}
use Rattle.land_core.specs.declared.rrr.RightType.{RightType}
use Rattle.land_core.specs.declared.rrr.RightType.TheVariants.{Ownership, Lease, Usufruct}
use Rattle.land_core.specs.declared.rrr.RrrRecord.{RrrRecord}

module _ (r new : Register) (kept : ℕ → RrrRecord → Bool) (left : new.rrrs ≡ entries_where kept r.rrrs) (unit : ℕ) (keeps : (n : ℕ) (e : RrrRecord) → nat_eq e.unit unit ≡ true → kept n e ≡ true) where
  entries_left : map.entries new.rrrs ≡ filter (λ e. kept e.0 e.1) (map.entries r.rrrs)
  entries_left = ap map.entries left ∙ entries-entries_where nat_cmp_total nat_cmp-IsAntisymmetric kept r.rrrs

  pub shares_left : (type : RightType) → type_shares new unit type ≡ type_shares r unit type
  shares_left type =
      ap (filter_map (λ e. share_in_unit unit type e.1)) entries_left
      ∙ filter_map-kept (λ e. share_in_unit unit type e.1) (λ e. kept e.0 e.1) (map.entries r.rrrs) (elsewhere (map.entries r.rrrs))
    where
      no_share : (n : ℕ) (e : RrrRecord) → kept n e ≡ false → share_in_unit unit type e ≡ None
      no_share n e lost = elim (nat_eq e.unit unit) as (λ b. nat_eq e.unit unit ≡ b → cond b (share_of type e.class) None ≡ None) [
        | true ↦ λ here. absurd (false≢true (sym lost ∙ keeps n e here))
        | false ↦ λ other. refl
      ] refl

      elsewhere : (es : List (ℕ × RrrRecord)) → AllByRecursion (λ e. kept e.0 e.1 ≡ false → share_in_unit unit type e.1 ≡ None) es
      elsewhere [] = tt
      elsewhere (e ∷ es) = (λ lost. no_share e.0 e.1 lost, elsewhere es)

  pub whole_left : has_whole_shares new unit ≡ has_whole_shares r unit
  whole_left =
      ap (λ shares. are_whole_or_none shares && are_whole_or_none (type_shares new unit Lease) && are_whole_or_none (type_shares new unit Usufruct)) (shares_left Ownership)
      ∙ ap (λ shares. are_whole_or_none (type_shares r unit Ownership) && are_whole_or_none shares && are_whole_or_none (type_shares new unit Usufruct)) (shares_left Lease)
      ∙ ap (λ shares. are_whole_or_none (type_shares r unit Ownership) && are_whole_or_none (type_shares r unit Lease) && are_whole_or_none shares) (shares_left Usufruct)

  pub owner_left : has_owner new unit ≡ has_owner r unit
  owner_left =
      ap (list_any (λ e. is_right_in unit Ownership e.1)) entries_left
      ∙ list_any-filter (λ e. is_right_in unit Ownership e.1) (λ e. kept e.0 e.1) (map.entries r.rrrs) (all_kept (map.entries r.rrrs))
    where
      all_kept : (es : List (ℕ × RrrRecord)) → AllByRecursion (λ e. is_right_in unit Ownership e.1 ≡ true → kept e.0 e.1 ≡ true) es
      all_kept [] = tt
      all_kept (e ∷ es) = (λ owns. keeps e.0 e.1 (and_parts (nat_eq e.1.unit unit) (is_right_of Ownership e.1.class) owns).0, all_kept es)

  pub count_left : rrr_count new unit ≡ rrr_count r unit
  count_left =
      ap (λ es. length (filter (λ e. nat_eq e.1.unit unit) es)) entries_left
      ∙ ap length (filter_within (λ e. nat_eq e.1.unit unit) (λ e. kept e.0 e.1) (λ e here. keeps e.0 e.1 here) (map.entries r.rrrs))
