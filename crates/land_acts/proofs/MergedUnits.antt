-- A merger keeps a register sound: other units end with all their entries and parcels, and the unit keeps its
-- entries.
use Rattle.std.proofs.Common.{◌≡◌, ◌+◌, ◌≤◌, ℕ, Bool, true, false, ◌&&◌, ◌||◌, not, Some, refl, sym, ap, ◌∙◌, arith}
use Rattle.std.specs.Prelude.{nat_eq, nat_lt}
use Rattle.std.specs.Cmp.{nat_cmp_total}
use Rattle.std.specs.FinMap as map
use Rattle.std.specs.FinMap.{nat_cmp-IsAntisymmetric}
use Rattle.std.proofs.lemmas.Bool.Decides.{nat_tests}
use Rattle.std.proofs.lemmas.Bool.{and_parts, eqb-true, not-false, not-true, or_parts}
use Rattle.land_acts.proofs.EnteredEntries.{each_record}
use Rattle.land_acts.proofs.Growth.{anchored, anchored_back, mutations_stay, placed, placed_back, ranks_grow, unused_grows, used_grows}
use Rattle.land_acts.proofs.MergedEntries.{kept_from, without_where}
use Rattle.land_acts.proofs.MergedParcels.{Merges, parcel_stays, parcel_stood, parcels_fit, unit_itself, unit_stays, unit_stood, unused_left}
use Rattle.land_acts.proofs.MergedRights.{count_left, owner_left, whole_left}
use Rattle.land_acts.specs.Mutations.Merging.{has_unlike, lacks_parcel, lacks_unit, merger_change, would_have_more_parcels}
use Rattle.land_acts.specs.Mutations.Planning.{runs_out_of_numbers}
use Rattle.land_core.proofs.Reflection.{none_at, none_passes}
use Rattle.land_core.proofs.SoundRegisters.{are_used, are_used_back, next_above_zero, refers, refers_back, unused_from, used_from}
use Rattle.land_core.specs.Changes.{after}
use Rattle.land_core.specs.Contents.{is_well_formed_content}
use Rattle.land_core.specs.Entries.{has, entries_where, without}
use Rattle.land_core.specs.Mergers.{lists_number}
use Rattle.land_core.specs.Soundness.{IsSound, clashes_with_later, is_rank_out_of_range, is_used}
use Rattle.land_core.specs.Units.{do_clash, has_owner, has_parcel, has_whole_shares, parcel_count, rank_of, rrr_count}
use Rattle.land_core.specs.declared.content.Content.TheVariants as content
use Rattle.land_core.specs.declared.merger.Merger.{Merger}
use Rattle.land_core.specs.declared.parcel.ParcelRecord.{ParcelRecord}
use Rattle.land_core.specs.declared.register.Register.{Register}
use Rattle.land_core.specs.declared.rrr.RrrRecord.{RrrRecord}
use Rattle.land_core.specs.declared.soundness.Unsound.TheVariants.{Reference, Shares, Group, Bare, Crowded, Twice, Rank, Administrator, Reused, Memory}

module _ (r : Register) (sound : IsSound r) (source : ℕ) (it : Merger) (h : Merges r source it) where
  abbrev new : Register
  new = after (merger_change r source it) r

  grows : r.next ≤ r.next + 1
  grows = omega arith

  -- ---- entries

  -- the entries of the remaining units
  abbrev kept : ℕ → RrrRecord → Bool
  kept n e = not (lists_number it.others e.unit)

  entries_left : new.rrrs ≡ entries_where kept r.rrrs
  entries_left = without_where r.rrrs (λ e. lists_number it.others e.unit)

  keeps : (unit : ℕ) → lists_number it.others unit ≡ false → (n : ℕ) (e : RrrRecord) → nat_eq e.unit unit ≡ true → kept n e ≡ true
  keeps unit apart n e here = ap (λ u. not (lists_number it.others u)) (eqb-true e.unit unit here) ∙ ap not apart

  record Remains (n : ℕ) (e : RrrRecord) : Type 0 where
    before : map.get r.rrrs n ≡ Some e
    apart : lists_number it.others e.unit ≡ false

  entry_stood : (n : ℕ) (e : RrrRecord) → map.get new.rrrs n ≡ Some e → Remains n e
  entry_stood n e is =
      let it_was = kept_from kept r.rrrs n e (sym (ap (λ m. map.get m n) entries_left) ∙ is) in
      record { before = it_was.before; apart = not-true _ it_was.passes }

  -- ---- soundness

  sound_after : IsSound (after (merger_change r source it) r)
  sound_after Memory = refl
  sound_after Reused = sound Reused
  sound_after Group = sound Group
  sound_after Administrator = sound Administrator
  sound_after Reference =
      let before = refers r (sound Reference) in
      let used = are_used r before.numbers in
      let above = next_above_zero r sound in
      let is_in_use : is_used new r.next ≡ true = grind (arith, nat_tests) in
      refers_back new (record {
        room = h.room;
        numbers = are_used_back new (record {
          parties = unused_grows r new grows r.parties used.parties;
          units = unused_from new new.units (λ n u is. used_grows r new grows n (used_from r r.units used.units n u (unit_stood r sound source it h n u is).before));
          parcels = unused_from new new.parcels (each_record (without r.parcels it.parcels) r.next parcel (λ n p. is_used new n ≡ true) is_in_use
              (λ n p is. used_grows r new grows n (used_from r (without r.parcels it.parcels) (unused_left r sound source it h) n p is)));
          rrrs = unused_from new new.rrrs (λ n e is. used_grows r new grows n (used_from r r.rrrs used.rrrs n e (entry_stood n e is).before));
          sources = unused_grows r new grows r.sources used.sources;
          mutations = unused_grows r new grows r.mutations used.mutations;
        });
        grants = before.grants;
        members = before.members;
        parcels = placed_back new (each_record (without r.parcels it.parcels) r.next parcel (λ n p. (has new.units p.unit ≡ true) × (has new.sources p.source ≡ true))
            (unit_itself r sound source it h, h.comes_from)
            (λ n p is.
            let left = parcel_stood r sound source it h n p is in
            let one = placed r before.parcels n p left.before in
            (unit_stays r sound source it h p.unit left.apart one.0, one.1)));
        rrrs = anchored_back new (λ n e is.
            let left = entry_stood n e is in
            let one = anchored r before.rrrs n e left.before in
            record { unit = unit_stays r sound source it h e.unit left.apart one.unit; party = one.party; source = one.source });
        mutations = mutations_stay r new refl (λ n there. there) (λ n there. there) before.mutations;
        mandates = before.mandates;
      })
    where
      parcel : ParcelRecord
      parcel = record { unit = it.unit; label = it.label; outline = it.outline; source = source }
  sound_after Shares =
      none_passes nat_cmp_total nat_cmp-IsAntisymmetric (λ n u. u.checked && not (has_whole_shares new n)) new.units
      (λ n u is.
      let stood = unit_stood r sound source it h n u is in
      ap (λ b. u.checked && not b) (whole_left r new kept entries_left n (keeps n stood.apart))
      ∙ none_at nat_cmp_total nat_cmp-IsAntisymmetric (λ n u. u.checked && not (has_whole_shares r n)) r.units n u (sound Shares) stood.before)
  sound_after Bare =
      none_passes nat_cmp_total nat_cmp-IsAntisymmetric (λ n u. not (has_parcel new n && has_owner new n)) new.units
      (λ n u is.
      let stood = unit_stood r sound source it h n u is in
      let had = and_parts (has_parcel r n) (has_owner r n) (not-false _ (none_at nat_cmp_total nat_cmp-IsAntisymmetric (λ n u. not (has_parcel r n && has_owner r n)) r.units n u (sound Bare) stood.before)) in
      ap (λ b. not (b && has_owner new n)) (parcel_stays r sound source it h n stood.apart had.0)
      ∙ ap not (owner_left r new kept entries_left n (keeps n stood.apart) ∙ had.1))
  sound_after Crowded =
      none_passes nat_cmp_total nat_cmp-IsAntisymmetric (λ n u. nat_lt 256 (parcel_count new n) || nat_lt 256 (rrr_count new n)) new.units
      (λ n u is.
      let stood = unit_stood r sound source it h n u is in
      let had = or_parts (nat_lt 256 (parcel_count r n)) (nat_lt 256 (rrr_count r n))
      (none_at nat_cmp_total nat_cmp-IsAntisymmetric (λ n u. nat_lt 256 (parcel_count r n) || nat_lt 256 (rrr_count r n)) r.units n u (sound Crowded) stood.before) in
      ap (λ b. b || nat_lt 256 (rrr_count new n)) (parcels_fit r sound source it h n had.0)
      ∙ ap (nat_lt 256) (count_left r new kept entries_left n (keeps n stood.apart)) ∙ had.1)
  sound_after Twice =
      none_passes nat_cmp_total nat_cmp-IsAntisymmetric (clashes_with_later new) new.rrrs
      (λ n e is.
      let alone = none_at nat_cmp_total nat_cmp-IsAntisymmetric (clashes_with_later r) r.rrrs n e (sound Twice) (entry_stood n e is).before in
      none_passes nat_cmp_total nat_cmp-IsAntisymmetric (λ m f. nat_lt n m && do_clash e f) new.rrrs
      (λ m f at. none_at nat_cmp_total nat_cmp-IsAntisymmetric (λ m f. nat_lt n m && do_clash e f) r.rrrs m f alone (entry_stood m f at).before))
  sound_after Rank =
      none_passes nat_cmp_total nat_cmp-IsAntisymmetric (λ n e. is_rank_out_of_range new (rank_of e.class)) new.rrrs
      (λ n e is. none_at nat_cmp_total nat_cmp-IsAntisymmetric (λ n e. is_rank_out_of_range new (rank_of e.class)) r.rrrs n e (ranks_grow r new grows r.rrrs (sound Rank)) (entry_stood n e is).before)

pub merged_is_sound : (r : Register) (source : ℕ) (it : Merger) → IsSound r → has r.sources source ≡ true → is_well_formed_content (content.Merger it) ≡ true → lacks_unit r it ≡ false
    → lacks_parcel r it ≡ false → has_unlike r it ≡ false → runs_out_of_numbers r 1 ≡ false → would_have_more_parcels r it ≡ false → IsSound (after (merger_change r source it) r)
merged_is_sound r source it sound from formed units parcels alike room few =
    sound_after r sound source it (record { comes_from = from; formed = formed; units = units; parcels = parcels; alike = alike; room = room; few = few })
