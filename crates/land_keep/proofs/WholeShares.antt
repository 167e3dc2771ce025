-- At each moment of a sound timeline all checked shares are whole.
use Rattle.std.proofs.Common.{◌≡◌, true, false, ◌&&◌, not, cond, Option, Some, None, [], ◌∷◌, sym, ap, ◌∙◌}
use Rattle.std.specs.Prelude.{ℤ, int_le, fold, unwrap_or, if◌then◌else◌}
use Rattle.std.specs.List.{AllByRecursion}
use Rattle.std.specs.Option.{option_map}
use Rattle.std.specs.Cmp.{nat_cmp_total}
use Rattle.std.specs.FinMap.{get-empty, nat_cmp-IsAntisymmetric}
use Rattle.std.specs.Ordering.{nat_cmp}
use Rattle.std.proofs.lemmas.Bool.{not-false}
use Rattle.land_core.proofs.Reflection.{none_at}
use Rattle.land_core.specs.Members.{are_group_shares}
use Rattle.land_core.specs.Register.{is_single, empty_register, shares_of}
use Rattle.land_core.specs.Soundness.{IsSound}
use Rattle.land_core.specs.Units.{has_whole_shares}
use Rattle.land_core.specs.declared.register.Register.{Register}
use Rattle.land_core.specs.declared.soundness.Unsound.TheVariants.{Group, Shares}
use Rattle.land_keep.proofs.Timelines.{written_sound}
use Rattle.land_keep.specs.Laws.{ChangesKeepSharesWhole, HasWholeShares, SharesAreWhole}
use Rattle.land_keep.specs.Machine.{written_timeline}
use Rattle.land_keep.specs.Timeline.{Timeline}
use Rattle.land_keep.specs.declared.timeline.Version.{Version}

-- a sound register has whole shares, and so has the empty one
sound_whole : (r : Register) → IsSound r → HasWholeShares r
sound_whole r sound = record {
  units = λ n u is checked. not-false (has_whole_shares r n)
      (sym (ap (λ b. b && not (has_whole_shares r n)) checked) ∙ none_at nat_cmp_total nat_cmp-IsAntisymmetric (λ n u. u.checked && not (has_whole_shares r n)) r.units n u (sound Shares) is);
  groups = λ n p is group. not-false (are_group_shares (shares_of r n))
      (sym (ap (λ b. not b && not (are_group_shares (shares_of r n))) group)
      ∙ none_at nat_cmp_total nat_cmp-IsAntisymmetric (λ n p. not (is_single p.kind) && not (are_group_shares (shares_of r n))) r.parties n p (sound Group) is);
}

nothing_whole : HasWholeShares empty_register
nothing_whole = record {
  units = λ n u is checked. absurd (none_is_some (sym (get-empty nat_cmp n) ∙ is));
  groups = λ n p is group. absurd (none_is_some (sym (get-empty nat_cmp n) ∙ is));
}
  where
    none_is_some : {A : Type 0} {x : A} → None ≡ Some x → ⊥
    none_is_some e = cc

-- the register of a version that was found, or that of none
abbrev registered : Option Version → Register
registered found = unwrap_or (option_map (λ (v : Version). v.register) found) empty_register

found_whole : (t : ℤ) (vs : Timeline) (found : Option Version) → HasWholeShares (registered found) → AllByRecursion (λ v. IsSound v.register) vs
    → HasWholeShares (registered (fold (λ found v. if int_le v.stamp t then Some v else found) found vs))
found_whole t [] found whole sound = whole
found_whole t (v ∷ vs) found whole sound = found_whole t vs (cond (int_le v.stamp t) (Some v) found) here sound.1
  where
    here : HasWholeShares (registered (cond (int_le v.stamp t) (Some v) found))
    here = elim (int_le v.stamp t) as (λ b. HasWholeShares (registered (cond b (Some v) found))) [ true ↦ sound_whole v.register sound.0 | false ↦ whole ]

pub shares_are_whole : SharesAreWhole
shares_are_whole tl t sound = found_whole t tl None nothing_whole sound.sound

pub changes_keep_shares_whole : ChangesKeepSharesWhole
changes_keep_shares_whole tl change stamp t sound can = shares_are_whole (written_timeline tl change stamp) t (written_sound tl change stamp sound can)
