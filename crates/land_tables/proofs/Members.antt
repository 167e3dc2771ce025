-- In a sound register every group has members.
use Rattle.std.proofs.Common.{◌≡◌, ◌≤◌, ℕ, true, false, not, [], length, map as map_list, Option, Some, None, refl, sym, ap, ◌∙◌, arith}
use Rattle.std.proofs.lemmas.Bool.{false≢true, not-true}
use Rattle.std.specs.FinMap as map
use Rattle.std.specs.FinMap.{get-empty}
use Rattle.std.specs.Option.{option_map_or}
use Rattle.std.specs.Ordering.{nat_cmp}
use Rattle.land_core.proofs.FiniteMaps.{none_is_not_some, nothing_from_length}
use Rattle.land_core.specs.Laws.{IsSoundByNumber, SoundnessByNumber}
use Rattle.land_core.specs.Members.{shares_in}
use Rattle.land_core.specs.Register.{is_single, empty_register, shares_of}
use Rattle.land_core.specs.Soundness.{IsSound}
use Rattle.land_core.specs.declared.party.PartyRecord.{PartyRecord}
use Rattle.land_core.specs.declared.register.Register.{Register}
use Rattle.land_fraction.specs.Ratio.{Ratio}
use Rattle.land_tables_history.specs.Groups.{HaveMembers}

no_shares : shares_in map.empty ≡ []
no_shares = ap (λ es. map_list (λ (e : ℕ × Ratio). e.1) es) (nothing_from_length (map.entries (map.empty {X = Ratio} {R = nat_cmp})) (sym (map.len-entries (map.empty {X = Ratio} {R = nat_cmp})) ∙ map.len-empty nat_cmp Ratio))

few : (n : ℕ) → 2 ≤ n → n ≡ 0 → ⊥
few n least none = omega arith

pub sound_members : SoundnessByNumber → (r : Register) → IsSound r → HaveMembers r.members
sound_members look_ups r sound group is = go (map.get r.parties group) refl (told.members group map.empty is).grouped
  where
    told : IsSoundByNumber r
    told = (look_ups r).0 sound

    nobody : shares_of r group ≡ []
    nobody = ap (λ o. option_map_or shares_in o []) is ∙ no_shares

    go : (o : Option PartyRecord) → map.get r.parties group ≡ o → option_map_or (λ p. not (is_single p.kind)) o false ≡ true → ⊥
    go None at h = false≢true h
    go (Some p) at h = few (length (shares_of r group)) (told.groups group p at (not-true (is_single p.kind) h)).least (ap length nobody)

pub no_members : HaveMembers empty_register.members
no_members group is = none_is_not_some (sym (get-empty nat_cmp group) ∙ is)
