-- Proof that a new register is sound.
use Rattle.std.proofs.Common.{◌≡◌, ℕ, true, false, cond, not, ◌&&◌, ◌||◌, nat_lt, Option, Some, refl, sym, ap, ◌∙◌, subst}
use Rattle.std.proofs.lemmas.Bool.{false≢true}
use Rattle.std.specs.Option.{option_map_or}
use Rattle.std.specs.Prelude.{codes}
use Rattle.std.specs.Ordering.{nat_cmp, eq_by_cmp, is_eq}
use Rattle.std.specs.Cmp.{nat_cmp_total, tied_itself}
use Rattle.std.specs.FinMap as map
use Rattle.std.specs.FinMap.{nat_cmp-IsAntisymmetric}
use Rattle.land_core.proofs.FiniteMaps.{is_equal, none_is_not_some}
use Rattle.land_core.proofs.FiniteSets.{grants_total, exact_grants}
use Rattle.land_core.proofs.LooseMandates.{no_mandates_are_tight}
use Rattle.land_core.proofs.SoundRegisters.{are_used_back, none_in_empty, refers_back, loose_from, unused_from, loose_members_from, unbroken_from, single_put, apart_itself, administrator_at}
use Rattle.land_core.specs.Entries.{has}
use Rattle.land_core.specs.Grants.{grant_cmp, grant_to}
use Rattle.land_core.specs.Register.{empty_register, new_register, has_single_party, is_single}
use Rattle.land_core.specs.Soundness.{IsSound, is_used, is_rank_out_of_range, is_dangling_mutation, shares_reference_with_later, clashes_with_later}
use Rattle.land_core.specs.Units.{has_whole_shares, has_parcel, has_owner, parcel_count, rrr_count, rank_of}
use Rattle.land_core.specs.declared.kind.PartyKind.TheVariants.{NonNaturalPerson}
use Rattle.land_core.specs.declared.party.PartyRecord.{PartyRecord}
use Rattle.land_core.specs.declared.role.Role.TheVariants.{StateAdministrator}
use Rattle.land_core.specs.declared.roles.Grant.{Grant}
use Rattle.land_core.specs.declared.soundness.Unsound.TheVariants.{Reference, Shares, Group, Bare, Crowded, Twice, Rank, Administrator, Reused, Memory}

office : PartyRecord
office = record { kind = NonNaturalPerson; name = codes "Land Office" }

pub new_is_sound : IsSound new_register
unfolding office
new_is_sound Memory = refl
new_is_sound Reference =
    let parties = unused_from new_register new_register.parties (λ n p is.
    elim (eq_by_cmp nat_cmp n 1) as (λ b. eq_by_cmp nat_cmp n 1 ≡ b → cond b (Some office) (map.get empty_register.parties n) ≡ Some p → is_used new_register n ≡ true) [
      | true ↦ λ at e. subst (λ (k : ℕ). is_used new_register k ≡ true) (sym (nat_cmp-IsAntisymmetric n 1 (is_equal _ at))) refl
      | false ↦ λ apart e. absurd (none_is_not_some (sym (map.get-empty nat_cmp n) ∙ e))
    ] refl (sym (map.get-insert nat_cmp_total empty_register.parties 1 office n) ∙ is)) in
    let loose = loose_from new_register (λ g is.
    elim (eq_by_cmp grant_cmp g (grant_to 1 StateAdministrator)) as (λ b. eq_by_cmp grant_cmp g (grant_to 1 StateAdministrator) ≡ b → cond b (Some tt) (map.get empty_register.roles g) ≡ Some tt → has_single_party new_register g.party ≡ true) [
      | true ↦ λ at e. subst (λ (n : ℕ). has_single_party new_register n ≡ true) (sym (ap (λ (x : Grant). x.party) (exact_grants g (grant_to 1 StateAdministrator) (is_equal _ at)))) (single_put empty_register new_register 1 office refl refl 1 (λ apart. absurd (apart_itself 1 apart)))
      | false ↦ λ apart e. absurd (none_is_not_some (sym (map.get-empty grant_cmp g) ∙ e))
    ] refl (sym (map.get-insert grants_total empty_register.roles (grant_to 1 StateAdministrator) tt g) ∙ is)) in
    let members = loose_members_from new_register (λ group members is. absurd (none_is_not_some (sym (map.get-empty nat_cmp group) ∙ is))) in
    let unused = are_used_back new_register (record {
      parties = parties;
      units = none_in_empty (λ n u. not (is_used new_register n));
      parcels = none_in_empty (λ n p. not (is_used new_register n));
      rrrs = none_in_empty (λ n e. not (is_used new_register n));
      sources = none_in_empty (λ n s. not (is_used new_register n));
      mutations = none_in_empty (λ n m. not (is_used new_register n));
    }) in
    refers_back new_register (record {
      room = refl;
      numbers = unused;
      grants = loose;
      members = members;
      parcels = none_in_empty (λ n p. not (has new_register.units p.unit && has new_register.sources p.source));
      rrrs = none_in_empty (λ n e. not (has new_register.units e.unit && has new_register.parties e.party && has new_register.sources e.source));
      mutations = none_in_empty (λ n m. is_dangling_mutation new_register m);
      mandates = no_mandates_are_tight new_register refl;
    })
new_is_sound Shares = none_in_empty (λ n u. u.checked && not (has_whole_shares new_register n))
new_is_sound Bare = none_in_empty (λ n u. not (has_parcel new_register n && has_owner new_register n))
new_is_sound Crowded = none_in_empty (λ n u. nat_lt 256 (parcel_count new_register n) || nat_lt 256 (rrr_count new_register n))
new_is_sound Twice = none_in_empty (clashes_with_later new_register)
new_is_sound Reused = none_in_empty (shares_reference_with_later new_register)
new_is_sound Rank = none_in_empty (λ n e. is_rank_out_of_range new_register (rank_of e.class))
new_is_sound Group =
    unbroken_from new_register (λ n p is group. absurd (
    elim (eq_by_cmp nat_cmp n 1) as (λ b. cond b (Some office) (map.get empty_register.parties n) ≡ Some p → ⊥) [
      | true ↦ λ e. false≢true (sym group ∙ ap (λ (o : Option PartyRecord). option_map_or (λ (q : PartyRecord). is_single q.kind) o true) (sym e))
      | false ↦ λ e. none_is_not_some (sym (map.get-empty nat_cmp n) ∙ e)
    ] (sym (map.get-insert nat_cmp_total empty_register.parties 1 office n) ∙ is)))
new_is_sound Administrator =
    ap not (administrator_at new_register (grant_to 1 StateAdministrator)
    (map.get-insert grants_total empty_register.roles (grant_to 1 StateAdministrator) tt (grant_to 1 StateAdministrator) ∙ ap (λ b. cond b (Some tt) (map.get empty_register.roles (grant_to 1 StateAdministrator))) (ap is_eq (tied_itself grants_total (grant_to 1 StateAdministrator))))
    refl)
