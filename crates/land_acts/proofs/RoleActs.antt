-- The acts `grant` and `revoke` keep a register sound.
use Rattle.std.proofs.Common.{◌≡◌, ℕ, true, false, cond, ◌&&◌, not, Some, None, refl, sym, ap, ◌∙◌, subst}
use Rattle.std.specs.Prelude.{nat_eq}
use Rattle.std.specs.Ordering.{eq_by_cmp}
use Rattle.std.specs.FinMap as map
use Rattle.std.proofs.lemmas.Bool.{false≢true, and_parts, not-false}
use Rattle.std.proofs.lemmas.Cmp.{nat_eq_equiv}
use Rattle.land_acts.specs.Granting.{grant_change}
use Rattle.land_acts.specs.Revoking.{has_other_administrator, revoke_change}
use Rattle.land_core.proofs.FiniteMaps.{is_equal, none_is_not_some}
use Rattle.land_core.proofs.FiniteSets.{grants_total, exact_grants}
use Rattle.land_core.proofs.Reflection.{Passes, some_passes, list_any-map}
use Rattle.land_core.proofs.SoundRegisters.{refers, refers_back, loose_from, single_from, administrator_from, administrator_at}
use Rattle.land_core.specs.Changes.{after}
use Rattle.land_core.specs.Grants.{grants_in, grant_cmp}
use Rattle.land_core.specs.Register.{has_single_party}
use Rattle.land_core.specs.Role.{is_role}
use Rattle.land_core.specs.Soundness.{IsSound}
use Rattle.land_core.specs.declared.register.Register.{Register}
use Rattle.land_core.specs.declared.role.Role.TheVariants.{StateAdministrator}
use Rattle.land_core.specs.declared.roles.Grant.{Grant}
use Rattle.land_core.specs.declared.soundness.Unsound.TheVariants.{Reference, Shares, Group, Bare, Crowded, Twice, Rank, Administrator, Reused, Memory}

unit_is : (u : Unit {0}) → u ≡ tt
unit_is u = refl

one_grant : (g it : Grant) → eq_by_cmp grant_cmp g it ≡ true → g ≡ it
one_grant g it at = exact_grants g it (is_equal _ at)

-- ---- granting

pub granted_is_sound : (r : Register) (it : Grant) → IsSound r → has_single_party r it.party ≡ true → IsSound (after (grant_change r it) r)
granted_is_sound r it sound single Memory = refl
granted_is_sound r it sound single Reused = sound Reused
granted_is_sound r it sound single Shares = sound Shares
granted_is_sound r it sound single Group = sound Group
granted_is_sound r it sound single Bare = sound Bare
granted_is_sound r it sound single Crowded = sound Crowded
granted_is_sound r it sound single Twice = sound Twice
granted_is_sound r it sound single Rank = sound Rank
granted_is_sound r it sound single Reference =
    let before = refers r (sound Reference) in
    let new = after (grant_change r it) r in
    refers_back new (record {
      room = before.room;
      numbers = before.numbers;
      grants = loose_from new (λ g is.
          elim (eq_by_cmp grant_cmp g it) as (λ b. eq_by_cmp grant_cmp g it ≡ b → cond b (Some tt) (map.get r.roles g) ≡ Some tt → has_single_party new g.party ≡ true) [
            | true ↦ λ at e. subst (λ (x : Grant). has_single_party r x.party ≡ true) (sym (one_grant g it at)) single
            | false ↦ λ apart e. single_from r before.grants g e
          ] refl (sym (map.get-insert grants_total r.roles it tt g) ∙ is));
      members = before.members;
      parcels = before.parcels;
      rrrs = before.rrrs;
      mutations = before.mutations;
      mandates = before.mandates;
    })
granted_is_sound r it sound single Administrator =
    let new = after (grant_change r it) r in
    let one = administrator_from r (not-false _ (sound Administrator)) in
    ap not (administrator_at new one.key
    (map.get-insert grants_total r.roles it tt one.key
    ∙ elim (eq_by_cmp grant_cmp one.key it) as (λ b. cond b (Some tt) (map.get r.roles one.key) ≡ Some tt) [ true ↦ refl | false ↦ one.there ])
    one.passes)

-- ---- revoking

beside_from : (r : Register) (n : ℕ) → has_other_administrator r n ≡ true → Passes (λ (g : Grant) (u : Unit {0}). is_role g.role StateAdministrator && not (nat_eq g.party n)) r.roles
unfolding grants_in
beside_from r n h =
    some_passes grants_total exact_grants (λ g u. is_role g.role StateAdministrator && not (nat_eq g.party n)) r.roles
    (sym (list_any-map (λ (g : Grant). is_role g.role StateAdministrator && not (nat_eq g.party n)) (λ e. e.0) (map.entries r.roles)) ∙ h)

-- every other grant stays
stays_beside : (r : Register) (it g : Grant) → map.get r.roles g ≡ Some tt → (g ≡ it → ⊥) → map.get (map.remove r.roles it) g ≡ Some tt
stays_beside r it g is other =
    map.get-remove grants_total r.roles it g
    ∙ elim (eq_by_cmp grant_cmp g it) as (λ b. eq_by_cmp grant_cmp g it ≡ b → cond b None (map.get r.roles g) ≡ Some tt) [
      | true ↦ λ at. absurd (other (one_grant g it at))
      | false ↦ λ apart. is
    ] refl

-- the register still has a state administrator
pub record IsBeside (r : Register) (it : Grant) : Type 0 where
  pub key : Grant
  pub there : map.get r.roles key ≡ Some tt
  pub passes : is_role key.role StateAdministrator ≡ true
  pub other : key ≡ it → ⊥

one_beside : (r : Register) (it : Grant) → IsSound r → (is_role it.role StateAdministrator && not (has_other_administrator r it.party)) ≡ false → IsBeside r it
one_beside r it sound last =
    elim (is_role it.role StateAdministrator) as (λ b. is_role it.role StateAdministrator ≡ b → (b && not (has_other_administrator r it.party)) ≡ false → IsBeside r it) [
      | true ↦ λ role last.
          let one = beside_from r it.party (not-false _ last) in
          let parts = and_parts _ _ one.passes in
          record {
            key = one.key;
            there = one.there ∙ ap Some (unit_is one.value);
            passes = parts.0;
            other = λ same. false≢true (ap not (sym (subst (λ (x : Grant). nat_eq one.key.party x.party ≡ true) same (nat_eq_equiv.refl one.key.party))) ∙ parts.1);
          }
      | false ↦ λ role last.
          let one = administrator_from r (not-false _ (sound Administrator)) in
          record {
            key = one.key;
            there = one.there ∙ ap Some (unit_is one.value);
            passes = one.passes;
            other = λ same. false≢true (sym role ∙ subst (λ (x : Grant). is_role x.role StateAdministrator ≡ true) same one.passes);
          }
    ] refl last

pub revoked_is_sound : (r : Register) (it : Grant) → IsSound r → (is_role it.role StateAdministrator && not (has_other_administrator r it.party)) ≡ false
    → IsSound (after (revoke_change r it) r)
revoked_is_sound r it sound last Memory = refl
revoked_is_sound r it sound last Reused = sound Reused
revoked_is_sound r it sound last Shares = sound Shares
revoked_is_sound r it sound last Group = sound Group
revoked_is_sound r it sound last Bare = sound Bare
revoked_is_sound r it sound last Crowded = sound Crowded
revoked_is_sound r it sound last Twice = sound Twice
revoked_is_sound r it sound last Rank = sound Rank
revoked_is_sound r it sound last Reference =
    let before = refers r (sound Reference) in
    let new = after (revoke_change r it) r in
    refers_back new (record {
      room = before.room;
      numbers = before.numbers;
      grants = loose_from new (λ g is.
          elim (eq_by_cmp grant_cmp g it) as (λ b. cond b None (map.get r.roles g) ≡ Some tt → has_single_party new g.party ≡ true) [
            | true ↦ λ e. absurd (none_is_not_some e)
            | false ↦ λ e. single_from r before.grants g e
          ] (sym (map.get-remove grants_total r.roles it g) ∙ is));
      members = before.members;
      parcels = before.parcels;
      rrrs = before.rrrs;
      mutations = before.mutations;
      mandates = before.mandates;
    })
revoked_is_sound r it sound last Administrator =
    let new = after (revoke_change r it) r in
    let one = one_beside r it sound last in
    ap not (administrator_at new one.key (stays_beside r it one.key one.there one.other) one.passes)
