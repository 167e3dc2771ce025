-- The acts `mandate` and `withdraw` keep a register sound.
use Rattle.std.proofs.Common.{◌≡◌, Bool, true, false, cond, ◌&&◌, not, Some, None, refl, sym, ap, ◌∙◌, subst}
use Rattle.std.specs.Prelude.{nat_eq}
use Rattle.std.specs.Ordering.{eq_by_cmp}
use Rattle.std.specs.FinMap as map
use Rattle.land_acts.proofs.Numbers.{turned_number}
use Rattle.land_acts.specs.Mandating.{mandate_of_caller, mandate_change}
use Rattle.land_acts.specs.Withdrawing.{withdraw_change}
use Rattle.land_core.proofs.FiniteMaps.{is_equal, none_is_not_some}
use Rattle.land_core.proofs.FiniteSets.{exact_mandates, mandates_total}
use Rattle.land_core.proofs.LooseMandates.{loose_mandates_from, mandates_from}
use Rattle.land_core.proofs.SoundRegisters.{refers, refers_back}
use Rattle.land_core.specs.Changes.{after}
use Rattle.land_core.specs.Mandates.{mandate_cmp}
use Rattle.land_core.specs.Register.{has_single_party}
use Rattle.land_core.specs.Soundness.{IsSound, is_dangling_mandate}
use Rattle.land_core.specs.declared.act.NewMandate.{NewMandate}
use Rattle.land_core.specs.declared.caller.Caller.{Caller}
use Rattle.land_core.specs.declared.mandates.Mandate.{Mandate}
use Rattle.land_core.specs.declared.register.Register.{Register}
use Rattle.land_core.specs.declared.soundness.Unsound.TheVariants.{Reference, Shares, Group, Bare, Crowded, Twice, Rank, Administrator, Reused, Memory}

one_mandate : (m it : Mandate) → eq_by_cmp mandate_cmp m it ≡ true → m ≡ it
one_mandate m it at = exact_mandates m it (is_equal _ at)

tight : (a b c : Bool) → a ≡ true → b ≡ true → c ≡ false → not (a && b && not c) ≡ false
tight a b c principal agent apart = ap (λ x. not (x && b && not c)) principal ∙ ap (λ x. not (x && not c)) agent ∙ ap (λ x. not (not x)) apart

-- ---- giving

pub mandated_is_sound : (r : Register) (caller : Caller) (it : NewMandate) → IsSound r → has_single_party r caller.party ≡ true → has_single_party r it.agent ≡ true
    → nat_eq it.agent caller.party ≡ false → IsSound (after (mandate_change r caller it) r)
mandated_is_sound r caller it sound principal agent apart Memory = refl
mandated_is_sound r caller it sound principal agent apart Reused = sound Reused
mandated_is_sound r caller it sound principal agent apart Shares = sound Shares
mandated_is_sound r caller it sound principal agent apart Group = sound Group
mandated_is_sound r caller it sound principal agent apart Bare = sound Bare
mandated_is_sound r caller it sound principal agent apart Crowded = sound Crowded
mandated_is_sound r caller it sound principal agent apart Twice = sound Twice
mandated_is_sound r caller it sound principal agent apart Rank = sound Rank
mandated_is_sound r caller it sound principal agent apart Administrator = sound Administrator
mandated_is_sound r caller it sound principal agent apart Reference =
    let before = refers r (sound Reference) in
    let new = after (mandate_change r caller it) r in
    refers_back new (record {
      room = before.room;
      numbers = before.numbers;
      grants = before.grants;
      members = before.members;
      parcels = before.parcels;
      rrrs = before.rrrs;
      mutations = before.mutations;
      mandates = loose_mandates_from new (λ m is.
          elim (eq_by_cmp mandate_cmp m (mandate_of_caller caller it))
          as (λ b. eq_by_cmp mandate_cmp m (mandate_of_caller caller it) ≡ b → cond b (Some tt) (map.get r.mandates m) ≡ Some tt → is_dangling_mandate new m ≡ false) [
            | true ↦ λ at e. subst (λ (x : Mandate). is_dangling_mandate r x ≡ false) (sym (one_mandate m (mandate_of_caller caller it) at))
                (tight (has_single_party r caller.party) (has_single_party r it.agent) (nat_eq caller.party it.agent) principal agent (turned_number it.agent caller.party apart))
            | false ↦ λ other e. mandates_from r before.mandates m e
          ] refl (sym (map.get-insert mandates_total r.mandates (mandate_of_caller caller it) tt m) ∙ is));
    })

-- ---- withdrawing

pub withdrawn_is_sound : (r : Register) (it : Mandate) → IsSound r → IsSound (after (withdraw_change r it) r)
withdrawn_is_sound r it sound Memory = refl
withdrawn_is_sound r it sound Reused = sound Reused
withdrawn_is_sound r it sound Shares = sound Shares
withdrawn_is_sound r it sound Group = sound Group
withdrawn_is_sound r it sound Bare = sound Bare
withdrawn_is_sound r it sound Crowded = sound Crowded
withdrawn_is_sound r it sound Twice = sound Twice
withdrawn_is_sound r it sound Rank = sound Rank
withdrawn_is_sound r it sound Administrator = sound Administrator
withdrawn_is_sound r it sound Reference =
    let before = refers r (sound Reference) in
    let new = after (withdraw_change r it) r in
    refers_back new (record {
      room = before.room;
      numbers = before.numbers;
      grants = before.grants;
      members = before.members;
      parcels = before.parcels;
      rrrs = before.rrrs;
      mutations = before.mutations;
      mandates = loose_mandates_from new (λ m is.
          elim (eq_by_cmp mandate_cmp m it) as (λ b. cond b None (map.get r.mandates m) ≡ Some tt → is_dangling_mandate new m ≡ false) [
            | true ↦ λ e. absurd (none_is_not_some e)
            | false ↦ λ e. mandates_from r before.mandates m e
          ] (sym (map.get-remove mandates_total r.mandates it m) ∙ is));
    })
