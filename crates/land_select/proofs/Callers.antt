-- A party that holds the role of its request exists.
use Rattle.std.proofs.Common.{◌≡◌, ◌∙◌, inl, inr, ℕ, Bool, true, false, nat_eq, cond, None, Some, Option, is_some, refl, sym, ap, subst}
use Rattle.std.proofs.lemmas.Bool.{false≢true}
use Rattle.std.proofs.lemmas.Bool.Decides.{Decides-eqb}
use Rattle.std.specs.Cmp.{nat_cmp_total, tied_itself}
use Rattle.std.specs.FinMap as map
use Rattle.std.specs.Option.{option_map_or}
use Rattle.std.specs.Ordering.{is_eq, nat_cmp}
use Rattle.land_core.proofs.FiniteSets.{exact_grants, grants_total}
use Rattle.land_core.proofs.Reflection.{get-entries_where}
use Rattle.land_core.specs.Grants.{Grants, grant_cmp, grant_to, has_grant}
use Rattle.land_core.specs.Laws.{SoundnessByNumber}
use Rattle.land_core.specs.Register.{holds, stands}
use Rattle.land_core.specs.declared.caller.Caller.{Caller}
use Rattle.land_core.specs.declared.kind.Kind.TheVariants as kind
use Rattle.land_core.specs.declared.party.PartyRecord.{PartyRecord}
use Rattle.land_core.specs.declared.register.Register.{Register}
use Rattle.land_rules.specs.Denials.Standing.{at_most_one}
use Rattle.land_rules.specs.Laws.{IsSoundOrNothing}
use Rattle.land_select.specs.Verdicts.{roles_in, placeholder_party}

-- ---- a placeholder exists

there : {V : Type 0} (n : ℕ) (found : Option V) → map.get (at_most_one (Some n) found) n ≡ found
there n None = map.get-empty nat_cmp n
there n (Some value) = map.get-insert nat_cmp_total map.empty n value n ∙ ap (λ b. cond b (Some value) (map.get (map.empty {R = nat_cmp}) n)) (ap is_eq (tied_itself nat_cmp_total n))

is_there : (b : Bool) → is_some (placeholder_party b) ≡ b
is_there true = refl
is_there false = refl

pub put_there : (n : ℕ) (b : Bool) → is_some (map.get (at_most_one (Some n) (placeholder_party b)) n) ≡ b
put_there n b = ap is_some (there n (placeholder_party b)) ∙ is_there b

-- ---- a holder of a role exists

-- a party with a kind exists
party_there : (o : Option PartyRecord) (test : PartyRecord → Bool) → option_map_or test o false ≡ true → is_some o ≡ true
party_there None test it = it
party_there (Some p) test it = refl

-- in a register that is sound or empty
pub holder_stands : SoundnessByNumber → (r : Register) (caller : Caller) → IsSoundOrNothing r → holds r caller.party caller.role ≡ true → stands r kind.Party caller.party ≡ true
holder_stands look_ups r caller (inl sound) held = party_there (map.get r.parties caller.party) _ (((look_ups r).0 sound).roles caller.party caller.role held)
holder_stands look_ups r caller (inr none) held =
    absurd (false≢true (sym (ap is_some (map.get-empty grant_cmp (grant_to caller.party caller.role))) ∙ subst (λ (k : Register). holds k caller.party caller.role ≡ true) none held))

pub who_asks_stands : SoundnessByNumber → (r : Register) → IsSoundOrNothing r → (caller : Caller) (roles : Grants) → roles ≡ roles_in r caller.party
    → has_grant roles (grant_to caller.party caller.role) ≡ true → true ≡ stands r kind.Party caller.party
who_asks_stands look_ups r premise caller roles are held =
    let grant = grant_to caller.party caller.role in
    let kept = ap is_some (get-entries_where grants_total exact_grants (λ given u. nat_eq given.party caller.party) r.roles grant (λ u. (Decides-eqb caller.party caller.party).1 refl)) in
    sym (holder_stands look_ups r caller premise (sym kept ∙ ap (λ m. has_grant m grant) (sym are) ∙ held))
