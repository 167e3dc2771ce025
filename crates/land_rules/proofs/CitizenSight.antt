-- The units that a citizen sees follow from the holdings of its circle, and the parties of entries from its
-- names.
use Rattle.std.proofs.Common.{◌≡◌, ℕ, Bool, true, false, ◌||◌, ◌&&◌, not, cond, refl, ap, ◌∙◌}
use Rattle.std.specs.Prelude.{nat_eq}
use Rattle.std.proofs.lemmas.Bool.{false≢true, and_parts}
use Rattle.land_core.proofs.Booleans.{and_turned}
use Rattle.land_core.specs.Register.{stands}
use Rattle.land_core.specs.declared.caller.Caller.{Caller}
use Rattle.land_core.specs.declared.kind.Kind.TheVariants as kind
use Rattle.land_core.specs.declared.register.Register.{Register}
use Rattle.land_core.specs.declared.role.Role.{Role}
use Rattle.land_core.specs.declared.role.Role.TheVariants.{Bank, CertifiedSurveyor, Citizen, Conveyancer, Notary, StateAdministrator}
use Rattle.land_rules.proofs.CircleLaws.{passes_both}
use Rattle.land_rules.proofs.InCircles.{names_in_parts}
use Rattle.land_rules.proofs.SomeOf.{any_says}
use Rattle.land_rules.specs.Circles.{circle_of, is_group_of, is_held_by, is_in_circle, is_name_of}
use Rattle.land_rules.specs.Holdings.{is_name_of_caller, sees_parties_of_entries}
use Rattle.land_rules.specs.Laws.{citizen}
use Rattle.land_rules.specs.Relations.{is_holder}
use Rattle.land_rules.specs.Rules.{is_allowed, is_party_in_sight, sees}
use Rattle.land_rules.specs.declared.verdict.Verdict.TheVariants.{Allowed, Denied}

and_implied : (a b : Bool) → (a ≡ true → b ≡ true) → (a && b) ≡ a
and_implied true b h = h refl
and_implied false b h = refl

-- a unit with a holder exists
held_stands : (at : Register) (party unit : ℕ) → is_held_by at (circle_of at party) unit ≡ true → stands at kind.Unit unit ≡ true
held_stands at party unit = any_says (λ p. is_holder at p unit) (λ p h. (and_parts _ _ h).0) (circle_of at party)

unit_of_citizen : (at : Register) (party n : ℕ) → sees at (citizen party) kind.Unit n ≡ is_held_by at (circle_of at party) n
unit_of_citizen at party n =
    passes_both (is_held_by at (circle_of at party) n) (stands at kind.Unit n) 11 ∙ and_implied (is_held_by at (circle_of at party) n) (stands at kind.Unit n) (held_stands at party n)

party_of_citizen : (at : Register) (party n : ℕ) → sees at (citizen party) kind.Party n ≡ (stands at kind.Party n && (is_name_of at (circle_of at party) n || is_party_in_sight at (citizen party) n))
party_of_citizen at party n =
    passes_both (is_in_circle at party n || is_group_of at (circle_of at party) n || is_party_in_sight at (citizen party) n) (stands at kind.Party n) 13
    ∙ ap (λ b. (b || is_party_in_sight at (citizen party) n) && stands at kind.Party n) (names_in_parts at (circle_of at party) n)
    ∙ and_turned (is_name_of at (circle_of at party) n || is_party_in_sight at (citizen party) n) (stands at kind.Party n)

module _ (at : Register) (caller : Caller) (role : caller.role ≡ Citizen) where
  abbrev with_role : Role → Caller
  with_role role = record { party = caller.party; role = role }

  pub sees_held : (n : ℕ) → sees at caller kind.Unit n ≡ is_held_by at (circle_of at caller.party) n
  sees_held n = ap (λ r. sees at (with_role r) kind.Unit n) role ∙ unit_of_citizen at caller.party n

-- ---- in the roles that see the parties of entries

of_others : (itself met there : Bool) (k : ℕ) → is_allowed (cond (not (itself || met)) (Denied k) (cond (not there) (Denied 27) Allowed)) ≡ (there && (itself || met))
of_others itself met there k = passes_both (itself || met) there k ∙ and_turned (itself || met) there

by_role : (at : Register) (party : ℕ) (role : Role) → let caller : Caller = record { party = party; role = role } in sees_parties_of_entries caller ≡ true → (n : ℕ)
    → sees at caller kind.Party n ≡ (stands at kind.Party n && (is_name_of_caller role at party n || is_party_in_sight at caller n))
by_role at party Citizen h n = party_of_citizen at party n
by_role at party Conveyancer h n = let caller : Caller = record { party = party; role = Conveyancer } in
    of_others (nat_eq n party) (is_party_in_sight at caller n) (stands at kind.Party n) 21
by_role at party Notary h n = absurd (false≢true h)
by_role at party Bank h n = let caller : Caller = record { party = party; role = Bank } in
    of_others (nat_eq n party) (is_party_in_sight at caller n) (stands at kind.Party n) 17
by_role at party CertifiedSurveyor h n = absurd (false≢true h)
by_role at party StateAdministrator h n = absurd (false≢true h)

pub sees_named : (at : Register) (caller : Caller) → sees_parties_of_entries caller ≡ true → (n : ℕ)
    → sees at caller kind.Party n ≡ (stands at kind.Party n && (is_name_of_caller caller.role at caller.party n || is_party_in_sight at caller n))
sees_named at caller h n = by_role at caller.party caller.role h n
