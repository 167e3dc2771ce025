-- Proves the laws on mandates: a citizen sees what a member of its circle would see without mandates, and
-- mandates change nothing in other roles.
use Rattle.std.proofs.Common.{◌≡◌, ℕ, Bool, true, false, ◌||◌, ◌&&◌, not, cond, List, [], ◌∷◌, Option, Some, None, is_some, refl, sym, ap, ap₂, ◌∙◌}
use Rattle.std.specs.Prelude.{nat_eq}
use Rattle.std.specs.FinMap as map
use Rattle.std.specs.List.{list_any}
use Rattle.std.specs.Option.{option_map_or}
use Rattle.std.proofs.lemmas.Bool.{false≢true}
use Rattle.land_core.proofs.Booleans.{and_true, or_nothing}
use Rattle.land_core.specs.Entries.{some}
use Rattle.land_core.specs.Register.{is_mutation_where, stands}
use Rattle.land_core.specs.Role.{is_role}
use Rattle.land_core.specs.declared.kind.Kind.{Kind}
use Rattle.land_core.specs.declared.kind.Kind.TheVariants as kind
use Rattle.land_core.specs.declared.register.Register.{Register}
use Rattle.land_core.specs.declared.role.Role.{Role}
use Rattle.land_core.specs.declared.role.Role.TheVariants.{Bank, CertifiedSurveyor, Citizen, Conveyancer, Notary, StateAdministrator}
use Rattle.land_rules.proofs.InCircles.{named_together, no_principals, told_together}
use Rattle.land_rules.proofs.Seeing.{seen_exactly}
use Rattle.land_rules.proofs.SomeOf.{and_any, any_alike, any_and, any_either, any_none, any_or, any_same}
use Rattle.land_rules.specs.CircleLaws.{CirclesSeeTogether, MandatesServeCitizens, without_mandates}
use Rattle.land_rules.specs.Circles.{circle_of, is_group_of, is_held_by, is_visible_to_circle, names_held_by, principals_of}
use Rattle.land_rules.specs.Laws.{citizen}
use Rattle.land_rules.specs.Relations.{is_holder, is_member_of, is_rrr_where, is_visible_to_holder, names_holding}
use Rattle.land_rules.specs.Rules.{is_allowed, seen_of, sees, view_rules}
use Rattle.land_rules.specs.declared.verdict.Verdict.TheVariants.{Allowed, Denied}

-- a rule and rule 27 allow an object that satisfies both conditions
pub passes_both : (a b : Bool) (k : ℕ) → is_allowed (cond (not a) (Denied k) (cond (not b) (Denied 27) Allowed)) ≡ (a && b)
passes_both true true k = refl
passes_both true false k = refl
passes_both false b k = refl

-- the same for a record that may exist
passes_there : {V : Type 0} (passes : V → Bool) (found : Option V) (k : ℕ)
    → is_allowed (cond (not (option_map_or passes found false)) (Denied k) (cond (not (is_some found)) (Denied 27) Allowed)) ≡ option_map_or passes found false
passes_there passes None k = refl
passes_there passes (Some v) k = passes_both (passes v) true k ∙ and_true (passes v)

-- a record satisfies a condition on the circle exactly if it satisfies it for a member
any_there : {V : Type 0} (all : V → Bool) (one : ℕ → V → Bool) (circle : List ℕ) → ((v : V) → all v ≡ list_any (λ p. one p v) circle) → (found : Option V)
    → option_map_or all found false ≡ list_any (λ p. option_map_or (one p) found false) circle
any_there all one circle same None = sym (any_none circle)
any_there all one circle same (Some v) = same v

module _ (at : Register) where
  -- the objects that a circle sees
  abbrev sees_met : (circle : List ℕ) (party : ℕ) → Bool
  sees_met circle party = some (λ n e. nat_eq e.party party && is_allowed (cond (not (is_rrr_where (is_visible_to_circle at circle) at n)) (Denied 12) (cond (not (stands at kind.Rrr n)) (Denied 27) Allowed))) at.rrrs

  abbrev circle_sees : (circle : List ℕ) → Kind → (number : ℕ) → Bool
  circle_sees circle kind.Party n =
      is_allowed (cond (not (list_any (nat_eq n) circle || is_group_of at circle n || sees_met circle n)) (Denied 13) (cond (not (stands at kind.Party n)) (Denied 27) Allowed))
  circle_sees circle kind.Unit n = is_allowed (cond (not (is_held_by at circle n)) (Denied 11) (cond (not (stands at kind.Unit n)) (Denied 27) Allowed))
  circle_sees circle kind.Parcel n = is_allowed (cond (not (stands at kind.Parcel n)) (Denied 27) Allowed)
  circle_sees circle kind.Rrr n = is_allowed (cond (not (is_rrr_where (is_visible_to_circle at circle) at n)) (Denied 12) (cond (not (stands at kind.Rrr n)) (Denied 27) Allowed))
  circle_sees circle kind.Source n = false
  circle_sees circle kind.Mutation n = is_allowed (cond (not (is_mutation_where (names_held_by at circle) at n)) (Denied 14) (cond (not (stands at kind.Mutation n)) (Denied 27) Allowed))

  -- the objects that one party sees by itself
  abbrev is_told : (party number : ℕ) → Bool
  is_told p n = is_rrr_where (is_visible_to_holder at p) at n

  abbrev meets : (party number : ℕ) → Bool
  meets p q = some (λ n e. nat_eq e.party q && is_told p n) at.rrrs

  abbrev sees_party : (party number : ℕ) → Bool
  sees_party p n = (nat_eq n p || is_member_of at p n || meets p n) && stands at kind.Party n

  entries_together : (n : ℕ) (circle : List ℕ) → circle_sees circle kind.Rrr n ≡ list_any (λ p. is_told p n) circle
  entries_together n circle =
      passes_there (is_visible_to_circle at circle) (map.get at.rrrs n) 12
      ∙ any_there (is_visible_to_circle at circle) (is_visible_to_holder at) circle (told_together at circle) (map.get at.rrrs n)

  mutations_together : (n : ℕ) (circle : List ℕ) → circle_sees circle kind.Mutation n ≡ list_any (λ p. is_mutation_where (names_holding at p) at n) circle
  mutations_together n circle =
      passes_there (names_held_by at circle) (map.get at.mutations n) 14
      ∙ any_there (names_held_by at circle) (names_holding at) circle (λ m. named_together at circle m.content) (map.get at.mutations n)

  units_together : (n : ℕ) (circle : List ℕ) → circle_sees circle kind.Unit n ≡ list_any (λ p. is_holder at p n && stands at kind.Unit n) circle
  units_together n circle = passes_both (is_held_by at circle n) (stands at kind.Unit n) 11 ∙ any_and (λ p. is_holder at p n) (stands at kind.Unit n) circle

  met_together : (q : ℕ) (circle : List ℕ) → sees_met circle q ≡ list_any (λ p. meets p q) circle
  met_together q circle =
      any_alike (λ e. nat_eq e.1.party q && circle_sees circle kind.Rrr e.0) (λ e. list_any (λ p. nat_eq e.1.party q && is_told p e.0) circle)
      (λ e. ap (λ b. nat_eq e.1.party q && b) (entries_together e.0 circle) ∙ and_any (nat_eq e.1.party q) (λ p. is_told p e.0) circle) (map.entries at.rrrs)
      ∙ any_either (λ e p. nat_eq e.1.party q && is_told p e.0) (map.entries at.rrrs) circle

  parties_together : (n : ℕ) (circle : List ℕ) → circle_sees circle kind.Party n ≡ list_any (λ p. sees_party p n) circle
  parties_together n circle =
      passes_both (list_any (nat_eq n) circle || is_group_of at circle n || sees_met circle n) (stands at kind.Party n) 13
      ∙ ap (λ b. b && stands at kind.Party n)
      (ap₂ (λ a b. a || b) (any_or (nat_eq n) (λ p. is_member_of at p n) circle) (met_together n circle)
      ∙ any_or (λ p. nat_eq n p || is_member_of at p n) (λ p. meets p n) circle)
      ∙ any_and (λ p. nat_eq n p || is_member_of at p n || meets p n) (stands at kind.Party n) circle

  -- a circle sees an object exactly if a member does that is a circle by itself
  singly : (all : List ℕ → Bool) (one : ℕ → Bool) → ((circle : List ℕ) → all circle ≡ list_any one circle) → (circle : List ℕ) → all circle ≡ list_any (λ p. all (p ∷ [])) circle
  singly all one same circle = same circle ∙ any_alike one (λ p. all (p ∷ [])) (λ p. sym (same (p ∷ []) ∙ or_nothing (one p))) circle

  together : (party : ℕ) (principals : List ℕ) (k : Kind) (n : ℕ) → circle_sees (party ∷ principals) k n ≡ list_any (λ p. circle_sees (p ∷ []) k n) (party ∷ principals)
  together party principals kind.Party n = singly (λ circle. circle_sees circle kind.Party n) (λ p. sees_party p n) (parties_together n) (party ∷ principals)
  together party principals kind.Unit n = singly (λ circle. circle_sees circle kind.Unit n) (λ p. is_holder at p n && stands at kind.Unit n) (units_together n) (party ∷ principals)
  together party principals kind.Parcel n = sym (any_same (circle_sees [] kind.Parcel n) party principals)
  together party principals kind.Rrr n = singly (λ circle. circle_sees circle kind.Rrr n) (λ p. is_told p n) (entries_together n) (party ∷ principals)
  together party principals kind.Source n = sym (any_none (party ∷ principals))
  together party principals kind.Mutation n = singly (λ circle. circle_sees circle kind.Mutation n) (λ p. is_mutation_where (names_holding at p) at n) (mutations_together n) (party ∷ principals)

  -- a citizen sees what its circle sees
  by_circle : (party : ℕ) (k : Kind) (n : ℕ) → sees at (citizen party) k n ≡ circle_sees (circle_of at party) k n
  by_circle party kind.Party n = refl
  by_circle party kind.Unit n = refl
  by_circle party kind.Parcel n = refl
  by_circle party kind.Rrr n = refl
  by_circle party kind.Source n = refl
  by_circle party kind.Mutation n = refl

  -- and without mandates what it sees by itself
  without : (party : ℕ) (principals : List ℕ) → principals ≡ [] → (k : Kind) (n : ℕ) → circle_sees (party ∷ principals) k n ≡ circle_sees (party ∷ []) k n
  without party principals none k n = ap (λ ps. circle_sees (party ∷ ps) k n) none

  alone_without : (party : ℕ) (k : Kind) (n : ℕ) → sees (without_mandates at) (citizen party) k n ≡ circle_sees (party ∷ []) k n
  alone_without party k n = by_kind k ∙ without party (principals_of (without_mandates at) party) (no_principals (without_mandates at) party refl) k n
    where
      by_kind : (k : Kind) → sees (without_mandates at) (citizen party) k n ≡ circle_sees (party ∷ principals_of (without_mandates at) party) k n
      by_kind kind.Party = refl
      by_kind kind.Unit = refl
      by_kind kind.Parcel = refl
      by_kind kind.Rrr = refl
      by_kind kind.Source = refl
      by_kind kind.Mutation = refl

  seen_together : (party : ℕ) (k : Kind) (n : ℕ) → sees at (citizen party) k n ≡ list_any (λ p. sees (without_mandates at) (citizen p) k n) (circle_of at party)
  seen_together party k n =
      by_circle party k n ∙ together party (principals_of at party) k n
      ∙ any_alike (λ p. circle_sees (p ∷ []) k n) (λ p. sees (without_mandates at) (citizen p) k n) (λ p. sym (alone_without p k n)) (circle_of at party)

pub circles_see_together : CirclesSeeTogether
circles_see_together at party k n = record {
  sight = seen_together at party k n;
  listed =
      (seen_exactly at (citizen party) k).exact n ∙ seen_together at party k n
      ∙ any_alike (λ p. sees (without_mandates at) (citizen p) k n) (λ p. list_any (nat_eq n) (seen_of (without_mandates at) (citizen p) k))
      (λ p. sym ((seen_exactly (without_mandates at) (citizen p) k).exact n)) (circle_of at party);
}

-- ---- other roles

by_role : (at : Register) (party : ℕ) (role : Role) → is_role role Citizen ≡ false → (k : Kind) (n : ℕ)
    → view_rules at (record { party = party; role = role }) k n ≡ view_rules (without_mandates at) (record { party = party; role = role }) k n
by_role at party Citizen h k n = absurd (false≢true (sym h))
by_role at party Conveyancer h kind.Party n = refl
by_role at party Conveyancer h kind.Unit n = refl
by_role at party Conveyancer h kind.Parcel n = refl
by_role at party Conveyancer h kind.Rrr n = refl
by_role at party Conveyancer h kind.Source n = refl
by_role at party Conveyancer h kind.Mutation n = refl
by_role at party Notary h kind.Party n = refl
by_role at party Notary h kind.Unit n = refl
by_role at party Notary h kind.Parcel n = refl
by_role at party Notary h kind.Rrr n = refl
by_role at party Notary h kind.Source n = refl
by_role at party Notary h kind.Mutation n = refl
by_role at party Bank h kind.Party n = refl
by_role at party Bank h kind.Unit n = refl
by_role at party Bank h kind.Parcel n = refl
by_role at party Bank h kind.Rrr n = refl
by_role at party Bank h kind.Source n = refl
by_role at party Bank h kind.Mutation n = refl
by_role at party CertifiedSurveyor h kind.Party n = refl
by_role at party CertifiedSurveyor h kind.Unit n = refl
by_role at party CertifiedSurveyor h kind.Parcel n = refl
by_role at party CertifiedSurveyor h kind.Rrr n = refl
by_role at party CertifiedSurveyor h kind.Source n = refl
by_role at party CertifiedSurveyor h kind.Mutation n = refl
by_role at party StateAdministrator h kind.Party n = refl
by_role at party StateAdministrator h kind.Unit n = refl
by_role at party StateAdministrator h kind.Parcel n = refl
by_role at party StateAdministrator h kind.Rrr n = refl
by_role at party StateAdministrator h kind.Source n = refl
by_role at party StateAdministrator h kind.Mutation n = refl

pub mandates_serve_citizens : MandatesServeCitizens
mandates_serve_citizens at caller h k n = by_role at caller.party caller.role h k n
