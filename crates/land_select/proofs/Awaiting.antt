-- A conveyancer's pending mutations that refer to a unit, and the entries that it sees by them.
use Rattle.std.proofs.Common.{◌≡◌, ◌&&◌, ◌∙◌, ℕ, Bool, true, false, cond, nat_eq, List, [], ◌∷◌, filter, refl, sym, ap, ap₂}
use Rattle.std.proofs.lemmas.Bool.{and_parts}
use Rattle.std.proofs.lemmas.Bool.Decides.{Decides-eqb}
use Rattle.std.specs.FinMap as map
use Rattle.std.specs.List.{Contains}
use Rattle.std.specs.Option.{option_map_or}
use Rattle.std.specs.Ordering.{nat_cmp}
use Rattle.land_core.proofs.Booleans.{and_true}
use Rattle.land_core.specs.Entries.{with_entries}
use Rattle.land_core.specs.declared.caller.Caller.{Caller}
use Rattle.land_core.specs.Register.{stands}
use Rattle.land_core.specs.declared.kind.Kind.TheVariants.{Rrr, Unit as UnitKind}
use Rattle.land_core.specs.declared.register.Register.{Register}
use Rattle.land_core.specs.declared.rrr.RrrRecord.{RrrRecord}
use Rattle.land_rules.specs.Denials.Interests.{entries_in_unit}
use Rattle.land_rules.specs.Denials.Sight.{PendingUnitsAreVisible, is_visible_by_pending, sees_by_pending}
use Rattle.land_rules.specs.Laws.{IsSoundOrNothing}
use Rattle.land_rules.specs.Relations.{has_pending_mutation_on}
use Rattle.land_rules.specs.Rules.{sees}
use Rattle.land_select.proofs.ShownByInterest.{only_where}
use Rattle.land_select.proofs.Viewed.{agreed}
use Rattle.land_select.specs.Views.{pending_entries, visible_rrrs}
use Rattle.land_select_queries.proofs.Standing.{entry_there}

-- ---- a unit

-- no pending mutation of a party refers to the unit, regardless of its existence
pub none_names : (named there : Bool) → false ≡ named → ◌≡◌ {A = Bool × Bool} (false, false) (named && there, named)
none_names named there is = ap (λ (b : Bool). (b && there, b)) is

-- one does, so the unit is visible if it exists
pub one_names : (named there : Bool) → true ≡ named → (it : Bool) → it ≡ there → ◌≡◌ {A = Bool × Bool} (it, true) (named && there, named)
one_names named there is it same = ap₂ (λ (a b : Bool). (b && a, b)) same is

-- ---- entries

none_kept : {X : Type 0} (p : X → Bool) (xs : List X) → filter (λ x. p x && false) xs ≡ []
none_kept p [] = refl
none_kept p (x ∷ xs) = go (p x) (none_kept p xs)
  where
    go : (b : Bool) → filter (λ x. p x && false) xs ≡ [] → cond (b && false) (x ∷ filter (λ x. p x && false) xs) (filter (λ x. p x && false) xs) ≡ []
    go true rest = rest
    go false rest = rest

-- of the entries of a unit, those that a pending mutation shows are visible
pub awaited_in_sight : PendingUnitsAreVisible → (r : Register) (caller : Caller) (unit : ℕ) → IsSoundOrNothing r → sees_by_pending caller.role Rrr ≡ true
    → pending_entries r caller.party unit (entries_in_unit r unit) ≡ visible_rrrs r caller unit
awaited_in_sight law r caller unit premise by = go (has_pending_mutation_on r caller.party unit) refl
  where
    seen : (e : ℕ × RrrRecord) → Contains (map.entries r.rrrs) e → e.1.unit ≡ unit → sees r caller Rrr e.0 ≡ has_pending_mutation_on r caller.party unit
    seen e among same =
        law r premise caller Rrr e.0 by ∙ ap (λ o. option_map_or (λ (x : RrrRecord). has_pending_mutation_on r caller.party x.unit) o false) (entry_there r.rrrs e among) ∙ ap (has_pending_mutation_on r caller.party) same

    kept : (b : Bool) → has_pending_mutation_on r caller.party unit ≡ b → filter (λ e. nat_eq e.1.unit unit && b) (map.entries r.rrrs) ≡ filter (λ e. nat_eq e.1.unit unit && sees r caller Rrr e.0) (map.entries r.rrrs)
    kept b is =
        agreed (λ e. nat_eq e.1.unit unit && b) (λ e. nat_eq e.1.unit unit && sees r caller Rrr e.0) (map.entries r.rrrs)
        (λ e among. only_where (nat_eq e.1.unit unit) b (sees r caller Rrr e.0) (λ same. sym (seen e among ((Decides-eqb e.1.unit unit).0 same) ∙ is)))

    go : (b : Bool) → has_pending_mutation_on r caller.party unit ≡ b → cond b (entries_in_unit r unit) map.empty ≡ visible_rrrs r caller unit
    go true is =
        ap (with_entries (map.empty {R = nat_cmp}))
        (agreed (λ e. nat_eq e.1.unit unit) (λ e. nat_eq e.1.unit unit && true) (map.entries r.rrrs) (λ e among. sym (and_true (nat_eq e.1.unit unit))) ∙ kept true is)
    go false is = ap (with_entries (map.empty {R = nat_cmp})) (sym (none_kept (λ e. nat_eq e.1.unit unit) (map.entries r.rrrs)) ∙ kept false is)

-- so all of them are, if a pending mutation refers to the unit
pub entries_awaited : PendingUnitsAreVisible → (r : Register) (caller : Caller) (unit : ℕ) → IsSoundOrNothing r → sees_by_pending caller.role Rrr ≡ true → is_visible_by_pending r caller UnitKind unit ≡ true
    → entries_in_unit r unit ≡ visible_rrrs r caller unit
entries_awaited law r caller unit premise by is =
    sym (ap (λ b. cond b (entries_in_unit r unit) map.empty) (and_parts (has_pending_mutation_on r caller.party unit) (stands r UnitKind unit) is).0) ∙ awaited_in_sight law r caller unit premise by
