-- Laws on mandates: which objects they make visible, and to which parties.
use Rattle.std.specs.Prelude.{◌≡◌, ℕ, false, ◌||◌, nat_eq, [], ◌∷◌}
use Rattle.std.specs.FinMap as map
use Rattle.std.specs.List.{list_any}
use Rattle.land_core.specs.Mandates.{has_mandate, mandate_between}
use Rattle.land_core.specs.Role.{is_role}
use Rattle.land_core.specs.declared.caller.Caller.{Caller}
use Rattle.land_core.specs.declared.kind.Kind.{Kind}
use Rattle.land_core.specs.declared.register.Register.{Register}
use Rattle.land_core.specs.declared.role.Role.TheVariants.{Citizen}
use Rattle.land_rules.specs.Circles.{circle_of, is_in_circle}
use Rattle.land_rules.specs.Laws.{citizen}
use Rattle.land_rules.specs.Rules.{seen_of, sees, view_rules}

-- the circle of a party has exactly the party itself and the parties that gave it a mandate; mandates that
-- those parties hold do not matter
abbrev pub CirclesAreOfMandates : Type 0
CirclesAreOfMandates = (at : Register) (party number : ℕ)
    → is_in_circle at party number
    ≡ (nat_eq number party || has_mandate at.mandates (mandate_between number party))

-- without mandates, the circle of a party has only the party itself
abbrev pub CirclesWithoutMandates : Type 0
CirclesWithoutMandates = (at : Register) (party : ℕ) → at.mandates ≡ map.empty
    → circle_of at party ≡ party ∷ []

-- the same register without its mandates
abbrev pub without_mandates : Register → Register
without_mandates at = record at { mandates = map.empty }

-- a citizen sees exactly the objects that a member of its circle would see without mandates; so its lists are
-- the union of their lists
pub record SeesTogether (at : Register) (party : ℕ) (k : Kind) (number : ℕ) : Type 0 where
  pub sight : sees at (citizen party) k number
      ≡ list_any (λ p. sees (without_mandates at) (citizen p) k number) (circle_of at party)
  pub listed : list_any (nat_eq number) (seen_of at (citizen party) k)
      ≡ list_any (λ p. list_any (nat_eq number) (seen_of (without_mandates at) (citizen p) k))
      (circle_of at party)

-- this holds for every object
abbrev pub CirclesSeeTogether : Type 0
CirclesSeeTogether = (at : Register) (party : ℕ) (k : Kind) (number : ℕ) → SeesTogether at party k number

-- mandates change only what citizens see: in every other role, the same rules deny the same views with and
-- without them
abbrev pub MandatesServeCitizens : Type 0
MandatesServeCitizens =
    (at : Register) (caller : Caller) → is_role caller.role Citizen ≡ false → (k : Kind) (number : ℕ)
    → view_rules at caller k number ≡ view_rules (without_mandates at) caller k number
