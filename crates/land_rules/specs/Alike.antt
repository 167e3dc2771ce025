-- When two registers look alike to a caller, and the law that their verdicts are then equal.
use Rattle.std.specs.Prelude.{◌≡◌, ℕ, Bool, List, Option, map as map_list}
use Rattle.land_core.specs.Register.{holds, object_at, stands}
use Rattle.land_core.specs.declared.ask.Ask.{Ask}
use Rattle.land_core.specs.declared.ask.Ask.TheVariants as ask
use Rattle.land_core.specs.declared.caller.Caller.{Caller}
use Rattle.land_core.specs.declared.kind.Kind.{Kind}
use Rattle.land_core.specs.declared.kind.Kind.TheVariants as kind
use Rattle.land_core.specs.declared.object.Object.{Object}
use Rattle.land_core.specs.declared.register.Register.{Register}
use Rattle.land_core.specs.declared.role.Role.{Role}
use Rattle.land_rules.specs.Laws.{IsSoundOrNothing}
use Rattle.land_rules.specs.Rules.{seen_of, verdict_of}

-- the numbers of a kind that a caller sees, each with its object
abbrev pub visible_objects : Register → Caller → Kind → List (ℕ × Option Object)
visible_objects at caller k = map_list (λ n. (n, object_at at k n)) (seen_of at caller k)

-- two registers look alike to a caller if it exists in both or in neither, has the same roles in both, and
-- sees the same numbers of each kind with the same objects
pub record LookAlike (one other : Register) (caller : Caller) : Type 0 where
  pub party : stands one kind.Party caller.party ≡ stands other kind.Party caller.party
  pub roles : (role : Role) → holds one caller.party role ≡ holds other caller.party role
  pub shown : (k : Kind) → visible_objects one caller k ≡ visible_objects other caller k

-- a request that only reads: a view, a list or a sheet
abbrev pub IsReadRequest : Ask → Type 0
IsReadRequest (ask.View k number at) = Unit {0}
IsReadRequest (ask.List k at) = Unit {0}
IsReadRequest (ask.Sheet unit at) = Unit {0}
IsReadRequest (ask.Do it) = ⊥

-- two worlds look alike to a caller if their registers now do, and their registers at the requested time do,
-- and the latter are sound or empty
pub record WorldsLookAlike (now other_now at other_at : Register) (caller : Caller) : Type 0 where
  pub last : LookAlike now other_now caller
  pub asked : LookAlike at other_at caller
  pub one : IsSoundOrNothing at
  pub other : IsSoundOrNothing other_at

-- in worlds that look alike to a caller, each view, list and sheet gets the same verdict, with the same
-- number
abbrev pub VerdictsRevealNothingUnseen : Type 0
VerdictsRevealNothingUnseen = (now other_now at other_at : Register) (caller : Caller) (a : Ask) (past : Bool)
    → WorldsLookAlike now other_now at other_at caller
    → IsReadRequest a → verdict_of now at caller a past ≡ verdict_of other_now other_at caller a past
