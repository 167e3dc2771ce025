-- The values that a verdict reads and the cache keeps for the reply.
use Rattle.std.specs.FinMap as map
use Rattle.std.specs.Prelude.{◌≡◌, ℕ, ℤ, Option, None, Some, IfSome}
use Rattle.land_core.specs.Register.{object_at}
use Rattle.land_core.specs.declared.ask.Ask.{Ask}
use Rattle.land_core.specs.declared.ask.Ask.TheVariants as ask
use Rattle.land_core.specs.declared.caller.Caller.{Caller}
use Rattle.land_core.specs.declared.kind.Kind.{Kind}
use Rattle.land_core.specs.declared.kind.Kind.TheVariants as kind
use Rattle.land_core.specs.declared.object.Object.{Object}
use Rattle.land_core.specs.declared.register.Register.{Register}
use Rattle.land_keep.specs.Timeline.{Timeline, register_at}
use Rattle.land_rules.specs.Laws.{IsSoundOrNothing}
use Rattle.land_rules.specs.Rules.{first_denial, sight_rules}
use Rattle.land_rules.specs.declared.verdict.Verdict.{Verdict}
use Rattle.land_select.specs.Views.{visible_rrrs}
use Rattle.land_select.specs.declared.cache.CachedValue.{CachedValue}
use Rattle.land_select.specs.declared.cache.CachedValue.TheVariants as found
use Rattle.land_select.specs.declared.cache.Cache.{Cache}
use Rattle.land_select_queries.specs.Joins.Execution.{HoldsOfHistory}
use Rattle.land_tables_history.specs.History.{IsRegisterAt}
use Rattle.sqlite_trees.specs.Tree.{Trees}

-- an object, if there is one, as a cached value
abbrev pub cached_object : Option Object → CachedValue
cached_object None = found.Nothing
cached_object (Some it) = found.Object it

-- A cached value is correct for a caller and an object of a register: it is that object, the entries of that
-- unit that the caller sees, or records that agree with the register on that mutation.
abbrev pub IsValueOf : Register → Caller → Kind → (number : ℕ) → CachedValue → Type 0
IsValueOf r caller k n found.Nothing = Unit {0}
IsValueOf r caller k n (found.Object it) = object_at r k n ≡ Some it
IsValueOf r caller k n (found.VisibleEntries entries) = entries ≡ visible_rrrs r caller n
IsValueOf r caller k n (found.Mutations mutations) = map.get mutations n ≡ map.get r.mutations n

-- a cached object is the object of this kind and number
abbrev pub IsObjectValueOf : Register → Kind → (number : ℕ) → CachedValue → Type 0
IsObjectValueOf r k n found.Nothing = Unit {0}
IsObjectValueOf r k n (found.Object it) = object_at r k n ≡ Some it
IsObjectValueOf r k n (found.VisibleEntries entries) = Unit {0}
IsObjectValueOf r k n (found.Mutations mutations) = Unit {0}

-- a cached value is correct for the mutation of a number, if there is a number
abbrev pub IsMutationValue : Register → Caller → (mutation : Option ℕ) → CachedValue → Type 0
IsMutationValue r caller mutation it = IfSome mutation (λ n. IsValueOf r caller kind.Mutation n it)

-- If the tables hold a history that at time t represents a register, sound or empty, the result is this fact
-- of it, and the cached value is correct.
abbrev pub IsFactWith : {T : Type 0} → (Register → T) → Caller → Kind → (number : ℕ) → (t : ℤ) → Trees → T
    × CachedValue → Type 0
IsFactWith told caller k n t db it =
    HoldsOfHistory db (λ h. (r : Register) → IsSoundOrNothing r → IsRegisterAt t h r → (it.0 ≡ told r)
    × IsValueOf r caller k n it.1)

-- the cached value is correct for a request that reads an object; for lists and acts it is not used
abbrev pub IsValueFor : Register → Caller → Ask → CachedValue → Type 0
IsValueFor r caller (ask.View k n at) it = IsValueOf r caller k n it
IsValueFor r caller (ask.List k at) it = Unit {0}
IsValueFor r caller (ask.Sheet unit at) it = IsValueOf r caller kind.Unit unit it
IsValueFor r caller (ask.Do act) it = Unit {0}

-- the verdict of the sight rules on a request, with the cached value
abbrev pub IsSightVerdictWith : Caller → Ask → (t : ℤ) → Trees → Verdict × CachedValue → Type 0
IsSightVerdictWith caller a t db it = HoldsOfHistory db
    (λ h. (r : Register) → IsSoundOrNothing r → IsRegisterAt t h r
    → (it.0 ≡ first_denial (sight_rules r caller a)) × IsValueFor r caller a it.1)

-- the cache is correct for a timeline
abbrev pub IsCacheOf : Timeline → Option Cache → Type 0
IsCacheOf tl None = Unit {0}
IsCacheOf tl (Some it) = IsValueOf (register_at tl it.moment) it.caller it.kind it.number it.found
