-- Facts of a register, with the cached value.
use Rattle.std.proofs.Common.{◌≡◌, ◌∙◌, ℕ, ℤ, true, false, Option, Some, None, IfSome, is_some, refl, sym, ap, subst}
use Rattle.std.proofs.lemmas.Bool.{false≢true}
use Rattle.std.specs.FinMap as map
use Rattle.std.specs.FinMap.{FinMap}
use Rattle.std.specs.Option.{option_map}
use Rattle.std.specs.Ordering.{nat_cmp}
use Rattle.std.specs.Prelude.{if◌then◌else◌}
use Rattle.land_core.specs.Laws.{SoundnessByNumber}
use Rattle.land_core.specs.Register.{mutation_at, object_at, parcel_at, party_at, rrr_at, source_at, stands, unit_at}
use Rattle.land_core.specs.declared.ask.Ask.{Ask}
use Rattle.land_core.specs.declared.ask.Ask.TheVariants as ask
use Rattle.land_core.specs.declared.caller.Caller.{Caller}
use Rattle.land_core.specs.declared.kind.Kind.{Kind}
use Rattle.land_core.specs.declared.kind.Kind.TheVariants as kind
use Rattle.land_core.specs.declared.mutation.MutationRecord.{MutationRecord}
use Rattle.land_core.specs.declared.object.Object.{Object}
use Rattle.land_core.specs.declared.object.Object.TheVariants as object
use Rattle.land_core.specs.declared.register.Register.{Register}
use Rattle.land_core.specs.declared.unit.Unit.{Unit as UnitShown}
use Rattle.land_core.specs.declared.unit.UnitRecord.{UnitRecord}
use Rattle.land_keep.specs.Timeline.{Timeline, register_at}
use Rattle.land_rules.specs.Denials.Standing.{mutation_of_act, mutation_of_ask}
use Rattle.land_rules.specs.Rules.{first_denial, sight_rules}
use Rattle.land_rules.specs.declared.verdict.Verdict.TheVariants.{Allowed}
use Rattle.land_select.proofs.Viewed.{have_members}
use Rattle.land_select.specs.Cache.{IsValueOf, IsValueFor, IsCacheOf, IsObjectValueOf, IsFactWith, IsMutationValue, cached_object}
use Rattle.land_select.specs.Verdicts.{IsDecidedValue, is_read}
use Rattle.land_select.specs.declared.cache.CachedValue.{CachedValue}
use Rattle.land_select.specs.declared.cache.CachedValue.TheVariants as found
use Rattle.land_select.specs.declared.cache.Cache.{Cache}
use Rattle.land_select_queries.specs.Lookups.Parts.{ReadsPart}
use Rattle.sqlite_trees.specs.Tree.{Trees}

-- a part of a register, with nothing cached
pub told_alone : SoundnessByNumber → {T : Type 0} (part : Register → T) (caller : Caller) (k : Kind) (n : ℕ) (t : ℤ) (db : Trees) (it : T) → ReadsPart part t db it
    → IsFactWith part caller k n t db (it, found.Nothing)
told_alone look_ups part caller k n t db it is moments h held r premise stands = (is moments h held r (have_members look_ups r premise) stands, tt)

-- an existing object is cached
object_found : (r : Register) (caller : Caller) (k : Kind) (n : ℕ) (o : Option Object) → o ≡ object_at r k n → IsValueOf r caller k n (cached_object o)
object_found r caller k n None is = tt
object_found r caller k n (Some it) is = sym is

-- so it is correct if that is the cached value
pub found_told : (r : Register) (caller : Caller) (k : Kind) (n : ℕ) (o : Option Object) (it : CachedValue) → it ≡ cached_object o → o ≡ object_at r k n → IsValueOf r caller k n it
found_told r caller k n o it is there = subst (IsValueOf r caller k n) (sym is) (object_found r caller k n o there)

mapped : {A B : Type 0} (f : A → B) (o : Option A) → is_some (option_map f o) ≡ is_some o
mapped f None = refl
mapped f (Some x) = refl

-- an object exists if there is a record
pub object_stands : (r : Register) (k : Kind) (n : ℕ) → is_some (object_at r k n) ≡ stands r k n
object_stands r kind.Party n = mapped object.Party (party_at r n) ∙ mapped _ (map.get r.parties n)
object_stands r kind.Unit n = mapped object.Unit (unit_at r n) ∙ mapped _ (map.get r.units n)
object_stands r kind.Parcel n = mapped object.Parcel (parcel_at r n) ∙ mapped _ (map.get r.parcels n)
object_stands r kind.Rrr n = mapped object.Rrr (rrr_at r n) ∙ mapped _ (map.get r.rrrs n)
object_stands r kind.Source n = mapped object.Source (source_at r n) ∙ mapped _ (map.get r.sources n)
object_stands r kind.Mutation n = mapped object.Mutation (mutation_at r n) ∙ mapped _ (map.get r.mutations n)

-- a cached object is the requested one
pub object_among : (r : Register) (caller : Caller) (k : Kind) (n : ℕ) (it : CachedValue) → IsValueOf r caller k n it → IsObjectValueOf r k n it
object_among r caller k n found.Nothing is = tt
object_among r caller k n (found.Object it) is = is
object_among r caller k n (found.VisibleEntries entries) is = tt
object_among r caller k n (found.Mutations mutations) is = tt

-- the record of a cached unit
pub record_found : (r : Register) (n : ℕ) (it : UnitShown) → IsObjectValueOf r kind.Unit n (found.Object (object.Unit it)) → Some (record { name = it.name; checked = it.checked }) ≡ map.get r.units n
record_found r n it is = go (map.get r.units n) is
  where
    go : (o : Option UnitRecord) → option_map object.Unit (option_map (λ u. record { number = n; name = u.name; checked = u.checked }) o) ≡ Some (object.Unit it) → Some (record { name = it.name; checked = it.checked }) ≡ o
    go None is = absurd (let e = is in cc)
    go (Some u) is = let e : record { number = n; name = u.name; checked = u.checked } ≡ it = cc in ap (λ (shown : UnitShown). Some (record { name = shown.name; checked = shown.checked })) (sym e)

-- the mutations of the evidence are cached if the request decides one
pub decided_cached : (r : Register) (caller : Caller) (o : Option ℕ) (mutations : FinMap nat_cmp MutationRecord) → IfSome o (λ n. map.get mutations n ≡ map.get r.mutations n)
    → IsDecidedValue r caller o (if is_some o then found.Mutations mutations else found.Nothing)
decided_cached r caller None mutations is = refl
decided_cached r caller (Some n) mutations is = is

-- a request that only reads decides none
pub reads_decide_none : (r : Register) (caller : Caller) (a : Ask) → is_read a ≡ true → IsDecidedValue r caller (mutation_of_ask a) found.Nothing
reads_decide_none r caller (ask.View k n at) is = refl
reads_decide_none r caller (ask.List k at) is = refl
reads_decide_none r caller (ask.Sheet unit at) is = refl
reads_decide_none r caller (ask.Do act) is = absurd (false≢true is)

-- so each cached value is correct for its mutation
pub read_for : (r : Register) (caller : Caller) (a : Ask) (it : CachedValue) → is_read a ≡ true → IsMutationValue r caller (mutation_of_ask a) it
read_for r caller (ask.View k n at) it is = tt
read_for r caller (ask.List k at) it is = tt
read_for r caller (ask.Sheet unit at) it is = tt
read_for r caller (ask.Do act) it is = absurd (false≢true is)

some_decided : (r : Register) (caller : Caller) (o : Option ℕ) (it : CachedValue) → IsDecidedValue r caller o it → IsMutationValue r caller o it
some_decided r caller None it is = tt
some_decided r caller (Some n) it is = is

-- what is cached while the standing rules are decided is correct for the request and for the mutation
pub decided_for : (now at : Register) (caller : Caller) (a : Ask) (it : CachedValue) → IsDecidedValue now caller (mutation_of_ask a) it → IsValueFor at caller a it × IsMutationValue now caller (mutation_of_ask a) it
decided_for now at caller (ask.View k n t) it is = (subst (IsValueOf at caller k n) (sym is) tt, tt)
decided_for now at caller (ask.List k t) it is = (tt, tt)
decided_for now at caller (ask.Sheet unit t) it is = (subst (IsValueOf at caller kind.Unit unit) (sym is) tt, tt)
decided_for now at caller (ask.Do act) it is = (tt, some_decided now caller (mutation_of_act act) it is)

-- the sight rules deny no act
pub acts_are_allowed : (r : Register) (caller : Caller) (a : Ask) → is_read a ≡ false → Allowed ≡ first_denial (sight_rules r caller a)
acts_are_allowed r caller (ask.View k n at) is = absurd (false≢true (sym is))
acts_are_allowed r caller (ask.List k at) is = absurd (false≢true (sym is))
acts_are_allowed r caller (ask.Sheet unit at) is = absurd (false≢true (sym is))
acts_are_allowed r caller (ask.Do act) is = refl

-- a cached object is correct for a request with its key
pub cache_is : (tl : Timeline) (kept : Option Cache) (it : Cache) → kept ≡ Some it → IsCacheOf tl kept → (caller : Caller) (k : Kind) (n : ℕ) (t : ℤ) → it.caller ≡ caller → it.kind ≡ k → it.number ≡ n → it.moment ≡ t
    → IsValueOf (register_at tl t) caller k n it.found
cache_is tl kept it is so caller k n t who which under when =
    subst (λ (c : Caller). IsValueOf (register_at tl t) c k n it.found) who
    (subst (λ (kind : Kind). IsValueOf (register_at tl t) it.caller kind n it.found) which
    (subst (λ (m : ℕ). IsValueOf (register_at tl t) it.caller it.kind m it.found) under
    (subst (λ (u : ℤ). IsValueOf (register_at tl u) it.caller it.kind it.number it.found) when (subst (IsCacheOf tl) is so))))
