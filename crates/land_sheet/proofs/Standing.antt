-- Each object that a caller sees exists.
use Rattle.std.proofs.Common.{◌≡◌, ℕ, true, false, ◌||◌, List, [], ◌∷◌, Option, Some, None, refl, sym, ap, ◌∙◌}
use Rattle.std.specs.Prelude.{IsSome, is_some, nat_eq}
use Rattle.std.specs.FinMap as map
use Rattle.std.specs.List.{list_any}
use Rattle.std.specs.Option.{option_map}
use Rattle.std.proofs.lemmas.Bool.{false≢true, not-false, or_parts}
use Rattle.std.proofs.lemmas.Cmp.{nat_eq_equiv}
use Rattle.land_core.proofs.Booleans.{or_true}
use Rattle.land_core.specs.Register.{object_at, party_at, unit_at, parcel_at, rrr_at, source_at, mutation_at, stands}
use Rattle.land_core.specs.declared.caller.Caller.{Caller}
use Rattle.land_core.specs.declared.kind.Kind.{Kind}
use Rattle.land_core.specs.declared.kind.Kind.TheVariants as kind
use Rattle.land_core.specs.declared.object.Object.TheVariants as object
use Rattle.land_core.specs.declared.register.Register.{Register}
use Rattle.land_rules.proofs.Denied.{none_from_allowed}
use Rattle.land_rules.proofs.Seeing.{seen_exactly}
use Rattle.land_rules.specs.Rules.{denies, first_denial, is_allowed, seen_of, sees, view_rules}
use Rattle.land_rules.specs.declared.verdict.Verdict.{Verdict}
use Rattle.land_rules.specs.declared.verdict.Verdict.TheVariants.{Allowed, Denied}
use Rattle.land_sheet.specs.Extracts.Seeing.{AllExist}

mapped : {A B : Type 0} (f : A → B) (o : Option A) → is_some (option_map f o) ≡ is_some o
mapped f None = refl
mapped f (Some x) = refl

-- an existing object is shown
object_stands : (r : Register) (k : Kind) (n : ℕ) → is_some (object_at r k n) ≡ stands r k n
object_stands r kind.Party n = mapped object.Party (party_at r n) ∙ mapped _ (map.get r.parties n)
object_stands r kind.Unit n = mapped object.Unit (unit_at r n) ∙ mapped _ (map.get r.units n)
object_stands r kind.Parcel n = mapped object.Parcel (parcel_at r n) ∙ mapped _ (map.get r.parcels n)
object_stands r kind.Rrr n = mapped object.Rrr (rrr_at r n) ∙ mapped _ (map.get r.rrrs n)
object_stands r kind.Source n = mapped object.Source (source_at r n) ∙ mapped _ (map.get r.sources n)
object_stands r kind.Mutation n = mapped object.Mutation (mutation_at r n) ∙ mapped _ (map.get r.mutations n)

-- a rule denies the view of an object that does not exist
denies_absent : (at : Register) (caller : Caller) (k : Kind) (n : ℕ) → denies 27 (view_rules at caller k n) ≡ false → stands at k n ≡ true
denies_absent at caller kind.Party n h = not-false _ (or_parts _ _ h).0
denies_absent at caller kind.Unit n h = not-false _ (or_parts _ _ h).0
denies_absent at caller kind.Parcel n h = not-false _ (or_parts _ _ h).0
denies_absent at caller kind.Rrr n h = not-false _ (or_parts _ _ h).0
denies_absent at caller kind.Source n h = not-false _ (or_parts _ _ h).0
denies_absent at caller kind.Mutation n h = not-false _ (or_parts _ _ h).0

sees_what_stands : (at : Register) (caller : Caller) (k : Kind) (n : ℕ) → sees at caller k n ≡ true → IsSome (object_at at k n)
sees_what_stands at caller k n h = object_stands at k n ∙ denies_absent at caller k n (none_from_allowed (view_rules at caller k n) (allowed_from (first_denial (view_rules at caller k n)) h) 27)
  where
    allowed_from : (v : Verdict) → is_allowed v ≡ true → v ≡ Allowed
    allowed_from Allowed e = refl
    allowed_from (Denied k) e = absurd (false≢true e)

-- if each of some numbers exists, so does one of them
each_stands : (r : Register) (k : Kind) (numbers : List ℕ) → ((n : ℕ) → list_any (nat_eq n) numbers ≡ true → IsSome (object_at r k n)) → AllExist r k numbers
each_stands r k [] among = tt
each_stands r k (number ∷ numbers) among = (
  among number (ap (λ b. b || list_any (nat_eq number) numbers) (nat_eq_equiv.refl number)),
  each_stands r k numbers (λ n later. among n (ap (λ b. nat_eq n number || b) later ∙ or_true (nat_eq n number))),
)

-- each object that a caller sees exists
pub all_stand : (r : Register) (caller : Caller) (k : Kind) → AllExist r k (seen_of r caller k)
all_stand r caller k = each_stands r k (seen_of r caller k) (λ n among. sees_what_stands r caller k n (sym ((seen_exactly r caller k).exact n) ∙ among))
