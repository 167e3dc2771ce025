-- A conveyancer sees units and entries exactly by its undecided mutations.
use Rattle.std.proofs.Common.{◌≡◌, ℕ, Bool, true, false, ◌&&◌, Option, Some, None, is_some, refl, ap, ◌∙◌}
use Rattle.std.proofs.lemmas.Bool.{false≢true}
use Rattle.std.specs.FinMap as map
use Rattle.std.specs.Option.{option_map_or}
use Rattle.land_core.proofs.Booleans.{and_true}
use Rattle.land_core.specs.Entries.{has}
use Rattle.land_core.specs.Laws.{SoundnessByNumber}
use Rattle.land_core.specs.declared.caller.Caller.{Caller}
use Rattle.land_core.specs.declared.kind.Kind.{Kind}
use Rattle.land_core.specs.declared.kind.Kind.TheVariants as kind
use Rattle.land_core.specs.declared.register.Register.{Register}
use Rattle.land_core.specs.declared.role.Role.{Role}
use Rattle.land_core.specs.declared.role.Role.TheVariants as roles
use Rattle.land_core.specs.declared.rrr.RrrRecord.{RrrRecord}
use Rattle.land_rules.proofs.SightByInterest.{UnitsStand, passes_both, units_stand}
use Rattle.land_rules.specs.Denials.Sight.{PendingUnitsAreVisible, is_visible_by_pending, sees_by_pending}
use Rattle.land_rules.specs.Relations.{has_pending_mutation_on, is_rrr_where}
use Rattle.land_rules.specs.Rules.{is_visible_to_conveyancer, sees}

-- whether an existing record is visible, if the condition is known for existing records
told_there : {X : Type 0} (told shown : X → Bool) (o : Option X) → ((x : X) → o ≡ Some x → told x ≡ shown x) → (option_map_or told o false && is_some o) ≡ option_map_or shown o false
told_there told shown None same = refl
told_there told shown (Some x) same = and_true (told x) ∙ same x refl

module _ (r : Register) (refers : UnitsStand r) (p : ℕ) where
  abbrev conveyancer : Caller
  conveyancer = record { party = p; role = roles.Conveyancer }

  unit_is : (unit : ℕ) → sees r conveyancer kind.Unit unit ≡ is_visible_by_pending r conveyancer kind.Unit unit
  unit_is unit = passes_both (has_pending_mutation_on r p unit) (has r.units unit) 19

  -- the unit of an existing entry exists
  told : (n : ℕ) (e : RrrRecord) → map.get r.rrrs n ≡ Some e → is_visible_to_conveyancer r conveyancer e ≡ has_pending_mutation_on r p e.unit
  told n e there = unit_is e.unit ∙ ap (λ b. has_pending_mutation_on r p e.unit && b) (refers n e there) ∙ and_true (has_pending_mutation_on r p e.unit)

  entry_is : (n : ℕ) → sees r conveyancer kind.Rrr n ≡ is_visible_by_pending r conveyancer kind.Rrr n
  entry_is n =
      passes_both (is_rrr_where (is_visible_to_conveyancer r conveyancer) r n) (has r.rrrs n) 20
      ∙ told_there (is_visible_to_conveyancer r conveyancer) (λ e. has_pending_mutation_on r p e.unit) (map.get r.rrrs n) (told n)

  awaited_by : (role : Role) (k : Kind) (n : ℕ) → sees_by_pending role k ≡ true → sees r (record { party = p; role = role }) k n ≡ is_visible_by_pending r (record { party = p; role = role }) k n
  awaited_by roles.Conveyancer kind.Unit n h = unit_is n
  awaited_by roles.Conveyancer kind.Rrr n h = entry_is n
  awaited_by role kind.Party n h = absurd (false≢true h)
  awaited_by role kind.Parcel n h = absurd (false≢true h)
  awaited_by role kind.Source n h = absurd (false≢true h)
  awaited_by role kind.Mutation n h = absurd (false≢true h)
  awaited_by roles.Citizen kind.Unit n h = absurd (false≢true h)
  awaited_by roles.Citizen kind.Rrr n h = absurd (false≢true h)
  awaited_by roles.Notary kind.Unit n h = absurd (false≢true h)
  awaited_by roles.Notary kind.Rrr n h = absurd (false≢true h)
  awaited_by roles.Bank kind.Unit n h = absurd (false≢true h)
  awaited_by roles.Bank kind.Rrr n h = absurd (false≢true h)
  awaited_by roles.CertifiedSurveyor kind.Unit n h = absurd (false≢true h)
  awaited_by roles.CertifiedSurveyor kind.Rrr n h = absurd (false≢true h)
  awaited_by roles.StateAdministrator kind.Unit n h = absurd (false≢true h)
  awaited_by roles.StateAdministrator kind.Rrr n h = absurd (false≢true h)

pub pending_units_are_visible : SoundnessByNumber → PendingUnitsAreVisible
pending_units_are_visible look_ups at premise caller k number h = awaited_by at (units_stand look_ups at premise) caller.party caller.role k number h
