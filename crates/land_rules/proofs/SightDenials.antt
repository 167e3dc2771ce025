-- The denial of a view reveals only that the object is not visible.
use Rattle.std.proofs.Common.{◌≡◌, inl, inr, ℕ, Bool, true, false, ◌||◌, ◌&&◌, not, cond, Option, Some, None, refl, sym, subst, ◌∙◌}
use Rattle.std.specs.Prelude.{is_some, nat_eq}
use Rattle.std.specs.Option.{option_map_or}
use Rattle.std.specs.Cmp.{nat_cmp_total}
use Rattle.std.specs.FinMap as map
use Rattle.std.specs.List.{list_any}
use Rattle.std.specs.FinMap.{nat_cmp-IsAntisymmetric}
use Rattle.std.proofs.lemmas.Bool.{false≢true, and_parts, eqb-true, not-false, or_parts}
use Rattle.land_core.proofs.FiniteMaps.{none_is_not_some}
use Rattle.land_core.proofs.Reflection.{none_at, some_passes}
use Rattle.land_core.proofs.LooseMandates.{mandates_from, no_mandates_are_tight}
use Rattle.land_core.proofs.SoundRegisters.{Refers, are_used_back, loose_from, none_in_empty, refers}
use Rattle.land_core.specs.Entries.{has}
use Rattle.land_core.specs.Grants.{grant_cmp}
use Rattle.land_core.specs.Mandates.{mandate_between}
use Rattle.land_core.specs.Members.{Members}
use Rattle.land_core.specs.Register.{is_member, is_single, empty_register}
use Rattle.land_core.specs.Soundness.{are_dangling_members}
use Rattle.land_core.specs.declared.caller.Caller.{Caller}
use Rattle.land_core.specs.declared.kind.Kind.{Kind}
use Rattle.land_core.specs.declared.kind.Kind.TheVariants as kind
use Rattle.land_core.specs.declared.party.PartyRecord.{PartyRecord}
use Rattle.land_core.specs.declared.register.Register.{Register}
use Rattle.land_core.specs.declared.role.Role.{Role}
use Rattle.land_core.specs.declared.role.Role.TheVariants.{Citizen, Conveyancer, Notary, Bank, CertifiedSurveyor, StateAdministrator}
use Rattle.land_core.specs.declared.soundness.Unsound.TheVariants.{Reference}
use Rattle.land_rules.proofs.InCircles.{is_principal}
use Rattle.land_rules.proofs.SomeOf.{any_says}
use Rattle.land_rules.specs.Laws.{DenialsRevealOnlySight, IsSoundOrNothing, verdict_by_sight}
use Rattle.land_rules.specs.Circles.{circle_of, is_group_of, is_held_by, is_visible_to_circle, names_held_by, principals_of}
use Rattle.land_rules.specs.Relations.{is_holder, is_lodger_of, has_pending_mutation_on, is_member_of}
use Rattle.land_rules.specs.Rules.{first_denial, is_allowed, is_party_in_sight, is_rrr_in_sight, is_visible_to_bank, is_visible_to_conveyancer, view_rules}
use Rattle.land_rules.specs.declared.verdict.Verdict.{Verdict}
use Rattle.land_rules.specs.declared.verdict.Verdict.TheVariants.{Allowed, Denied}

-- a verdict that allows or denies by one rule
abbrev tells : Verdict → ℕ → Type 0
tells v k = v ≡ cond (is_allowed v) Allowed (Denied k)

-- by rule 27 only
absent : (there : Bool) → tells (cond (not there) (Denied 27) Allowed) 27
absent true = refl
absent false = refl

absent_itself : (itself there : Bool) → tells (cond (not there) (Denied 27) Allowed) (cond itself 27 27)
absent_itself true there = absent there
absent_itself false there = absent there

-- by a relation that no party has to a missing object
related : (there has : Bool) (k : ℕ) → tells (cond (not (there && has)) (Denied k) (cond (not there) (Denied 27) Allowed)) k
related true true k = refl
related true false k = refl
related false has k = refl

-- by a relation of one of several parties, which none has to a missing object
related_together : (passes there : Bool) (k : ℕ) → (passes ≡ true → there ≡ true) → tells (cond (not passes) (Denied k) (cond (not there) (Denied 27) Allowed)) k
related_together true true k h = refl
related_together true false k h = absurd (false≢true (h refl))
related_together false there k h = refl

-- by a condition on other objects, whether this one exists or not
lodged : (lodged there : Bool) (k : ℕ) → tells (cond (not lodged) (Denied k) (cond (not there) (Denied 27) Allowed)) (cond (lodged || false) 27 k)
lodged true true k = refl
lodged true false k = refl
lodged false there k = refl

-- by a condition on existing objects
tested : {V : Type 0} (passes : V → Bool) (found : Option V) (k : ℕ) → tells (cond (not (option_map_or passes found false)) (Denied k) (cond (not (is_some found)) (Denied 27) Allowed)) k
tested passes None k = refl
tested passes (Some v) k = elim (passes v) as (λ b. tells (cond (not b) (Denied k) Allowed) k) [ true ↦ refl | false ↦ refl ]

-- by being another party, if visible objects exist
met : (itself seen there : Bool) (k : ℕ) → (seen ≡ true → there ≡ true) → tells (cond (not (itself || seen)) (Denied k) (cond (not there) (Denied 27) Allowed)) (cond itself 27 k)
met true seen true k h = refl
met true seen false k h = refl
met false true true k h = refl
met false true false k h = absurd (false≢true (h refl))
met false false there k h = refl

met_thrice : (itself one two seen there : Bool) (k : ℕ) → (one ≡ true → there ≡ true) → (two ≡ true → there ≡ true) → (seen ≡ true → there ≡ true)
    → tells (cond (not ((itself || one) || two || seen)) (Denied k) (cond (not there) (Denied 27) Allowed)) (cond itself 27 k)
met_thrice true one two seen true k f g h = refl
met_thrice true one two seen false k f g h = refl
met_thrice false true two seen true k f g h = refl
met_thrice false true two seen false k f g h = absurd (false≢true (f refl))
met_thrice false false true seen true k f g h = refl
met_thrice false false true seen false k f g h = absurd (false≢true (g refl))
met_thrice false false false true true k f g h = refl
met_thrice false false false true false k f g h = absurd (false≢true (h refl))
met_thrice false false false false there k f g h = refl

apart : (itself there : Bool) (k : ℕ) → tells (cond (not itself) (Denied k) (cond (not there) (Denied 27) Allowed)) (cond itself 27 k)
apart true true k = refl
apart true false k = refl
apart false there k = refl

-- an empty register has no references
refers_nothing : Refers empty_register
refers_nothing = record {
  room = refl;
  numbers = are_used_back empty_register (record {
    parties = none_in_empty _;
    units = none_in_empty _;
    parcels = none_in_empty _;
    rrrs = none_in_empty _;
    sources = none_in_empty _;
    mutations = none_in_empty _;
  });
  grants = loose_from empty_register (λ g is. absurd (none_is_not_some (sym (map.get-empty grant_cmp g) ∙ is)));
  members = none_in_empty _;
  parcels = none_in_empty _;
  rrrs = none_in_empty _;
  mutations = none_in_empty _;
  mandates = no_mandates_are_tight empty_register refl;
}

-- the references of a register are valid if it is sound or empty
pub references : (at : Register) → IsSoundOrNothing at → Refers at
references at (inl sound) = refers at (sound Reference)
references at (inr none) = subst Refers (sym none) refers_nothing

module _ (at : Register) (sound : IsSoundOrNothing at) where
  -- groups with members exist
  pub group_stands : (party group : ℕ) → is_member at group party ≡ true → has at.parties group ≡ true
  group_stands party group h = found (map.get at.members group) refl h
    where
      is_there : (o : Option PartyRecord) → option_map_or (λ p. not (is_single p.kind)) o false ≡ true → is_some o ≡ true
      is_there None h = h
      is_there (Some p) h = refl

      found : (o : Option Members) → map.get at.members group ≡ o → option_map_or (λ members. has members party) o false ≡ true → has at.parties group ≡ true
      found None e h = absurd (false≢true h)
      found (Some members) e h =
          let whole = none_at nat_cmp_total nat_cmp-IsAntisymmetric (λ n m. are_dangling_members at n m) at.members group members (references at sound).members e in
          is_there (map.get at.parties group) (not-false _ (or_parts _ _ whole).0)

  -- principals exist
  principal_stands : (party number : ℕ) → list_any (nat_eq number) (principals_of at party) ≡ true → has at.parties number ≡ true
  principal_stands party number h = found (map.get at.mandates (mandate_between number party)) refl (sym (is_principal at party number) ∙ h)
    where
      is_there : (o : Option PartyRecord) → option_map_or (λ p. is_single p.kind) o false ≡ true → is_some o ≡ true
      is_there None h = h
      is_there (Some p) h = refl

      found : (o : Option (Unit {0})) → map.get at.mandates (mandate_between number party) ≡ o → is_some o ≡ true → has at.parties number ≡ true
      found None e h = absurd (false≢true h)
      found (Some u) e h =
          let tight = not-false _ (mandates_from at (references at sound).mandates (mandate_between number party) e) in
          is_there (map.get at.parties number) (and_parts _ _ (and_parts _ _ tight).0).0

  -- parties of entries exist
  pub party_stands : (caller : Caller) (party : ℕ) → is_party_in_sight at caller party ≡ true → has at.parties party ≡ true
  party_stands caller party h =
      let it = some_passes nat_cmp_total nat_cmp-IsAntisymmetric (λ n e. nat_eq e.party party && is_rrr_in_sight at caller n) at.rrrs h in
      let stands =
      none_at nat_cmp_total nat_cmp-IsAntisymmetric (λ n e. not (has at.units e.unit && has at.parties e.party && has at.sources e.source)) at.rrrs it.key it.value (references at sound).rrrs it.there in
      subst (λ (n : ℕ). has at.parties n ≡ true) (eqb-true it.value.party party (and_parts _ _ it.passes).0) (and_parts _ _ (and_parts _ _ (not-false _ stands)).0).1

  told : (party : ℕ) (role : Role) (k : Kind) (n : ℕ) → let caller : Caller = record { party = party; role = role } in first_denial (view_rules at caller k n) ≡ verdict_by_sight at caller k n
  told party Citizen kind.Party n = let caller : Caller = record { party = party; role = Citizen } in
      met_thrice (nat_eq n party) (list_any (nat_eq n) (principals_of at party)) (is_group_of at (circle_of at party) n) (is_party_in_sight at caller n) (has at.parties n) 13
      (principal_stands party n) (any_says (λ p. is_member_of at p n) (λ p. group_stands p n) (circle_of at party)) (party_stands caller n)
  told party Citizen kind.Unit n =
      related_together (is_held_by at (circle_of at party) n) (has at.units n) 11 (any_says (λ p. is_holder at p n) (λ p h. (and_parts _ _ h).0) (circle_of at party))
  told party Citizen kind.Parcel n = absent (has at.parcels n)
  told party Citizen kind.Rrr n = tested (is_visible_to_circle at (circle_of at party)) (map.get at.rrrs n) 12
  told party Citizen kind.Source n = refl
  told party Citizen kind.Mutation n = tested (names_held_by at (circle_of at party)) (map.get at.mutations n) 14
  told party Conveyancer kind.Party n = let caller : Caller = record { party = party; role = Conveyancer } in
      met (nat_eq n party) (is_party_in_sight at caller n) (has at.parties n) 21 (party_stands caller n)
  told party Conveyancer kind.Unit n = lodged (has_pending_mutation_on at party n) (has at.units n) 19
  told party Conveyancer kind.Parcel n = absent (has at.parcels n)
  told party Conveyancer kind.Rrr n = let caller : Caller = record { party = party; role = Conveyancer } in
      tested (is_visible_to_conveyancer at caller) (map.get at.rrrs n) 20
  told party Conveyancer kind.Source n = refl
  told party Conveyancer kind.Mutation n = tested (is_lodger_of party) (map.get at.mutations n) 22
  told party Notary kind.Party n = absent_itself (nat_eq n party) (has at.parties n)
  told party Notary kind.Unit n = absent (has at.units n)
  told party Notary kind.Parcel n = absent (has at.parcels n)
  told party Notary kind.Rrr n = absent (has at.rrrs n)
  told party Notary kind.Source n = absent (has at.sources n)
  told party Notary kind.Mutation n = absent (has at.mutations n)
  told party Bank kind.Party n = let caller : Caller = record { party = party; role = Bank } in
      met (nat_eq n party) (is_party_in_sight at caller n) (has at.parties n) 17 (party_stands caller n)
  told party Bank kind.Unit n = related (has at.units n) _ 15
  told party Bank kind.Parcel n = absent (has at.parcels n)
  told party Bank kind.Rrr n = let caller : Caller = record { party = party; role = Bank } in
      tested (is_visible_to_bank at caller) (map.get at.rrrs n) 16
  told party Bank kind.Source n = refl
  told party Bank kind.Mutation n = tested (is_lodger_of party) (map.get at.mutations n) 18
  told party CertifiedSurveyor kind.Party n = apart (nat_eq n party) (has at.parties n) 24
  told party CertifiedSurveyor kind.Unit n = refl
  told party CertifiedSurveyor kind.Parcel n = absent (has at.parcels n)
  told party CertifiedSurveyor kind.Rrr n = refl
  told party CertifiedSurveyor kind.Source n = refl
  told party CertifiedSurveyor kind.Mutation n = tested (is_lodger_of party) (map.get at.mutations n) 25
  told party StateAdministrator kind.Party n = absent_itself (nat_eq n party) (has at.parties n)
  told party StateAdministrator kind.Unit n = absent (has at.units n)
  told party StateAdministrator kind.Parcel n = absent (has at.parcels n)
  told party StateAdministrator kind.Rrr n = absent (has at.rrrs n)
  told party StateAdministrator kind.Source n = absent (has at.sources n)
  told party StateAdministrator kind.Mutation n = absent (has at.mutations n)

pub told_by_references : (at : Register) → IsSoundOrNothing at → (caller : Caller) (k : Kind) (n : ℕ) → first_denial (view_rules at caller k n) ≡ verdict_by_sight at caller k n
told_by_references at sound caller k n = told at sound caller.party caller.role k n

pub denials_reveal_only_sight : DenialsRevealOnlySight
denials_reveal_only_sight = told_by_references
