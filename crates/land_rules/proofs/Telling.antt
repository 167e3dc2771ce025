-- The visibility of an object decides the verdict on its view.
use Rattle.std.proofs.Common.{◌≡◌, ℕ, Bool, true, false, not, [], ◌∷◌, Option, Some, None, is_some, cond, nat_eq, refl, ◌∙◌}
use Rattle.std.proofs.lemmas.Bool.{false≢true}
use Rattle.std.specs.FinMap as map
use Rattle.std.specs.Option.{option_map_or}
use Rattle.land_core.specs.Register.{stands}
use Rattle.land_core.specs.declared.caller.Caller.{Caller}
use Rattle.land_core.specs.declared.kind.Kind.{Kind}
use Rattle.land_core.specs.declared.kind.Kind.TheVariants as kind
use Rattle.land_core.specs.declared.mutation.MutationRecord.{MutationRecord}
use Rattle.land_core.specs.declared.register.Register.{Register}
use Rattle.land_core.specs.declared.role.Role.{Role}
use Rattle.land_core.specs.declared.role.Role.TheVariants as roles
use Rattle.land_rules.specs.Denials.Sight.{FullSightShowsAll, LodgersSeeTheirOwn, SightDecidesVerdicts, sees_all, sees_own_lodgings, verdict_given_sight}
use Rattle.land_rules.specs.Laws.{DenialsRevealOnlySight, verdict_by_sight}
use Rattle.land_rules.specs.Relations.{has_lodged, is_lodger_of, has_pending_mutation_on}
use Rattle.land_rules.specs.Rules.{first_denial, is_allowed, sees}
use Rattle.land_rules.specs.declared.verdict.Verdict.TheVariants.{Allowed, Denied}

told_same : (at : Register) (caller : Caller) (k : Kind) (number : ℕ)
    → verdict_by_sight at caller k number ≡ verdict_given_sight (sees at caller k number) (has_pending_mutation_on at caller.party number) caller k number
told_same at caller kind.Party number = refl
told_same at caller kind.Unit number = refl
told_same at caller kind.Parcel number = refl
told_same at caller kind.Rrr number = refl
told_same at caller kind.Source number = refl
told_same at caller kind.Mutation number = refl

pub sight_decides_verdicts : DenialsRevealOnlySight → SightDecidesVerdicts
sight_decides_verdicts law at sound caller k number = law at sound caller k number ∙ told_same at caller k number

-- only rule 27 denies: the object does not exist
last : (stood : Bool) → is_allowed (first_denial ((27, not stood) ∷ [])) ≡ stood
last true = refl
last false = refl

seen_by : (at : Register) (party : ℕ) (role : Role) (k : Kind) (number : ℕ) → sees_all role k ≡ true
    → sees at (record { party = party; role = role }) k number ≡ stands at k number
seen_by at party roles.Notary kind.Party number h = last (stands at kind.Party number)
seen_by at party roles.Notary kind.Unit number h = last (stands at kind.Unit number)
seen_by at party roles.Notary kind.Rrr number h = last (stands at kind.Rrr number)
seen_by at party roles.Notary kind.Source number h = last (stands at kind.Source number)
seen_by at party roles.Notary kind.Mutation number h = last (stands at kind.Mutation number)
seen_by at party roles.StateAdministrator kind.Party number h = last (stands at kind.Party number)
seen_by at party roles.StateAdministrator kind.Unit number h = last (stands at kind.Unit number)
seen_by at party roles.StateAdministrator kind.Rrr number h = last (stands at kind.Rrr number)
seen_by at party roles.StateAdministrator kind.Source number h = last (stands at kind.Source number)
seen_by at party roles.StateAdministrator kind.Mutation number h = last (stands at kind.Mutation number)
seen_by at party role kind.Parcel number h = last (stands at kind.Parcel number)
seen_by at party roles.Citizen kind.Party number h = absurd (false≢true h)
seen_by at party roles.Citizen kind.Unit number h = absurd (false≢true h)
seen_by at party roles.Citizen kind.Rrr number h = absurd (false≢true h)
seen_by at party roles.Citizen kind.Source number h = absurd (false≢true h)
seen_by at party roles.Citizen kind.Mutation number h = absurd (false≢true h)
seen_by at party roles.Conveyancer kind.Party number h = absurd (false≢true h)
seen_by at party roles.Conveyancer kind.Unit number h = absurd (false≢true h)
seen_by at party roles.Conveyancer kind.Rrr number h = absurd (false≢true h)
seen_by at party roles.Conveyancer kind.Source number h = absurd (false≢true h)
seen_by at party roles.Conveyancer kind.Mutation number h = absurd (false≢true h)
seen_by at party roles.Bank kind.Party number h = absurd (false≢true h)
seen_by at party roles.Bank kind.Unit number h = absurd (false≢true h)
seen_by at party roles.Bank kind.Rrr number h = absurd (false≢true h)
seen_by at party roles.Bank kind.Source number h = absurd (false≢true h)
seen_by at party roles.Bank kind.Mutation number h = absurd (false≢true h)
seen_by at party roles.CertifiedSurveyor kind.Party number h = absurd (false≢true h)
seen_by at party roles.CertifiedSurveyor kind.Unit number h = absurd (false≢true h)
seen_by at party roles.CertifiedSurveyor kind.Rrr number h = absurd (false≢true h)
seen_by at party roles.CertifiedSurveyor kind.Source number h = absurd (false≢true h)
seen_by at party roles.CertifiedSurveyor kind.Mutation number h = absurd (false≢true h)

pub full_sight_shows_all : FullSightShowsAll
full_sight_shows_all at caller k number h = seen_by at caller.party caller.role k number h

-- a rule of another role does not deny, and rule 27 denies a missing object
its_own : (number party : ℕ) (found : Option MutationRecord)
    → is_allowed (cond (not (option_map_or (is_lodger_of party) found false)) (Denied number) (cond (not (is_some found)) (Denied 27) Allowed)) ≡ option_map_or (is_lodger_of party) found false
its_own number party None = refl
its_own number party (Some m) = go (nat_eq m.lodger party)
  where
    go : (b : Bool) → is_allowed (cond (not b) (Denied number) Allowed) ≡ b
    go true = refl
    go false = refl

lodged_by : (at : Register) (party : ℕ) (role : Role) (k : Kind) (number : ℕ) → sees_own_lodgings role k ≡ true
    → sees at (record { party = party; role = role }) k number ≡ has_lodged at party number
lodged_by at party roles.Bank kind.Mutation number h = its_own 18 party (map.get at.mutations number)
lodged_by at party roles.Conveyancer kind.Mutation number h = its_own 22 party (map.get at.mutations number)
lodged_by at party roles.CertifiedSurveyor kind.Mutation number h = its_own 25 party (map.get at.mutations number)
lodged_by at party roles.Citizen kind.Mutation number h = absurd (false≢true h)
lodged_by at party roles.Notary kind.Mutation number h = absurd (false≢true h)
lodged_by at party roles.StateAdministrator kind.Mutation number h = absurd (false≢true h)
lodged_by at party role kind.Party number h = absurd (false≢true h)
lodged_by at party role kind.Unit number h = absurd (false≢true h)
lodged_by at party role kind.Parcel number h = absurd (false≢true h)
lodged_by at party role kind.Rrr number h = absurd (false≢true h)
lodged_by at party role kind.Source number h = absurd (false≢true h)

pub lodgers_see_their_own : LodgersSeeTheirOwn
lodgers_see_their_own at caller k number h = lodged_by at caller.party caller.role k number h
