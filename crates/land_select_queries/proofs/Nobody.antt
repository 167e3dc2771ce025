-- A number that is not in use returns only what each other number returns.
use Rattle.std.proofs.Common.{◌≡◌, ◌⊎◌, inl, inr, ℕ, ℤ, [], ◌∷◌, Some, refl, subst}
use Rattle.std.specs.FinMap as map
use Rattle.land_core.specs.Laws.{SoundnessByNumber}
use Rattle.land_core.specs.declared.register.Register.{Register}
use Rattle.land_select_queries.proofs.References.{nobody_stands, refers}
use Rattle.land_select_queries.proofs.Standing.{there}
use Rattle.land_select_queries.proofs.Views.{Refers, lodger_stands, member_stands, party_exists}
use Rattle.land_select_queries.specs.Sights.{selections_of}
use Rattle.land_select_queries.specs.Sights.Laws.{IsNamedAt, OutOfRangeSeeAlike, UnreferencedSeeLeast}
use Rattle.land_select_queries.specs.Sights.Selections.{LodgedPending, Credits, Entry, HoldsItself, HoldsThrough, IsCurrentUnder, selects}
use Rattle.land_select_queries.specs.declared.sights.selection.Selection.{Selection}
use Rattle.land_select_queries.specs.declared.sights.selection.Selection.TheVariants as selection
use Rattle.land_tables_history.specs.History.{IsRegisterAt}
use Rattle.land_tables_history.specs.declared.history.History.{History}

module _ (t : ℤ) (h : History) (p : ℕ) where
  holds : (e : Entry) → HoldsItself t h p e → IsNamedAt t h p
  holds e it = inr (inr (inl (e, it.stands, it.party)))

  through : (e : Entry) → HoldsThrough t h p e → IsNamedAt t h p
  through e it = inr (inl (it.joined, it.joined_stands, it.member))

  credits : (e : Entry) → Credits t h p e → IsNamedAt t h p
  credits e it = inr (inr (inl (e, it.stands, it.party)))

  awaits : (unit : ℕ) → LodgedPending t h p unit → IsNamedAt t h p
  awaits unit it = inr (inr (inr (it.mutation, it.mutation_stands, it.lodger)))

  -- a selected number is selected for all, or for a party in use
  given : (s : Selection) (n : ℕ) → selects s t h p n → ((other : ℕ) → selects s t h other n) ⊎ IsNamedAt t h p
  given (selection.All k) n it = inl (λ other. it)
  given selection.UnendedUnits n it = inl (λ other. it)
  given selection.UnendedParcels n it = inl (λ other. it)
  given selection.Itself n it = inr (inl (it.0, it.1, it.2))
  given selection.ItsGroups n it = inr (inr (inl (it.0, it.1, it.2)))
  given selection.ItsLodgings n it = inr (inr (inr (inr (it.0, it.1, it.2))))
  given selection.HeldUnits n it = inr (holds it.0 it.1)
  given selection.GroupUnits n it = inr (through it.0 it.1)
  given selection.HeldEntries n it = inr (holds it.1.held it.1.interest)
  given selection.GroupEntries n it = inr (through it.1.held it.1.interest)
  given selection.HeldParties n it = inr (holds it.1.held it.1.interest)
  given selection.GroupParties n it = inr (through it.1.held it.1.interest)
  given selection.HeldMutations n it = inr (holds it.1.held it.1.interest)
  given selection.GroupMutations n it = inr (through it.1.held it.1.interest)
  given selection.CreditUnits n it = inr (credits it.0 it.1)
  given selection.CreditEntries n it = inr (credits it.1.held it.1.interest)
  given selection.CreditParties n it = inr (credits it.1.held it.1.interest)
  given selection.LodgedUnits n it = inr (awaits it.0.0 it.2)
  given selection.LodgedEntries n it = inr (awaits it.0.1.unit it.1.awaits)
  given selection.LodgedParties n it = inr (awaits it.0.1.unit it.1.awaits)

pub unnamed_alike : UnreferencedSeeLeast
unnamed_alike t h p unnamed [] other n it = it
unnamed_alike t h p unnamed (s ∷ ss) other n (inl it) = elim (given t h p s n it) [ inl all ↦ inl (all other) | inr named ↦ absurd (unnamed named) ]
unnamed_alike t h p unnamed (s ∷ ss) other n (inr more) = inr (unnamed_alike t h p unnamed ss other n more)

-- a number in use exists as a party
named_stands : (r : Register) (t : ℤ) (h : History) → IsRegisterAt t h r → Refers r → (p : ℕ) → IsNamedAt t h p → IsCurrentUnder t h.parties p
named_stands r t h is refers p (inl it) = it
named_stands r t h is refers p (inr (inl it)) = member_stands r t h is refers p it.0.group p (it.0, it.1, refl, it.2)
named_stands r t h is refers p (inr (inr (inl it))) = subst (IsCurrentUnder t h.parties) it.2 (party_exists r t h is refers p it.0 it.1)
named_stands r t h is refers p (inr (inr (inr it))) = subst (IsCurrentUnder t h.parties) it.2 (lodger_stands r t h is refers p it.0 it.1)

pub nobodies_alike : SoundnessByNumber → UnreferencedSeeLeast → OutOfRangeSeeAlike
nobodies_alike look_ups alike r h t premise stands party other nobody none role k n it =
    alike t h party
    (λ named.
    let here = named_stands r t h stands (refers look_ups r premise) party named in
    let got : map.get r.parties party ≡ Some here.0.1 = subst (λ i. map.get r.parties i ≡ Some here.0.1) here.2 (there t h.parties r.parties stands.parties here.0 here.1) in
    nobody_stands look_ups r premise party here.0.1 nobody got)
    (selections_of role k) other n it
