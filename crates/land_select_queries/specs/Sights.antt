-- The selections whose union is the sight of a role, for each kind.
pub mod Laws
pub mod Selections
use Rattle.std.specs.Prelude.{◌⊎◌, ℕ, ℤ, List, [], ◌∷◌}
use Rattle.land_core.specs.declared.kind.Kind.{Kind}
use Rattle.land_core.specs.declared.kind.Kind.TheVariants as kind
use Rattle.land_core.specs.declared.role.Role.{Role}
use Rattle.land_core.specs.declared.role.Role.TheVariants.{Citizen, Conveyancer, Notary, Bank}
use Rattle.land_core.specs.declared.role.Role.TheVariants.{CertifiedSurveyor, StateAdministrator}
use Rattle.land_select_queries.specs.Sights.Selections.{selects}
use Rattle.land_select_queries.specs.declared.sights.selection.Selection.{Selection}
use Rattle.land_select_queries.specs.declared.sights.selection.Selection.TheVariants.{All, Itself, ItsGroups}
use Rattle.land_select_queries.specs.declared.sights.selection.Selection.TheVariants.{ItsLodgings, HeldUnits}
use Rattle.land_select_queries.specs.declared.sights.selection.Selection.TheVariants.{GroupUnits, HeldEntries}
use Rattle.land_select_queries.specs.declared.sights.selection.Selection.TheVariants.{GroupEntries}
use Rattle.land_select_queries.specs.declared.sights.selection.Selection.TheVariants.{HeldParties}
use Rattle.land_select_queries.specs.declared.sights.selection.Selection.TheVariants.{GroupParties}
use Rattle.land_select_queries.specs.declared.sights.selection.Selection.TheVariants.{HeldMutations}
use Rattle.land_select_queries.specs.declared.sights.selection.Selection.TheVariants.{GroupMutations}
use Rattle.land_select_queries.specs.declared.sights.selection.Selection.TheVariants.{CreditUnits}
use Rattle.land_select_queries.specs.declared.sights.selection.Selection.TheVariants.{CreditEntries}
use Rattle.land_select_queries.specs.declared.sights.selection.Selection.TheVariants.{CreditParties}
use Rattle.land_select_queries.specs.declared.sights.selection.Selection.TheVariants.{LodgedUnits}
use Rattle.land_select_queries.specs.declared.sights.selection.Selection.TheVariants.{LodgedEntries}
use Rattle.land_select_queries.specs.declared.sights.selection.Selection.TheVariants.{LodgedParties}
use Rattle.land_tables_history.specs.declared.history.History.{History}

-- The selections of a role and a kind. A citizen sees by the rights that it holds, itself or through a group;
-- a bank by its mortgages; a conveyancer by its pending mutations. Conveyancers, banks and surveyors see the
-- mutations that they lodged. Notaries and state administrators see everything, and all roles see all
-- parcels.
abbrev pub selections_of : Role → Kind → List Selection
selections_of Citizen kind.Party = Itself ∷ ItsGroups ∷ HeldParties ∷ GroupParties ∷ []
selections_of Citizen kind.Unit = HeldUnits ∷ GroupUnits ∷ []
selections_of Citizen kind.Parcel = All kind.Parcel ∷ []
selections_of Citizen kind.Rrr = HeldEntries ∷ GroupEntries ∷ []
selections_of Citizen kind.Source = []
selections_of Citizen kind.Mutation = HeldMutations ∷ GroupMutations ∷ []
selections_of Conveyancer kind.Party = Itself ∷ LodgedParties ∷ []
selections_of Conveyancer kind.Unit = LodgedUnits ∷ []
selections_of Conveyancer kind.Parcel = All kind.Parcel ∷ []
selections_of Conveyancer kind.Rrr = LodgedEntries ∷ []
selections_of Conveyancer kind.Source = []
selections_of Conveyancer kind.Mutation = ItsLodgings ∷ []
selections_of Notary k = All k ∷ []
selections_of Bank kind.Party = Itself ∷ CreditParties ∷ []
selections_of Bank kind.Unit = CreditUnits ∷ []
selections_of Bank kind.Parcel = All kind.Parcel ∷ []
selections_of Bank kind.Rrr = CreditEntries ∷ []
selections_of Bank kind.Source = []
selections_of Bank kind.Mutation = ItsLodgings ∷ []
selections_of CertifiedSurveyor kind.Party = Itself ∷ []
selections_of CertifiedSurveyor kind.Unit = []
selections_of CertifiedSurveyor kind.Parcel = All kind.Parcel ∷ []
selections_of CertifiedSurveyor kind.Rrr = []
selections_of CertifiedSurveyor kind.Source = []
selections_of CertifiedSurveyor kind.Mutation = ItsLodgings ∷ []
selections_of StateAdministrator k = All k ∷ []

-- at least one of these selections returns the number for the caller
abbrev pub AnySelects : List Selection → (t : ℤ) → History → (caller number : ℕ) → Type 0
AnySelects [] t h caller number = ⊥
AnySelects (s ∷ ss) t h caller number = selects s t h caller number ⊎ AnySelects ss t h caller number
