-- The SQL statement of each selection.
use Rattle.std.specs.Prelude.{ℕ, List}
use Rattle.land_core.specs.declared.kind.Kind.{Kind}
use Rattle.land_core.specs.declared.kind.Kind.TheVariants as kind
use Rattle.land_select_queries.specs.declared.joins.all.TheConstants as all
use Rattle.land_select_queries.specs.declared.joins.creditor.TheConstants as creditor
use Rattle.land_select_queries.specs.declared.joins.group.TheConstants as group
use Rattle.land_select_queries.specs.declared.joins.holder.TheConstants as holder
use Rattle.land_select_queries.specs.declared.joins.lodger.TheConstants as lodger
use Rattle.land_select_queries.specs.declared.joins.named.TheConstants as named
use Rattle.land_select_queries.specs.declared.joins.own.TheConstants as own
use Rattle.land_select_queries.specs.declared.sights.selection.Selection.{Selection}
use Rattle.land_select_queries.specs.declared.sights.selection.Selection.TheVariants as selection

-- the statement that selects all objects of a kind
abbrev pub all_text : Kind → List ℕ
all_text kind.Party = all.PARTIES.now
all_text kind.Unit = all.UNITS.now
all_text kind.Parcel = all.PARCELS.now
all_text kind.Rrr = all.ENTRIES.now
all_text kind.Source = all.SOURCES.now
all_text kind.Mutation = all.MUTATIONS.now

abbrev pub selection_text : Selection → List ℕ
selection_text (selection.All kind) = all_text kind
selection_text selection.UnendedUnits = all.UNENDED_UNITS.now
selection_text selection.UnendedParcels = all.UNENDED_PARCELS.now
selection_text selection.Itself = own.ITSELF.now
selection_text selection.ItsGroups = own.GROUPS.now
selection_text selection.ItsLodgings = own.LODGINGS.now
selection_text selection.HeldUnits = holder.UNITS.now
selection_text selection.GroupUnits = group.UNITS.now
selection_text selection.HeldEntries = holder.ENTRIES.now
selection_text selection.GroupEntries = group.ENTRIES.now
selection_text selection.HeldParties = holder.PARTIES.now
selection_text selection.GroupParties = group.PARTIES.now
selection_text selection.HeldMutations = named.HELD.now
selection_text selection.GroupMutations = named.THROUGH.now
selection_text selection.CreditUnits = creditor.UNITS.now
selection_text selection.CreditEntries = creditor.ENTRIES.now
selection_text selection.CreditParties = creditor.PARTIES.now
selection_text selection.LodgedUnits = lodger.UNITS.now
selection_text selection.LodgedEntries = lodger.ENTRIES.now
selection_text selection.LodgedParties = lodger.PARTIES.now
