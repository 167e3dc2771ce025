-- The SQL statement of each lookup.
use Rattle.std.specs.Prelude.{ℕ, List}
use Rattle.land_select_queries.specs.declared.joins.own.TheConstants as own
use Rattle.land_select_queries.specs.declared.lookups.record_lookup.RecordLookup.{RecordLookup}
use Rattle.land_select_queries.specs.declared.lookups.record_lookup.RecordLookup.TheVariants as record_lookup
use Rattle.land_select_queries.specs.declared.lookups.column_lookup.ColumnLookup.{ColumnLookup}
use Rattle.land_select_queries.specs.declared.lookups.column_lookup.ColumnLookup.TheVariants as column_lookup
use Rattle.land_select_queries.specs.declared.lookups.relation.Relation.{Relation}
use Rattle.land_select_queries.specs.declared.lookups.relation.Relation.TheVariants as relation
use Rattle.land_select_queries.specs.declared.lookups.texts.TheConstants as texts

abbrev pub lookup_text : RecordLookup → List ℕ
lookup_text record_lookup.Party = texts.PARTY.now
lookup_text record_lookup.Unit = texts.UNIT.now
lookup_text record_lookup.Parcel = texts.PARCEL.now
lookup_text record_lookup.Entry = texts.ENTRY.now
lookup_text record_lookup.Source = texts.SOURCE.now
lookup_text record_lookup.Mutation = texts.MUTATION.now
lookup_text record_lookup.ParcelsOfUnit = texts.PARCELS_OF_UNIT.now
lookup_text record_lookup.EntriesOfUnit = texts.ENTRIES_OF_UNIT.now
lookup_text record_lookup.RolesOfParty = texts.ROLES_OF_PARTY.now
lookup_text record_lookup.MembersOfGroup = texts.MEMBERS_OF_GROUP.now
lookup_text record_lookup.MandatesOfAgent = texts.MANDATES_OF_AGENT.now
lookup_text record_lookup.Administrators = texts.ADMINISTRATORS.now

-- the statement of each lookup of one column
abbrev pub column_text_of : ColumnLookup → List ℕ
column_text_of column_lookup.Party = own.ITSELF.now
column_text_of column_lookup.Unit = texts.UNIT_NUMBER.now
column_text_of column_lookup.LodgerOfMutation = texts.LODGER_OF_MUTATION.now
column_text_of column_lookup.LodgersOnUnit = texts.LODGERS_ON_UNIT.now

-- the statement of each relation between a viewer and a unit
abbrev pub viewer_text_of : Relation → List ℕ
viewer_text_of relation.Holding = texts.VIEWERS_BY_HOLDING.now
viewer_text_of relation.Crediting = texts.VIEWERS_BY_CREDITING.now
viewer_text_of relation.Awaiting = texts.VIEWERS_BY_LODGING.now
