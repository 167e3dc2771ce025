-- The result of a lookup, by the contents of its table's rows.
use Rattle.std.specs.List.{Contains}
use Rattle.std.specs.Prelude.{◌≡◌, ◌≢◌, ℕ, ℤ, Bool, ◌&&◌, nat_eq, List, [], filter, map, IsPermutation}
use Rattle.std.specs.Prelude.{Option, Some, None, Result, Ok}
use Rattle.land_core.specs.Mutations.{is_lodged_as}
use Rattle.land_core.specs.Role.{is_role}
use Rattle.land_core.specs.declared.mandates.Mandate.{Mandate}
use Rattle.land_core.specs.declared.mutation.MutationRecord.{MutationRecord}
use Rattle.land_core.specs.declared.parcel.ParcelRecord.{ParcelRecord}
use Rattle.land_core.specs.declared.party.PartyRecord.{PartyRecord}
use Rattle.land_core.specs.declared.role.Role.TheVariants.{StateAdministrator}
use Rattle.land_core.specs.declared.roles.Grant.{Grant}
use Rattle.land_core.specs.declared.rrr.RrrRecord.{RrrRecord}
use Rattle.land_core.specs.declared.source.SourceRecord.{SourceRecord}
use Rattle.land_core.specs.declared.unit.UnitRecord.{UnitRecord}
use Rattle.land_select_queries.specs.declared.lookups.record_lookup.RecordLookup.{RecordLookup}
use Rattle.land_select_queries.specs.declared.lookups.record_lookup.RecordLookup.TheVariants as record_lookup
use Rattle.land_tables_history.specs.Standing.{is_current}
use Rattle.land_tables_history.specs.declared.group_member.GroupMember.{GroupMember}
use Rattle.land_tables_history.specs.declared.version.Version.{Version}
use Rattle.land_tables_rows.specs.Listing.Reading.{Listing, Says, mandates, members, mutations, parcels}
use Rattle.land_tables_rows.specs.Listing.Reading.{parties, roles, rrrs, sources, units}
use Rattle.land_tables_rows.specs.Reading.Readings.{each_row}
use Rattle.land_tables_rows.specs.declared.listing.fault.ReadFault.{ReadFault}
use Rattle.land_tables_rows.specs.declared.listing.fault.ReadFault.TheVariants.{Unreadable}
use Rattle.land_wire_json.specs.declared.bodies.wire_fault.WireFault.{WireFault}
use Rattle.sqlite_trees.specs.Tree.{Trees}
use Rattle.sqlite_value.specs.Order.{Row}

-- the type of the records that a lookup returns
abbrev pub LookupItem : RecordLookup → Type 0
LookupItem record_lookup.Party = ℕ × PartyRecord
LookupItem record_lookup.Unit = ℕ × UnitRecord
LookupItem record_lookup.Parcel = ℕ × ParcelRecord
LookupItem record_lookup.Entry = ℕ × RrrRecord
LookupItem record_lookup.Source = ℕ × SourceRecord
LookupItem record_lookup.Mutation = ℕ × MutationRecord
LookupItem record_lookup.ParcelsOfUnit = ℕ × ParcelRecord
LookupItem record_lookup.EntriesOfUnit = ℕ × RrrRecord
LookupItem record_lookup.RolesOfParty = Grant
LookupItem record_lookup.MembersOfGroup = GroupMember
LookupItem record_lookup.MandatesOfAgent = Mandate
LookupItem record_lookup.Administrators = Grant

-- the table of a lookup, with the decoder of its rows
abbrev pub listing_of : (l : RecordLookup) → Listing (Version (LookupItem l))
listing_of record_lookup.Party = parties
listing_of record_lookup.Unit = units
listing_of record_lookup.Parcel = parcels
listing_of record_lookup.Entry = rrrs
listing_of record_lookup.Source = sources
listing_of record_lookup.Mutation = mutations
listing_of record_lookup.ParcelsOfUnit = parcels
listing_of record_lookup.EntriesOfUnit = rrrs
listing_of record_lookup.RolesOfParty = roles
listing_of record_lookup.MembersOfGroup = members
listing_of record_lookup.MandatesOfAgent = mandates
listing_of record_lookup.Administrators = roles

-- whether a record matches the given number
abbrev pub is_meant : (l : RecordLookup) → (number : ℕ) → LookupItem l → Bool
is_meant record_lookup.Party number party = nat_eq party.0 number
is_meant record_lookup.Unit number unit = nat_eq unit.0 number
is_meant record_lookup.Parcel number parcel = nat_eq parcel.0 number
is_meant record_lookup.Entry number entry = nat_eq entry.0 number
is_meant record_lookup.Source number source = nat_eq source.0 number
is_meant record_lookup.Mutation number mutation = nat_eq mutation.0 number
is_meant record_lookup.ParcelsOfUnit number parcel = nat_eq parcel.1.unit number
is_meant record_lookup.EntriesOfUnit number entry = nat_eq entry.1.unit number
is_meant record_lookup.RolesOfParty number grant = nat_eq grant.party number
is_meant record_lookup.MembersOfGroup number joined = nat_eq joined.group number
is_meant record_lookup.MandatesOfAgent number mandate = nat_eq mandate.agent number
is_meant record_lookup.Administrators number grant = is_role grant.role StateAdministrator

-- the versions that are valid at time t and match
abbrev pub matching_versions : {X : Type 0} → (X → Bool) → (t : ℤ) → List (Version X) → List (Version X)
matching_versions meant t versions = filter (λ v. is_current t v && meant v.what) versions

-- If the rows of a table decode to some versions, these rows decode to those of them that are valid at time t
-- and match, in any order.
abbrev pub AreMatchingRows : {X : Type 0} → Listing (Version X) → (X → Bool) → (t : ℤ) → Trees → List Row
    → Type 0
AreMatchingRows {X} listing meant t db rows = (versions : List (Version X)) → Says listing db versions
    → IsPermutation (map listing.said rows) (map (λ v. Ok v) (matching_versions meant t versions))

-- the rows that a lookup returns for a number at a time
abbrev pub AreRowsOf : RecordLookup → (number : ℕ) → (t : ℤ) → Trees → List Row → Type 0
AreRowsOf l number t db rows = AreMatchingRows (listing_of l) (is_meant l number) t db rows

-- the rows of the mutation that a party lodged with a reference
abbrev pub AreLodgedRows : (lodger : ℕ) → (reference : List ℕ) → (t : ℤ) → Trees → List Row → Type 0
AreLodgedRows lodger reference t db rows =
    AreMatchingRows mutations (λ mutation. is_lodged_as lodger reference mutation.1) t db rows

-- the rows, of the given kind, decode to this list
abbrev pub AreReadFrom : {X : Type 0} → (Row → Result X WireFault) → (List Row → Type 0) → List X → Type 0
AreReadFrom said Are xs = (rows : List Row) × Are rows × (each_row said rows ≡ Ok xs)

-- A fault says that rows are unreadable only if some rows of the given kind do not decode.
abbrev pub CannotBeRead : {X : Type 0} → (Row → Result X WireFault) → (List Row → Type 0) → ReadFault → Type 0
CannotBeRead {X} said Are fault = fault ≡ Unreadable → (rows : List Row) × Are rows
    × ((xs : List X) → each_row said rows ≢ Ok xs)

-- the same two for the rows that a lookup returns for a number
abbrev pub AreReadByLookup : {X : Type 0} → (Row → Result X WireFault) → RecordLookup → (number : ℕ) → (t : ℤ)
    → Trees
    → List X → Type 0
AreReadByLookup said l number t db xs = AreReadFrom said (AreRowsOf l number t db) xs

abbrev pub LookupCannotBeRead : {X : Type 0} → (Row → Result X WireFault) → RecordLookup → (number : ℕ)
    → (t : ℤ) → Trees
    → ReadFault → Type 0
LookupCannotBeRead said l number t db fault = CannotBeRead said (AreRowsOf l number t db) fault

-- the record of one of the versions, or `None` if there are none
abbrev pub IsValueOfOne : {V : Type 0} → List (Version (ℕ × V)) → Option V → Type 0
IsValueOfOne versions None = versions ≡ []
IsValueOfOne {V} versions (Some value) =
    (version : Version (ℕ × V)) × Contains versions version × (version.what.1 ≡ value)
