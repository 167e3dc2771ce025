-- Each statement as a query of one table.
use Rattle.std.proofs.Common.{◌≡◌, ◌&&◌, ℕ, ℤ, List, [], ◌∷◌, codes, Ok, refl}
use Rattle.land_select_queries.proofs.Joined.{Asks}
use Rattle.land_select_queries.proofs.Known.{caller, same, still, word}
use Rattle.land_select_queries.proofs.Places.{mandates, members, mutations, parcels, parties, roles, rrrs, shows, sources, units}
use Rattle.land_select_queries.proofs.Tested.{by_number, by_role, decides}
use Rattle.land_select_queries.specs.Joins.Meaning.{query_parameters}
use Rattle.land_select_queries.specs.Joins.Execution.{known_or_zero}
use Rattle.land_select_queries.specs.Lookups.RecordRows.{LookupItem, is_meant, listing_of}
use Rattle.land_select_queries.specs.Lookups.Texts.{lookup_text}
use Rattle.land_select_queries.specs.declared.lookups.record_lookup.RecordLookup.{RecordLookup}
use Rattle.land_select_queries.specs.declared.lookups.record_lookup.RecordLookup.TheVariants as record_lookup
use Rattle.land_tables_history.specs.Standing.{is_current}
use Rattle.land_tables_history.specs.declared.version.Version.{Version}
use Rattle.land_tables_schema.proofs.Updates.{passes, plainly}
use Rattle.land_tables_schema.proofs.Versions.{columns_of}
use Rattle.land_tables_schema.specs.Schemas.{schema_v2_with}
use Rattle.sqlite.specs.Listing.{understood}
use Rattle.sqlite.specs.Program.{overlay}
use Rattle.sqlite.specs.Query.{Query}
use Rattle.sqlite.specs.Term.{Term, col, eval_all}
use Rattle.sqlite_schema.specs.declared.schema.Index.{Index}
use Rattle.sqlite_tied.specs.Compute.{everything}
use Rattle.sqlite_trees.specs.Tree.{Trees}
use Rattle.sqlite_value.specs.Order.{Row}

-- the tests of WHERE: the key and the lifespan
abbrev pub filter_of : RecordLookup → List Term
filter_of record_lookup.Party = same (col 1 1) caller ∷ still 1 4
filter_of record_lookup.Unit = same (col 1 1) caller ∷ still 1 4
filter_of record_lookup.Parcel = same (col 1 1) caller ∷ still 1 6
filter_of record_lookup.Entry = same (col 1 1) caller ∷ still 1 12
filter_of record_lookup.Source = same (col 1 1) caller ∷ still 1 4
filter_of record_lookup.Mutation = same (col 1 1) caller ∷ still 1 9
filter_of record_lookup.ParcelsOfUnit = same (col 1 2) caller ∷ still 1 6
filter_of record_lookup.EntriesOfUnit = same (col 1 2) caller ∷ still 1 12
filter_of record_lookup.RolesOfParty = same (col 1 1) caller ∷ still 1 3
filter_of record_lookup.MembersOfGroup = same (col 1 1) caller ∷ still 1 5
filter_of record_lookup.MandatesOfAgent = same (col 1 2) caller ∷ still 1 3
filter_of record_lookup.Administrators = word (col 1 2) (codes "stateAdministrator") ∷ still 1 3

-- the columns of the result
abbrev pub project_of : RecordLookup → List Term
project_of record_lookup.Party = columns_of 1 1 5
project_of record_lookup.Unit = columns_of 1 1 5
project_of record_lookup.Parcel = columns_of 1 1 7
project_of record_lookup.Entry = columns_of 1 1 13
project_of record_lookup.Source = columns_of 1 1 5
project_of record_lookup.Mutation = columns_of 1 1 10
project_of record_lookup.ParcelsOfUnit = columns_of 1 1 7
project_of record_lookup.EntriesOfUnit = columns_of 1 1 13
project_of record_lookup.RolesOfParty = columns_of 1 1 4
project_of record_lookup.MembersOfGroup = columns_of 1 1 6
project_of record_lookup.MandatesOfAgent = columns_of 1 1 4
project_of record_lookup.Administrators = columns_of 1 1 4

abbrev pub query_of : RecordLookup → Query
query_of l = plainly (listing_of l).table.tree (filter_of l) (project_of l)

-- each statement is exactly its query
pub asks : (l : RecordLookup) (indexes : List Index) → Asks (schema_v2_with indexes) (lookup_text l) (query_of l)
unfolding understood everything
asks record_lookup.Party indexes = record { names = codes "number" ∷ codes "name" ∷ codes "kind" ∷ codes "since" ∷ codes "until" ∷ []; command = refl; unlisted = refl; plain = (refl, refl) }
asks record_lookup.Unit indexes = record { names = codes "number" ∷ codes "name" ∷ codes "checked" ∷ codes "since" ∷ codes "until" ∷ []; command = refl; unlisted = refl; plain = (refl, refl) }
asks record_lookup.Parcel indexes = record { names = codes "number" ∷ codes "unit" ∷ codes "label" ∷ codes "outline" ∷ codes "source" ∷ codes "since" ∷ codes "until" ∷ []; command = refl; unlisted = refl; plain = (refl, refl) }
asks record_lookup.Entry indexes = record { names = codes "number" ∷ codes "unit" ∷ codes "party" ∷ codes "class" ∷ codes "num" ∷ codes "den" ∷ codes "amount" ∷ codes "currency" ∷ codes "place" ∷ codes "words" ∷ codes "source" ∷ codes "since" ∷ codes "until" ∷ []; command = refl; unlisted = refl; plain = (refl, refl) }
asks record_lookup.Source indexes = record { names = codes "number" ∷ codes "kind" ∷ codes "title" ∷ codes "since" ∷ codes "until" ∷ []; command = refl; unlisted = refl; plain = (refl, refl) }
asks record_lookup.Mutation indexes = record { names = codes "number" ∷ codes "lodger" ∷ codes "reference" ∷ codes "source" ∷ codes "lodged" ∷ codes "act" ∷ codes "content" ∷ codes "state" ∷ codes "since" ∷ codes "until" ∷ []; command = refl; unlisted = refl; plain = (refl, refl) }
asks record_lookup.ParcelsOfUnit indexes = record { names = codes "number" ∷ codes "unit" ∷ codes "label" ∷ codes "outline" ∷ codes "source" ∷ codes "since" ∷ codes "until" ∷ []; command = refl; unlisted = refl; plain = (refl, refl) }
asks record_lookup.EntriesOfUnit indexes = record { names = codes "number" ∷ codes "unit" ∷ codes "party" ∷ codes "class" ∷ codes "num" ∷ codes "den" ∷ codes "amount" ∷ codes "currency" ∷ codes "place" ∷ codes "words" ∷ codes "source" ∷ codes "since" ∷ codes "until" ∷ []; command = refl; unlisted = refl; plain = (refl, refl) }
asks record_lookup.RolesOfParty indexes = record { names = codes "party" ∷ codes "role" ∷ codes "since" ∷ codes "until" ∷ []; command = refl; unlisted = refl; plain = (refl, refl) }
asks record_lookup.MembersOfGroup indexes = record { names = codes "grp" ∷ codes "party" ∷ codes "num" ∷ codes "den" ∷ codes "since" ∷ codes "until" ∷ []; command = refl; unlisted = refl; plain = (refl, refl) }
asks record_lookup.MandatesOfAgent indexes = record { names = codes "principal" ∷ codes "agent" ∷ codes "since" ∷ codes "until" ∷ []; command = refl; unlisted = refl; plain = (refl, refl) }
asks record_lookup.Administrators indexes = record { names = codes "party" ∷ codes "role" ∷ codes "since" ∷ codes "until" ∷ []; command = refl; unlisted = refl; plain = (refl, refl) }

-- a query reads the rows of its table
pub stored : (l : RecordLookup) (db : Trees) → overlay db [] (listing_of l).table.tree ≡ db (listing_of l).table.tree
stored record_lookup.Party db = refl
stored record_lookup.Unit db = refl
stored record_lookup.Parcel db = refl
stored record_lookup.Entry db = refl
stored record_lookup.Source db = refl
stored record_lookup.Mutation db = refl
stored record_lookup.ParcelsOfUnit db = refl
stored record_lookup.EntriesOfUnit db = refl
stored record_lookup.RolesOfParty db = refl
stored record_lookup.MembersOfGroup db = refl
stored record_lookup.MandatesOfAgent db = refl
stored record_lookup.Administrators db = refl

-- and returns the columns of a row that are decoded
pub shown : (l : RecordLookup) (params r : Row) → eval_all (project_of l) (params ∷ r ∷ []) ≡ (listing_of l).shown r
shown record_lookup.Party params r = refl
shown record_lookup.Unit params r = refl
shown record_lookup.Parcel params r = refl
shown record_lookup.Entry params r = refl
shown record_lookup.Source params r = refl
shown record_lookup.Mutation params r = refl
shown record_lookup.ParcelsOfUnit params r = refl
shown record_lookup.EntriesOfUnit params r = refl
shown record_lookup.RolesOfParty params r = refl
shown record_lookup.MembersOfGroup params r = refl
shown record_lookup.MandatesOfAgent params r = refl
shown record_lookup.Administrators params r = refl

-- a row of a version passes if the version is current and matches
pub tests : (l : RecordLookup) (r : Row) (v : Version (LookupItem l)) → (listing_of l).said ((listing_of l).shown r) ≡ Ok v → (number : ℕ) (t : ℤ)
    → passes (filter_of l) (query_parameters (known_or_zero number) t) r ≡ (is_current t v && is_meant l number v.what)
tests record_lookup.Party r v e number t =
    by_number (passes (filter_of record_lookup.Party) (query_parameters (known_or_zero number) t) r) v.what.0 number t v.since v.until (shows parties r v e).1 (decides parties r v e (known_or_zero number) t (filter_of record_lookup.Party) refl)
tests record_lookup.Unit r v e number t =
    by_number (passes (filter_of record_lookup.Unit) (query_parameters (known_or_zero number) t) r) v.what.0 number t v.since v.until (shows units r v e).1 (decides units r v e (known_or_zero number) t (filter_of record_lookup.Unit) refl)
tests record_lookup.Parcel r v e number t =
    by_number (passes (filter_of record_lookup.Parcel) (query_parameters (known_or_zero number) t) r) v.what.0 number t v.since v.until (shows parcels r v e).1.0 (decides parcels r v e (known_or_zero number) t (filter_of record_lookup.Parcel) refl)
tests record_lookup.Entry r v e number t =
    by_number (passes (filter_of record_lookup.Entry) (query_parameters (known_or_zero number) t) r) v.what.0 number t v.since v.until (shows rrrs r v e).1.1 (decides rrrs r v e (known_or_zero number) t (filter_of record_lookup.Entry) refl)
tests record_lookup.Source r v e number t =
    by_number (passes (filter_of record_lookup.Source) (query_parameters (known_or_zero number) t) r) v.what.0 number t v.since v.until (shows sources r v e).1 (decides sources r v e (known_or_zero number) t (filter_of record_lookup.Source) refl)
tests record_lookup.Mutation r v e number t =
    by_number (passes (filter_of record_lookup.Mutation) (query_parameters (known_or_zero number) t) r) v.what.0 number t v.since v.until (shows mutations r v e).1.1 (decides mutations r v e (known_or_zero number) t (filter_of record_lookup.Mutation) refl)
tests record_lookup.ParcelsOfUnit r v e number t =
    by_number (passes (filter_of record_lookup.ParcelsOfUnit) (query_parameters (known_or_zero number) t) r) v.what.1.unit number t v.since v.until (shows parcels r v e).1.1 (decides parcels r v e (known_or_zero number) t (filter_of record_lookup.ParcelsOfUnit) refl)
tests record_lookup.EntriesOfUnit r v e number t =
    by_number (passes (filter_of record_lookup.EntriesOfUnit) (query_parameters (known_or_zero number) t) r) v.what.1.unit number t v.since v.until (shows rrrs r v e).1.2 (decides rrrs r v e (known_or_zero number) t (filter_of record_lookup.EntriesOfUnit) refl)
tests record_lookup.RolesOfParty r v e number t =
    by_number (passes (filter_of record_lookup.RolesOfParty) (query_parameters (known_or_zero number) t) r) v.what.party number t v.since v.until (shows roles r v e).1 (decides roles r v e (known_or_zero number) t (filter_of record_lookup.RolesOfParty) refl)
tests record_lookup.MembersOfGroup r v e number t =
    by_number (passes (filter_of record_lookup.MembersOfGroup) (query_parameters (known_or_zero number) t) r) v.what.group number t v.since v.until (shows members r v e).1.1 (decides members r v e (known_or_zero number) t (filter_of record_lookup.MembersOfGroup) refl)
tests record_lookup.MandatesOfAgent r v e number t =
    by_number (passes (filter_of record_lookup.MandatesOfAgent) (query_parameters (known_or_zero number) t) r) v.what.agent number t v.since v.until (shows mandates r v e).1.1 (decides mandates r v e (known_or_zero number) t (filter_of record_lookup.MandatesOfAgent) refl)
tests record_lookup.Administrators r v e number t =
    by_role (passes (filter_of record_lookup.Administrators) (query_parameters (known_or_zero number) t) r) v.what.role t v.since v.until (decides roles r v e (known_or_zero number) t (filter_of record_lookup.Administrators) refl)
