-- The tables of the register, each with the tree of its rows. Positions of columns count from 1.
use Rattle.std.specs.Prelude.{List, [], ◌∷◌, ◌++◌, codes}
use Rattle.land_tables_schema.specs.Columns.{number_column, number_or_null, numbered_table, versioned_table}
use Rattle.land_tables_schema.specs.Columns.{words}
use Rattle.land_tables_schema.specs.Columns.{words_or_null}
use Rattle.sqlite_schema.specs.declared.schema.Table.{Table}

-- the schema version: one row
abbrev pub edition : Table
edition =
    numbered_table (codes "edition") 0 (number_column (codes "id") ∷ number_column (codes "version") ∷ [])

-- the commits: one row for the new register, and one for each change
abbrev pub moments : Table
moments =
    numbered_table (codes "moments") 1 (number_column (codes "stamp") ∷ number_column (codes "next") ∷ [])

-- the parties (LA_Party)
abbrev pub party : Table
party =
    versioned_table (codes "party") 2 (1 ∷ []) (number_column (codes "number") ∷ words (codes "name")
    ∷ words (codes "kind") ∷ [])

-- the roles that parties hold (LA_PartyRoleType)
abbrev pub role : Table
role =
    versioned_table (codes "role") 4 (1 ∷ 2 ∷ []) (number_column (codes "party") ∷ words (codes "role") ∷ [])

-- the members of groups (LA_PartyMember)
abbrev pub member : Table
member =
    versioned_table (codes "member") 6 (1 ∷ 2 ∷ [])
    (number_column (codes "grp") ∷ number_column (codes "party")
    ∷ number_column (codes "num") ∷ number_column (codes "den")
    ∷ [])

-- the basic administrative units (LA_BAUnit)
abbrev pub unit : Table
unit =
    versioned_table (codes "unit") 8 (1 ∷ []) (number_column (codes "number") ∷ words (codes "name")
    ∷ number_column (codes "checked") ∷ [])

-- the parcels (LA_SpatialUnit)
abbrev pub parcel : Table
parcel =
    versioned_table (codes "parcel") 10 (1 ∷ [])
    (number_column (codes "number") ∷ number_column (codes "unit")
    ∷ words (codes "label")
    ∷ words (codes "outline") ∷ number_column (codes "source") ∷ [])

-- the rights, restrictions, responsibilities and mortgages (LA_RRR). What a class does not use is NULL
abbrev pub rrr : Table
rrr =
    versioned_table (codes "rrr") 12 (1 ∷ []) (number_column (codes "number") ∷ number_column (codes "unit")
    ∷ number_column (codes "party") ∷ words (codes "class")
    ∷ number_or_null (codes "num") ∷ number_or_null (codes "den") ∷ number_or_null (codes "amount")
    ∷ words_or_null (codes "currency")
    ∷ number_or_null (codes "place") ∷ words_or_null (codes "words") ∷ number_column (codes "source") ∷ [])

-- the sources (LA_Source): the documents that records come from
abbrev pub source : Table
source =
    versioned_table (codes "source") 14 (1 ∷ []) (number_column (codes "number") ∷ words (codes "kind")
    ∷ words (codes "title") ∷ [])

-- the mutations: lodged changes of units
abbrev pub mutation : Table
mutation =
    versioned_table (codes "mutation") 16 (1 ∷ [])
    (number_column (codes "number") ∷ number_column (codes "lodger")
    ∷ words (codes "reference")
    ∷ number_column (codes "source") ∷ number_column (codes "lodged") ∷ words (codes "act")
    ∷ words (codes "content")
    ∷ words (codes "state") ∷ [])

-- the units that mutations refer to
abbrev pub names : Table
names =
    versioned_table (codes "names") 18 (1 ∷ 2 ∷ []) (number_column (codes "mutation")
    ∷ number_column (codes "unit") ∷ [])

-- the mandates, each with principal and agent. They are created after the tables of version 1, and before the
-- plain indexes
abbrev pub mandate : Table
mandate =
    versioned_table (codes "mandate") 20 (1 ∷ 2 ∷ []) (number_column (codes "principal")
    ∷ number_column (codes "agent") ∷ [])

-- the tables of schema version 1, in the order of their creation
abbrev pub v1_tables : List Table
v1_tables =
    edition ∷ moments ∷ party ∷ role ∷ member ∷ unit ∷ parcel ∷ rrr ∷ source ∷ mutation ∷ names ∷ []

-- all tables, in the order of their creation
abbrev pub land_tables : List Table
land_tables = v1_tables ++ mandate ∷ []
