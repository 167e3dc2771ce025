-- The statements create the schema of a new register, in order.
use Rattle.std.proofs.Common.{◌≡◌, ◌∙◌, ℕ, List, [], ◌∷◌, ◌++◌, ap, drop, refl, subst, sym, take}
use Rattle.land_tables_schema.proofs.Dropping.{drops_ready, next_is}
use Rattle.land_tables_schema.specs.Definitions.{AreDefinitions, IsDefinition, schema_after_statements, schema_after_statement}
use Rattle.land_tables_schema.specs.Schemas.{v1_indexes, v1_schema, schema_v1_with, v2_indexes, v2_schema, no_schema, with_mandates, without_lookup_indexes}
use Rattle.land_tables_schema.specs.Laws.{TableTextsLaw, TextsLaw, VersionsLaw, first_texts, index_statements, create_statements}
use Rattle.land_tables_schema.specs.Tables.{land_tables}
use Rattle.land_tables_schema.specs.declared.tables.edition.TheConstants as edition
use Rattle.land_tables_schema.specs.declared.tables.mandate.TheConstants as mandate
use Rattle.land_tables_schema.specs.declared.tables.member.TheConstants as member
use Rattle.land_tables_schema.specs.declared.tables.moments.TheConstants as moments
use Rattle.land_tables_schema.specs.declared.tables.mutation.TheConstants as mutation
use Rattle.land_tables_schema.specs.declared.tables.names.TheConstants as names
use Rattle.land_tables_schema.specs.declared.tables.parcel.TheConstants as parcel
use Rattle.land_tables_schema.specs.declared.tables.party.TheConstants as party
use Rattle.land_tables_schema.specs.declared.tables.role.TheConstants as role
use Rattle.land_tables_schema.specs.declared.tables.rrr.TheConstants as rrr
use Rattle.land_tables_schema.specs.declared.tables.source.TheConstants as source
use Rattle.land_tables_schema.specs.declared.tables.unit.TheConstants as unit
use Rattle.sqlite.specs.Listing.{understood}
use Rattle.sqlite_schema.specs.declared.schema.Schema.{Schema}
use Rattle.sqlite_tied.specs.Compute.{everything}

-- the first tables, and the first of all indexes
abbrev so_far : ℕ → ℕ → Schema
so_far tables indexes = record { tables = take tables land_tables; indexes = take indexes v2_indexes; views = [] }

-- the tables of version 1, and the first of its indexes
abbrev first_so_far : ℕ → Schema
first_so_far indexes = schema_v1_with [] (take indexes v1_indexes)

-- a statement is a CREATE that turns one schema into another
record Makes (s : Schema) (text : List ℕ) (next : Schema) : Type 0 where
  made_is : schema_after_statement s text ≡ next
  definition : IsDefinition s text

edition_made : Makes (so_far 0 0) edition.CREATE.now (so_far 1 0)
unfolding understood everything
edition_made = record { made_is = refl; definition = record { plain = (refl, refl); whole = refl; defining = refl } }

moments_made : Makes (so_far 1 0) moments.CREATE.now (so_far 2 0)
unfolding understood everything
moments_made = record { made_is = refl; definition = record { plain = (refl, refl); whole = refl; defining = refl } }

party_made : Makes (so_far 2 0) party.CREATE.now (so_far 3 1)
unfolding understood everything
party_made = record { made_is = refl; definition = record { plain = (refl, refl); whole = refl; defining = refl } }

role_made : Makes (so_far 3 1) role.CREATE.now (so_far 4 2)
unfolding understood everything
role_made = record { made_is = refl; definition = record { plain = (refl, refl); whole = refl; defining = refl } }

member_made : Makes (so_far 4 2) member.CREATE.now (so_far 5 3)
unfolding understood everything
member_made = record { made_is = refl; definition = record { plain = (refl, refl); whole = refl; defining = refl } }

unit_made : Makes (so_far 5 3) unit.CREATE.now (so_far 6 4)
unfolding understood everything
unit_made = record { made_is = refl; definition = record { plain = (refl, refl); whole = refl; defining = refl } }

parcel_made : Makes (so_far 6 4) parcel.CREATE.now (so_far 7 5)
unfolding understood everything
parcel_made = record { made_is = refl; definition = record { plain = (refl, refl); whole = refl; defining = refl } }

rrr_made : Makes (so_far 7 5) rrr.CREATE.now (so_far 8 6)
unfolding understood everything
rrr_made = record { made_is = refl; definition = record { plain = (refl, refl); whole = refl; defining = refl } }

source_made : Makes (so_far 8 6) source.CREATE.now (so_far 9 7)
unfolding understood everything
source_made = record { made_is = refl; definition = record { plain = (refl, refl); whole = refl; defining = refl } }

mutation_made : Makes (so_far 9 7) mutation.CREATE.now (so_far 10 8)
unfolding understood everything
mutation_made = record { made_is = refl; definition = record { plain = (refl, refl); whole = refl; defining = refl } }

names_made : Makes (so_far 10 8) names.CREATE.now (so_far 11 9)
unfolding understood everything
names_made = record { made_is = refl; definition = record { plain = (refl, refl); whole = refl; defining = refl } }

mandate_made : Makes (so_far 11 9) mandate.CREATE.now (so_far 12 10)
unfolding understood everything
mandate_made = record { made_is = refl; definition = record { plain = (refl, refl); whole = refl; defining = refl } }

rrr_party_indexed : Makes (so_far 12 10) rrr.INDEX_PARTY.now (so_far 12 11)
unfolding understood everything
rrr_party_indexed = record { made_is = refl; definition = record { plain = (refl, refl); whole = refl; defining = tt } }

rrr_unit_indexed : Makes (so_far 12 11) rrr.INDEX_UNIT.now (so_far 12 12)
unfolding understood everything
rrr_unit_indexed = record { made_is = refl; definition = record { plain = (refl, refl); whole = refl; defining = tt } }

parcel_unit_indexed : Makes (so_far 12 12) parcel.INDEX_UNIT.now (so_far 12 13)
unfolding understood everything
parcel_unit_indexed = record { made_is = refl; definition = record { plain = (refl, refl); whole = refl; defining = tt } }

member_party_indexed : Makes (so_far 12 13) member.INDEX_PARTY.now (so_far 12 14)
unfolding understood everything
member_party_indexed = record { made_is = refl; definition = record { plain = (refl, refl); whole = refl; defining = tt } }

names_unit_indexed : Makes (so_far 12 14) names.INDEX_UNIT.now (so_far 12 15)
unfolding understood everything
names_unit_indexed = record { made_is = refl; definition = record { plain = (refl, refl); whole = refl; defining = tt } }

mutation_lodger_indexed : Makes (so_far 12 15) mutation.INDEX_LODGER.now (so_far 12 16)
unfolding understood everything
mutation_lodger_indexed = record { made_is = refl; definition = record { plain = (refl, refl); whole = refl; defining = tt } }

role_role_indexed : Makes (so_far 12 16) role.INDEX_ROLE.now (so_far 12 17)
unfolding understood everything
role_role_indexed = record { made_is = refl; definition = record { plain = (refl, refl); whole = refl; defining = tt } }

mandate_agent_indexed : Makes (so_far 12 17) mandate.INDEX_AGENT.now (so_far 12 18)
unfolding understood everything
mandate_agent_indexed = record { made_is = refl; definition = record { plain = (refl, refl); whole = refl; defining = tt } }

-- ---- the indexes of version 1

first_rrr_party : Makes (first_so_far 9) rrr.INDEX_PARTY.now (first_so_far 10)
unfolding understood everything
first_rrr_party = record { made_is = refl; definition = record { plain = (refl, refl); whole = refl; defining = tt } }

first_rrr_unit : Makes (first_so_far 10) rrr.INDEX_UNIT.now (first_so_far 11)
unfolding understood everything
first_rrr_unit = record { made_is = refl; definition = record { plain = (refl, refl); whole = refl; defining = tt } }

first_parcel_unit : Makes (first_so_far 11) parcel.INDEX_UNIT.now (first_so_far 12)
unfolding understood everything
first_parcel_unit = record { made_is = refl; definition = record { plain = (refl, refl); whole = refl; defining = tt } }

first_member_party : Makes (first_so_far 12) member.INDEX_PARTY.now (first_so_far 13)
unfolding understood everything
first_member_party = record { made_is = refl; definition = record { plain = (refl, refl); whole = refl; defining = tt } }

first_names_unit : Makes (first_so_far 13) names.INDEX_UNIT.now (first_so_far 14)
unfolding understood everything
first_names_unit = record { made_is = refl; definition = record { plain = (refl, refl); whole = refl; defining = tt } }

first_mutation_lodger : Makes (first_so_far 14) mutation.INDEX_LODGER.now (first_so_far 15)
unfolding understood everything
first_mutation_lodger = record { made_is = refl; definition = record { plain = (refl, refl); whole = refl; defining = tt } }

first_role_role : Makes (first_so_far 15) role.INDEX_ROLE.now (first_so_far 16)
unfolding understood everything
first_role_role = record { made_is = refl; definition = record { plain = (refl, refl); whole = refl; defining = tt } }

-- ---- all together

-- from one schema on, statements are CREATEs that yield another
record Finish (last s : Schema) (texts : List (List ℕ)) : Type 0 where
  definitions : AreDefinitions s texts
  made_is : schema_after_statements s texts ≡ last

one_more : {last s next : Schema} {text : List ℕ} {texts : List (List ℕ)} → Makes s text next → Finish last next texts → Finish last s (text ∷ texts)
one_more {last} {s} {next} {text} {texts} one rest = record {
  definitions = (one.definition, subst (λ x. AreDefinitions x texts) (sym one.made_is) rest.definitions);
  made_is = ap (λ x. schema_after_statements x texts) one.made_is ∙ rest.made_is;
}

done : (last : Schema) → Finish last last []
done last = record { definitions = tt; made_is = refl }

-- the plain indexes
indexes_finish : Finish v2_schema (so_far 12 10) index_statements
indexes_finish =
    one_more rrr_party_indexed (one_more rrr_unit_indexed (one_more parcel_unit_indexed (one_more member_party_indexed
    (one_more names_unit_indexed (one_more mutation_lodger_indexed (one_more role_role_indexed (one_more mandate_agent_indexed (done v2_schema))))))))

-- the tables of version 1, and then other statements
tables_first : (last : Schema) (texts : List (List ℕ)) → Finish last (so_far 11 9) texts → Finish last no_schema (take 11 create_statements ++ texts)
tables_first last texts rest =
    one_more edition_made (one_more moments_made (one_more party_made (one_more role_made (one_more member_made
    (one_more unit_made (one_more parcel_made (one_more rrr_made (one_more source_made (one_more mutation_made
    (one_more names_made rest))))))))))

finish : Finish v2_schema no_schema create_statements
finish = tables_first v2_schema (drop 11 create_statements) (one_more mandate_made indexes_finish)

first_finish : Finish v1_schema no_schema first_texts
first_finish =
    tables_first v1_schema (take 7 index_statements)
    (one_more first_rrr_party (one_more first_rrr_unit (one_more first_parcel_unit (one_more first_member_party
    (one_more first_names_unit (one_more first_mutation_lodger (one_more first_role_role (done v1_schema))))))))

-- Without the plain indexes, and with `mandate`, schema version 1 is the schema of a new register before its
-- plain indexes.
first_with_mandates : with_mandates (without_lookup_indexes v1_schema) ≡ so_far 12 10
unfolding everything
first_with_mandates = refl

pub texts_finish : TextsLaw
texts_finish = record { creates = finish.definitions; makes = finish.made_is }

-- the CREATE TABLE statement of each table defines that table
pub texts_define : TableTextsLaw
unfolding understood everything
texts_define = record {
  the_edition = refl;
  the_moments = refl;
  the_party = refl;
  the_role = refl;
  the_member = refl;
  the_unit = refl;
  the_parcel = refl;
  the_rrr = refl;
  the_source = refl;
  the_mutation = refl;
  the_names = refl;
  the_mandate = refl;
}

-- the statements of version 1 create its schema, which becomes that of a new register
pub versions_differ : VersionsLaw
unfolding everything
versions_differ = record {
  makes = first_finish.made_is;
  raisable = record { first = record { tables = refl; indexes = refl; views = refl }; apart = refl; before = refl; last = refl };
  raises = ap (λ s. schema_after_statements s index_statements) first_with_mandates ∙ indexes_finish.made_is;
  drops = λ s able. (drops_ready s able).1;
  next = next_is;
}
