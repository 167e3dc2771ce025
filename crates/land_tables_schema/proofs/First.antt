-- The first rows of a new register are inserted into empty tables.
use Rattle.std.proofs.Common.{◌≡◌, pos, [], ◌∷◌, codes, Ok, refl, subst, ◌∙◌}
use Rattle.std.proofs.lemmas.List.Sorted.{IsPermutation-refl}
use Rattle.std.specs.List.{AllByRecursion, IsDistinct}
use Rattle.std.specs.Ordering.{int_eq}
use Rattle.land_tables_schema.proofs.Changes.{with_editions, with_moments, with_parties, with_roles}
use Rattle.land_tables_schema.proofs.Steps.{step_then, was_clean}
use Rattle.land_tables_schema.specs.Schemas.{IsSchemaV2, v2_schema}
use Rattle.land_tables_schema.specs.Making.{IsMade}
use Rattle.land_tables_schema.specs.Rows.Held.{HoldsRows, IsNew, Rows}
use Rattle.land_tables_schema.specs.Rows.Edition.{v2_edition, edition_row}
use Rattle.land_tables_schema.specs.Rows.Forms.{Form, Holds, InsertsVersion, Appends}
use Rattle.land_tables_schema.specs.Rows.Mandate.{mandate_form}
use Rattle.land_tables_schema.specs.Rows.Member.{member_form}
use Rattle.land_tables_schema.specs.Rows.Moments.{moment_row}
use Rattle.land_tables_schema.specs.Rows.Mutation.{mutation_form}
use Rattle.land_tables_schema.specs.Rows.Names.{names_form}
use Rattle.land_tables_schema.specs.Rows.Parcel.{parcel_form}
use Rattle.land_tables_schema.specs.Rows.Party.{party_form}
use Rattle.land_tables_schema.specs.Rows.Role.{role_form}
use Rattle.land_tables_schema.specs.Rows.Rrr.{rrr_form}
use Rattle.land_tables_schema.specs.Rows.Source.{source_form}
use Rattle.land_tables_schema.specs.Rows.Unit.{unit_form}
use Rattle.land_tables_schema.specs.Rows.Versions.{opened_version}
use Rattle.land_tables_schema.specs.Steps.{IsTransactionStep}
use Rattle.land_tables_schema.specs.Tables as table
use Rattle.sqlite.specs.Effect.{Database}
use Rattle.sqlite.specs.State.{HasCleanDisk, State}
use Rattle.sqlite_schema.specs.declared.schema.Schema.{Schema}
use Rattle.sqlite_schema.specs.declared.schema.Table.{Table}
use Rattle.sqlite_trees.specs.Tree.{Trees}

-- the created schema is that of a register
pub made_is_land : (s : Schema) → s ≡ v2_schema → IsSchemaV2 s
made_is_land s is = rw is (record { tables = refl; indexes = refl; views = refl })

none_apart : IsDistinct int_eq []
unfolding IsDistinct
none_apart = tt

-- an empty table holds no value
pub none_held : {X : Type 0} (form : Form X) (db : Trees) → db form.table.tree ≡ [] → Holds form db []
none_held form db none = record { rows = rw none (IsPermutation-refl []); numbered = rw none (record { whole = refl; apart = none_apart }) }

none_in : (db : Database) (s : Schema) → s ≡ v2_schema → AllByRecursion (λ (t : Table). db.trees t.tree ≡ []) s.tables → AllByRecursion (λ (t : Table). db.trees t.tree ≡ []) v2_schema.tables
none_in db s is none = subst (λ (s : Schema). AllByRecursion (λ (t : Table). db.trees t.tree ≡ []) s.tables) is none

abbrev no_rows : Rows
no_rows = record { editions = []; moments = []; parties = []; roles = []; members = []; units = []; parcels = []; rrrs = []; sources = []; mutations = []; namings = []; mandates = [] }

-- tables that were just created hold no value
nothing_held : (db : Database) → IsMade db → HoldsRows db.trees no_rows
nothing_held db made =
    let none = none_in db db.schema made.schema made.empty in
    record {
      the_editions = rw none.0 (IsPermutation-refl []);
      the_moments = rw none.1.0 (IsPermutation-refl []);
      the_parties = none_held party_form db.trees none.1.1.0;
      the_roles = none_held role_form db.trees none.1.1.1.0;
      the_members = none_held member_form db.trees none.1.1.1.1.0;
      the_units = none_held unit_form db.trees none.1.1.1.1.1.0;
      the_parcels = none_held parcel_form db.trees none.1.1.1.1.1.1.0;
      the_rrrs = none_held rrr_form db.trees none.1.1.1.1.1.1.1.0;
      the_sources = none_held source_form db.trees none.1.1.1.1.1.1.1.1.0;
      the_mutations = none_held mutation_form db.trees none.1.1.1.1.1.1.1.1.1.0;
      the_namings = none_held names_form db.trees none.1.1.1.1.1.1.1.1.1.1.0;
      the_mandates = none_held mandate_form db.trees none.1.1.1.1.1.1.1.1.1.1.1.0;
    }

-- the first rows, in order
pub first_rows : (made a b c d : Database) → IsMade made → Appends table.edition edition_row v2_edition made a → Appends table.moments moment_row (record { stamp = pos 0; next = 2 }) a b
    → InsertsVersion party_form (opened_version (record { number = 1; name = codes "Land Office"; kind = codes "nonNaturalPerson" }) (pos 0)) b c → InsertsVersion role_form (opened_version (record { party = 1; role = codes "stateAdministrator" }) (pos 0)) c d → IsNew d
first_rows made a b c d is edition moment party role =
    let none = nothing_held made is in
    let one = with_editions made.trees a.trees no_rows none (v2_edition ∷ []) edition.kept (edition.listed [] none.the_editions) in
    let two = with_moments a.trees b.trees _ one (record { stamp = pos 0; next = 2 } ∷ []) moment.kept (moment.listed [] one.the_moments) in
    let three = with_parties b.trees c.trees _ two _ party.kept (party.held [] two.the_parties) in
    let four = with_roles c.trees d.trees _ three _ role.kept (role.held [] three.the_roles) in
    record { schema = role.schema ∙ party.schema ∙ moment.schema ∙ edition.schema ∙ is.schema; rows = four }

abbrev Anything : Database → Database → Type 0
Anything old new = Unit {0}

-- the calls that insert them, in order
pub first_steps : {W X Y Z E : Type 0} {w : W} {x : X} {y : Y} {z : Z} (made a b c d : State) → (HasCleanDisk made → IsMade made.now)
    → IsTransactionStep {X = W} {E = E} (Ok w) (Appends table.edition edition_row v2_edition) made a
    → IsTransactionStep {X = X} {E = E} (Ok x) (Appends table.moments moment_row (record { stamp = pos 0; next = 2 })) a b
    → IsTransactionStep {X = Y} {E = E} (Ok y) (InsertsVersion party_form (opened_version (record { number = 1; name = codes "Land Office"; kind = codes "nonNaturalPerson" }) (pos 0))) b c
    → IsTransactionStep {X = Z} {E = E} (Ok z) (InsertsVersion role_form (opened_version (record { party = 1; role = codes "stateAdministrator" }) (pos 0))) c d
    → IsTransactionStep {X = Unit {0}} {E = E} (Ok tt) (λ _ new. IsNew new) made d
first_steps {E = E} made a b c d is edition moment party role =
    let two : IsTransactionStep {X = Unit {0}} {E = E} (Ok tt) Anything made b = step_then made a b edition moment (λ _ _ _. tt) in
    let three : IsTransactionStep {X = Unit {0}} {E = E} (Ok tt) Anything made c = step_then made b c two party (λ _ _ _. tt) in
    let four : IsTransactionStep {X = Unit {0}} {E = E} (Ok tt) Anything made d = step_then made c d three role (λ _ _ _. tt) in
    record {
      done = λ clean.
          let at_c = was_clean c d role.survives clean in
          let at_b = was_clean b c party.survives at_c in
          let at_a = was_clean a b moment.survives at_b in
          first_rows made.now a.now b.now c.now d.now (is (was_clean made a edition.survives at_a)) (edition.done at_a) (moment.done at_b) (party.done at_c) (role.done clean);
      inside = four.inside;
      kept = four.kept;
      survives = four.survives;
    }
