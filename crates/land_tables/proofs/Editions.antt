-- Tables with exactly one edition decode to one edition of that version, and conversely.
use Rattle.std.proofs.Common.{◌≡◌, ◌==◌, ℕ, true, List, [], ◌∷◌, refl, ap, ap₂, subst, IsPermutation}
use Rattle.std.proofs.lemmas.Bool.{false≢true, eqb-true}
use Rattle.std.proofs.lemmas.List.Sorted.{IsPermutation-sym}
use Rattle.land_tables.proofs.Adopted.{alone}
use Rattle.land_tables.proofs.Tellings.{held_is_said}
use Rattle.land_tables.specs.TableContents.{is_one_edition, is_version}
use Rattle.land_tables.specs.TablesState.{HoldsRegister}
use Rattle.land_tables.specs.Registers.{IsOfVersion, HasMandates, IsRegister, MayBeRegister, SchemaVersion, version_2}
use Rattle.land_tables_history.specs.declared.history.History.{History}
use Rattle.land_tables_rows.proofs.ToldTables.{told_is}
use Rattle.land_tables_rows.specs.Edition.Writing.{HoldsEditions, v2_edition}
use Rattle.land_tables_rows.specs.Listing.Reading.{Says, DecodesHistoryV1, DecodesHistory, editions}
use Rattle.land_tables_rows.specs.Listing.Told.{decode_rows}
use Rattle.land_tables_rows.specs.declared.edition.reading.Edition.{Edition}
use Rattle.land_tables_schema.proofs.KnownSchemas.{known_schemas}
use Rattle.sqlite.specs.Effect.{Database}
use Rattle.sqlite.specs.State.{State}
use Rattle.sqlite_trees.specs.Tree.{Trees}

-- the only edition, of a version
abbrev pub edition_of : ℕ → Edition
edition_of n = record { id = 1; version = n }

edition_is : (n : ℕ) (e : Edition) → (e.id == 1) ≡ true → (e.version == n) ≡ true → e ≡ edition_of n
edition_is n e id version = ap₂ (λ a b. let it : Edition = record { id = a; version = b } in it) (eqb-true e.id 1 id) (eqb-true e.version n version)

only_edition : (n : ℕ) (es : List Edition) → is_one_edition es ≡ true → is_version n es ≡ true → es ≡ edition_of n ∷ []
only_edition n [] one version = absurd (false≢true one)
only_edition n (e ∷ []) one version = ap (λ x. x ∷ []) (edition_is n e one version)
only_edition n (e ∷ (f ∷ es)) one version = absurd (false≢true one)

pub keeps_edition : (shapes : SchemaVersion) (db : Database) → IsOfVersion shapes db → HoldsEditions db.trees (edition_of shapes.version ∷ [])
keeps_edition shapes db of =
    let it = of.ours.first in
    let only = edition_of shapes.version in
    let told = only_edition shapes.version (decode_rows editions db.trees) it.one of.version in
    let found = alone only it.found.editions (IsPermutation-sym it.found.editions (only ∷ []) (subst (λ (es : List Edition). IsPermutation it.found.editions es) told (told_is editions db.trees it.found.editions it.said.editions))) in
    subst (Says editions db.trees) found it.said.editions

told_edition : (n : ℕ) (db : Trees) → HoldsEditions db (edition_of n ∷ []) → decode_rows editions db ≡ edition_of n ∷ []
told_edition n db kept = alone (edition_of n) (decode_rows editions db) (told_is editions db (edition_of n ∷ []) kept)

-- ---- the content of the tables between calls

-- the tables of schema version 1 decode to a history without its mandates
said_before : (db : Trees) (h : History) → DecodesHistory db h → DecodesHistoryV1 db (record h { mandates = [] })
said_before db h said = record {
  parties = said.parties;
  roles = said.roles;
  members = said.members;
  units = said.units;
  parcels = said.parcels;
  rrrs = said.rrrs;
  sources = said.sources;
  mutations = said.mutations;
  namings = said.namings;
  none = refl;
}

held_may_be : (s : State) → HoldsRegister s → MayBeRegister s.now
held_may_be s it =
    let db = s.now.trees in
    let h = it.holds.history in
    record {
      has_tables = known_schemas.has_tables s.now.schema it.has_tables;
      found = record { editions = v2_edition ∷ []; moments = it.holds.listed; history = record h { mandates = [] } };
      said = record { editions = it.edition; moments = it.holds.holds.the_moments; history = said_before db h (held_is_said db it.holds.listed h it.holds.holds) };
      one = ap is_one_edition (told_edition 2 db it.edition);
    }

held_mandates : (s : State) → HoldsRegister s → HasMandates s.now
held_mandates s it = record { has_tables = it.has_tables; listed = it.holds.history.mandates; said = it.holds.holds.the_mandates.said }

-- the content of the tables between calls is a valid register
pub register_held : (s : State) → HoldsRegister s → IsRegister version_2 s.now
register_held s it = record {
  intervals = record {
    made = record {
      ours = record { first = held_may_be s it; there = λ _. held_mandates s it };
      version = ap (is_version 2) (told_edition 2 s.now.trees it.edition);
    };
    intervals = it.intervals;
  };
  holds = it.holds;
  sound = it.sound;
}
