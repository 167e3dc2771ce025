-- If a part cannot be decoded, neither can the whole.
use Rattle.std.proofs.Common.{◌≡◌, List, [], Err, IfErr, IsErrAnd, Ok, Result, refl, sym, subst, ◌∙◌}
use Rattle.land_core.specs.declared.mandates.Mandate.{Mandate}
use Rattle.land_tables_history.specs.declared.history.History.{History}
use Rattle.land_tables_history.specs.declared.version.Version.{Version}
use Rattle.land_tables_rows.specs.Listing.Groups.{DecodesUnits, DecodesSources, DecodesParties}
use Rattle.land_tables_rows.specs.Listing.Reading.{UnreadableOnlyIfNone, Says, DecodesHistoryV1, DecodesHistory, mandates}
use Rattle.land_tables_rows.specs.declared.listing.fault.ReadFault.{ReadFault}
use Rattle.land_tables_rows.specs.declared.listing.history.UnitVersions.{UnitVersions}
use Rattle.land_tables_rows.specs.declared.listing.history.SourceVersions.{SourceVersions}
use Rattle.land_tables_rows.specs.declared.listing.history.PartyVersions.{PartyVersions}
use Rattle.land_tables_schema.specs.Rows.ReadQueries.{IsStoreRead}
use Rattle.sqlite.specs.State.{HasCleanDisk, State}
use Rattle.sqlite_trees.specs.Tree.{Trees}

-- a fault of a part is a fault of the whole
pub cannot : {X Y : Type 0} {P : X → Type 0} {Q : Y → Type 0} (r : Result Y ReadFault) (fault : ReadFault) → IsErrAnd r (λ f. f ≡ fault) → ((y : Y) → Q y → (x : X) × P x) → UnreadableOnlyIfNone P fault → IfErr r (UnreadableOnlyIfNone Q)
cannot (Ok y) fault h part none = absurd h
cannot (Err f) fault h part none = λ is y said.
    let found = part y said in
    none (sym h ∙ is) found.0 found.1

persons_of : History → PartyVersions
persons_of h = record { parties = h.parties; roles = h.roles; members = h.members }

holdings_of : History → UnitVersions
holdings_of h = record { units = h.units; parcels = h.parcels; rrrs = h.rrrs }

papers_of : History → SourceVersions
papers_of h = record { sources = h.sources; mutations = h.mutations; namings = h.namings }

pub persons_said : (db : Trees) (h : History) → DecodesHistoryV1 db h → (it : PartyVersions) × DecodesParties db it
unfolding persons_of
persons_said db h said = (persons_of h, record { parties = said.parties; roles = said.roles; members = said.members })

pub holdings_said : (db : Trees) (h : History) → DecodesHistoryV1 db h → (it : UnitVersions) × DecodesUnits db it
unfolding holdings_of
holdings_said db h said = (holdings_of h, record { units = said.units; parcels = said.parcels; rrrs = said.rrrs })

pub papers_said : (db : Trees) (h : History) → DecodesHistoryV1 db h → (it : SourceVersions) × DecodesSources db it
unfolding papers_of
papers_said db h said = (papers_of h, record { sources = said.sources; mutations = said.mutations; namings = said.namings })

-- the tables of schema version 1, if all tables decode to a history
first_of : History → History
first_of h = record h { mandates = [] }

pub first_said : (db : Trees) (h : History) → DecodesHistory db h → (it : History) × DecodesHistoryV1 db it
unfolding first_of
first_said db h said = (
  first_of h,
  record {
    parties = said.parties;
    roles = said.roles;
    members = said.members;
    units = said.units;
    parcels = said.parcels;
    rrrs = said.rrrs;
    sources = said.sources;
    mutations = said.mutations;
    namings = said.namings;
    none = refl;
  },
)

-- and the table of mandates
pub mandates_said : (db : Trees) (h : History) → DecodesHistory db h → (it : List (Version Mandate)) × Says mandates db it
mandates_said db h said = (h.mandates, said.mandates)

-- one part decodes after reads of other parts, which change nothing
pub cannot_then : {X Y Z E : Type 0} {z : Z} {R : Z → Type 0} {Q : Y → Type 0} (P : Trees → X → Type 0) (a b : State) (r : Result Y ReadFault) (fault : ReadFault) → IsErrAnd r (λ f. f ≡ fault)
    → ((y : Y) → Q y → (x : X) × P a.now.trees x) → IsStoreRead {X = Z} {E = E} (Ok z) R a b → HasCleanDisk b → UnreadableOnlyIfNone (P b.now.trees) fault → IfErr r (UnreadableOnlyIfNone Q)
cannot_then P a b r fault h part reads_only clean none = cannot r fault h part (subst (λ db. UnreadableOnlyIfNone (P db.trees) fault) (reads_only.same clean).0.now_is none)
