-- From the decoded tables of a store to whether it is a register, and if not, why.
use Rattle.std.proofs.Common.{◌≡◌, ℕ, ℤ, pos, ◌&&◌, if◌then◌else◌, Bool, true, false, List, [], ◌∷◌, map, Some, Ok, Err, IfErr, IfOk, IsErrAnd, Result, refl, sym, ap, ◌∙◌, subst, arith, IsPermutation}
use Rattle.std.specs.Prelude.{◌≤ℤ◌, int_le}
use Rattle.std.proofs.lemmas.Bool.{false≢true, and_parts}
use Rattle.std.proofs.lemmas.Int.{ints}
use Rattle.std.proofs.lemmas.List.Elements.{All-cons, All-nil, All-from_recursion, recursion_from_All}
use Rattle.std.proofs.lemmas.List.Sorted.{All-permutation, IsPermutation-refl, IsPermutation-sym, length_permutation}
use Rattle.std.specs.List.{All, AllByRecursion, IsDistinct}
use Rattle.std.specs.Ordering.{int_eq}
use Rattle.land_core.specs.Numbers.{IsMoment, last_moment}
use Rattle.land_core.specs.declared.mandates.Mandate.{Mandate}
use Rattle.land_keep.specs.Timeline.{last_register, last_stamp}
use Rattle.land_tables.proofs.Tellings.{read_stands, tells, told_reordered}
use Rattle.land_tables.specs.Adopting.{HoldsNoRegister, IsReadFrom, IsNotOfVersion, IsRefused, IsRegisterTo}
use Rattle.land_tables.specs.Faults.{of_read}
use Rattle.land_tables.specs.TableContents.{ReadsMandates, Finds, ReadsTablesV1, IsEditionOf, IsValidated, IsValidWith, FailsTest, DecodesAllRows, DecodesRowsV1, is_one_edition, is_version}
use Rattle.land_tables.specs.Registers.{HasValidIntervals, IsOfVersion, HasRegisterSchema, HasMandates, MayBeRegister, SchemaVersion, version_2}
use Rattle.land_tables.specs.Standing.{HoldsTimeline, decoded_timeline, without_mandate_rows}
use Rattle.land_tables.specs.Timelines.{timeline_of}
use Rattle.land_tables.specs.Timelines.Judging.{OrderKeepsIntervals, SoundTimelinesAreValid}
use Rattle.land_tables.specs.Timelines.Laws.{LastMomentIsTheLastStamp, ValidHistoriesRepresentTimelines, OrderDoesNotMatter, HistoriesRepresentOneTimeline}
use Rattle.land_tables.specs.declared.fault.AdoptFault.{AdoptFault}
use Rattle.land_tables.specs.declared.fault.AdoptFault.TheVariants.{NotOurs, Interval, Unsound, Version, NoMemory, Store}
use Rattle.land_tables.specs.declared.table_contents.TableContents.{TableContents}
use Rattle.land_tables_history.specs.Intervals.{has_intervals}
use Rattle.land_tables_history.specs.declared.moment.Moment.{Moment}
use Rattle.land_tables_history.specs.declared.version.Version.{Version as LiveSpan}
use Rattle.land_tables_rows.proofs.ToldTables.{told_is}
use Rattle.land_tables_rows.proofs.WrittenCells.{moment_cell}
use Rattle.land_tables_rows.specs.Listing.Reading.{UnreadableOnlyIfNone, Says, editions, mandates, moments}
use Rattle.land_tables_rows.specs.Listing.Told.{decoded_history, decode_rows}
use Rattle.land_tables_rows.specs.Moment.Reading.{moment_row_in}
use Rattle.land_tables_rows.specs.Reading.Cells.{moment_in, next_in}
use Rattle.land_tables_rows.specs.Rowids.{HaveUniqueRowidsV1, HasUniqueRowids}
use Rattle.land_tables_rows.specs.Writing.History.{HoldsHistory}
use Rattle.land_tables_rows.specs.declared.edition.reading.Edition.{Edition}
use Rattle.land_tables_rows.specs.declared.listing.fault.ReadFault.{ReadFault}
use Rattle.land_tables_rows.specs.declared.listing.fault.ReadFault.TheVariants as read
use Rattle.land_tables_schema.specs.Schemas.{MayBeRegisterSchema}
use Rattle.land_tables_schema.specs.Rows.Forms.{AreNumbered}
use Rattle.land_tables_schema.specs.Tables.{mandate}
use Rattle.land_wire_json.specs.Bodies.WireFaults.{◌>>=◌}
use Rattle.land_wire_json.specs.declared.bodies.wire_fault.WireFault.{WireFault}
use Rattle.land_wire_json.specs.declared.bodies.wire_fault.WireFault.TheVariants as wire
use Rattle.sqlite.specs.Effect.{Database}
use Rattle.sqlite.specs.State.{State}
use Rattle.sqlite_trees.specs.Tree.{Trees}
use Rattle.sqlite_value.specs.Order.{Row, column}
use Rattle.sqlite_value.specs.declared.value.Value.{Value}

-- ---- the edition

-- a list of one element has one order
pub alone : {X : Type 0} (x : X) (ys : List X) → IsPermutation (x ∷ []) ys → ys ≡ x ∷ []
alone x [] p = absurd (let e = length_permutation (x ∷ []) [] p in omega (arith, e))
alone x (y ∷ []) p = let all = recursion_from_All (λ z. z ≡ x) (y ∷ []) (All-permutation (λ z. z ≡ x) (x ∷ []) (y ∷ []) p (All-cons (λ z. z ≡ x) x [] refl (All-nil (λ z. z ≡ x)))) in ap (λ z. z ∷ []) all.0
alone x (y ∷ (z ∷ zs)) p = absurd (let e = length_permutation (x ∷ []) (y ∷ (z ∷ zs)) p in omega (arith, e))

one_is_alone : (es fs : List Edition) → is_one_edition es ≡ true → IsPermutation es fs → fs ≡ es
one_is_alone [] fs one p = absurd (false≢true one)
one_is_alone (e ∷ []) fs one p = alone e fs p
one_is_alone (e ∷ (f ∷ es)) fs one p = absurd (false≢true one)

-- ---- moments

within : (z : ℤ) (b : Bool) → (int_le (pos 0) z && int_le z last_moment) ≡ b → ◌≡◌ {A = Result ℤ WireFault} (if b then Ok z else Err wire.Number) (Ok z) → IsMoment z
within z true is h = let parts = and_parts (int_le (pos 0) z) (int_le z last_moment) is in (least z parts.0, most z parts.1)
  where
    least : (z : ℤ) → int_le (pos 0) z ≡ true → pos 0 ≤ℤ z
    least z h = grind (arith, ints)

    most : (z : ℤ) → int_le z last_moment ≡ true → z ≤ℤ last_moment
    most z h = grind (arith, ints)
within z false is h = absurd (let e = h in cc)

moment_is : (cell : Value) (z : ℤ) → moment_in cell ≡ Ok z → IsMoment z
unfolding moment_in
moment_is cell z h = within z (int_le (pos 0) z && int_le z last_moment) refl (subst (λ c. moment_in c ≡ Ok z) (moment_cell cell z h) h)

-- a row of `moments` decodes to a moment
change_is : (row : Row) (m : Moment) → moment_row_in row ≡ Ok m → IsMoment m.stamp
unfolding moment_row_in
change_is row m h = go (moment_in (column row 0)) (next_in (column row 1)) (λ z e. moment_is (column row 0) z e) h
  where
    go : (a : Result ℤ WireFault) (b : Result ℕ WireFault) → ((z : ℤ) → a ≡ Ok z → IsMoment z)
        → (a >>= λ stamp. b >>= λ next. Ok (let it : Moment = record { stamp = stamp; next = next } in it)) ≡ Ok m → IsMoment m.stamp
    go (Ok z) (Ok n) is h =
        let same : z ≡ m.stamp = (let e = h in cc) in
        subst IsMoment same (is z refl)
    go (Ok z) (Err f) is h = absurd (let e = h in cc)
    go (Err f) b is h = absurd (let e = h in cc)

abbrev SaysMoment : Result Moment WireFault → Type 0
SaysMoment r = (m : Moment) → r ≡ Ok m → IsMoment m.stamp

rows_say : (rows : List Row) → AllByRecursion SaysMoment (map (λ r. moments.said (moments.shown r)) rows)
rows_say [] = tt
rows_say (r ∷ rs) = (change_is (moments.shown r), rows_say rs)

each_moment : (ms : List Moment) → AllByRecursion SaysMoment (map (λ m. Ok m) ms) → AllByRecursion (λ m. IsMoment m.stamp) ms
each_moment [] all = tt
each_moment (m ∷ ms) all = (all.0 m refl, each_moment ms all.1)

are_moments : (db : Trees) (ms : List Moment) → Says moments db ms → All (λ m. IsMoment m.stamp) ms
are_moments db ms says =
    let rows = map (λ r. moments.said (moments.shown r)) (db moments.table.tree) in
    let said = map (λ m. Ok m) ms in
    All-from_recursion (λ m. IsMoment m.stamp) ms
    (each_moment ms (recursion_from_All SaysMoment said (All-permutation SaysMoment rows said says (All-from_recursion SaysMoment rows (rows_say (db moments.table.tree))))))

-- ---- the content of the tables

-- tables that decode to a history, with unique rowids, hold that history
held_if_said : (db : Trees) (found : TableContents) → DecodesAllRows db found → HaveUniqueRowidsV1 db → HasUniqueRowids mandate db → HoldsHistory db found.moments found.history
held_if_said db found said keyed mandates_keyed = record {
  the_moments = said.moments;
  the_parties = record { said = said.history.parties; numbered = keyed.persons.parties };
  the_roles = record { said = said.history.roles; numbered = keyed.persons.roles };
  the_members = record { said = said.history.members; numbered = keyed.persons.members };
  the_units = record { said = said.history.units; numbered = keyed.holdings.units };
  the_parcels = record { said = said.history.parcels; numbered = keyed.holdings.parcels };
  the_rrrs = record { said = said.history.rrrs; numbered = keyed.holdings.rrrs };
  the_sources = record { said = said.history.sources; numbered = keyed.sources_and_mutations.sources };
  the_mutations = record { said = said.history.mutations; numbered = keyed.sources_and_mutations.mutations };
  the_namings = record { said = said.history.namings; numbered = keyed.sources_and_mutations.namings };
  the_mandates = record { said = said.history.mandates; numbered = mandates_keyed };
}

-- ---- the tables of schema version 1

module _ (db : Database) (has_tables : MayBeRegisterSchema db.schema) (found : TableContents) (finds : ReadsTablesV1 db.trees found) where
  pub told_editions : is_one_edition found.editions ≡ true → decode_rows editions db.trees ≡ found.editions
  told_editions is = one_is_alone found.editions (decode_rows editions db.trees) is (told_is editions db.trees found.editions finds.said.editions)

  pub may_be : is_one_edition found.editions ≡ true → MayBeRegister db
  may_be is = record { has_tables = has_tables; found = found; said = finds.said; one = ap is_one_edition (told_editions is) ∙ is }

  -- if there is not exactly one edition, the decoded tables do not have one either
  not_one : is_one_edition found.editions ≡ false → ¬ MayBeRegister db
  not_one missed it =
      let same = one_is_alone (decode_rows editions db.trees) found.editions it.one (IsPermutation-sym found.editions (decode_rows editions db.trees) (told_is editions db.trees found.editions finds.said.editions)) in
      false≢true (sym missed ∙ ap is_one_edition same ∙ it.one)

  -- the edition is that of the required version, or the tables are not of this version
  pub to_found : (version : ℕ) → IsEditionOf version found.editions (Ok tt) → IsReadFrom version db found
  to_found version is = record { has_tables = has_tables; finds = finds; one = is.0; made = is.1 }

  pub to_missing : (version : ℕ) (why : AdoptFault) → IsEditionOf version found.editions (Err why) → IsNotOfVersion version why db
  to_missing version NotOurs missed = not_one missed
  to_missing version Version missed = (may_be missed.0, ap (is_version version) (told_editions missed.0) ∙ missed.1)
  to_missing version Interval missed = absurd missed
  to_missing version Unsound missed = absurd missed
  to_missing version NoMemory missed = tt
  to_missing version Store missed = tt

-- tables that lack schema version 1, or do not decode, are not a register
pub other_tables : (db : Database) → (¬ MayBeRegisterSchema db.schema) → ¬ MayBeRegister db
other_tables db none it = none it.has_tables

pub unread : (db : Database) → ((found : TableContents) → ¬ DecodesRowsV1 db.trees found) → ¬ MayBeRegister db
unread db none it = none it.found it.said

-- a failed read of them
pub unread_missing : (version : ℕ) (db : Database) (fault : ReadFault) → UnreadableOnlyIfNone (DecodesRowsV1 db.trees) fault → IsNotOfVersion version (of_read fault) db
unread_missing version db read.Unreadable cannot = unread db (cannot refl)
unread_missing version db read.NoMemory cannot = tt
unread_missing version db read.Store cannot = tt

pub missing_after : {X : Type 0} (version : ℕ) (db : Database) (r : Result X AdoptFault) (fault : ReadFault) → IsErrAnd r (λ f. f ≡ of_read fault) → UnreadableOnlyIfNone (DecodesRowsV1 db.trees) fault
    → IfErr r (λ why. IsNotOfVersion version why db)
missing_after version db (Ok x) fault is cannot = tt
missing_after version db (Err f) fault is cannot = subst (λ (g : AdoptFault). IsNotOfVersion version g db) (sym is) (unread_missing version db fault cannot)

-- ---- the schema version

-- the store may be a register, of this schema version
pub record IsMadeBy (version : ℕ) (db : Database) : Type 0 where
  pub may_be : MayBeRegister db
  pub made : is_version version (decode_rows editions db.trees) ≡ true

pub made_by : (version : ℕ) (db : Database) (found : TableContents) → IsReadFrom version db found → IsMadeBy version db
made_by version db found it = record {
  may_be = may_be db it.has_tables found it.finds it.one;
  made = ap (is_version version) (told_editions db it.has_tables found it.finds it.one) ∙ it.made;
}

-- with the schema of that version, it is a register of that version
pub is_of : (shapes : SchemaVersion) (db : Database) → IsMadeBy shapes.version db → shapes.AreThere db → IsOfVersion shapes db
is_of shapes db made there = record { ours = record { first = made.may_be; there = λ _. there }; version = made.made }

-- without it, it is not a register
pub is_none : (shapes : SchemaVersion) (db : Database) → IsMadeBy shapes.version db → (¬ shapes.AreThere db) → ¬ HasRegisterSchema shapes db
is_none shapes db made none ours = none (ours.there made.made)

-- tables that are not of the version are refused, under any schema
pub missing_refused : (shapes : SchemaVersion) (why : AdoptFault) (db : Database) → IsNotOfVersion shapes.version why db → IsRefused shapes why db
missing_refused shapes NotOurs db missing = λ ours. missing ours.first
missing_refused shapes Version db missing = (
  record { first = missing.0; there = λ is. absurd (false≢true (sym missing.1 ∙ is)) },
  λ it. false≢true (sym missing.1 ∙ it.version),
)
missing_refused shapes Interval db missing = absurd missing
missing_refused shapes Unsound db missing = absurd missing
missing_refused shapes NoMemory db missing = tt
missing_refused shapes Store db missing = tt

-- a propagated fault
pub missing_on : {X : Type 0} (shapes : SchemaVersion) (db : Database) (r : Result X AdoptFault) (fault : AdoptFault) → IsErrAnd r (λ f. f ≡ fault) → IsNotOfVersion shapes.version fault db → IfErr r (λ why. IsRefused shapes why db)
missing_on shapes db (Ok x) fault is missing = tt
missing_on shapes db (Err f) fault is missing = missing_refused shapes f db (subst (λ (g : AdoptFault). IsNotOfVersion shapes.version g db) (sym is) missing)

-- a property of a fault is one of the result that returns it
pub told_on : {X : Type 0} (Q : AdoptFault → Type 0) (r : Result X AdoptFault) (fault : AdoptFault) → IsErrAnd r (λ f. f ≡ fault) → Q fault → IfErr r Q
told_on Q (Ok x) fault is so = tt
told_on Q (Err f) fault is so = subst Q (sym is) so

pub refused_on : {X : Type 0} (shapes : SchemaVersion) (db : Database) (r : Result X AdoptFault) (fault : AdoptFault) → IsErrAnd r (λ f. f ≡ fault) → IsRefused shapes fault db → IfErr r (λ why. IsRefused shapes why db)
refused_on shapes db (Ok x) fault is refused = tt
refused_on shapes db (Err f) fault is refused = subst (λ (g : AdoptFault). IsRefused shapes g db) (sym is) refused

-- the decoded tables of a store with the schema
module _ (a b : State) (shapes : SchemaVersion) (found : TableContents) (first : IsReadFrom shapes.version a.now found) (same : b.now ≡ a.now) where
  pub lacks : (shapes.AreThere b.now → ⊥) → ¬ HasRegisterSchema shapes a.now
  lacks none = is_none shapes a.now (made_by shapes.version a.now found first) (λ there. none (subst shapes.AreThere (sym same) there))

  pub has : shapes.AreThere b.now → IsOfVersion shapes a.now
  has there = is_of shapes a.now (made_by shapes.version a.now found first) (subst shapes.AreThere same there)

-- ---- mandates

-- the value of all tables, from those of schema version 1 and the mandates
all_said : (db : Trees) (found : TableContents) (listed : List (LiveSpan Mandate)) → DecodesRowsV1 db found → Says mandates db listed
    → DecodesAllRows db (record found { history = record found.history { mandates = listed } })
all_said db found listed said listed_said = record {
  editions = said.editions;
  moments = said.moments;
  history = record {
    parties = said.history.parties;
    roles = said.history.roles;
    members = said.history.members;
    units = said.history.units;
    parcels = said.history.parcels;
    rrrs = said.history.rrrs;
    sources = said.history.sources;
    mutations = said.history.mutations;
    namings = said.history.namings;
    mandates = listed_said;
  };
}

pub with_mandates_found : (db : Trees) (found : TableContents) (listed : List (LiveSpan Mandate)) → ReadsTablesV1 db found → ReadsMandates db listed
    → Finds db (record found { history = record found.history { mandates = listed } })
with_mandates_found db found listed finds are = record { said = all_said db found listed finds.said are.said; keyed = finds.keyed; mandates = are.keyed }

-- in schema version 1 there are no mandates
none_said : (db : Trees) (found : TableContents) → DecodesRowsV1 db found → DecodesAllRows (without_mandate_rows db) found
none_said db found said = record {
  editions = said.editions;
  moments = said.moments;
  history = record {
    parties = said.history.parties;
    roles = said.history.roles;
    members = said.history.members;
    units = said.history.units;
    parcels = said.history.parcels;
    rrrs = said.history.rrrs;
    sources = said.history.sources;
    mutations = said.history.mutations;
    namings = said.history.namings;
    mandates = subst (λ (listed : List (LiveSpan Mandate)). Says mandates (without_mandate_rows db) listed) (sym said.history.none) (IsPermutation-refl []);
  };
}

none_keyed : (db : Trees) → HaveUniqueRowidsV1 db → HaveUniqueRowidsV1 (without_mandate_rows db)
none_keyed db keyed = record {
  persons = record { parties = keyed.persons.parties; roles = keyed.persons.roles; members = keyed.persons.members };
  holdings = record { units = keyed.holdings.units; parcels = keyed.holdings.parcels; rrrs = keyed.holdings.rrrs };
  sources_and_mutations = record { sources = keyed.sources_and_mutations.sources; mutations = keyed.sources_and_mutations.mutations; namings = keyed.sources_and_mutations.namings };
}

none_apart : IsDistinct int_eq []
unfolding IsDistinct
none_apart = tt

no_rows : AreNumbered []
no_rows = record { whole = refl; apart = none_apart }

pub first_found : (db : Trees) (found : TableContents) → ReadsTablesV1 db found → Finds (without_mandate_rows db) found
first_found db found finds = record { said = none_said db found finds.said; keyed = none_keyed db finds.keyed; mandates = no_rows }

-- mandates that do not decode have no value
pub no_mandates_said : (db : Database) → ((listed : List (LiveSpan Mandate)) → ¬ Says mandates db.trees listed) → ¬ HasMandates db
no_mandates_said db none it = none it.listed it.said

pub unread_refused : (db : Database) (fault : ReadFault) → IsMadeBy 2 db → UnreadableOnlyIfNone (Says mandates db.trees) fault → IsRefused version_2 (of_read fault) db
unread_refused db read.Unreadable made cannot = is_none version_2 db made (no_mandates_said db (cannot refl))
unread_refused db read.NoMemory made cannot = tt
unread_refused db read.Store made cannot = tt

pub refused_after : {X : Type 0} (db : Database) (r : Result X AdoptFault) (fault : ReadFault) → IsErrAnd r (λ f. f ≡ of_read fault) → IsMadeBy 2 db → UnreadableOnlyIfNone (Says mandates db.trees) fault
    → IfErr r (λ why. IsRefused version_2 why db)
refused_after db (Ok x) fault is made cannot = tt
refused_after db (Err f) fault is made cannot = subst (λ (g : AdoptFault). IsRefused version_2 g db) (sym is) (unread_refused db fault made cannot)

-- ---- validation

module _ (stand : ValidHistoriesRepresentTimelines) (one : HistoriesRepresentOneTimeline) (order : OrderDoesNotMatter) (latest_is : LastMomentIsTheLastStamp) (lawful_too : SoundTimelinesAreValid) (intervals_too : OrderKeepsIntervals)
    (shapes : SchemaVersion) (db : Database) (of : IsOfVersion shapes db) (found : TableContents) (finds : Finds (shapes.rows db.trees) found) where
  said : DecodesAllRows (shapes.rows db.trees) found
  said = finds.said

  told_intervals : has_intervals (decode_rows moments (shapes.rows db.trees)) (decoded_history (shapes.rows db.trees)) ≡ has_intervals found.moments found.history
  told_intervals = intervals_too found.moments (decode_rows moments (shapes.rows db.trees)) found.history (decoded_history (shapes.rows db.trees))
      (told_is moments (shapes.rows db.trees) found.moments said.moments) (told_reordered (shapes.rows db.trees) found.history said.history)

  intervals : has_intervals found.moments found.history ≡ true → HasValidIntervals shapes db
  intervals proper = record { made = of; intervals = told_intervals ∙ proper }

  -- contents that fail a test are refused for it
  pub misses : (why : AdoptFault) → FailsTest why found → IsRefused shapes why db
  misses NotOurs missed = absurd missed
  misses Version missed = absurd missed
  misses Interval missed = (of, λ it. false≢true (sym missed ∙ sym told_intervals ∙ it.intervals))
  misses Unsound missed = (
    intervals missed.0,
    λ tl holds sound.
        missed.1 (lawful_too found.moments found.history tl (read_stands one order (shapes.rows db.trees) tl holds found.moments found.history said.moments said.history) sound),
  )
  misses NoMemory missed = tt
  misses Store missed = tt

  -- contents that pass all tests are a register
  pub passes : (latest : Moment) → IsValidWith found latest → IsRegisterTo shapes db latest
  passes latest passed =
      let p = passed.passes in
      let rows = shapes.rows db.trees in
      let tl = timeline_of found.moments found.history in
      let stands = stand found.moments found.history (are_moments rows found.moments said.moments) p.intervals p.valid_history in
      let holds : HoldsTimeline rows tl = record { listed = found.moments; history = found.history; holds = held_if_said rows found said finds.keyed finds.mandates; stands = stands.0 } in
      let is : decoded_timeline rows ≡ tl = tells one order rows tl holds stands.1 in
      let last_is : Some latest ≡ Some (let it : Moment = record { stamp = last_stamp tl; next = (last_register tl).next } in it) = sym passed.last ∙ latest_is found.moments found.history tl stands.0 stands.1 in
      record {
        register = record { intervals = intervals p.intervals; holds = rw is holds; sound = rw is stands.1 };
        last = rw is (let e = last_is in cc);
        next = rw is (let e = last_is in cc);
      }

  -- validated contents are a register, or are refused
  pub to_register : (r : Result Moment AdoptFault) → IsValidated found r → IfOk r (IsRegisterTo shapes db)
  to_register (Ok latest) passed = passes latest passed
  to_register (Err why) missed = tt

  pub to_refusal : (r : Result Moment AdoptFault) → IsValidated found r → IfErr r (λ why. IsRefused shapes why db)
  to_refusal (Ok latest) passed = tt
  to_refusal (Err why) missed = misses why missed

-- a refused store does not hold a register
pub refused_holds_none : (shapes : SchemaVersion) (why : AdoptFault) (db : Database) → IsRefused shapes why db → HoldsNoRegister shapes why db
refused_holds_none shapes NotOurs db refused other open_still it = refused it.intervals.made.ours
refused_holds_none shapes Version db refused other open_still it = refused.1 it.intervals.made
refused_holds_none shapes Interval db refused other open_still it = refused.1 it.intervals
refused_holds_none shapes Unsound db refused other open_still it = refused.1 (decoded_timeline (shapes.rows db.trees)) it.holds it.sound
refused_holds_none shapes NoMemory db refused other open_still it = other refl
refused_holds_none shapes Store db refused other open_still it = open_still refl
