-- The statements for the parties of entries, as joins of two tables, and the contents of their rows.
use Rattle.std.proofs.Common.{◌≡◌, ◌↔◌, ℕ, ℤ, List, [], ◌∷◌, ◌++◌, codes, map as map_list, nat_eq, int_le, int_lt, Bool, true, ◌&&◌, Ok, Err, IfErr, IfOk, Some, Result, inl, inr, refl, sym, ap, subst, ◌∙◌}
use Rattle.std.proofs.lemmas.Bool.Decides.{Decides-and, Decides-eqb, Decides-like}
use Rattle.std.specs.Bool.{Decides}
use Rattle.std.specs.FinMap as map
use Rattle.std.specs.List.{AllByRecursion, Contains, list_all}
use Rattle.land_core.specs.declared.party.PartyRecord.{PartyRecord}
use Rattle.land_core.specs.declared.register.Register.{Register}
use Rattle.land_core.specs.declared.rrr.RrrRecord.{RrrRecord}
use Rattle.land_select_queries.proofs.Containing.{from_map, to_map}
use Rattle.land_select_queries.proofs.Joined.{Asks, from}
use Rattle.land_select_queries.proofs.Known.{caller, same, still}
use Rattle.land_select_queries.proofs.Passing.{each_from, fine}
use Rattle.land_select_queries.proofs.Places as place
use Rattle.land_select_queries.proofs.Places.{as_stored, read_back, read_of, shape, shows}
use Rattle.land_select_queries.proofs.Selected.{of, stood, version}
use Rattle.land_select_queries.proofs.Sets.{answered, answers, plainly}
use Rattle.land_select_queries.proofs.Shapes.{AreShapes, SayAll, all_decided, is_shape, shape_itself}
use Rattle.land_select_queries.proofs.Standing.{some_decides, stood as standing_under, there}
use Rattle.land_select_queries.proofs.RangeQueries.{asked, in_range, ranged}
use Rattle.land_select_queries.proofs.Tested.{asked_is, itself}
use Rattle.land_select_queries.specs.Joins.Meaning.{query_parameters}
use Rattle.land_select_queries.specs.Joins.Execution.{HoldsNoHistory, known_or_zero}
use Rattle.land_select_queries.specs.Lookups.Parties.{ArePartiesAmong, ArePartyRows, HasEntry, YieldParties, has_entry_among, of_range, of_unit}
use Rattle.land_select_queries.specs.Sights.Selections.{Entry, IsCurrent}
use Rattle.land_select_queries.specs.declared.lookups.texts.TheConstants.{PARTIES_OF_ENTRIES, PARTIES_OF_UNIT}
use Rattle.land_tables_history.specs.History.{IsRegisterAt}
use Rattle.land_tables_history.specs.declared.history.History.{History}
use Rattle.land_tables_history.specs.declared.moment.Moment.{Moment}
use Rattle.land_tables_history.specs.declared.version.Version.{Version}
use Rattle.land_tables_rows.proofs.Readings.{each_all}
use Rattle.land_tables_rows.specs.Listing.Reading.{IsRead, parties}
use Rattle.land_tables_rows.specs.Writing.History.{HoldsHistory}
use Rattle.land_tables_rows.specs.declared.listing.fault.ReadFault.{ReadFault}
use Rattle.land_tables_schema.proofs.Versions.{columns_of}
use Rattle.land_tables_schema.specs.Schemas.{schema_v2_with}
use Rattle.land_tables_schema.specs.Rows.ReadQueries.{columns_from}
use Rattle.land_wire_json.specs.declared.bodies.wire_fault.WireFault.{WireFault}
use Rattle.sqlite.specs.Listing.{understood}
use Rattle.sqlite.specs.Program.{overlay}
use Rattle.sqlite.specs.Query.{IsAnswer, Query}
use Rattle.sqlite_rules.proofs.ListLemmas.{contains_had, has_contained}
use Rattle.sqlite_rules.proofs.ProbeLemmas.{has_mapped, mapped_has}
use Rattle.sqlite_rules.specs.Lists.{Has}
use Rattle.sqlite_schema.specs.declared.schema.Index.{Index}
use Rattle.sqlite_sql.specs.Term.{Env, Term, col, eval_all, holds}
use Rattle.sqlite_tied.specs.Compute.{everything}
use Rattle.sqlite_trees.specs.Tree.{Trees}
use Rattle.sqlite_value.specs.Order.{Row}

abbrev tables : List place.Place
tables = place.rrrs ∷ place.parties ∷ []

abbrev PartyVersion : Type 0
PartyVersion = Version (ℕ × PartyRecord)

abbrev query_of : List Term → Query
query_of filter = plainly (from tables) filter (columns_of 2 1 5)

-- ---- rows

-- the pairs of current versions of a matching entry and its party
abbrev IsPair : (t : ℤ) → (ℕ → RrrRecord → Bool) → Version Entry → PartyVersion → Type 0
IsPair t meant e p =
    (p.what.0 ≡ e.what.1.party) × ((meant e.what.0 e.what.1 ≡ true) × ((int_le e.since t ≡ true) × ((int_lt t e.until ≡ true) × ((int_le p.since t ≡ true) × ((int_lt t p.until ≡ true) × Unit {0})))))

-- rows of an entry and a party pass if their versions are such a pair
abbrev Pairs : (t : ℤ) → (ℕ → RrrRecord → Bool) → List Term → (params : Row) → Type 0
Pairs t meant filter params =
    (e : Version Entry) (p : PartyVersion) (one other : Row) → place.IsOf place.rrrs e one → place.IsOf place.parties p other
    → Decides (list_all (holds (params ∷ one ∷ other ∷ [])) filter) (IsPair t meant e p)

module _ (t : ℤ) (meant : ℕ → RrrRecord → Bool) (filter : List Term) (params : Row) (paired : Pairs t meant filter params) (db : Trees) (moments : List Moment) (h : History) (held : HoldsHistory db moments h)
    (rows : List Row) (a : IsAnswer (query_of filter) (overlay db []) params rows) where
  said_so : (row : Row) → Has rows row → (v : PartyVersion) × (parties.said row ≡ Ok v) × HasEntry t h meant v.what
  said_so row has =
      let it = answered (from tables) filter (columns_of 2 1 5) refl (overlay db []) params rows a row has in
      let one = it.1.0 in
      let other = it.1.2.0 in
      let env = it.1.2.2 in
      let e = read_of db moments h held place.rrrs one (subst (λ rows. Has rows one) (as_stored db place.rrrs) it.1.1) in
      let p = read_of db moments h held place.parties other (subst (λ rows. Has rows other) (as_stored db place.parties) it.1.2.1) in
      let say = (paired e.0 p.0 one other (shows place.rrrs one e.0 e.2) (shows place.parties other p.0 p.2)).0 (subst (λ (x : Env). list_all (holds x) filter ≡ true) env it.2) in
      let shown : row ≡ columns_from 1 5 other = it.3 ∙ ap (eval_all (columns_of 2 1 5)) env in (
        p.0,
        ap parties.said shown ∙ p.2,
        record {
          party_exists = stood t h.parties p.0 p.1 say.1.1.1.1.0 say.1.1.1.1.1.0;
          entry = e.0.what;
          entry_stands = stood t h.rrrs e.0 e.1 say.1.1.0 say.1.1.1.0;
          is_meant = say.1.0;
          of_party = sym say.0;
        },
      )

  is_said : (party : ℕ × PartyRecord) → HasEntry t h meant party → (row : Row) × Has rows row × ((v : PartyVersion) × (parties.said row ≡ Ok v) × (v.what ≡ party))
  is_said party it =
      let e = version t h.rrrs it.entry it.entry_stands in
      let p = version t h.parties party it.party_exists in
      let one = read_back db moments h held place.rrrs (of it.entry e.since e.until) e.has in
      let other = read_back db moments h held place.parties (of party p.since p.until) p.has in
      let passed =
      (paired (of it.entry e.since e.until) (of party p.since p.until) one.0 other.0 (shows place.rrrs one.0 (of it.entry e.since e.until) one.2) (shows place.parties other.0 (of party p.since p.until) other.2)).1
      (sym it.of_party, (it.is_meant, (e.begun, (e.going, (p.begun, (p.going, tt)))))) in (
        columns_from 1 5 other.0,
        answers (from tables) filter (columns_of 2 1 5) refl (overlay db []) params rows a (params ∷ one.0 ∷ other.0 ∷ [])
            (one.0, subst (λ rows. Has rows one.0) (sym (as_stored db place.rrrs)) one.1, (other.0, subst (λ rows. Has rows other.0) (sym (as_stored db place.parties)) other.1, refl)) passed,
        (of party p.since p.until, other.2, refl),
      )

-- ---- the entries of a unit

abbrev unit_filter : List Term
unit_filter = same (col 2 1) (col 1 3) ∷ same (col 1 2) caller ∷ still 1 12 ++ still 2 4

abbrev pub unit_query : Query
unit_query = query_of unit_filter

-- the statement is exactly this query
pub asks_unit : (indexes : List Index) → Asks (schema_v2_with indexes) PARTIES_OF_UNIT.now unit_query
unfolding understood everything
asks_unit indexes = record { names = codes "number" ∷ codes "name" ∷ codes "kind" ∷ codes "since" ∷ codes "until" ∷ []; command = refl; unlisted = refl; plain = (refl, refl) }

unit_pairs : (unit : ℕ) (t : ℤ) → Pairs t (of_unit unit) unit_filter (query_parameters (known_or_zero unit) t)
unit_pairs unit t e p one other is its =
    let params = query_parameters (known_or_zero unit) t in
    let asked = asked_is e.what.1.unit unit is.1.2 in
    Decides-like (list_all (holds (params ∷ one ∷ other ∷ [])) unit_filter) (λ h. (h.0, (asked.1 h.1.0, h.1.1))) (λ h. (h.0, (asked.0 h.1.0, h.1.1)))
    (all_decided unit_filter (params ∷ shape place.rrrs e ∷ shape place.parties p ∷ []) (params ∷ one ∷ other ∷ [])
    (shape_itself params, (is_shape (shape place.rrrs e) one is.0, (is_shape (shape place.parties p) other its.0, tt))) refl)

pub are_unit_rows : (unit : ℕ) (t : ℤ) (db : Trees) (rows : List Row) → IsAnswer unit_query (overlay db []) (query_parameters (known_or_zero unit) t) rows → ArePartyRows (of_unit unit) t db rows
are_unit_rows unit t db rows a moments h held =
    let params = query_parameters (known_or_zero unit) t in
    record { each = said_so t (of_unit unit) unit_filter params (unit_pairs unit t) db moments h held rows a; all = is_said t (of_unit unit) unit_filter params (unit_pairs unit t) db moments h held rows a }

-- ---- the entries in a range

abbrev range_filter : List Term
range_filter = same (col 2 1) (col 1 3) ∷ ranged 1 (still 1 12 ++ still 2 4)

abbrev pub range_query : Query
range_query = query_of range_filter

-- the statement is exactly this query
pub asks_range : (indexes : List Index) → Asks (schema_v2_with indexes) PARTIES_OF_ENTRIES.now range_query
unfolding understood everything
asks_range indexes = record { names = codes "number" ∷ codes "name" ∷ codes "kind" ∷ codes "since" ∷ codes "until" ∷ []; command = refl; unlisted = refl; plain = (refl, refl) }

range_pairs : (first last : ℕ) (t : ℤ) → Pairs t (of_range first last) range_filter (asked first last t)
range_pairs first last t e p one other is its =
    let params = asked first last t in
    let within = in_range first last e.what.0 is.1.1 in
    Decides-like (list_all (holds (params ∷ one ∷ other ∷ [])) range_filter) (λ h. (h.0, (within.1 (h.1.0, h.1.1.0), h.1.1.1))) (λ h. let ends = within.0 h.1.0 in (h.0, (ends.0, (ends.1, h.1.1))))
    (all_decided range_filter (params ∷ shape place.rrrs e ∷ shape place.parties p ∷ []) (params ∷ one ∷ other ∷ [])
    (shape_itself params, (is_shape (shape place.rrrs e) one is.0, (is_shape (shape place.parties p) other its.0, tt))) refl)

pub are_range_rows : (first last : ℕ) (t : ℤ) (db : Trees) (rows : List Row) → IsAnswer range_query (overlay db []) (asked first last t) rows → ArePartyRows (of_range first last) t db rows
are_range_rows first last t db rows a moments h held =
    let params = asked first last t in
    let pairs = range_pairs first last t in
    record { each = said_so t (of_range first last) range_filter params pairs db moments h held rows a; all = is_said t (of_range first last) range_filter params pairs db moments h held rows a }

-- ---- decoded rows

same_fine : (v w : PartyVersion) → ◌≡◌ {A = Result PartyVersion WireFault} (Ok v) (Ok w) → v ≡ w
same_fine v w e = cc

module _ (rows : List Row) (Wanted : ℕ × PartyRecord → Type 0) (say : YieldParties rows Wanted) where
  abbrev what_of : PartyVersion → ℕ × PartyRecord
  what_of v = v.what

  pub all_read : (versions : List PartyVersion) → map_list parties.said rows ≡ map_list (λ v. Ok v) versions → (party : ℕ × PartyRecord) → Contains (map_list what_of versions) party ↔ Wanted party
  all_read versions read party = (to_wanted, from_wanted)
    where
      to_wanted : Contains (map_list what_of versions) party → Wanted party
      to_wanted among =
          let v = from_map what_of versions party among in
          let told = mapped_has fine versions v.0 (has_contained versions v.0 v.1) in
          let row = has_mapped parties.said rows (fine v.0) (subst (λ l. Has l (fine v.0)) (sym read) told) in
          let one = say.each row.0 row.1 in
          let is : one.0 ≡ v.0 = same_fine one.0 v.0 (sym one.1 ∙ sym row.2) in
          subst Wanted (ap what_of is ∙ v.2) one.2

      from_wanted : Wanted party → Contains (map_list what_of versions) party
      from_wanted wanted =
          let row = say.all party wanted in
          let told = subst (λ r. Has (map_list parties.said rows) r) row.2.1 (mapped_has parties.said rows row.0 row.1) in
          let v = has_mapped fine versions (fine row.2.0) (subst (λ l. Has l (fine row.2.0)) read told) in
          let is : v.0 ≡ row.2.0 = same_fine v.0 row.2.0 (sym v.2) in
          subst (Contains (map_list what_of versions)) (ap what_of is ∙ row.2.2) (to_map what_of versions v.0 (contains_had versions v.0 v.1))

  pub readable : (some : List Row) → ((row : Row) → Has some row → Has rows row) → AllByRecursion (λ r. (v : PartyVersion) × (r ≡ Ok v)) (map_list parties.said some)
  readable [] sub = tt
  readable (row ∷ more) sub = let one = say.each row (sub row (inl refl)) in ((one.0, one.1), readable more (λ r has. sub r (inr has)))

-- a party with a matching entry, by the current versions
entry_decides : (r : Register) (t : ℤ) (h : History) → IsRegisterAt t h r → (meant : ℕ → RrrRecord → Bool) (party : ℕ)
    → Decides (has_entry_among r meant party) ((e : Entry) × IsCurrent t h.rrrs e × ((meant e.0 e.1 ≡ true) × (e.1.party ≡ party)))
entry_decides r t h is meant party =
    some_decides t h.rrrs r.rrrs is.rrrs (λ n e. meant n e && nat_eq e.party party) (λ e. (meant e.0 e.1 ≡ true) × (e.1.party ≡ party))
    (λ e standing. Decides-and (meant e.0 e.1) (nat_eq e.1.party party) (itself (meant e.0 e.1)) (Decides-eqb e.1.party party))

module _ (meant : ℕ → RrrRecord → Bool) (t : ℤ) (db : Trees) (rows : List Row) (are : ArePartyRows meant t db rows) where
  pub parties_told : (r : Result (List PartyVersion) ReadFault) → IsRead parties.said rows r → IfOk r (ArePartiesAmong meant t db)
  parties_told (Ok versions) read = λ moments h held r is party.
      let all = all_read rows (HasEntry t h meant) (are moments h held) versions (each_all parties.said rows versions read) party in
      let decided = entry_decides r t h is meant party.0 in (
        (λ among. let it = all.0 among in (decided.1 (it.entry, it.entry_stands, (it.is_meant, it.of_party)), there t h.parties r.parties is.parties party it.party_exists)),
        (λ both. let e = decided.0 both.0 in all.1 (record {
          party_exists = standing_under t h.parties r.parties is.parties party.0 party.1 both.1;
          entry = e.0;
          entry_stands = e.1;
          is_meant = e.2.0;
          of_party = e.2.1;
        })),
      )
  parties_told (Err fault) read = tt

  pub none_held : (r : Result (List PartyVersion) ReadFault) → IsRead parties.said rows r → IfErr r (HoldsNoHistory db)
  none_held (Ok versions) read = tt
  none_held (Err fault) read = λ is moments h held.
      let it = each_from parties.said rows (readable rows (HasEntry t h meant) (are moments h held) rows (λ r has. has)) in
      (read (λ e. absurd (let a = is in let b = e in cc))).1 it.0 it.1
