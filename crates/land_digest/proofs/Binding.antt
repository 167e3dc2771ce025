-- Equal texts have the same moments, the same versions and the same registers up to their stamp.
use Rattle.std.proofs.Common.{◌≡◌, ℕ, ℤ, pos, negsuc, ◌<ℤ◌, ◌≤ℤ◌, int_le, Bool, true, List, [], ◌∷◌, inl, inr}
use Rattle.std.proofs.Common.{refl, sym, ap, subst, arith, IsPermutation}
use Rattle.std.proofs.lemmas.Int.{ints}
use Rattle.std.proofs.lemmas.List.Sorted.{IsPermutation-sym, IsPermutation-trans}
use Rattle.land_digest.proofs.AllTables.{in_all, in_its_list, list_at}
use Rattle.land_digest.proofs.Codes.{same_events}
use Rattle.land_digest.proofs.HistoryTables.{are_numbered, event_lists}
use Rattle.land_digest.proofs.Lifespans.{AllDisjoint, ComparesKeys, all_disjoint, by_pairs, each_in, key_of}
use Rattle.land_digest.proofs.Lifespans.{no_repeat_moments}
use Rattle.land_digest.proofs.Membership.{In, from_filter, from_flat_map, from_in_order, from_map, in_filter}
use Rattle.land_digest.proofs.Membership.{in_flat_map, in_in_order, in_map}
use Rattle.land_digest.proofs.NoRepeats.{IsWithin, no_repeat_filter, same_elements}
use Rattle.land_digest.proofs.OneTable.{AreDisjoint, Includes, same_standing, same_upto}
use Rattle.land_digest.proofs.RowsReadBack.{Any, Determines, HasExactContent, HasExactOutline}
use Rattle.land_digest.proofs.RowsReadBack.{mandates_determined, members_determined, mutations_determined}
use Rattle.land_digest.proofs.RowsReadBack.{namings_determined, parcels_determined, parties_determined}
use Rattle.land_digest.proofs.RowsReadBack.{roles_determined, rrrs_determined, sources_determined}
use Rattle.land_digest.proofs.RowsReadBack.{units_determined}
use Rattle.land_digest.specs.Events.{Event, events_upto, in_order}
use Rattle.land_digest.specs.Fields.{Absent, Field, Number, Text}
use Rattle.land_digest.specs.History.{history_events}
use Rattle.land_digest.specs.Known.{moments_upto, versions_upto}
use Rattle.land_digest.specs.Laws.{HasContentWithin, HasParcelOutline, TextBindsHistory}
use Rattle.land_digest.specs.Rows.{mandate_row, member_row, mutation_row, naming_row, parcel_row, party_row}
use Rattle.land_digest.specs.Rows.{role_row, rrr_row, source_row, unit_row}
use Rattle.land_digest.specs.Versions.{Row, end_of, moment_event, start_of, table_events, version_events}
use Rattle.land_shape.specs.Laws.{PrintedLaw}
use Rattle.land_tables_history.specs.Intervals.{is_same_grant, is_same_mandate, is_same_member}
use Rattle.land_tables_history.specs.Intervals.{is_same_naming, is_same_number}
use Rattle.land_tables_history.specs.Open.{never}
use Rattle.land_tables_history.specs.Pairs.{grants_by_pairs, mandates_by_pairs, members_by_pairs}
use Rattle.land_tables_history.specs.Pairs.{namings_by_pairs, numbers_by_pairs}
use Rattle.land_tables_history.specs.Standing.{current_values}
use Rattle.land_tables_history.specs.declared.history.History.{History}
use Rattle.land_tables_history.specs.declared.moment.Moment.{Moment}
use Rattle.land_tables_history.specs.declared.version.Version.{Version}
use Rattle.land_wire_json.specs.Texts.Laws.{TextsDetermineContents}

le_true : (a b : ℤ) → a ≤ℤ b → int_le a b ≡ true
le_true a b h = grind (arith, ints)

le_from : (a b : ℤ) → int_le a b ≡ true → a ≤ℤ b
le_from a b h = grind (arith, ints)

-- ---- the versions of an event

abbrev row_of : Event → Row
row_of e = record { table = e.table; first = e.first; second = e.second; values = e.values }

abbrev number_in : List Field → ℕ
number_in [] = 0
number_in (Number (pos n) ∷ fields) = n
number_in (Number (negsuc n) ∷ fields) = 0
number_in (Text bytes ∷ fields) = 0
number_in (Absent ∷ fields) = 0

abbrev read_moment : Event → Moment
read_moment e = record { stamp = e.stamp; next = number_in e.values }

module _ {X : Type 0} (row : X → Row) (vs : List (Version X)) where
  -- a start among the events of a table is that of a version
  start_in : (r : Row) (since : ℤ) → In (start_of r since) (table_events row vs)
      → (v : Version X) × In v vs × (start_of (row v.what) v.since ≡ start_of r since)
  start_in r since i = go (from_flat_map (version_events row) (start_of r since) vs i)
    where
      at : (v : Version X) → In v vs → In (start_of r since) (version_events row v)
          → (v : Version X) × In v vs × (start_of (row v.what) v.since ≡ start_of r since)
      at v k (inl f) = (v, k, f)
      at v k (inr (inl f)) = let n = ap (λ (e : Event). e.ends) f in absurd (omega (arith, n))
      at v k (inr (inr f)) = elim f [ ]

      go : (v : Version X) × In v vs × In (start_of r since) (version_events row v)
          → (v : Version X) × In v vs × (start_of (row v.what) v.since ≡ start_of r since)
      go a = at a.0 a.1 a.2

  -- and an end likewise
  end_in : (r : Row) (until : ℤ) → In (end_of r until) (table_events row vs)
      → (v : Version X) × In v vs × (end_of (row v.what) v.until ≡ end_of r until)
  end_in r until i = go (from_flat_map (version_events row) (end_of r until) vs i)
    where
      at : (v : Version X) → In v vs → In (end_of r until) (version_events row v)
          → (v : Version X) × In v vs × (end_of (row v.what) v.until ≡ end_of r until)
      at v k (inl f) = let n = ap (λ (e : Event). e.ends) f in absurd (omega (arith, n))
      at v k (inr (inl f)) = (v, k, f)
      at v k (inr (inr f)) = elim f [ ]

      go : (v : Version X) × In v vs × In (end_of r until) (version_events row v)
          → (v : Version X) × In v vs × (end_of (row v.what) v.until ≡ end_of r until)
      go a = at a.0 a.1 a.2

-- ---- the events of one history are those of the other

module _ (ones others : List Moment) (h k : History) (s : ℤ)
    (same : in_order (events_upto s (history_events ones h))
    ≡ in_order (events_upto s (history_events others k))) where
  in_other : (e : Event) → In e (history_events ones h) → e.stamp ≤ℤ s → In e (history_events others k)
  in_other e i by =
      (from_filter (λ e. int_le e.stamp s) e (history_events others k)
      (from_in_order e (events_upto s (history_events others k))
      (subst (λ l. In e l) same
      (in_in_order e (events_upto s (history_events ones h))
      (in_filter (λ e. int_le e.stamp s) e (history_events ones h) i (le_true e.stamp s by)))))).0

  -- an event of one table is in the same table of the other history
  in_other_list : (n : ℕ) (e : Event) → e.table ≡ n → In e (list_at n (event_lists ones h)) → e.stamp ≤ℤ s
      → In e (list_at n (event_lists others k))
  in_other_list n e is i by =
      in_its_list 0 n (event_lists others k) e (are_numbered others k) (omega (arith, is))
      (in_other e (in_all n (event_lists ones h) e i) by)

  moments_within : IsWithin (moments_upto s ones) (moments_upto s others)
  moments_within m i =
      let a = from_filter (λ m. int_le m.stamp s) m ones i in
      let e = moment_event m in
      let b = in_other_list 0 e refl (in_map moment_event m ones a.0) (le_from m.stamp s a.1) in
      let c = from_map moment_event e others b in
      in_filter (λ m. int_le m.stamp s) m others (subst (λ n. In n others) (ap read_moment c.2) c.1) a.1

-- ---- one table

-- the versions up to a stamp are the same, and those that are current at each moment up to it
record IsSame {X : Type 0} (s : ℤ) (vs ws : List (Version X)) : Type 0 where
  known : IsPermutation (versions_upto s vs) (versions_upto s ws)
  current : (t : ℤ) → t ≤ℤ s → IsPermutation (current_values t vs) (current_values t ws)

module _ {X : Type 0} (same : X → X → Bool) (row : X → Row) (compares : ComparesKeys same row) (n : ℕ)
    (numbered : (x : X) → (row x).table ≡ n) (Passes : X → Type 0) (determined : Determines Passes row)
    (s : ℤ) where
  abbrev AllPass : List (Version X) → Type 0
  AllPass vs = (v : Version X) → In v vs → Passes v.what

  abbrev AreAmong : (vs ws : List (Version X)) → Type 0
  AreAmong vs ws = (e : Event) → e.table ≡ n → In e (table_events row vs) → e.stamp ≤ℤ s
      → In e (table_events row ws)

  includes : (vs ws : List (Version X)) → AllPass vs → AllPass ws → AreAmong vs ws
      → Includes (key_of row) s vs ws
  includes vs ws pass_v pass_w in_ws = record { starts = starts; ends = ends }
    where
      starts : (v : Version X) → In v vs → v.since ≤ℤ s
          → (w : Version X) × In w ws × (w.what ≡ v.what) × (w.since ≡ v.since)
      starts v i by =
          let e = start_of (row v.what) v.since in
          let among = in_flat_map (version_events row) v e vs i (inl refl) in
          let a = start_in row ws (row v.what) v.since (in_ws e (numbered v.what) among by) in (
            a.0,
            a.1,
            determined a.0.what v.what (pass_w a.0 a.1) (pass_v v i) (ap row_of a.2),
            ap (λ (e : Event). e.stamp) a.2,
          )

      ends : (v : Version X) → In v vs → v.until ≤ℤ s
          → (w : Version X) × In w ws × (key_of row w.what ≡ key_of row v.what) × (w.until ≡ v.until)
      ends v i by =
          let e = end_of (row v.what) v.until in
          let among = in_flat_map (version_events row) v e vs i (inr (inl refl)) in
          let a = end_in row ws (row v.what) v.until (in_ws e (numbered v.what) among by) in (
            a.0,
            a.1,
            ap (λ (e : Event). (e.first, e.second)) a.2,
            ap (λ (e : Event). e.stamp) a.2,
          )

  is_same : s <ℤ never → (vs ws : List (Version X)) → AllPass vs → AllPass ws → AreDisjoint same vs
      → AreDisjoint same ws → AreAmong vs ws → AreAmong ws vs → IsSame s vs ws
  is_same early vs ws pass_v pass_w disjoint_v disjoint_w in_ws in_vs =
      let to = includes vs ws pass_v pass_w in_ws in
      let from = includes ws vs pass_w pass_v in_vs in
      record {
        known = same_upto same (key_of row) compares s early vs ws disjoint_v disjoint_w to from;
        current = same_standing same (key_of row) compares s early vs ws disjoint_v disjoint_w to from;
      }

-- ---- all tables

all_pass : {X : Type 0} (vs : List (Version X)) (v : Version X) → In v vs → Any v.what
all_pass vs v i = tt

pub text_binds_history : PrintedLaw → TextsDetermineContents → TextBindsHistory
text_binds_history printed_law content_law ones others h k s early valid_h valid_k exact_h exact_k e =
    record {
      moments =
          same_elements (moments_upto s ones) (moments_upto s others)
          (no_repeat_filter (λ m. int_le m.stamp s) ones (no_repeat_moments ones valid_h.stamps))
          (no_repeat_filter (λ m. int_le m.stamp s) others (no_repeat_moments others valid_k.stamps))
          (moments_within ones others h k s same) (moments_within others ones k h s (sym same));
      versions = record {
        parties = parties.known;
        roles = roles.known;
        members = members.known;
        units = units.known;
        parcels = parcels.known;
        rrrs = rrrs.known;
        sources = sources.known;
        mutations = mutations.known;
        namings = namings.known;
        mandates = mandates.known;
      };
      registers = λ t register by at. record {
        parties = turned (parties.current t by) at.parties;
        roles = turned (roles.current t by) at.roles;
        members = turned (members.current t by) at.members;
        units = turned (units.current t by) at.units;
        parcels = turned (parcels.current t by) at.parcels;
        rrrs = turned (rrrs.current t by) at.rrrs;
        sources = turned (sources.current t by) at.sources;
        mutations = turned (mutations.current t by) at.mutations;
        namings = turned (namings.current t by) at.namings;
        mandates = turned (mandates.current t by) at.mandates;
      };
    }
  where
    same : in_order (events_upto s (history_events ones h))
        ≡ in_order (events_upto s (history_events others k))
    same =
        same_events (in_order (events_upto s (history_events ones h)))
        (in_order (events_upto s (history_events others k))) e

    forth : (n : ℕ) (e : Event) → e.table ≡ n → In e (list_at n (event_lists ones h)) → e.stamp ≤ℤ s
        → In e (list_at n (event_lists others k))
    forth = in_other_list ones others h k s same

    back : (n : ℕ) (e : Event) → e.table ≡ n → In e (list_at n (event_lists others k)) → e.stamp ≤ℤ s
        → In e (list_at n (event_lists ones h))
    back = in_other_list others ones k h s (sym same)

    turned : {X : Type 0} {xs ys zs : List X} → IsPermutation xs ys → IsPermutation xs zs
        → IsPermutation ys zs
    turned {X} {xs} {ys} {zs} p q = IsPermutation-trans ys xs zs (IsPermutation-sym xs ys p) q

    in_h : AllDisjoint h
    in_h = all_disjoint ones h valid_h.lifespans

    in_k : AllDisjoint k
    in_k = all_disjoint others k valid_k.lifespans

    parties : IsSame s h.parties k.parties
    parties =
        is_same is_same_number party_row (by_pairs is_same_number party_row numbers_by_pairs) 1 (λ x. refl)
        Any parties_determined s early h.parties k.parties (all_pass h.parties)
        (all_pass k.parties) in_h.parties in_k.parties (forth 1) (back 1)

    roles : IsSame s h.roles k.roles
    roles =
        is_same is_same_grant role_row (by_pairs is_same_grant role_row grants_by_pairs) 2 (λ x. refl)
        Any roles_determined s early h.roles k.roles (all_pass h.roles)
        (all_pass k.roles) in_h.roles in_k.roles (forth 2) (back 2)

    members : IsSame s h.members k.members
    members =
        is_same is_same_member member_row (by_pairs is_same_member member_row members_by_pairs) 3 (λ x. refl)
        Any members_determined s early h.members k.members (all_pass h.members)
        (all_pass k.members) in_h.members in_k.members (forth 3) (back 3)

    units : IsSame s h.units k.units
    units =
        is_same is_same_number unit_row (by_pairs is_same_number unit_row numbers_by_pairs) 4 (λ x. refl)
        Any units_determined s early h.units k.units (all_pass h.units)
        (all_pass k.units) in_h.units in_k.units (forth 4) (back 4)

    parcels : IsSame s h.parcels k.parcels
    parcels =
        is_same is_same_number parcel_row (by_pairs is_same_number parcel_row numbers_by_pairs) 5 (λ x. refl)
        HasExactOutline (parcels_determined printed_law) s early h.parcels k.parcels
        (each_in HasParcelOutline h.parcels exact_h.parcels)
        (each_in HasParcelOutline k.parcels exact_k.parcels) in_h.parcels in_k.parcels (forth 5) (back 5)

    rrrs : IsSame s h.rrrs k.rrrs
    rrrs =
        is_same is_same_number rrr_row (by_pairs is_same_number rrr_row numbers_by_pairs) 6 (λ x. refl)
        Any rrrs_determined s early h.rrrs k.rrrs (all_pass h.rrrs)
        (all_pass k.rrrs) in_h.rrrs in_k.rrrs (forth 6) (back 6)

    sources : IsSame s h.sources k.sources
    sources =
        is_same is_same_number source_row (by_pairs is_same_number source_row numbers_by_pairs) 7 (λ x. refl)
        Any sources_determined s early h.sources k.sources (all_pass h.sources)
        (all_pass k.sources) in_h.sources in_k.sources (forth 7) (back 7)

    mutations : IsSame s h.mutations k.mutations
    mutations =
        is_same is_same_number mutation_row (by_pairs is_same_number mutation_row numbers_by_pairs) 8
        (λ x. refl)
        HasExactContent (mutations_determined content_law) s early h.mutations k.mutations
        (each_in HasContentWithin h.mutations exact_h.mutations)
        (each_in HasContentWithin k.mutations exact_k.mutations) in_h.mutations in_k.mutations (forth 8)
        (back 8)

    namings : IsSame s h.namings k.namings
    namings =
        is_same is_same_naming naming_row (by_pairs is_same_naming naming_row namings_by_pairs) 9 (λ x. refl)
        Any namings_determined s early h.namings k.namings (all_pass h.namings)
        (all_pass k.namings) in_h.namings in_k.namings (forth 9) (back 9)

    mandates : IsSame s h.mandates k.mandates
    mandates =
        is_same is_same_mandate mandate_row (by_pairs is_same_mandate mandate_row mandates_by_pairs) 10
        (λ x. refl)
        Any mandates_determined s early h.mandates k.mandates (all_pass h.mandates)
        (all_pass k.mandates) in_h.mandates in_k.mandates (forth 10) (back 10)
