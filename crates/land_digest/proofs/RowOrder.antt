-- The text of a history does not depend on the order of its moments and versions.
use Rattle.std.proofs.Common.{ℤ, int_le, ◌⊎◌, List, [], ◌∷◌, ◌++◌, inl, inr, ap, subst, IsPermutation}
use Rattle.std.proofs.lemmas.List.Sorted.{IsPermutation-sym}
use Rattle.std.specs.Prelude.{⊤}
use Rattle.land_digest.proofs.AllTables.{also, joined}
use Rattle.land_digest.proofs.HistoryTables.{event_lists}
use Rattle.land_digest.proofs.Membership.{In, from_filter, from_flat_map, from_in_order, from_map, in_either}
use Rattle.land_digest.proofs.Membership.{in_filter, in_flat_map, in_in_order, in_left, in_map, in_right}
use Rattle.land_digest.proofs.NoRepeats.{IsWithin}
use Rattle.land_digest.proofs.Order.{along_permutation, same_up, up_in_order}
use Rattle.land_digest.proofs.Places.{events_have_distinct_places}
use Rattle.land_digest.specs.Events.{Event, events_text, events_upto, in_order}
use Rattle.land_digest.specs.History.{history_events}
use Rattle.land_digest.specs.Laws.{HaveSameVersions, TextIgnoresRowOrder}
use Rattle.land_digest.specs.Rows.{mandate_row, member_row, mutation_row, naming_row, parcel_row, party_row}
use Rattle.land_digest.specs.Rows.{role_row, rrr_row, source_row, unit_row}
use Rattle.land_digest.specs.Versions.{Row, moment_event, moment_events, table_events, version_events}
use Rattle.land_tables_history.specs.declared.history.History.{History}
use Rattle.land_tables_history.specs.declared.moment.Moment.{Moment}
use Rattle.land_tables_history.specs.declared.version.Version.{Version}

within_permuted : {X : Type 0} (xs ys : List X) → IsPermutation xs ys → IsWithin xs ys
within_permuted {X} = along_permutation IsWithin (λ xs z i. i) under over (λ xs ys zs g h z i. h z (g z i))
  where
    under : (x : X) (xs ys : List X) → IsWithin xs ys → IsWithin (x ∷ xs) (x ∷ ys)
    under x xs ys to z (inl e) = inl e
    under x xs ys to z (inr i) = inr (to z i)

    over : (x y : X) (xs : List X) → IsWithin (x ∷ y ∷ xs) (y ∷ x ∷ xs)
    over x y xs z (inl e) = inr (inl e)
    over x y xs z (inr (inl e)) = inl e
    over x y xs z (inr (inr i)) = inr (inr i)

within_versions : {X : Type 0} (row : X → Row) (vs ws : List (Version X)) → IsPermutation vs ws
    → IsWithin (table_events row vs) (table_events row ws)
within_versions row vs ws p e i =
    let a = from_flat_map (version_events row) e vs i in
    in_flat_map (version_events row) a.0 e ws (within_permuted vs ws p a.0 a.1) a.2

within_moments : (ms ns : List Moment) → IsPermutation ms ns → IsWithin (moment_events ms) (moment_events ns)
within_moments ms ns p e i =
    let a = from_map moment_event e ms i in
    subst (λ e. In e (moment_events ns)) a.2 (in_map moment_event a.0 ns (within_permuted ms ns p a.0 a.1))

-- ---- all tables

abbrev AllWithin : (ls ms : List (List Event)) → Type 0
AllWithin [] ms = ⊤
AllWithin (l ∷ ls) [] = ⊥
AllWithin (l ∷ ls) (m ∷ ms) = IsWithin l m × AllWithin ls ms

joined_within : (ls ms : List (List Event)) → AllWithin ls ms → IsWithin (joined ls) (joined ms)
joined_within [] ms all z i = elim i [ ]
joined_within (l ∷ ls) [] all z i = absurd all
joined_within (l ∷ ls) (m ∷ ms) all z i = go (in_either z l (joined ls) i) (joined_within ls ms all.1 z)
  where
    go : In z l ⊎ In z (joined ls) → (In z (joined ls) → In z (joined ms)) → In z (m ++ joined ms)
    go (inl a) rest = in_left z m (joined ms) (all.0 z a)
    go (inr b) rest = in_right z m (joined ms) (rest b)

history_within : (ones others : List Moment) (h k : History) → IsPermutation ones others
    → HaveSameVersions h k → IsWithin (history_events ones h) (history_events others k)
history_within ones others h k moments same =
    joined_within (event_lists ones h) (event_lists others k)
    (also (within_moments ones others moments)
    (also (within_versions party_row h.parties k.parties same.parties)
    (also (within_versions role_row h.roles k.roles same.roles)
    (also (within_versions member_row h.members k.members same.members)
    (also (within_versions unit_row h.units k.units same.units)
    (also (within_versions parcel_row h.parcels k.parcels same.parcels)
    (also (within_versions rrr_row h.rrrs k.rrrs same.rrrs)
    (also (within_versions source_row h.sources k.sources same.sources)
    (also (within_versions mutation_row h.mutations k.mutations same.mutations)
    (also (within_versions naming_row h.namings k.namings same.namings)
    (also (within_versions mandate_row h.mandates k.mandates same.mandates) tt)))))))))))

in_order_within : (s : ℤ) (xs ys : List Event) → IsWithin xs ys
    → IsWithin (in_order (events_upto s xs)) (in_order (events_upto s ys))
in_order_within s xs ys to e i =
    let a = from_filter (λ e. int_le e.stamp s) e xs (from_in_order e (events_upto s xs) i) in
    in_in_order e (events_upto s ys) (in_filter (λ e. int_le e.stamp s) e ys (to e a.0) a.1)

turned : (h k : History) → HaveSameVersions h k → HaveSameVersions k h
turned h k same = record {
  parties = IsPermutation-sym h.parties k.parties same.parties;
  roles = IsPermutation-sym h.roles k.roles same.roles;
  members = IsPermutation-sym h.members k.members same.members;
  units = IsPermutation-sym h.units k.units same.units;
  parcels = IsPermutation-sym h.parcels k.parcels same.parcels;
  rrrs = IsPermutation-sym h.rrrs k.rrrs same.rrrs;
  sources = IsPermutation-sym h.sources k.sources same.sources;
  mutations = IsPermutation-sym h.mutations k.mutations same.mutations;
  namings = IsPermutation-sym h.namings k.namings same.namings;
  mandates = IsPermutation-sym h.mandates k.mandates same.mandates;
}

pub text_ignores_row_order : TextIgnoresRowOrder
text_ignores_row_order ones others h k s valid_h valid_k moments same =
    ap events_text
    (same_up (in_order (events_upto s (history_events ones h)))
    (in_order (events_upto s (history_events others k)))
    (up_in_order (events_upto s (history_events ones h)) (events_have_distinct_places ones h s valid_h))
    (up_in_order (events_upto s (history_events others k)) (events_have_distinct_places others k s valid_k))
    (in_order_within s (history_events ones h) (history_events others k)
    (history_within ones others h k moments same))
    (in_order_within s (history_events others k) (history_events ones h)
    (history_within others ones k h (IsPermutation-sym ones others moments) (turned h k same))))
