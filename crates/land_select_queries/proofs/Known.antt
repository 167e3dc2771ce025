-- Each statement as a join of tables.
use Rattle.std.proofs.Common.{ℕ, suc, List, [], ◌∷◌, ◌++◌, codes, refl}
use Rattle.land_core.specs.declared.kind.Kind.TheVariants as kind
use Rattle.land_select_queries.proofs.Joined.{IsJoin}
use Rattle.land_select_queries.proofs.Places.{parties, members, units, parcels, rrrs, sources, mutations, names}
use Rattle.land_select_queries.specs.Joins.Texts.{selection_text}
use Rattle.land_select_queries.specs.declared.sights.selection.Selection.TheVariants as selection
use Rattle.sqlite.specs.Listing.{understood}
use Rattle.sqlite.specs.declared.types.Value.TheVariants.{Text}
use Rattle.sqlite_sql.specs.Term.{Term, lit, col, op2}
use Rattle.sqlite_sql.specs.declared.ops.BinaryOp.TheVariants.{Compare, Or}
use Rattle.sqlite_sql.specs.declared.ops.CompareOp.TheVariants.{Eq, Ne, Le, Lt}
use Rattle.sqlite_tied.specs.Compute.{everything}
use Rattle.sqlite_value.specs.declared.keys.Collation.TheVariants.{Binary}

abbrev pub same : Term → Term → Term
same = op2 (Compare Eq Binary)

abbrev pub word : Term → List ℕ → Term
word t w = same t (lit (Text w))

abbrev pub not_word : Term → List ℕ → Term
not_word t w = op2 (Compare Ne Binary) t (lit (Text w))

abbrev pub caller : Term
caller = col 0 0

abbrev pub moment : Term
moment = col 0 1

-- the class of an entry is a right
abbrev pub a_right : ℕ → Term
a_right slot = op2 Or (word (col slot 4) (codes "ownership")) (op2 Or (word (col slot 4) (codes "lease")) (word (col slot 4) (codes "usufruct")))

-- a mortgage is visible to an owner
abbrev pub is_shown : (held seen : ℕ) → Term
is_shown held seen = op2 Or (not_word (col seen 4) (codes "mortgage")) (word (col held 4) (codes "ownership"))

-- a mortgage is visible to its creditor
abbrev pub is_own : (seen : ℕ) → Term
is_own seen = op2 Or (not_word (col seen 4) (codes "mortgage")) (same (col seen 3) caller)

abbrev pub a_mortgage : ℕ → Term
a_mortgage slot = word (col slot 4) (codes "mortgage")

-- a version is current: its lifespan is in this column and the next
abbrev pub still : ℕ → ℕ → List Term
still slot since = op2 (Compare Le Binary) (col slot since) moment ∷ op2 (Compare Lt Binary) moment (col slot (suc since)) ∷ []

abbrev pub all_parties : List Term
all_parties = still 1 4

pub all_parties_join : IsJoin (selection_text (selection.All kind.Party)) (parties ∷ []) all_parties (col 1 1)
unfolding understood everything
all_parties_join = record {
  asks = λ indexes. record { names = codes "number" ∷ []; command = refl; unlisted = refl; plain = (refl, refl) };
  meant = λ indexes. refl;
  accepted = λ indexes caller t. refl;
  simple = refl;
  known = λ caller t v. refl;
}

abbrev pub all_units : List Term
all_units = still 1 4

pub all_units_join : IsJoin (selection_text (selection.All kind.Unit)) (units ∷ []) all_units (col 1 1)
unfolding understood everything
all_units_join = record {
  asks = λ indexes. record { names = codes "number" ∷ []; command = refl; unlisted = refl; plain = (refl, refl) };
  meant = λ indexes. refl;
  accepted = λ indexes caller t. refl;
  simple = refl;
  known = λ caller t v. refl;
}

-- a version has not ended: the end of its lifespan is in this column
abbrev pub unended : ℕ → ℕ → List Term
unended slot until = op2 (Compare Lt Binary) moment (col slot until) ∷ []

abbrev pub unended_units : List Term
unended_units = unended 1 5

pub unended_units_join : IsJoin (selection_text selection.UnendedUnits) (units ∷ []) unended_units (col 1 1)
unfolding understood everything
unended_units_join = record {
  asks = λ indexes. record { names = codes "number" ∷ []; command = refl; unlisted = refl; plain = (refl, refl) };
  meant = λ indexes. refl;
  accepted = λ indexes caller t. refl;
  simple = refl;
  known = λ caller t v. refl;
}

abbrev pub unended_parcels : List Term
unended_parcels = unended 1 7

pub unended_parcels_join : IsJoin (selection_text selection.UnendedParcels) (parcels ∷ []) unended_parcels (col 1 1)
unfolding understood everything
unended_parcels_join = record {
  asks = λ indexes. record { names = codes "number" ∷ []; command = refl; unlisted = refl; plain = (refl, refl) };
  meant = λ indexes. refl;
  accepted = λ indexes caller t. refl;
  simple = refl;
  known = λ caller t v. refl;
}

abbrev pub all_parcels : List Term
all_parcels = still 1 6

pub all_parcels_join : IsJoin (selection_text (selection.All kind.Parcel)) (parcels ∷ []) all_parcels (col 1 1)
unfolding understood everything
all_parcels_join = record {
  asks = λ indexes. record { names = codes "number" ∷ []; command = refl; unlisted = refl; plain = (refl, refl) };
  meant = λ indexes. refl;
  accepted = λ indexes caller t. refl;
  simple = refl;
  known = λ caller t v. refl;
}

abbrev pub all_rrrs : List Term
all_rrrs = still 1 12

pub all_rrrs_join : IsJoin (selection_text (selection.All kind.Rrr)) (rrrs ∷ []) all_rrrs (col 1 1)
unfolding understood everything
all_rrrs_join = record {
  asks = λ indexes. record { names = codes "number" ∷ []; command = refl; unlisted = refl; plain = (refl, refl) };
  meant = λ indexes. refl;
  accepted = λ indexes caller t. refl;
  simple = refl;
  known = λ caller t v. refl;
}

abbrev pub all_sources : List Term
all_sources = still 1 4

pub all_sources_join : IsJoin (selection_text (selection.All kind.Source)) (sources ∷ []) all_sources (col 1 1)
unfolding understood everything
all_sources_join = record {
  asks = λ indexes. record { names = codes "number" ∷ []; command = refl; unlisted = refl; plain = (refl, refl) };
  meant = λ indexes. refl;
  accepted = λ indexes caller t. refl;
  simple = refl;
  known = λ caller t v. refl;
}

abbrev pub all_mutations : List Term
all_mutations = still 1 9

pub all_mutations_join : IsJoin (selection_text (selection.All kind.Mutation)) (mutations ∷ []) all_mutations (col 1 1)
unfolding understood everything
all_mutations_join = record {
  asks = λ indexes. record { names = codes "number" ∷ []; command = refl; unlisted = refl; plain = (refl, refl) };
  meant = λ indexes. refl;
  accepted = λ indexes caller t. refl;
  simple = refl;
  known = λ caller t v. refl;
}

abbrev pub itself : List Term
itself = same (col 1 1) caller ∷ still 1 4

pub itself_join : IsJoin (selection_text selection.Itself) (parties ∷ []) itself (col 1 1)
unfolding understood everything
itself_join = record {
  asks = λ indexes. record { names = codes "number" ∷ []; command = refl; unlisted = refl; plain = (refl, refl) };
  meant = λ indexes. refl;
  accepted = λ indexes caller t. refl;
  simple = refl;
  known = λ caller t v. refl;
}

abbrev pub its_groups : List Term
its_groups = same (col 1 2) caller ∷ still 1 5

pub its_groups_join : IsJoin (selection_text selection.ItsGroups) (members ∷ []) its_groups (col 1 1)
unfolding understood everything
its_groups_join = record {
  asks = λ indexes. record { names = codes "grp" ∷ []; command = refl; unlisted = refl; plain = (refl, refl) };
  meant = λ indexes. refl;
  accepted = λ indexes caller t. refl;
  simple = refl;
  known = λ caller t v. refl;
}

abbrev pub its_lodgings : List Term
its_lodgings = same (col 1 2) caller ∷ still 1 9

pub its_lodgings_join : IsJoin (selection_text selection.ItsLodgings) (mutations ∷ []) its_lodgings (col 1 1)
unfolding understood everything
its_lodgings_join = record {
  asks = λ indexes. record { names = codes "number" ∷ []; command = refl; unlisted = refl; plain = (refl, refl) };
  meant = λ indexes. refl;
  accepted = λ indexes caller t. refl;
  simple = refl;
  known = λ caller t v. refl;
}

abbrev pub held_units : List Term
held_units = same (col 1 3) caller ∷ a_right 1 ∷ still 1 12

pub held_units_join : IsJoin (selection_text selection.HeldUnits) (rrrs ∷ []) held_units (col 1 2)
unfolding understood everything
held_units_join = record {
  asks = λ indexes. record { names = codes "unit" ∷ []; command = refl; unlisted = refl; plain = (refl, refl) };
  meant = λ indexes. refl;
  accepted = λ indexes caller t. refl;
  simple = refl;
  known = λ caller t v. refl;
}

abbrev pub group_units : List Term
group_units = same (col 2 3) (col 1 1) ∷ same (col 1 2) caller ∷ a_right 2 ∷ still 1 5 ++ still 2 12

pub group_units_join : IsJoin (selection_text selection.GroupUnits) (members ∷ rrrs ∷ []) group_units (col 2 2)
unfolding understood everything
group_units_join = record {
  asks = λ indexes. record { names = codes "unit" ∷ []; command = refl; unlisted = refl; plain = (refl, refl) };
  meant = λ indexes. refl;
  accepted = λ indexes caller t. refl;
  simple = refl;
  known = λ caller t m h. refl;
}

abbrev pub held_rrrs : List Term
held_rrrs = same (col 2 2) (col 1 2) ∷ same (col 1 3) caller ∷ a_right 1 ∷ is_shown 1 2 ∷ still 1 12 ++ still 2 12

pub held_rrrs_join : IsJoin (selection_text selection.HeldEntries) (rrrs ∷ rrrs ∷ []) held_rrrs (col 2 1)
unfolding understood everything
held_rrrs_join = record {
  asks = λ indexes. record { names = codes "number" ∷ []; command = refl; unlisted = refl; plain = (refl, refl) };
  meant = λ indexes. refl;
  accepted = λ indexes caller t. refl;
  simple = refl;
  known = λ caller t h s. refl;
}

abbrev pub group_rrrs : List Term
group_rrrs = same (col 2 3) (col 1 1) ∷ same (col 3 2) (col 2 2) ∷ same (col 1 2) caller ∷ a_right 2 ∷ is_shown 2 3 ∷ still 1 5 ++ still 2 12 ++ still 3 12

pub group_rrrs_join : IsJoin (selection_text selection.GroupEntries) (members ∷ rrrs ∷ rrrs ∷ []) group_rrrs (col 3 1)
unfolding understood everything
group_rrrs_join = record {
  asks = λ indexes. record { names = codes "number" ∷ []; command = refl; unlisted = refl; plain = (refl, refl) };
  meant = λ indexes. refl;
  accepted = λ indexes caller t. refl;
  simple = refl;
  known = λ caller t m h s. refl;
}

pub held_parties_join : IsJoin (selection_text selection.HeldParties) (rrrs ∷ rrrs ∷ []) held_rrrs (col 2 3)
unfolding understood everything
held_parties_join = record {
  asks = λ indexes. record { names = codes "party" ∷ []; command = refl; unlisted = refl; plain = (refl, refl) };
  meant = λ indexes. refl;
  accepted = λ indexes caller t. refl;
  simple = refl;
  known = λ caller t h s. refl;
}

pub group_parties_join : IsJoin (selection_text selection.GroupParties) (members ∷ rrrs ∷ rrrs ∷ []) group_rrrs (col 3 3)
unfolding understood everything
group_parties_join = record {
  asks = λ indexes. record { names = codes "party" ∷ []; command = refl; unlisted = refl; plain = (refl, refl) };
  meant = λ indexes. refl;
  accepted = λ indexes caller t. refl;
  simple = refl;
  known = λ caller t m h s. refl;
}

abbrev pub held_mutations : List Term
held_mutations = same (col 2 2) (col 1 2) ∷ same (col 1 3) caller ∷ a_right 1 ∷ still 1 12 ++ still 2 3

pub held_mutations_join : IsJoin (selection_text selection.HeldMutations) (rrrs ∷ names ∷ []) held_mutations (col 2 1)
unfolding understood everything
held_mutations_join = record {
  asks = λ indexes. record { names = codes "mutation" ∷ []; command = refl; unlisted = refl; plain = (refl, refl) };
  meant = λ indexes. refl;
  accepted = λ indexes caller t. refl;
  simple = refl;
  known = λ caller t h n. refl;
}

abbrev pub group_mutations : List Term
group_mutations = same (col 2 3) (col 1 1) ∷ same (col 3 2) (col 2 2) ∷ same (col 1 2) caller ∷ a_right 2 ∷ still 1 5 ++ still 2 12 ++ still 3 3

pub group_mutations_join : IsJoin (selection_text selection.GroupMutations) (members ∷ rrrs ∷ names ∷ []) group_mutations (col 3 1)
unfolding understood everything
group_mutations_join = record {
  asks = λ indexes. record { names = codes "mutation" ∷ []; command = refl; unlisted = refl; plain = (refl, refl) };
  meant = λ indexes. refl;
  accepted = λ indexes caller t. refl;
  simple = refl;
  known = λ caller t m h n. refl;
}

abbrev pub credit_units : List Term
credit_units = same (col 1 3) caller ∷ a_mortgage 1 ∷ still 1 12

pub credit_units_join : IsJoin (selection_text selection.CreditUnits) (rrrs ∷ []) credit_units (col 1 2)
unfolding understood everything
credit_units_join = record {
  asks = λ indexes. record { names = codes "unit" ∷ []; command = refl; unlisted = refl; plain = (refl, refl) };
  meant = λ indexes. refl;
  accepted = λ indexes caller t. refl;
  simple = refl;
  known = λ caller t v. refl;
}

abbrev pub credit_rrrs : List Term
credit_rrrs = same (col 2 2) (col 1 2) ∷ same (col 1 3) caller ∷ a_mortgage 1 ∷ is_own 2 ∷ still 1 12 ++ still 2 12

pub credit_rrrs_join : IsJoin (selection_text selection.CreditEntries) (rrrs ∷ rrrs ∷ []) credit_rrrs (col 2 1)
unfolding understood everything
credit_rrrs_join = record {
  asks = λ indexes. record { names = codes "number" ∷ []; command = refl; unlisted = refl; plain = (refl, refl) };
  meant = λ indexes. refl;
  accepted = λ indexes caller t. refl;
  simple = refl;
  known = λ caller t h s. refl;
}

pub credit_parties_join : IsJoin (selection_text selection.CreditParties) (rrrs ∷ rrrs ∷ []) credit_rrrs (col 2 3)
unfolding understood everything
credit_parties_join = record {
  asks = λ indexes. record { names = codes "party" ∷ []; command = refl; unlisted = refl; plain = (refl, refl) };
  meant = λ indexes. refl;
  accepted = λ indexes caller t. refl;
  simple = refl;
  known = λ caller t h s. refl;
}

abbrev pub lodged_units : List Term
lodged_units = same (col 2 1) (col 1 1) ∷ same (col 3 1) (col 2 2) ∷ same (col 1 2) caller ∷ word (col 1 8) (codes "lodged") ∷ still 1 9 ++ still 2 3 ++ still 3 4

pub lodged_units_join : IsJoin (selection_text selection.LodgedUnits) (mutations ∷ names ∷ units ∷ []) lodged_units (col 3 1)
unfolding understood everything
lodged_units_join = record {
  asks = λ indexes. record { names = codes "number" ∷ []; command = refl; unlisted = refl; plain = (refl, refl) };
  meant = λ indexes. refl;
  accepted = λ indexes caller t. refl;
  simple = refl;
  known = λ caller t m n u. refl;
}

abbrev pub lodged_rrrs : List Term
lodged_rrrs = same (col 2 1) (col 1 1) ∷ same (col 3 2) (col 2 2) ∷ same (col 1 2) caller ∷ word (col 1 8) (codes "lodged") ∷ still 1 9 ++ still 2 3 ++ still 3 12

pub lodged_rrrs_join : IsJoin (selection_text selection.LodgedEntries) (mutations ∷ names ∷ rrrs ∷ []) lodged_rrrs (col 3 1)
unfolding understood everything
lodged_rrrs_join = record {
  asks = λ indexes. record { names = codes "number" ∷ []; command = refl; unlisted = refl; plain = (refl, refl) };
  meant = λ indexes. refl;
  accepted = λ indexes caller t. refl;
  simple = refl;
  known = λ caller t m n r. refl;
}

pub lodged_parties_join : IsJoin (selection_text selection.LodgedParties) (mutations ∷ names ∷ rrrs ∷ []) lodged_rrrs (col 3 3)
unfolding understood everything
lodged_parties_join = record {
  asks = λ indexes. record { names = codes "party" ∷ []; command = refl; unlisted = refl; plain = (refl, refl) };
  meant = λ indexes. refl;
  accepted = λ indexes caller t. refl;
  simple = refl;
  known = λ caller t m n r. refl;
}
