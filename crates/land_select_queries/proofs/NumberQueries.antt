-- The statement of each lookup of one column as a join of tables, and its results.
use Rattle.std.proofs.Common.{◌≡◌, ◌↔◌, ℕ, ℤ, List, [], ◌∷◌, ◌++◌, codes, Bool, true, false, if◌then◌else◌, refl, sym, ap, ◌∙◌, true≢false}
use Rattle.land_core.specs.Numbers.{is_number}
use Rattle.land_select_queries.proofs.Joined.{IsJoin, Says, complete, from, known_in, numbered, sound}
use Rattle.land_select_queries.proofs.Known as known
use Rattle.land_select_queries.proofs.Known.{caller, same, still, word}
use Rattle.land_select_queries.proofs.Places.{IsWithin, Place, What, as_stored, mutations, names, parties, row_of, units, versions}
use Rattle.land_select_queries.proofs.Selected.{IsVersion, of, stood, undecided, version}
use Rattle.land_select_queries.proofs.Sets.{plainly}
use Rattle.land_select_queries.specs.Joins.Meaning.{query_parameters}
use Rattle.land_select_queries.specs.Joins.Execution.{known_or_zero}
use Rattle.land_select_queries.specs.Lookups.Numbers.{AreColumnRows, yields}
use Rattle.land_select_queries.specs.Lookups.Texts.{column_text_of}
use Rattle.land_select_queries.specs.declared.lookups.column_lookup.ColumnLookup.{ColumnLookup}
use Rattle.land_select_queries.specs.declared.lookups.column_lookup.ColumnLookup.TheVariants as record_lookup
use Rattle.land_tables_history.specs.declared.history.History.{History}
use Rattle.land_tables_history.specs.declared.moment.Moment.{Moment}
use Rattle.land_tables_rows.specs.Writing.History.{HoldsHistory}
use Rattle.sqlite.specs.Listing.{understood}
use Rattle.sqlite.specs.Program.{overlay}
use Rattle.sqlite.specs.Query.{IsAnswer, Query}
use Rattle.sqlite_sql.specs.Term.{Term, col}
use Rattle.sqlite_tied.specs.Compute.{everything}
use Rattle.sqlite_trees.specs.Tree.{Trees}
use Rattle.sqlite_value.specs.Order.{Row}

-- ---- joins

-- the tables
abbrev pub places_of : ColumnLookup → List Place
places_of record_lookup.Party = parties ∷ []
places_of record_lookup.Unit = units ∷ []
places_of record_lookup.LodgerOfMutation = mutations ∷ []
places_of record_lookup.LodgersOnUnit = names ∷ mutations ∷ []

-- the tests: ON, the given number, the state and the lifespans
abbrev pub filter_of : ColumnLookup → List Term
filter_of record_lookup.Party = known.itself
filter_of record_lookup.Unit = same (col 1 1) caller ∷ still 1 4
filter_of record_lookup.LodgerOfMutation = same (col 1 1) caller ∷ still 1 9
filter_of record_lookup.LodgersOnUnit = same (col 2 1) (col 1 1) ∷ same (col 1 2) caller ∷ word (col 2 8) (codes "lodged") ∷ still 1 3 ++ still 2 9

-- the column of the result
abbrev pub shown_of : ColumnLookup → Term
shown_of record_lookup.Party = col 1 1
shown_of record_lookup.Unit = col 1 1
shown_of record_lookup.LodgerOfMutation = col 1 2
shown_of record_lookup.LodgersOnUnit = col 2 2

unit_join : IsJoin (column_text_of record_lookup.Unit) (units ∷ []) (filter_of record_lookup.Unit) (col 1 1)
unfolding understood everything
unit_join = record {
  asks = λ indexes. record { names = codes "number" ∷ []; command = refl; unlisted = refl; plain = (refl, refl) };
  meant = λ indexes. refl;
  accepted = λ indexes caller t. refl;
  simple = refl;
  known = λ caller t v. refl;
}

lodger_join : IsJoin (column_text_of record_lookup.LodgerOfMutation) (mutations ∷ []) (filter_of record_lookup.LodgerOfMutation) (col 1 2)
unfolding understood everything
lodger_join = record {
  asks = λ indexes. record { names = codes "lodger" ∷ []; command = refl; unlisted = refl; plain = (refl, refl) };
  meant = λ indexes. refl;
  accepted = λ indexes caller t. refl;
  simple = refl;
  known = λ caller t v. refl;
}

lodgers_join : IsJoin (column_text_of record_lookup.LodgersOnUnit) (names ∷ mutations ∷ []) (filter_of record_lookup.LodgersOnUnit) (col 2 2)
unfolding understood everything
lodgers_join = record {
  asks = λ indexes. record { names = codes "lodger" ∷ []; command = refl; unlisted = refl; plain = (refl, refl) };
  meant = λ indexes. refl;
  accepted = λ indexes caller t. refl;
  simple = refl;
  known = λ caller t n m. refl;
}

pub join_of : (l : ColumnLookup) → IsJoin (column_text_of l) (places_of l) (filter_of l) (shown_of l)
join_of record_lookup.Party = known.itself_join
join_of record_lookup.Unit = unit_join
join_of record_lookup.LodgerOfMutation = lodger_join
join_of record_lookup.LodgersOnUnit = lodgers_join

-- ---- the terms of a statement select what its lookup returns

module _ (h : History) (number : ℕ) (t : ℤ) (told : ℕ) where
  a_party : Says (parties ∷ []) known.itself (col 1 1) h number t told ↔ yields record_lookup.Party t h number told
  a_party = (
    (λ g. (g.0.what, stood t h.parties g.0 g.1 g.2.0.1.0 g.2.0.1.1.0, g.2.0.0, g.2.1)),
    (λ s. let v = version t h.parties s.0 s.1 in (of s.0 v.since v.until, v.has, ((s.2, (v.begun, (v.going, tt))), s.3))),
  )

  a_unit : Says (units ∷ []) (filter_of record_lookup.Unit) (col 1 1) h number t told ↔ yields record_lookup.Unit t h number told
  a_unit = (
    (λ g. (g.0.what, stood t h.units g.0 g.1 g.2.0.1.0 g.2.0.1.1.0, g.2.0.0, g.2.1)),
    (λ s. let v = version t h.units s.0 s.1 in (of s.0 v.since v.until, v.has, ((s.2, (v.begun, (v.going, tt))), s.3))),
  )

  a_lodger : Says (mutations ∷ []) (filter_of record_lookup.LodgerOfMutation) (col 1 2) h number t told ↔ yields record_lookup.LodgerOfMutation t h number told
  a_lodger = (
    (λ g. (g.0.what, stood t h.mutations g.0 g.1 g.2.0.1.0 g.2.0.1.1.0, g.2.0.0, g.2.1)),
    (λ s. let v = version t h.mutations s.0 s.1 in (of s.0 v.since v.until, v.has, ((s.2, (v.begun, (v.going, tt))), s.3))),
  )

  lodgers : Says (names ∷ mutations ∷ []) (filter_of record_lookup.LodgersOnUnit) (col 2 2) h number t told ↔ yields record_lookup.LodgersOnUnit t h number told
  lodgers = (
    (λ g. let n = g.0 in let m = g.2.0 in let say = g.2.2.0 in record {
      mutation = m.what;
      mutation_stands = stood t h.mutations m g.2.1 say.1.1.1.1.1.0 say.1.1.1.1.1.1.0;
      naming = n.what;
      naming_stands = stood t h.namings n g.1 say.1.1.1.0 say.1.1.1.1.0;
      named_by = sym say.0;
      lodger = g.2.2.1;
      undecided = (undecided m.what.1.state).1 say.1.1.0;
      named = say.1.0;
    }),
    (λ a. let n = version t h.namings a.naming a.naming_stands in let m = version t h.mutations a.mutation a.mutation_stands in (
      of a.naming n.since n.until,
      n.has,
      (
        of a.mutation m.since m.until,
        m.has,
        ((sym a.named_by, (a.named, ((undecided a.mutation.1.state).0 a.undecided, (n.begun, (n.going, (m.begun, (m.going, tt))))))), a.lodger),
      ),
    )),
  )

pub told_by : (l : ColumnLookup) (h : History) (number : ℕ) (t : ℤ) (told : ℕ) → Says (places_of l) (filter_of l) (shown_of l) h number t told ↔ yields l t h number told
told_by record_lookup.Party = a_party
told_by record_lookup.Unit = a_unit
told_by record_lookup.LodgerOfMutation = a_lodger
told_by record_lookup.LodgersOnUnit = lodgers

-- ---- a number that no object can have

module _ (db : Trees) (moments : List Moment) (h : History) (held : HoldsHistory db moments h) (t : ℤ) where
  within : (p : Place) (x : What p) (it : IsVersion t (versions p h) x) → IsWithin p (of x it.since it.until)
  within p x it = (row_of db moments h held p (of x it.since it.until) it.has).2.1

  moved : (one number : ℕ) → one ≡ number → is_number one ≡ true → is_number number ≡ true
  moved one number same is = ap is_number (sym same) ∙ is

  -- a lookup returns a number only for a given one that is in range
  number_within : (l : ColumnLookup) (number told : ℕ) → yields l t h number told → is_number number ≡ true
  number_within record_lookup.Party number told x = moved x.0.0 number x.2 (within parties x.0 (version t h.parties x.0 x.1))
  number_within record_lookup.Unit number told x = moved x.0.0 number x.2 (within units x.0 (version t h.units x.0 x.1))
  number_within record_lookup.LodgerOfMutation number told x = moved x.0.0 number x.2 (within mutations x.0 (version t h.mutations x.0 x.1)).1
  number_within record_lookup.LodgersOnUnit number told x = moved x.naming.unit number x.named (within names x.naming (version t h.namings x.naming x.naming_stands)).1

  none : (number : ℕ) → is_number number ≡ false → is_number number ≡ true → ⊥
  none number out is = true≢false (sym is ∙ out)

  -- so a lookup returns the same for the replacement of a number
  asked_so : (l : ColumnLookup) (number told : ℕ) → yields l t h (known_or_zero number) told ↔ yields l t h number told
  asked_so l number told = go (is_number number) refl
    where
      go : (b : Bool) → is_number number ≡ b → yields l t h (if b then number else 0) told ↔ yields l t h number told
      go true is = ((λ x. x), (λ x. x))
      go false is = ((λ x. absurd (none 0 refl (number_within l 0 told x))), (λ x. absurd (none number is (number_within l number told x))))

-- ---- results

abbrev pub query_of : ColumnLookup → Query
query_of l = plainly (from (places_of l)) (filter_of l) (shown_of l ∷ [])

-- the result of a lookup's statement has the rows of the lookup
pub are_rows_of : (l : ColumnLookup) (number : ℕ) (t : ℤ) (db : Trees) (rows : List Row) → IsAnswer (query_of l) (overlay db []) (query_parameters (known_or_zero number) t) rows → AreColumnRows l number t db rows
are_rows_of l number t db rows a moments h held =
    let asked = known_or_zero number in
    let ps = places_of l in
    let fs = filter_of l in
    let terms = known_in (column_text_of l) ps fs (shown_of l) (join_of l) in
    record {
      each = numbered ps fs (shown_of l) terms db (overlay db []) (as_stored db) moments h held asked t rows a;
      meant = λ n.
          let it = told_by l h asked t n in
          let so = asked_so db moments h held t l number n in (
            (λ has. so.0 (it.0 (sound ps fs (shown_of l) terms db (overlay db []) (as_stored db) moments h held asked t rows a n has))),
            (λ x. complete ps fs (shown_of l) terms db (overlay db []) (as_stored db) moments h held asked t rows a n (it.1 (so.1 x))),
          );
    }
