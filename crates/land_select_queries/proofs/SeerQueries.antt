-- The statement of each relation of viewers as a join of tables, and its results.
use Rattle.std.proofs.Common.{◌≡◌, ◌↔◌, ℕ, ℤ, ◌≤◌, List, [], ◌∷◌, ◌++◌, length, codes, Bool, true, false, if◌then◌else◌, refl, sym, ap, subst, ◌∙◌, true≢false, arith}
use Rattle.land_core.specs.Numbers.{is_number}
use Rattle.land_select_queries.proofs.Joined.{Asks, IsKnown, Says, complete, from, numbered, sound}
use Rattle.land_select_queries.proofs.Known.{a_mortgage as with_mortgage, a_right as with_right, caller, is_shown, not_word, same, still, word}
use Rattle.land_select_queries.proofs.Places.{Place, as_stored, mutations, names, row_of, rrrs}
use Rattle.land_select_queries.proofs.Selected.{a_mortgage, a_right, by_creditor, by_holder, of, stood, to_creditor, to_holder, undecided, version}
use Rattle.land_select_queries.proofs.Sets.{cut, uncut}
use Rattle.land_select_queries.specs.Joins.Meaning.{AreNumberRows, query_parameters}
use Rattle.land_select_queries.specs.Joins.Execution.{HoldsOfHistory, known_or_zero}
use Rattle.land_select_queries.specs.Lookups.Viewers.{IsViewer}
use Rattle.land_select_queries.specs.Lookups.Texts.{viewer_text_of}
use Rattle.land_select_queries.specs.Sights.Selections.{Entry, IsVisibleToCreditor, IsCurrent}
use Rattle.land_select_queries.specs.declared.lookups.relation.Relation.{Relation}
use Rattle.land_select_queries.specs.declared.lookups.relation.Relation.TheVariants as relation
use Rattle.land_tables_history.specs.declared.history.History.{History}
use Rattle.land_tables_history.specs.declared.moment.Moment.{Moment}
use Rattle.land_tables_rows.specs.Writing.History.{HoldsHistory}
use Rattle.land_tables_schema.specs.Schemas.{schema_v2_with}
use Rattle.sqlite.specs.Listing.{understood}
use Rattle.sqlite.specs.Program.{overlay}
use Rattle.sqlite.specs.Query.{IsAnswer, Query}
use Rattle.sqlite_schema.specs.declared.schema.Index.{Index}
use Rattle.sqlite_sql.specs.Term.{Term, col, op2}
use Rattle.sqlite_sql.specs.declared.ops.BinaryOp.TheVariants.{Or}
use Rattle.sqlite_tied.specs.Compute.{everything}
use Rattle.sqlite_trees.specs.Tree.{Trees}
use Rattle.sqlite_value.specs.Order.{Row}

-- ---- joins

-- the tables, starting with that of the party's entries
abbrev pub places_of : Relation → List Place
places_of relation.Holding = rrrs ∷ rrrs ∷ []
places_of relation.Crediting = rrrs ∷ rrrs ∷ []
places_of relation.Awaiting = rrrs ∷ names ∷ mutations ∷ []

-- the tests: ON, the party, the interest with the entries that it shows, and the lifespans
abbrev pub filter_of : Relation → List Term
filter_of relation.Holding = same (col 2 2) (col 1 2) ∷ same (col 1 3) caller ∷ with_right 2 ∷ is_shown 2 1 ∷ still 1 12 ++ still 2 12
filter_of relation.Crediting =
    same (col 2 2) (col 1 2) ∷ same (col 1 3) caller ∷ with_mortgage 2 ∷ op2 Or (not_word (col 1 4) (codes "mortgage")) (same (col 1 3) (col 2 3)) ∷ still 1 12 ++ still 2 12
filter_of relation.Awaiting = same (col 2 2) (col 1 2) ∷ same (col 3 1) (col 2 1) ∷ same (col 1 3) caller ∷ word (col 3 8) (codes "lodged") ∷ still 1 12 ++ still 2 3 ++ still 3 9

-- the column of the result: the holder, the creditor or the lodger
abbrev pub shown_of : Relation → Term
shown_of relation.Holding = col 2 3
shown_of relation.Crediting = col 2 3
shown_of relation.Awaiting = col 3 2

abbrev pub query_of : Relation → Query
query_of relation = cut 17 (from (places_of relation)) (filter_of relation) (shown_of relation ∷ [])

-- each statement is exactly its query
pub asks : (relation : Relation) (indexes : List Index) → Asks (schema_v2_with indexes) (viewer_text_of relation) (query_of relation)
unfolding understood everything
asks relation.Holding indexes = record { names = codes "party" ∷ []; command = refl; unlisted = refl; plain = (refl, refl) }
asks relation.Crediting indexes = record { names = codes "party" ∷ []; command = refl; unlisted = refl; plain = (refl, refl) }
asks relation.Awaiting indexes = record { names = codes "lodger" ∷ []; command = refl; unlisted = refl; plain = (refl, refl) }

pub known_of : (relation : Relation) → IsKnown (places_of relation) (filter_of relation) (shown_of relation)
known_of relation.Holding = record { simple = refl; known = λ caller t s h. refl }
known_of relation.Crediting = record { simple = refl; known = λ caller t s h. refl }
known_of relation.Awaiting = record { simple = refl; known = λ caller t r n m. refl }

-- ---- the terms of a statement select the viewers of the party

module _ (h : History) (party : ℕ) (t : ℤ) (seer : ℕ) where
  holders : Says (rrrs ∷ rrrs ∷ []) (filter_of relation.Holding) (col 2 3) h party t seer ↔ IsViewer relation.Holding t h party seer
  holders = (
    (λ g. let s = g.0 in let e = g.2.0 in let say = g.2.2.0 in (
      s.what,
      record {
        held = e.what;
        interest = record { stands = stood t h.rrrs e g.2.1 say.1.1.1.1.1.1.0 say.1.1.1.1.1.1.1.0; party = g.2.2.1; class = (a_right e.what.1.class).1 say.1.1.0 };
        stands = stood t h.rrrs s g.1 say.1.1.1.1.0 say.1.1.1.1.1.0;
        unit = sym say.0;
        yields = to_holder e.what s.what say.1.1.1.0;
      },
      say.1.0,
    )),
    (λ x. let told = x.1 in let s = version t h.rrrs x.0 told.stands in let e = version t h.rrrs told.held told.interest.stands in (
      of x.0 s.since s.until,
      s.has,
      (
        of told.held e.since e.until,
        e.has,
        (
          (sym told.unit, (x.2, ((a_right told.held.1.class).0 told.interest.class, (by_holder told.held x.0 told.yields, (s.begun, (s.going, (e.begun, (e.going, tt)))))))),
          told.interest.party,
        ),
      ),
    )),
  )

  creditors : Says (rrrs ∷ rrrs ∷ []) (filter_of relation.Crediting) (col 2 3) h party t seer ↔ IsViewer relation.Crediting t h party seer
  creditors = (
    (λ g. let s = g.0 in let e = g.2.0 in let say = g.2.2.0 in (
      s.what,
      record {
        held = e.what;
        interest = record { stands = stood t h.rrrs e g.2.1 say.1.1.1.1.1.1.0 say.1.1.1.1.1.1.1.0; party = g.2.2.1; class = (a_mortgage e.what.1.class).1 say.1.1.0 };
        stands = stood t h.rrrs s g.1 say.1.1.1.1.0 say.1.1.1.1.1.0;
        unit = sym say.0;
        yields = subst (λ c. IsVisibleToCreditor c s.what) g.2.2.1 (to_creditor e.what.1.party s.what say.1.1.1.0);
      },
      say.1.0,
    )),
    (λ x. let told = x.1 in let s = version t h.rrrs x.0 told.stands in let e = version t h.rrrs told.held told.interest.stands in (
      of x.0 s.since s.until,
      s.has,
      (
        of told.held e.since e.until,
        e.has,
        (
          (
            sym told.unit,
            (
              x.2,
              (
                (a_mortgage told.held.1.class).0 told.interest.class,
                (
                  by_creditor told.held.1.party x.0 (subst (λ c. IsVisibleToCreditor c x.0) (sym told.interest.party) told.yields),
                  (s.begun, (s.going, (e.begun, (e.going, tt)))),
                ),
              ),
            ),
          ),
          told.interest.party,
        ),
      ),
    )),
  )

  lodgers : Says (rrrs ∷ names ∷ mutations ∷ []) (filter_of relation.Awaiting) (col 3 2) h party t seer ↔ IsViewer relation.Awaiting t h party seer
  lodgers = (
    (λ g. let s = g.0 in let n = g.2.0 in let m = g.2.2.0 in let say = g.2.2.2.0 in (
      s.what,
      record {
        awaits = record {
          mutation = m.what;
          mutation_stands = stood t h.mutations m g.2.2.1 say.1.1.1.1.1.1.1.1.0 say.1.1.1.1.1.1.1.1.1.0;
          naming = n.what;
          naming_stands = stood t h.namings n g.2.1 say.1.1.1.1.1.1.0 say.1.1.1.1.1.1.1.0;
          named_by = sym say.1.0;
          lodger = g.2.2.2.1;
          undecided = (undecided m.what.1.state).1 say.1.1.1.0;
          named = say.0;
        };
        stands = stood t h.rrrs s g.1 say.1.1.1.1.0 say.1.1.1.1.1.0;
      },
      say.1.1.0,
    )),
    (λ x. let a = x.1.awaits in let s = version t h.rrrs x.0 x.1.stands in let n = version t h.namings a.naming a.naming_stands in let m = version t h.mutations a.mutation a.mutation_stands in (
      of x.0 s.since s.until,
      s.has,
      (
        of a.naming n.since n.until,
        n.has,
        (
          of a.mutation m.since m.until,
          m.has,
          (
            (a.named, (sym a.named_by, (x.2, ((undecided a.mutation.1.state).0 a.undecided, (s.begun, (s.going, (n.begun, (n.going, (m.begun, (m.going, tt)))))))))),
            a.lodger,
          ),
        ),
      ),
    )),
  )

pub told_by : (relation : Relation) (h : History) (party : ℕ) (t : ℤ) (seer : ℕ) → Says (places_of relation) (filter_of relation) (shown_of relation) h party t seer ↔ IsViewer relation t h party seer
told_by relation.Holding = holders
told_by relation.Crediting = creditors
told_by relation.Awaiting = lodgers

-- ---- a number that no object can have

module _ (db : Trees) (moments : List Moment) (h : History) (held : HoldsHistory db moments h) (t : ℤ) where
  of_entry : (e : Entry) → IsCurrent t h.rrrs e → (party : ℕ) → e.1.party ≡ party → is_number party ≡ true
  of_entry e stands party is =
      let v = version t h.rrrs e stands in
      ap is_number (sym is) ∙ (row_of db moments h held rrrs (of e v.since v.until) v.has).2.1.0

  -- only a party with a number in range has viewers
  party_within : (relation : Relation) (party seer : ℕ) → IsViewer relation t h party seer → is_number party ≡ true
  party_within relation.Holding party seer x = of_entry x.0 x.1.stands party x.2
  party_within relation.Crediting party seer x = of_entry x.0 x.1.stands party x.2
  party_within relation.Awaiting party seer x = of_entry x.0 x.1.stands party x.2

  none : {X : Type 0} (party : ℕ) → is_number party ≡ false → is_number party ≡ true → X
  none party out is = absurd (true≢false (sym is ∙ out))

  -- so a party has the viewers of its replacement
  asked_so : (relation : Relation) (party seer : ℕ) → IsViewer relation t h (known_or_zero party) seer ↔ IsViewer relation t h party seer
  asked_so relation party seer = go (is_number party) refl
    where
      go : (b : Bool) → is_number party ≡ b → IsViewer relation t h (if b then party else 0) seer ↔ IsViewer relation t h party seer
      go true is = ((λ x. x), (λ x. x))
      go false is = ((λ x. none 0 refl (party_within relation 0 seer x)), (λ x. none party is (party_within relation party seer x)))

-- ---- results

-- the result of a relation's statement has all its viewers, if there are few rows
pub are_within_limit : (relation : Relation) (party : ℕ) (t : ℤ) (db : Trees) (rows : List Row) → IsAnswer (query_of relation) (overlay db []) (query_parameters (known_or_zero party) t) rows → length rows ≤ 16 → HoldsOfHistory db (λ h. AreNumberRows rows (IsViewer relation t h party))
are_within_limit relation party t db rows cut_off few moments h held =
    let asked = known_or_zero party in
    let ps = places_of relation in
    let fs = filter_of relation in
    let shown = shown_of relation in
    let terms = known_of relation in
    let a = uncut 17 (from ps) fs (shown ∷ []) (overlay db []) (query_parameters asked t) rows (omega (arith, few)) cut_off in
    record {
      each = numbered ps fs shown terms db (overlay db []) (as_stored db) moments h held asked t rows a;
      meant = λ n.
          let it = told_by relation h asked t n in
          let so = asked_so db moments h held t relation party n in (
            (λ has. so.0 (it.0 (sound ps fs shown terms db (overlay db []) (as_stored db) moments h held asked t rows a n has))),
            (λ x. complete ps fs shown terms db (overlay db []) (as_stored db) moments h held asked t rows a n (it.1 (so.1 x))),
          );
    }
