-- The number of pairs by which a party has viewers is at least the number of rows.
use Rattle.std.proofs.Common.{◌≡◌, ◌<◌, ℕ, ℤ, List, [], ◌∷◌, length, codes, Bool, true, ◌&&◌, not, ◌∙◌, arith}
use Rattle.std.proofs.lemmas.Bool.{and_parts}
use Rattle.std.proofs.lemmas.Bool.Decides.{Decides-and, Decides-eqb, Decides-not, Decides-or}
use Rattle.std.specs.Bool.{Decides}
use Rattle.std.specs.List.{list_all}
use Rattle.land_core.specs.declared.mutation.MutationRecord.{MutationRecord}
use Rattle.land_core.specs.declared.rrr.Class.{Class}
use Rattle.land_rules.specs.Relations.{is_mortgage_class}
use Rattle.land_select_queries.proofs.Joined.{from}
use Rattle.land_select_queries.proofs.Places.{as_stored, mutations, names, rrrs, shape}
use Rattle.land_select_queries.proofs.SeerQueries.{filter_of, known_of, places_of, query_of, shown_of}
use Rattle.land_select_queries.proofs.Selected.{HasWord, a_mortgage, a_right, an_ownership, undecided}
use Rattle.land_select_queries.proofs.Sets.{no_more}
use Rattle.land_select_queries.proofs.Shapes.{AreShapes, all_decided, shape_itself}
use Rattle.land_select_queries.proofs.Ways.{Lives, counted, lives, same_bool, three, two, ways_through}
use Rattle.land_select_queries.specs.Joins.Meaning.{query_parameters}
use Rattle.land_select_queries.specs.Joins.Execution.{HoldsOfHistory, known_or_zero}
use Rattle.land_select_queries.specs.Lookups.Viewers.{is_shown_to_creditor, is_shown_to_holder, is_told_to_lodger, count_ways}
use Rattle.land_select_queries.specs.Sights.Selections.{Entry}
use Rattle.land_select_queries.specs.declared.lookups.relation.Relation.{Relation}
use Rattle.land_select_queries.specs.declared.lookups.relation.Relation.TheVariants as relation
use Rattle.land_tables_history.specs.Standing.{is_current}
use Rattle.land_tables_history.specs.declared.history.History.{History}
use Rattle.land_tables_history.specs.declared.naming.Naming.{Naming}
use Rattle.land_tables_history.specs.declared.version.Version.{Version}
use Rattle.sqlite.specs.Program.{overlay}
use Rattle.sqlite.specs.Query.{IsAnswer}
use Rattle.sqlite_sql.specs.Term.{Env, holds}
use Rattle.sqlite_trees.specs.Tree.{Trees}
use Rattle.sqlite_value.specs.Order.{Row}

word_decides : (c : Class) → Decides (not (is_mortgage_class c)) (¬ HasWord c (codes "mortgage"))
word_decides c = Decides-not (is_mortgage_class c) (a_mortgage c)

module _ (party : ℕ) (t : ℤ) where
  -- four tests that hold of current versions of two tables
  of_two : {X Y A B C D : Type 0} (passes a b c d : Bool) (v : Version X) (w : Version Y) → Decides a A → Decides b B → Decides c C → Decides d D
      → Decides passes (A × (B × (C × (D × Lives t v (Lives t w (Unit {0})))))) → passes ≡ (is_current t v && (is_current t w && (a && (b && (c && d)))))
  of_two passes a b c d v w da db dc dd all =
      let tests = Decides-and a (b && (c && d)) da (Decides-and b (c && d) db (Decides-and c d dc dd)) in
      let said = lives t v (is_current t w && (a && (b && (c && d)))) (lives t w (a && (b && (c && d))) tests) in
      same_bool passes (is_current t v && (is_current t w && (a && (b && (c && d)))))
      (λ e. let s = all.0 e in said.1 (s.1.1.1.1.0, (s.1.1.1.1.1.0, (s.1.1.1.1.1.1.0, (s.1.1.1.1.1.1.1.0, (s.0, (s.1.0, (s.1.1.0, s.1.1.1.0))))))))
      (λ e.
      let s = said.0 e in
      let four = s.1.1.1.1 in
      all.1 (four.0, (four.1.0, (four.1.1.0, (four.1.1.1, (s.0, (s.1.0, (s.1.1.0, (s.1.1.1.0, tt)))))))))

  -- and of three
  of_three : {X Y Z A B C D : Type 0} (passes a b c d : Bool) (u : Version X) (v : Version Y) (w : Version Z) → Decides a A → Decides b B → Decides c C → Decides d D
      → Decides passes (A × (B × (C × (D × Lives t u (Lives t v (Lives t w (Unit {0}))))))) → passes ≡ (is_current t u && (is_current t v && (is_current t w && (a && (b && (c && d))))))
  of_three passes a b c d u v w da db dc dd all =
      let tests = Decides-and a (b && (c && d)) da (Decides-and b (c && d) db (Decides-and c d dc dd)) in
      let said = lives t u (is_current t v && (is_current t w && (a && (b && (c && d))))) (lives t v (is_current t w && (a && (b && (c && d)))) (lives t w (a && (b && (c && d))) tests)) in
      same_bool passes (is_current t u && (is_current t v && (is_current t w && (a && (b && (c && d))))))
      (λ e.
      let s = all.0 e in
      let lives = s.1.1.1.1 in
      said.1 (lives.0, (lives.1.0, (lives.1.1.0, (lives.1.1.1.0, (lives.1.1.1.1.0, (lives.1.1.1.1.1.0, (s.0, (s.1.0, (s.1.1.0, s.1.1.1.0))))))))))
      (λ e.
      let s = said.0 e in
      let four = s.1.1.1.1.1.1 in
      all.1 (four.0, (four.1.0, (four.1.1.0, (four.1.1.1, (s.0, (s.1.0, (s.1.1.0, (s.1.1.1.0, (s.1.1.1.1.0, (s.1.1.1.1.1.0, tt)))))))))))

  abbrev two_rows : Version Entry → Version Entry → Env
  two_rows v w = query_parameters party t ∷ shape rrrs v ∷ shape rrrs w ∷ []

  abbrev passes : Relation → Env → Bool
  passes relation s = list_all (holds s) (filter_of relation)

  itself : (v w : Version Entry) → AreShapes (two_rows v w) (two_rows v w)
  itself v w = (shape_itself (query_parameters party t), (shape_itself (shape rrrs v), (shape_itself (shape rrrs w), tt)))

  held_so : (v w : Version Entry) → passes relation.Holding (two_rows v w) ≡ (is_current t v && (is_current t w && is_shown_to_holder party v.what w.what))
  held_so v w =
      let known = (and_parts _ _ ((known_of relation.Holding).known party t v w)).0 in
      of_two _ _ _ _ _ v w (Decides-eqb w.what.1.unit v.what.1.unit) (Decides-eqb v.what.1.party party) (a_right w.what.1.class)
      (Decides-or _ _ (word_decides v.what.1.class) (an_ownership w.what.1.class)) (all_decided (filter_of relation.Holding) (two_rows v w) (two_rows v w) (itself v w) known)

  credited_so : (v w : Version Entry) → passes relation.Crediting (two_rows v w) ≡ (is_current t v && (is_current t w && is_shown_to_creditor party v.what w.what))
  credited_so v w =
      let known = (and_parts _ _ ((known_of relation.Crediting).known party t v w)).0 in
      of_two _ _ _ _ _ v w (Decides-eqb w.what.1.unit v.what.1.unit) (Decides-eqb v.what.1.party party) (a_mortgage w.what.1.class)
      (Decides-or _ _ (word_decides v.what.1.class) (Decides-eqb v.what.1.party w.what.1.party)) (all_decided (filter_of relation.Crediting) (two_rows v w) (two_rows v w) (itself v w) known)

  abbrev three_rows : Version Entry → Version Naming → Version (ℕ × MutationRecord) → Env
  three_rows u v w = query_parameters party t ∷ shape rrrs u ∷ shape names v ∷ shape mutations w ∷ []

  lodged_so : (u : Version Entry) (v : Version Naming) (w : Version (ℕ × MutationRecord))
      → passes relation.Awaiting (three_rows u v w) ≡ (is_current t u && (is_current t v && (is_current t w && is_told_to_lodger party u.what v.what w.what)))
  lodged_so u v w =
      let known = (and_parts _ _ ((known_of relation.Awaiting).known party t u v w)).0 in
      let itself : AreShapes (three_rows u v w) (three_rows u v w) = (shape_itself (query_parameters party t), (shape_itself (shape rrrs u), (shape_itself (shape names v), (shape_itself (shape mutations w), tt)))) in
      of_three _ _ _ _ _ u v w (Decides-eqb v.what.unit u.what.1.unit) (Decides-eqb w.what.0 v.what.mutation) (Decides-eqb u.what.1.party party) (undecided w.what.1.state)
      (all_decided (filter_of relation.Awaiting) (three_rows u v w) (three_rows u v w) itself known)

  -- the matches of the join are these pairs
  told_ways : (relation : Relation) (h : History) → ways_through h (places_of relation) (passes relation) (query_parameters party t ∷ []) ≡ count_ways relation t h party
  told_ways relation.Holding h = two t true h.rrrs h.rrrs (λ v w. passes relation.Holding (two_rows v w)) (is_shown_to_holder party) held_so
  told_ways relation.Crediting h = two t true h.rrrs h.rrrs (λ v w. passes relation.Crediting (two_rows v w)) (is_shown_to_creditor party) credited_so
  told_ways relation.Awaiting h = three t h.rrrs h.namings h.mutations (λ u v w. passes relation.Awaiting (three_rows u v w)) (is_told_to_lodger party) lodged_so

-- many rows: many pairs
pub are_many : (relation : Relation) (party : ℕ) (t : ℤ) (db : Trees) (rows : List Row) → IsAnswer (query_of relation) (overlay db []) (query_parameters (known_or_zero party) t) rows
    → 16 < length rows → HoldsOfHistory db (λ h. 16 < count_ways relation t h (known_or_zero party))
are_many relation party t db rows a long moments h held =
    let asked = known_or_zero party in
    let ps = places_of relation in
    let fs = filter_of relation in
    let shown = shown_of relation in
    let start = query_parameters asked t in
    let here = no_more 17 (from ps) fs (shown ∷ []) (overlay db []) start rows a in
    let shapes : AreShapes (start ∷ []) (start ∷ []) = (shape_itself start, tt) in
    let same = counted db (overlay db []) (as_stored db) moments h held fs shown ps (start ∷ []) (start ∷ []) shapes shapes ((known_of relation).known asked t) ∙ told_ways asked t relation h in
    omega (arith, long, here, same)
