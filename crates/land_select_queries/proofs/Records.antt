-- The result of a lookup is a part of the register.
use Rattle.std.proofs.Common.{◌≡◌, ◌≢◌, inl, inr, ℕ, ℤ, Bool, true, false, ◌&&◌, nat_eq, cond, List, [], ◌∷◌, filter, map, Option, Some, None, Ok, Err, IfErr, IfOk, IsErrAnd, Result, refl, sym, ap, subst, ◌∙◌, IsPermutation}
use Rattle.std.proofs.lemmas.Bool.Decides.{Decides-eqb}
use Rattle.std.proofs.lemmas.List.Sorted.{Contains-permutation, IsPermutation-map, IsPermutation-sym, IsPermutation-trans}
use Rattle.std.specs.FinMap as finite
use Rattle.std.specs.FinMap.{FinMap}
use Rattle.std.specs.List.{Contains}
use Rattle.std.specs.Ordering.{nat_cmp}
use Rattle.land_core.specs.declared.register.Register.{Register}
use Rattle.land_select_queries.proofs.Containing.{first_or_later, in_nothing, later, first, to_map}
use Rattle.land_select_queries.proofs.Passing.{passing_said, some_said}
use Rattle.land_select_queries.proofs.Queries.{filter_of, project_of, query_of, shown, stored, tests}
use Rattle.land_select_queries.proofs.Standing.{entry_found, entry_there}
use Rattle.land_select_queries.specs.Joins.Meaning.{query_parameters}
use Rattle.land_select_queries.specs.Joins.Execution.{HoldsNoHistory, HoldsOfHistory, known_or_zero}
use Rattle.land_select_queries.specs.Lookups.RecordRows.{AreMatchingRows, AreRowsOf, AreReadFrom, AreReadByLookup, LookupCannotBeRead, CannotBeRead, LookupItem, IsValueOfOne, is_meant, listing_of, matching_versions}
use Rattle.land_select_queries.specs.Lookups.Numbered.{IsFoundBy}
use Rattle.land_select_queries.specs.Lookups.Parts.{ReadsPart}
use Rattle.land_select_queries.specs.declared.lookups.record_lookup.RecordLookup.{RecordLookup}
use Rattle.land_tables_history.proofs.Permutations.{filter_permuted}
use Rattle.land_tables_history.specs.Standing.{IsPartAt, is_current, current_values}
use Rattle.land_tables_history.specs.declared.history.History.{History}
use Rattle.land_tables_history.specs.declared.version.Version.{Version}
use Rattle.land_tables_rows.proofs.Readings.{each_all}
use Rattle.land_tables_rows.proofs.ToldTables.{same_values}
use Rattle.land_tables_rows.specs.Listing.Reading.{IsRead, Listing, Says}
use Rattle.land_tables_rows.specs.Reading.Readings.{each_row}
use Rattle.land_tables_rows.specs.declared.listing.fault.ReadFault.{ReadFault}
use Rattle.land_tables_schema.proofs.Updates.{answer_is, passes, plainly}
use Rattle.land_wire_json.specs.declared.bodies.wire_fault.WireFault.{WireFault}
use Rattle.sqlite.specs.Program.{overlay}
use Rattle.sqlite.specs.Query.{IsAnswer}
use Rattle.sqlite.specs.Term.{Term, eval_all}
use Rattle.sqlite_keyed.proofs.ListLemmas.{map-map}
use Rattle.sqlite_trees.specs.Tree.{Trees}
use Rattle.sqlite_value.specs.Order.{Row}

-- ---- rows

-- a query of one table returns the decoded columns of a row, and tests if its version is current and matches
module _ {X : Type 0} (listing : Listing (Version X)) (terms columns : List Term) (params : Row) (meant : X → Bool) (t : ℤ) (db : Trees)
    (same_rows : overlay db [] listing.table.tree ≡ db listing.table.tree) (same_cells : (r : Row) → eval_all columns (params ∷ r ∷ []) ≡ listing.shown r)
    (tested : (r : Row) (v : Version X) → listing.said (listing.shown r) ≡ Ok v → passes terms params r ≡ (is_current t v && meant v.what)) (rows : List Row) where
  abbrev passing : Row → Bool
  passing r = passes terms params r

  each_shown : (some : List Row) → map (λ r. eval_all columns (params ∷ r ∷ [])) some ≡ map listing.shown some
  each_shown [] = refl
  each_shown (r ∷ more) = ap (λ a. a ∷ map (λ r. eval_all columns (params ∷ r ∷ [])) more) (same_cells r) ∙ ap (λ m. listing.shown r ∷ m) (each_shown more)

  answered : IsAnswer (plainly listing.table.tree terms columns) (overlay db []) params rows → IsPermutation (map listing.shown (filter passing (db listing.table.tree))) rows
  answered a =
      subst (λ m. IsPermutation m rows) (each_shown (filter passing (db listing.table.tree)))
      (subst (λ some. IsPermutation (map (λ r. eval_all columns (params ∷ r ∷ [])) (filter passing some)) rows) same_rows
      (answer_is listing.table.tree terms columns (overlay db []) params rows a))

  -- its result has the wanted rows
  pub are_rows : IsAnswer (plainly listing.table.tree terms columns) (overlay db []) params rows → AreMatchingRows listing meant t db rows
  are_rows a versions says =
      let whole = db listing.table.tree in
      let said_of : Row → Result (Version X) WireFault = λ r. listing.said (listing.shown r) in
      let answer : IsPermutation (map said_of (filter passing whole)) (map listing.said rows) =
      subst (λ m. IsPermutation m (map listing.said rows)) (map-map listing.said listing.shown (filter passing whole)) (IsPermutation-map listing.said (map listing.shown (filter passing whole)) rows (answered a)) in
      IsPermutation-trans (map listing.said rows) (map said_of (filter passing whole)) (map (λ v. Ok v) (matching_versions meant t versions))
      (IsPermutation-sym (map said_of (filter passing whole)) (map listing.said rows) answer)
      (passing_said said_of passing (λ v. is_current t v && meant v.what) tested whole versions says)

-- the result of a lookup's statement has the rows of the lookup
pub are_rows_of : (l : RecordLookup) (number : ℕ) (t : ℤ) (db : Trees) (rows : List Row) → IsAnswer (query_of l) (overlay db []) (query_parameters (known_or_zero number) t) rows → AreRowsOf l number t db rows
are_rows_of l number t db rows answer =
    are_rows (listing_of l) (filter_of l) (project_of l) (query_parameters (known_or_zero number) t) (is_meant l number) t db (stored l db) (shown l (query_parameters (known_or_zero number) t)) (λ r v e. tests l r v e number t) rows answer

-- the decoded values of such rows
module _ {X : Type 0} (said : Row → Result X WireFault) (Are : List Row → Type 0) (rows : List Row) (are : Are rows) where
  pub said_of : (r : Result (List X) ReadFault) → IsRead said rows r → IfOk r (AreReadFrom said Are)
  said_of (Ok xs) read = (rows, are, read)
  said_of (Err fault) read = tt

  pub cannot_be_said : (r : Result (List X) ReadFault) → IsRead said rows r → IfErr r (CannotBeRead said Are)
  cannot_be_said (Ok xs) read = tt
  cannot_be_said (Err fault) read = λ is. (rows, are, (read (λ e. absurd (let a = is in let b = e in cc))).1)

-- ---- versions

-- rows of wanted versions
module _ {X : Type 0} (said : Row → Result X WireFault) (rows : List Row) (wants : List X) (are : IsPermutation (map said rows) (map (λ x. Ok x) wants)) where
  -- these are decoded, and nothing else
  pub all_wanted : (found : List X) → each_row said rows ≡ Ok found → IsPermutation found wants
  all_wanted found read = same_values found wants (subst (λ m. IsPermutation m (map (λ x. Ok x) wants)) (each_all said rows found read) are)

  -- they are readable
  pub can_be_read : ((found : List X) → each_row said rows ≢ Ok found) → ⊥
  can_be_read cannot =
      let read = some_said said rows wants are in
      cannot read.0 read.1

module _ (l : RecordLookup) (number : ℕ) (t : ℤ) (db : Trees) (versions : List (Version (LookupItem l))) (says : Says (listing_of l) db versions) where
  pub are_wanted : (found : List (Version (LookupItem l))) → AreReadByLookup (listing_of l).said l number t db found → IsPermutation found (matching_versions (is_meant l number) t versions)
  are_wanted found said = all_wanted (listing_of l).said said.0 (matching_versions (is_meant l number) t versions) (said.1 versions says) found said.2

-- so they are called unreadable only if the tables hold no history
pub none_held : {Y : Type 0} (db : Trees) (r : Result Y ReadFault) (fault : ReadFault) → IsErrAnd r (λ f. f ≡ fault) → HoldsNoHistory db fault → IfErr r (HoldsNoHistory db)
none_held db (Ok y) fault same none = absurd same
none_held db (Err f) fault same none = λ is. none (sym same ∙ is)

pub none_said : {Y : Type 0} (l : RecordLookup) (number : ℕ) (t : ℤ) (db : Trees) (versions : History → List (Version (LookupItem l))) → HoldsOfHistory db (λ h. Says (listing_of l) db (versions h))
    → (r : Result Y ReadFault) (fault : ReadFault) → IsErrAnd r (λ f. f ≡ fault) → LookupCannotBeRead (listing_of l).said l number t db fault → IfErr r (HoldsNoHistory db)
none_said l number t db versions says r fault same cannot =
    none_held db r fault same
    (λ is moments h held. let it = cannot is in can_be_read (listing_of l).said it.0 (matching_versions (is_meant l number) t (versions h)) (it.1 (versions h) (says moments h held)) it.2)

-- ---- records

module _ {X : Type 0} (t : ℤ) (meant : X → Bool) where
  -- the matching part of the current records
  kept : (versions : List (Version X)) → map (λ (v : Version X). v.what) (filter (λ v. is_current t v && meant v.what) versions) ≡ filter meant (current_values t versions)
  kept [] = refl
  kept (v ∷ vs) = go (is_current t v) (meant v.what) refl (kept vs)
    where
      go : (a b : Bool) → meant v.what ≡ b → map (λ (v : Version X). v.what) (filter (λ v. is_current t v && meant v.what) vs) ≡ filter meant (current_values t vs)
          → map (λ (v : Version X). v.what) (cond (a && b) (v ∷ filter (λ v. is_current t v && meant v.what) vs) (filter (λ v. is_current t v && meant v.what) vs))
          ≡ filter meant (map (λ (v : Version X). v.what) (cond a (v ∷ filter (is_current t) vs) (filter (is_current t) vs)))
      go true true is rest = ap (λ m. v.what ∷ m) rest ∙ sym (ap (λ b. cond b (v.what ∷ filter meant (current_values t vs)) (filter meant (current_values t vs))) is)
      go true false is rest = rest ∙ sym (ap (λ b. cond b (v.what ∷ filter meant (current_values t vs)) (filter meant (current_values t vs))) is)
      go false b is rest = rest

  -- if the current versions represent a part, the decoded ones represent its matching part
  pub found_of : (versions : List (Version X)) (items : List X) → IsPermutation (current_values t versions) items
      → (found : List (Version X)) → IsPermutation found (filter (λ v. is_current t v && meant v.what) versions) → IsPermutation (map (λ (v : Version X). v.what) found) (filter meant items)
  found_of versions items part found are =
      IsPermutation-trans (map (λ (v : Version X). v.what) found) (filter meant (current_values t versions)) (filter meant items)
      (subst (IsPermutation (map (λ (v : Version X). v.what) found)) (kept versions) (IsPermutation-map (λ (v : Version X). v.what) found (filter (λ v. is_current t v && meant v.what) versions) are))
      (filter_permuted meant (current_values t versions) items part)

-- the items of a list that pass
module _ {X : Type 0} (p : X → Bool) where
  pub passes_filter : (xs : List X) (x : X) → Contains (filter p xs) x → Contains xs x × (p x ≡ true)
  passes_filter [] x h = absurd (in_nothing x h)
  passes_filter (y ∷ ys) x h = go (p y) refl h (passes_filter ys x)
    where
      go : (b : Bool) → p y ≡ b → Contains (cond b (y ∷ filter p ys) (filter p ys)) x → (Contains (filter p ys) x → Contains ys x × (p x ≡ true)) → Contains (y ∷ ys) x × (p x ≡ true)
      go true is h more = elim (first_or_later y (filter p ys) x h) [
        | inl same ↦ (subst (Contains (y ∷ ys)) same (first y ys), subst (λ z. p z ≡ true) same is)
        | inr rest ↦ let it = more rest in (later y ys x it.0, it.1)
      ]
      go false is h more = let it = more h in (later y ys x it.0, it.1)

  pub kept_by_filter : (xs : List X) (x : X) → Contains xs x → p x ≡ true → Contains (filter p xs) x
  kept_by_filter [] x h is = absurd (in_nothing x h)
  kept_by_filter (y ∷ ys) x h is = elim (first_or_later y ys x h) [
    | inl same ↦ subst (λ b. Contains (cond b (y ∷ filter p ys) (filter p ys)) x) (sym (subst (λ z. p z ≡ true) (sym same) is)) (subst (Contains (y ∷ filter p ys)) same (first y (filter p ys)))
    | inr rest ↦ go (p y) (kept_by_filter ys x rest is)
  ]
    where
      go : (b : Bool) → Contains (filter p ys) x → Contains (cond b (y ∷ filter p ys) (filter p ys)) x
      go true rest = later y (filter p ys) x rest
      go false rest = rest

-- the record of a number
module _ {V : Type 0} (t : ℤ) (versions : List (Version (ℕ × V))) (m : FinMap nat_cmp V) (part : IsPartAt t versions m) (number : ℕ) (found : List (Version (ℕ × V)))
    (are : IsPermutation found (filter (λ v. is_current t v && nat_eq v.what.0 number) versions)) where
  under_number : IsPermutation (map (λ (v : Version (ℕ × V)). v.what) found) (filter (λ e. nat_eq e.0 number) (finite.entries m))
  under_number = found_of t (λ e. nat_eq e.0 number) versions (finite.entries m) part found are

  pub record_is : (o : Option V) → IsValueOfOne found o → o ≡ finite.get m number
  record_is None none = go (finite.get m number) refl
    where
      go : (o : Option V) → finite.get m number ≡ o → None ≡ finite.get m number
      go None is = sym is
      go (Some value) is =
          let there = kept_by_filter (λ e. nat_eq e.0 number) (finite.entries m) (number, value) (entry_found m number value is) ((Decides-eqb number number).1 refl) in
          let among = Contains-permutation (filter (λ e. nat_eq e.0 number) (finite.entries m)) (map (λ (v : Version (ℕ × V)). v.what) found) (number, value) (IsPermutation-sym (map (λ (v : Version (ℕ × V)). v.what) found) (filter (λ e. nat_eq e.0 number) (finite.entries m)) under_number) there in
          absurd (in_nothing (number, value) (subst (λ f. Contains (map (λ (v : Version (ℕ × V)). v.what) f) (number, value)) none among))
  record_is (Some value) one =
      let v = one.0 in
      let among = Contains-permutation (map (λ (v : Version (ℕ × V)). v.what) found) (filter (λ e. nat_eq e.0 number) (finite.entries m)) v.what under_number (to_map (λ (v : Version (ℕ × V)). v.what) found v one.1) in
      let it = passes_filter (λ e. nat_eq e.0 number) (finite.entries m) v.what among in
      ap (λ x. Some x) (sym one.2) ∙ sym (entry_there m v.what it.0) ∙ ap (finite.get m) ((Decides-eqb v.what.0 number).0 it.1)

-- the record that a lookup returns
module _ {V : Type 0} (said : Row → Result (Version (ℕ × V)) WireFault) (l : RecordLookup) (part : Register → FinMap nat_cmp V) (by : IsFoundBy said l part) (number : ℕ) (t : ℤ) (db : Trees) where
  pub is_record : (found : List (Version (ℕ × V))) → AreReadByLookup said l number t db found → (o : Option V) → IsValueOfOne found o → ReadsPart (λ r. finite.get (part r) number) t db o
  is_record found read o one moments h held r have stands =
      let it = by db moments h held in
      record_is t it.versions (part r) (it.stand t r stands) number found (all_wanted said read.0 (matching_versions (λ e. nat_eq e.0 number) t it.versions) (it.found number t read.0 read.1) found read.2) o one

  pub holds_none : (fault : ReadFault) → LookupCannotBeRead said l number t db fault → HoldsNoHistory db fault
  holds_none fault cannot is moments h held =
      let it = by db moments h held in
      let no = cannot is in
      can_be_read said no.0 (matching_versions (λ e. nat_eq e.0 number) t it.versions) (it.found number t no.0 no.1) no.2
