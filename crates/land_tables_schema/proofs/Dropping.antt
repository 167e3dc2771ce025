-- The plain indexes of schema version 1 are dropped, and the next tree is that of `mandate`.
use Rattle.std.proofs.Common.{Bor, ◌≡◌, ◌+◌, ◌<◌, ◌≤◌, ◌&&◌, ◌||◌, ℕ, suc, List, [], ◌∷◌, filter, fold, max, map, cond, Bool, true, false, not, None, Some, Ok, Err, Option, slice_get, codes, is_ok, refl, sym, ap, ap₂, subst, ◌∙◌, arith}
use Rattle.std.proofs.lemmas.Bool.{and_from, and_parts, false≢true}
use Rattle.std.proofs.lemmas.Bool.Decides.{Decides-eqb, Decides-ltb}
use Rattle.std.specs.Char.{to_ascii_lowercase}
use Rattle.std.specs.Cmp.Lexicographic.{slice_cmp}
use Rattle.std.specs.List.{AllZip, list_all, list_any, position_from}
use Rattle.std.specs.Ordering.{is_eq, nat_cmp}
use Rattle.std.specs.Prelude.{nat_eq, nat_lt}
use Rattle.land_tables_schema.proofs.Named.{IsDrop, compiled_dropping, drop_by_name, drop_with, heard}
use Rattle.land_tables_schema.proofs.Raisable.{first_but_for_indexes}
use Rattle.land_tables_schema.specs.Definitions.{AreReady, IsChanging, IsReady, without_index_of, schema_after_statements, schema_after_command, schema_after_statement}
use Rattle.land_tables_schema.specs.Schemas.{IsSchemaV1, IsMigratable, are_indexes_apart, schema_v1_with, is_apart, is_lookup_index, is_named, lookup_index_names, adds_no_constraint, without_lookup_indexes, without_named}
use Rattle.land_tables_schema.specs.Laws.{drop_statements}
use Rattle.sqlite.proofs.Callers.{command_of, statement_of}
use Rattle.sqlite.specs.Command.{Command}
use Rattle.sqlite.specs.Command.TheVariants.{DropIndex, Nothing}
use Rattle.sqlite.specs.Given.{IsPlain}
use Rattle.sqlite.specs.Listing.{understood}
use Rattle.sqlite_catalog.proofs.SoundLemmas.{lowered}
use Rattle.sqlite_catalog.specs.Change.{next_tree}
use Rattle.sqlite_resolve.specs.Compile.{first}
use Rattle.sqlite_resolve.specs.Lowering.{Checked}
use Rattle.sqlite_resolve.specs.declared.compiled.Compiled.{Compiled}
use Rattle.sqlite_schema.specs.Names.{index_named, same_name}
use Rattle.sqlite_schema.specs.declared.schema.Index.{Index}
use Rattle.sqlite_schema.specs.declared.schema.Schema.{Schema}
use Rattle.sqlite_syntax.specs.declared.statement.Parsed.{Parsed}
use Rattle.sqlite_tied.specs.Compute.{everything}

-- ---- filters of a list

all_of : {X : Type 0} (p r : X → Bool) (xs : List X) → list_all p xs ≡ true → list_all p (filter r xs) ≡ true
all_of p r [] h = refl
all_of {X} p r (x ∷ xs) h =
    let parts = and_parts (p x) (list_all p xs) h in
    go (r x) parts.0 (all_of p r xs parts.1)
  where
    go : (b : Bool) → p x ≡ true → list_all p (filter r xs) ≡ true → list_all p (cond b (x ∷ filter r xs) (filter r xs)) ≡ true
    go true one rest = and_from (p x) (list_all p (filter r xs)) one rest
    go false one rest = rest

all_so : {X : Type 0} (p q : X → Bool) (xs : List X) → ((x : X) → p x ≡ true → q x ≡ true) → list_all p xs ≡ true → list_all q xs ≡ true
all_so p q [] so h = refl
all_so p q (x ∷ xs) so h =
    let parts = and_parts (p x) (list_all p xs) h in
    and_from (q x) (list_all q xs) (so x parts.0) (all_so p q xs so parts.1)

filter_twice : {X : Type 0} (p q : X → Bool) (xs : List X) → filter (λ x. not (q x)) (filter (λ x. not (p x)) xs) ≡ filter (λ x. not (p x || q x)) xs
filter_twice p q [] = refl
filter_twice {X} p q (x ∷ xs) = go (p x) (q x) refl (filter_twice p q xs)
  where
    go : (a b : Bool) → q x ≡ b → filter (λ x. not (q x)) (filter (λ x. not (p x)) xs) ≡ filter (λ x. not (p x || q x)) xs
        → filter (λ x. not (q x)) (cond (not a) (x ∷ filter (λ x. not (p x)) xs) (filter (λ x. not (p x)) xs))
        ≡ cond (not (a || b)) (x ∷ filter (λ x. not (p x || q x)) xs) (filter (λ x. not (p x || q x)) xs)
    go true b is rest = rest
    go false true is rest = rw is rest
    go false false is rest = rw is (ap (λ l. x ∷ l) rest)

all_stay : {X : Type 0} (xs : List X) → filter (λ x. true) xs ≡ xs
all_stay [] = refl
all_stay (x ∷ xs) = ap (λ l. x ∷ l) (all_stay xs)

-- if no item passes, all stay
none_goes : {X : Type 0} (p : X → Bool) (xs : List X) (from : ℕ) → position_from p from xs ≡ None → filter (λ x. not (p x)) xs ≡ xs
none_goes p [] from e = refl
none_goes {X} p (x ∷ xs) from e = go (p x) e (none_goes p xs (from + 1))
  where
    go : (b : Bool) → cond b (Some from) (position_from p (from + 1) xs) ≡ None → (position_from p (from + 1) xs ≡ None → filter (λ x. not (p x)) xs ≡ xs)
        → cond (not b) (x ∷ filter (λ x. not (p x)) xs) (filter (λ x. not (p x)) xs) ≡ x ∷ xs
    go true e rest = absurd (cc)
    go false e rest = ap (λ l. x ∷ l) (rest e)

-- the first item that passes, and a property of all
record Placed {X : Type 0} (p q : X → Bool) (xs : List X) (from k : ℕ) : Type 0 where
  place : ℕ
  is : k ≡ from + place
  it : X
  there : slice_get xs place ≡ Some it
  passes : p it ≡ true
  also : q it ≡ true

placed : {X : Type 0} (p q : X → Bool) (xs : List X) (from k : ℕ) → position_from p from xs ≡ Some k → list_all q xs ≡ true → Placed p q xs from k
placed p q [] from k e h = absurd (cc)
placed {X} p q (x ∷ xs) from k e h = go (p x) refl e (and_parts (q x) (list_all q xs) h) (placed p q xs (from + 1) k)
  where
    go : (b : Bool) → p x ≡ b → cond b (Some from) (position_from p (from + 1) xs) ≡ Some k → (q x ≡ true) × (list_all q xs ≡ true)
        → (position_from p (from + 1) xs ≡ Some k → list_all q xs ≡ true → Placed p q xs (from + 1) k) → Placed p q (x ∷ xs) from k
    go true is e parts later = let same : from ≡ k = cc in record { place = 0; is = omega (arith, same); it = x; there = refl; passes = is; also = parts.0 }
    go false is e parts later =
        let l = later e parts.1 in
        record { place = suc l.place; is = omega (arith, l.is); it = l.it; there = l.there; passes = l.passes; also = l.also }

-- filters by tests that agree on all items of a list
same_filter : {X : Type 0} (c p q : X → Bool) (xs : List X) → ((x : X) → c x ≡ true → p x ≡ q x) → list_all c xs ≡ true → filter p xs ≡ filter q xs
same_filter c p q [] so h = refl
same_filter c p q (x ∷ xs) so h =
    let parts = and_parts (c x) (list_all c xs) h in
    ap₂ (λ b l. cond b (x ∷ l) l) (so x parts.0) (same_filter c p q xs so parts.1)

-- a test that depends on compiled statements
pub any_now : (p : List ℕ → Bool) (texts : List (Bor (List ℕ))) → list_any (λ t. p t.now) texts ≡ list_any p (map (λ t. t.now) texts)
any_now p [] = refl
any_now p (t ∷ ts) = ap (λ b. p t.now || b) (any_now p ts)

-- ---- names and trees

told : (a e : Bool) → cond a e (not e) ≡ true → e ≡ a
told true true h = refl
told true false h = absurd (false≢true h)
told false true h = absurd (false≢true h)
told false false h = refl

-- equality of names is an equivalence
alike : (other one name : List ℕ) → same_name one name ≡ true → same_name other one ≡ same_name other name
unfolding same_name
alike other one name same = ap (λ l. is_eq (slice_cmp nat_cmp (map to_ascii_lowercase other) l)) ((lowered one name).0 same)

-- indexes that differ by tree and name still do so without one of them
apart_of : (r : Index → Bool) (is : List Index) → are_indexes_apart is ≡ true → are_indexes_apart (filter r is) ≡ true
apart_of r is h =
    all_of (λ i. list_all (is_apart i) (filter r is)) r is
    (all_so (λ i. list_all (is_apart i) is) (λ i. list_all (is_apart i) (filter r is)) is (λ i apart. all_of (is_apart i) r is apart) h)

abbrev without_one : List ℕ → List Index → List Index
without_one name is = filter (λ i. not (same_name i.name name)) is

abbrev drop_command : Option ℕ → Command
drop_command None = Nothing
drop_command (Some k) = DropIndex k

-- if indexes differ by tree and name, dropping the first of a name drops all of that name
loses : (text name : List ℕ) (is : List Index) → are_indexes_apart is ≡ true → (o : Option ℕ) → index_named (schema_v1_with [] is) name ≡ o
    → schema_after_command (schema_v1_with [] is) text (drop_command o) ≡ schema_v1_with [] (without_one name is)
loses text name is apart None e = ap (λ l. schema_v1_with [] l) (sym (none_goes (λ (i : Index). same_name i.name name) is 0 e))
loses text name is apart (Some k) e =
    let p = placed (λ (i : Index). same_name i.name name) (λ (i : Index). list_all (is_apart i) is) is 0 k e apart in
    let at : k ≡ p.place = omega (arith, p.is) in
    let there : slice_get is k ≡ Some p.it = ap (slice_get is) at ∙ p.there in
    ap (without_index_of (schema_v1_with [] is)) there
    ∙ ap (λ l. schema_v1_with [] l)
    (same_filter (is_apart p.it) (λ (j : Index). not (nat_eq j.tree p.it.tree)) (λ (j : Index). not (same_name j.name name)) is
    (λ j h. ap not (told (same_name j.name p.it.name) (nat_eq j.tree p.it.tree) h ∙ alike j.name p.it.name name p.passes)) p.also)

-- ---- the statements

-- the statement compiles to this command as a whole, and does not read the time
record Heard (text : List ℕ) (r : Checked Compiled) (c : Command) : Type 0 where
  command : command_of r ≡ c
  plain : IsPlain r
  whole : statement_of text r ≡ text

-- a statement drops the index of a name, if there is one
record Drops (text name : List ℕ) : Type 0 where
  it : IsDrop text name
  absent : (indexes : List Index) → Heard text (heard text (compiled_dropping text name it (drop_with (schema_v1_with [] indexes) name None))) Nothing
  present : (indexes : List Index) (k : ℕ) → Heard text (heard text (compiled_dropping text name it (drop_with (schema_v1_with [] indexes) name (Some k)))) (DropIndex k)

may_change : (o : Option ℕ) (after : Schema) → IsChanging (drop_command o) after
may_change None after = tt
may_change (Some k) after = tt

abbrev Dropped : List ℕ → List ℕ → List Index → Type 0
Dropped text name is = IsReady (schema_v1_with [] is) text × (schema_after_statement (schema_v1_with [] is) text ≡ schema_v1_with [] (without_one name is))

module _ (text name : List ℕ) (d : Drops text name) (is : List Index) (apart : are_indexes_apart is ≡ true) where
  abbrev schema : Schema
  schema = schema_v1_with [] is

  heard_as : (o : Option ℕ) → Heard text (heard text (compiled_dropping text name d.it (drop_with (schema_v1_with [] is) name o))) (drop_command o)
  heard_as None = d.absent is
  heard_as (Some k) = d.present is k

  dropped_by : (o : Option ℕ) → index_named schema name ≡ o → Dropped text name is
  dropped_by o e =
      let same = drop_by_name text name d.it schema o e in
      let h = heard_as o in
      let command = ap command_of same ∙ h.command in (
        λ _. record {
          plain = subst IsPlain (sym same) h.plain;
          whole = ap (statement_of text) same ∙ h.whole;
          changing = subst (λ (c : Command). IsChanging c (schema_after_statement schema text)) (sym command) (may_change o (schema_after_statement schema text));
        },
        ap (schema_after_command schema text) command ∙ loses text name is apart o e,
      )

  dropped_one : Dropped text name is
  dropped_one = dropped_by (index_named schema name) refl

dropped_all : (texts names : List (List ℕ)) → AllZip Drops texts names → (is : List Index) → are_indexes_apart is ≡ true
    → AreReady (schema_v1_with [] is) texts × (schema_after_statements (schema_v1_with [] is) texts ≡ schema_v1_with [] (filter (λ i. not (is_named names i)) is))
dropped_all [] [] drop is apart = (tt, ap (λ l. schema_v1_with [] l) (sym (all_stay is)))
dropped_all [] (n ∷ ns) drop is apart = absurd drop
dropped_all (t ∷ ts) [] drop is apart = absurd drop
dropped_all (t ∷ ts) (n ∷ ns) drop is apart =
    let one = dropped_one t n drop.0 is apart in
    let rest = dropped_all ts ns drop.1 (without_one n is) (apart_of (λ i. not (same_name i.name n)) is apart) in (
      (one.0, subst (λ s. AreReady s ts) (sym one.1) rest.0),
      ap (λ s. schema_after_statements s ts) one.1 ∙ rest.1 ∙ ap (λ l. schema_v1_with [] l) (filter_twice (λ (i : Index). same_name i.name n) (is_named ns) is),
    )

statement_in : (r : Checked Parsed) → is_ok r ≡ true → Parsed
statement_in (Ok p) h = p
statement_in (Err e) h = absurd (false≢true h)

rrr_party_is : IsDrop (codes "DROP INDEX IF EXISTS rrr_party") (codes "rrr_party")
unfolding everything statement_in
rrr_party_is = record { parsed = statement_in (first (codes "DROP INDEX IF EXISTS rrr_party")) refl; is = refl }

rrr_party_dropped : Drops (codes "DROP INDEX IF EXISTS rrr_party") (codes "rrr_party")
unfolding understood everything statement_in rrr_party_is
rrr_party_dropped = record {
  it = rrr_party_is;
  absent = λ indexes. record { command = refl; plain = (refl, refl); whole = refl };
  present = λ indexes k. record { command = refl; plain = (refl, refl); whole = refl };
}

rrr_unit_is : IsDrop (codes "DROP INDEX IF EXISTS rrr_unit") (codes "rrr_unit")
unfolding everything statement_in
rrr_unit_is = record { parsed = statement_in (first (codes "DROP INDEX IF EXISTS rrr_unit")) refl; is = refl }

rrr_unit_dropped : Drops (codes "DROP INDEX IF EXISTS rrr_unit") (codes "rrr_unit")
unfolding understood everything statement_in rrr_unit_is
rrr_unit_dropped = record {
  it = rrr_unit_is;
  absent = λ indexes. record { command = refl; plain = (refl, refl); whole = refl };
  present = λ indexes k. record { command = refl; plain = (refl, refl); whole = refl };
}

parcel_unit_is : IsDrop (codes "DROP INDEX IF EXISTS parcel_unit") (codes "parcel_unit")
unfolding everything statement_in
parcel_unit_is = record { parsed = statement_in (first (codes "DROP INDEX IF EXISTS parcel_unit")) refl; is = refl }

parcel_unit_dropped : Drops (codes "DROP INDEX IF EXISTS parcel_unit") (codes "parcel_unit")
unfolding understood everything statement_in parcel_unit_is
parcel_unit_dropped = record {
  it = parcel_unit_is;
  absent = λ indexes. record { command = refl; plain = (refl, refl); whole = refl };
  present = λ indexes k. record { command = refl; plain = (refl, refl); whole = refl };
}

member_party_is : IsDrop (codes "DROP INDEX IF EXISTS member_party") (codes "member_party")
unfolding everything statement_in
member_party_is = record { parsed = statement_in (first (codes "DROP INDEX IF EXISTS member_party")) refl; is = refl }

member_party_dropped : Drops (codes "DROP INDEX IF EXISTS member_party") (codes "member_party")
unfolding understood everything statement_in member_party_is
member_party_dropped = record {
  it = member_party_is;
  absent = λ indexes. record { command = refl; plain = (refl, refl); whole = refl };
  present = λ indexes k. record { command = refl; plain = (refl, refl); whole = refl };
}

names_unit_is : IsDrop (codes "DROP INDEX IF EXISTS names_unit") (codes "names_unit")
unfolding everything statement_in
names_unit_is = record { parsed = statement_in (first (codes "DROP INDEX IF EXISTS names_unit")) refl; is = refl }

names_unit_dropped : Drops (codes "DROP INDEX IF EXISTS names_unit") (codes "names_unit")
unfolding understood everything statement_in names_unit_is
names_unit_dropped = record {
  it = names_unit_is;
  absent = λ indexes. record { command = refl; plain = (refl, refl); whole = refl };
  present = λ indexes k. record { command = refl; plain = (refl, refl); whole = refl };
}

mutation_lodger_is : IsDrop (codes "DROP INDEX IF EXISTS mutation_lodger") (codes "mutation_lodger")
unfolding everything statement_in
mutation_lodger_is = record { parsed = statement_in (first (codes "DROP INDEX IF EXISTS mutation_lodger")) refl; is = refl }

mutation_lodger_dropped : Drops (codes "DROP INDEX IF EXISTS mutation_lodger") (codes "mutation_lodger")
unfolding understood everything statement_in mutation_lodger_is
mutation_lodger_dropped = record {
  it = mutation_lodger_is;
  absent = λ indexes. record { command = refl; plain = (refl, refl); whole = refl };
  present = λ indexes k. record { command = refl; plain = (refl, refl); whole = refl };
}

role_role_is : IsDrop (codes "DROP INDEX IF EXISTS role_role") (codes "role_role")
unfolding everything statement_in
role_role_is = record { parsed = statement_in (first (codes "DROP INDEX IF EXISTS role_role")) refl; is = refl }

role_role_dropped : Drops (codes "DROP INDEX IF EXISTS role_role") (codes "role_role")
unfolding understood everything statement_in role_role_is
role_role_dropped = record {
  it = role_role_is;
  absent = λ indexes. record { command = refl; plain = (refl, refl); whole = refl };
  present = λ indexes k. record { command = refl; plain = (refl, refl); whole = refl };
}

join_drops : AllZip Drops drop_statements lookup_index_names
join_drops = (rrr_party_dropped, (rrr_unit_dropped, (parcel_unit_dropped, (member_party_dropped, (names_unit_dropped, (mutation_lodger_dropped, (role_role_dropped, tt)))))))

-- the statements are ready to run, and drop the plain indexes of version 1
pub drops_ready : (s : Schema) → IsMigratable s → AreReady s drop_statements × (schema_after_statements s drop_statements ≡ without_lookup_indexes s)
drops_ready s able =
    subst (λ (x : Schema). AreReady x drop_statements × (schema_after_statements x drop_statements ≡ without_lookup_indexes x)) (sym (first_but_for_indexes s able.first))
    (dropped_all drop_statements lookup_index_names join_drops s.indexes able.apart)

-- without some indexes the schema still has version 1
pub first_without : (names : List (List ℕ)) (s : Schema) → IsSchemaV1 s → IsSchemaV1 (without_named names s)
first_without names s first = record {
  tables = first.tables;
  indexes = all_of (adds_no_constraint s.tables) (λ i. not (is_named names i)) s.indexes first.indexes;
  views = first.views;
}

-- ---- the next tree

narrowed : {X : Type 0} (p r : X → Bool) (xs : List X) → list_all (λ x. p x || r x) xs ≡ true → list_all r (filter (λ x. not (p x)) xs) ≡ true
narrowed p r [] h = refl
narrowed {X} p r (x ∷ xs) h =
    let parts = and_parts (p x || r x) (list_all (λ x. p x || r x) xs) h in
    go (p x) parts.0 (narrowed p r xs parts.1)
  where
    go : (b : Bool) → (b || r x) ≡ true → list_all r (filter (λ x. not (p x)) xs) ≡ true → list_all r (cond (not b) (x ∷ filter (λ x. not (p x)) xs) (filter (λ x. not (p x)) xs)) ≡ true
    go true one rest = rest
    go false one rest = and_from (r x) (list_all r (filter (λ x. not (p x)) xs)) one rest

either : (a b c : Bool) → (a || b) ≡ true → (b ≡ true → c ≡ true) → (a || c) ≡ true
either true b c h so = refl
either false b c h so = so h

one_left : {X : Type 0} (p r : X → Bool) (xs : List X) → list_any (λ x. not (p x) && r x) xs ≡ true → list_any r (filter (λ x. not (p x)) xs) ≡ true
one_left p r [] h = h
one_left {X} p r (x ∷ xs) h = go (p x) h (one_left p r xs)
  where
    go : (b : Bool) → ((not b && r x) || list_any (λ x. not (p x) && r x) xs) ≡ true → (list_any (λ x. not (p x) && r x) xs ≡ true → list_any r (filter (λ x. not (p x)) xs) ≡ true)
        → list_any r (cond (not b) (x ∷ filter (λ x. not (p x)) xs) (filter (λ x. not (p x)) xs)) ≡ true
    go true h rest = rest h
    go false h rest = either (r x) (list_any (λ x. not (p x) && r x) xs) (list_any r (filter (λ x. not (p x)) xs)) h rest

abbrev past_indexes : ℕ → List Index → ℕ
past_indexes from is = fold (λ n (i : Index). max n (i.tree + 1)) from is

most : (is : List Index) (n : ℕ) → n ≤ 20 → list_all (λ (i : Index). nat_lt i.tree 20) is ≡ true → past_indexes n is ≤ 20
most [] n h all = h
most (i ∷ is) n h all =
    let parts = and_parts (nat_lt i.tree 20) (list_all (λ (j : Index). nat_lt j.tree 20) is) all in
    let low : i.tree < 20 = (Decides-ltb i.tree 20).0 parts.0 in
    most is (max n (i.tree + 1)) (omega (arith, h, low)) parts.1

grows : (is : List Index) (n : ℕ) → n ≤ past_indexes n is
grows [] n = omega arith
grows (i ∷ is) n = let more = grows is (max n (i.tree + 1)) in omega (arith, more)

reaches : (is : List Index) (n : ℕ) → list_any (λ (i : Index). nat_eq i.tree 19) is ≡ true → 20 ≤ past_indexes n is
reaches [] n h = absurd (false≢true h)
reaches (i ∷ is) n h = go (nat_eq i.tree 19) refl h (reaches is (max n (i.tree + 1)))
  where
    go : (b : Bool) → nat_eq i.tree 19 ≡ b → (b || list_any (λ (j : Index). nat_eq j.tree 19) is) ≡ true
        → (list_any (λ (j : Index). nat_eq j.tree 19) is ≡ true → 20 ≤ past_indexes (max n (i.tree + 1)) is) → 20 ≤ past_indexes (max n (i.tree + 1)) is
    go true e h rest = let more = grows is (max n (i.tree + 1)) in let tree : i.tree ≡ 19 = (Decides-eqb i.tree 19).0 e in omega (arith, more, tree)
    go false e h rest = rest h

-- without the plain indexes of version 1, the next tree is that of `mandate`
pub next_is : (s : Schema) → IsMigratable s → next_tree (without_lookup_indexes s) ≡ 20
next_is s able =
    let left = filter (λ i. not (is_lookup_index i)) s.indexes in
    let low = most left 19 (omega arith) (narrowed is_lookup_index (λ (i : Index). nat_lt i.tree 20) s.indexes able.before) in
    let high = reaches left 19 (one_left is_lookup_index (λ (i : Index). nat_eq i.tree 19) s.indexes able.last) in
    let is : past_indexes 19 left ≡ 20 = omega (arith, low, high) in
    ap (λ (x : Schema). next_tree (without_lookup_indexes x)) (first_but_for_indexes s able.first) ∙ is
