-- The statement of a join returns exactly the numbers of the versions for which its terms hold.
use Rattle.std.proofs.Common.{◌≡◌, ◌↔◌, ℕ, ℤ, pos, false, List, [], ◌∷◌, ◌++◌, Bool, true, ◌&&◌, refl, sym, ap, subst, ◌∙◌, true≢false}
use Rattle.std.specs.List.{list_all}
use Rattle.std.proofs.lemmas.Bool.{and_parts}
use Rattle.land_select_queries.proofs.Places.{Place, What, as_stored, row_of, shape, tree, version_of, versions}
use Rattle.land_select_queries.proofs.Sets.{Fills, answer_of, answered, answers, is_answer, is_inner, plainly}
use Rattle.land_select_queries.proofs.Shapes.{AreShapes, SayAll, all_decided, are_known, is_shape, is_simple, is_solid, same_value, shape_itself, shapes_more}
use Rattle.land_select_queries.specs.Joins.Meaning.{GivesNumbers, command_in, query_parameters}
use Rattle.land_tables_history.specs.declared.history.History.{History}
use Rattle.land_tables_history.specs.declared.moment.Moment.{Moment}
use Rattle.land_tables_history.specs.declared.version.Version.{Version}
use Rattle.land_tables_rows.specs.Writing.History.{HoldsHistory}
use Rattle.land_tables_schema.specs.Schemas.{schema_v2_with}
use Rattle.sqlite.proofs.Callers.{IsPlain, command_of}
use Rattle.sqlite.specs.Command.TheVariants.{Select}
use Rattle.sqlite.specs.Effect.{Database, Reads}
use Rattle.sqlite.specs.Listing.{reads_listing, understood}
use Rattle.sqlite.specs.Program.{overlay}
use Rattle.sqlite.specs.Query.{IsAnswer, Query}
use Rattle.sqlite.specs.Schema.{Schema}
use Rattle.sqlite.specs.declared.types.Value.{Value}
use Rattle.sqlite.specs.declared.types.Value.TheVariants.{Null, Int}
use Rattle.sqlite_rules.specs.Lists.{Has}
use Rattle.sqlite_schema.specs.declared.schema.Index.{Index}
use Rattle.sqlite_sql.specs.Query.{Join, inner, end}
use Rattle.sqlite_sql.specs.Term.{Term, Env, eval, eval_all, holds}
use Rattle.sqlite_trees.specs.Tree.{Trees}
use Rattle.sqlite_typing.specs.Types.{accepts_program}
use Rattle.sqlite_value.specs.Order.{Row}

abbrev pub from : List Place → Join
from [] = end
from (p ∷ ps) = inner (tree p) (from ps)

joined : (ps : List Place) → is_inner (from ps) ≡ true
joined [] = refl
joined (p ∷ ps) = joined ps

-- ---- versions of these tables, in order

-- a property holds of some of them
abbrev pub Finds : History → List Place → (Env → Type 0) → Env → Type 0
Finds h [] P s = P s
Finds h (p ∷ ps) P s = (v : Version (What p)) × Has (versions p h) v × Finds h ps P (s ++ shape p v ∷ [])

-- it holds of any
abbrev pub ForAll : List Place → (Env → Type 0) → Env → Type 0
ForAll [] P s = P s
ForAll (p ∷ ps) P s = (v : Version (What p)) → ForAll ps P (s ++ shape p v ∷ [])

moved : (h : History) (P Q : Env → Type 0) (ps : List Place) (s : Env) → ForAll ps (λ s. P s → Q s) s → Finds h ps P s → Finds h ps Q s
moved h P Q [] s f p = f p
moved h P Q (q ∷ ps) s f found = (found.0, found.1, moved h P Q ps (s ++ shape q found.0 ∷ []) (f found.0) found.2)

everywhere : (P Q : Env → Type 0) (ps : List Place) (s : Env) → ((s : Env) → P s → Q s) → ForAll ps P s → ForAll ps Q s
everywhere P Q [] s f p = f s p
everywhere P Q (q ∷ ps) s f h = λ v. everywhere P Q ps (s ++ shape q v ∷ []) f (h v)

settled : (h : History) (Q : Type 0) (ps : List Place) (s : Env) → Finds h ps (λ s. Q) s → Q
settled h Q [] s q = q
settled h Q (p ∷ ps) s found = settled h Q ps (s ++ shape p found.0 ∷ []) found.2

-- ---- from rows to versions and back

module _ (db over : Trees) (stored : (p : Place) → over (tree p) ≡ db (tree p)) (moments : List Moment) (h : History) (held : HoldsHistory db moments h) where
  found : (ps : List Place) (s env e : Env) → AreShapes s env → Fills over (from ps) env e → Finds h ps (λ s. AreShapes s e) s
  found [] s env e shapes fills = subst (AreShapes s) (sym fills) shapes
  found (p ∷ ps) s env e shapes fills =
      let it = version_of db moments h held p fills.0 (subst (λ rows. Has rows fills.0) (stored p) fills.1) in
      (it.0, it.1, found ps (s ++ shape p it.0 ∷ []) (env ++ fills.0 ∷ []) e (shapes_more s env (shape p it.0) fills.0 shapes (is_shape (shape p it.0) fills.0 it.2.0)) fills.2)

  filled : (P : Env → Type 0) (ps : List Place) (s env : Env) → AreShapes s env → Finds h ps P s → (e : Env) × (last : Env) × Fills over (from ps) env e × AreShapes last e × P last
  filled P [] s env shapes p = (env, s, refl, shapes, p)
  filled P (q ∷ ps) s env shapes found =
      let it = row_of db moments h held q found.0 found.1 in
      let more = filled P ps (s ++ shape q found.0 ∷ []) (env ++ it.0 ∷ []) (shapes_more s env (shape q found.0) it.0 shapes (is_shape (shape q found.0) it.0 it.2.0)) found.2 in
      (more.0, more.1, (it.0, subst (λ rows. Has rows it.0) (sym (stored q)) it.1, more.2), more.3, more.4)

-- ---- the number of a result

abbrev pub number_in : Value → ℕ
number_in (Int (pos n)) = n
number_in v = 0

abbrev pub is_whole : Value → Bool
is_whole (Int (pos n)) = true
is_whole v = false

whole_back : (v : Value) → is_whole v ≡ true → v ≡ Int (pos (number_in v))
whole_back (Int (pos n)) h = refl
whole_back v h = absurd (true≢false (sym h))

whole_solid : (v : Value) → is_whole v ≡ true → is_solid v ≡ true
whole_solid (Int z) h = refl
whole_solid v h = absurd (true≢false (sym h))

abbrev first_of : Row → Value
first_of [] = Null
first_of (v ∷ vs) = v

-- ---- statements

-- a statement is exactly this query
pub record Asks (schema : Schema) (text : List ℕ) (q : Query) : Type 0 where
  pub names : List (List ℕ)
  pub command : command_of (understood schema text) ≡ Select (record { lets = []; body = q }) names
  pub unlisted : reads_listing schema text ≡ false
  pub plain : IsPlain (understood schema text)

abbrev pub start : ℕ → ℤ → Env
start caller t = query_parameters caller t ∷ []

-- a statement is a join of these tables with these terms, and returns one number
pub record IsJoin (text : List ℕ) (places : List Place) (filter : List Term) (shown : Term) : Type 0 where
  pub asks : (indexes : List Index) → Asks (schema_v2_with indexes) text (plainly (from places) filter (shown ∷ []))
  pub meant : (indexes : List Index) → command_in (understood (schema_v2_with indexes) text) ≡ Select (record { lets = []; body = plainly (from places) filter (shown ∷ []) }) (asks indexes).names
  pub accepted : (indexes : List Index) (caller : ℕ) (t : ℤ) → accepts_program (schema_v2_with indexes) [] (plainly (from places) filter (shown ∷ [])) (query_parameters caller t) ≡ true
  pub simple : is_simple shown ≡ true
  pub known : (caller : ℕ) (t : ℤ) → ForAll places (λ s. (are_known filter s && is_whole (eval shown s)) ≡ true) (start caller t)

-- the contents of rows decide the terms, and the result is one number
pub record IsKnown (places : List Place) (filter : List Term) (shown : Term) : Type 0 where
  pub simple : is_simple shown ≡ true
  pub known : (caller : ℕ) (t : ℤ) → ForAll places (λ s. (are_known filter s && is_whole (eval shown s)) ≡ true) (start caller t)

pub known_in : (text : List ℕ) (places : List Place) (filter : List Term) (shown : Term) → IsJoin text places filter shown → IsKnown places filter shown
known_in text places filter shown is = record { simple = is.simple; known = is.known }

-- versions exist for which all the terms hold, and the number is theirs
abbrev pub Says : (places : List Place) (filter : List Term) (shown : Term) → History → (caller : ℕ) → (t : ℤ) → (number : ℕ) → Type 0
Says places filter shown h caller t number = Finds h places (λ s. SayAll filter s × (number_in (eval shown s) ≡ number)) (start caller t)

module _ (places : List Place) (filter : List Term) (shown : Term) where
  module _ (is : IsKnown places filter shown) (db over : Trees) (stored : (p : Place) → over (tree p) ≡ db (tree p)) (moments : List Moment) (h : History) (held : HoldsHistory db moments h) (caller : ℕ) (t : ℤ) (rows : List Row)
      (a : IsAnswer (plainly (from places) filter (shown ∷ [])) over (query_parameters caller t) rows) where
    abbrev Sure : Env → Type 0
    Sure s = (are_known filter s && is_whole (eval shown s)) ≡ true

    abbrev Said : ℕ → Env → Type 0
    Said number s = SayAll filter s × (number_in (eval shown s) ≡ number)

    at_start : AreShapes (start caller t) (start caller t)
    at_start = (shape_itself (query_parameters caller t), tt)

    -- the result column of a joined row
    shows : (s e : Env) → Sure s → AreShapes s e → eval shown e ≡ Int (pos (number_in (eval shown s)))
    shows s e sure shapes =
        let it = and_parts (are_known filter s) (is_whole (eval shown s)) sure in
        same_value shown s e shapes is.simple (whole_solid (eval shown s) it.1) ∙ whole_back (eval shown s) it.1

    said : (number : ℕ) (s e : Env) → Sure s → AreShapes s e → list_all (holds e) filter ≡ true → (Int (pos number) ∷ []) ≡ eval_all (shown ∷ []) e → Said number s
    said number s e sure shapes passed is_row =
        let it = and_parts (are_known filter s) (is_whole (eval shown s)) sure in
        ((all_decided filter s e shapes it.0).0 passed, ap number_in (sym (shows s e sure shapes) ∙ sym (ap first_of is_row)))

    passes : (number : ℕ) (s e : Env) → Sure s → AreShapes s e → Said number s → (list_all (holds e) filter ≡ true) × ((Int (pos number) ∷ []) ≡ eval_all (shown ∷ []) e)
    passes number s e sure shapes it =
        let known = and_parts (are_known filter s) (is_whole (eval shown s)) sure in
        ((all_decided filter s e shapes known.0).1 it.0, ap (λ v. v ∷ []) (ap (λ n. Int (pos n)) (sym it.1) ∙ sym (shows s e sure shapes)))

    pub sound : (number : ℕ) → Has rows (Int (pos number) ∷ []) → Says places filter shown h caller t number
    sound number has =
        let it = answered (from places) filter (shown ∷ []) (joined places) over (query_parameters caller t) rows a (Int (pos number) ∷ []) has in
        moved h (λ s. AreShapes s it.0) (Said number) places (start caller t)
        (everywhere Sure (λ s. AreShapes s it.0 → Said number s) places (start caller t) (λ s sure shapes. said number s it.0 sure shapes it.2 it.3) (is.known caller t))
        (found db over stored moments h held places (start caller t) (start caller t) it.0 at_start it.1)

    -- each row is one number
    pub numbered : (row : Row) → Has rows row → (n : ℕ) × (row ≡ Int (pos n) ∷ [])
    numbered row has =
        let it = answered (from places) filter (shown ∷ []) (joined places) over (query_parameters caller t) rows a row has in
        let IsNumber : Type 0 = (n : ℕ) × (row ≡ Int (pos n) ∷ []) in
        settled h IsNumber places (start caller t) (moved h (λ s. AreShapes s it.0) (λ s. IsNumber) places (start caller t)
        (everywhere Sure (λ s. AreShapes s it.0 → IsNumber) places (start caller t) (λ s sure shapes. (number_in (eval shown s), it.3 ∙ ap (λ v. v ∷ []) (shows s it.0 sure shapes))) (is.known caller t))
        (found db over stored moments h held places (start caller t) (start caller t) it.0 at_start it.1))

    pub complete : (number : ℕ) → Says places filter shown h caller t number → Has rows (Int (pos number) ∷ [])
    complete number gives =
        let both : Finds h places (λ s. Sure s × Said number s) (start caller t) =
        moved h (Said number) (λ s. Sure s × Said number s) places (start caller t) (everywhere Sure (λ s. Said number s → Sure s × Said number s) places (start caller t) (λ s sure it. (sure, it)) (is.known caller t)) gives in
        let it = filled db over stored moments h held (λ s. Sure s × Said number s) places (start caller t) (start caller t) at_start both in
        let passed = passes number it.1 it.0 it.4.0 it.3 it.4.1 in
        subst (Has rows) (sym passed.1) (answers (from places) filter (shown ∷ []) (joined places) over (query_parameters caller t) rows a it.0 it.2 passed.0)

  pub meaning : (text : List ℕ) (is : IsJoin text places filter shown) (indexes : List Index) (db : Trees) (moments : List Moment) (h : History) (caller : ℕ) (t : ℤ) (Wanted : ℕ → Type 0) → HoldsHistory db moments h
      → ((number : ℕ) → Says places filter shown h caller t number ↔ Wanted number) → GivesNumbers text indexes db caller t Wanted
  meaning text is indexes db moments h caller t Wanted held is_so =
      let terms = known_in text places filter shown is in
      let here : Database = record { schema = schema_v2_with indexes; trees = db } in
      let rows = answer_of (from places) filter (shown ∷ []) (overlay db []) (query_parameters caller t) in
      record {
        each = λ rows reads.
            let a = (subst (λ k. Reads k here (query_parameters caller t) rows) (is.meant indexes) reads).answer Null in
            record {
              each = numbered terms db (overlay db []) (as_stored db) moments h held caller t rows a;
              meant = λ n. (
                (λ has. (is_so n).0 (sound terms db (overlay db []) (as_stored db) moments h held caller t rows a n has)),
                (λ wanted. complete terms db (overlay db []) (as_stored db) moments h held caller t rows a n ((is_so n).1 wanted)),
              );
            };
        rows = rows;
        answer = subst (λ k. Reads k here (query_parameters caller t) rows) (sym (is.meant indexes))
            (record { typed = is.accepted indexes caller t; answer = is_answer (from places) filter (shown ∷ []) (overlay db []) (query_parameters caller t) (joined places) });
      }
