-- From the effect of a statement on the cells of a table to its effect on the versions that the rows decode
-- to.
use Rattle.std.proofs.Common.{◌≡◌, ℕ, suc, ℤ, List, [], ◌∷◌, ◌++◌, map, Bool, Ok, Err, Result, refl, sym, ap, ap₂, subst, ◌∙◌, IsPermutation}
use Rattle.std.specs.List.{AllByRecursion}
use Rattle.std.proofs.lemmas.List.Sorted.{IsPermutation-refl, IsPermutation-sym, IsPermutation-trans, IsPermutation-cons, IsPermutation-map}
use Rattle.land_tables_history.specs.Changed.{opened_version, closed_version}
use Rattle.land_tables_history.specs.Open.{never}
use Rattle.land_tables_history.specs.declared.version.Version.{Version}
use Rattle.land_tables_rows.specs.Writing.Holding.{Begins, ClosesVersions, Keeps, Reading}
use Rattle.land_tables_schema.specs.Rows.Forms.{InsertsVersion, Form, Holds, UpdatesRows}
use Rattle.land_tables_schema.specs.Rows.ReadQueries.{columns_from}
use Rattle.land_tables_schema.specs.Rows.Versions as rows
use Rattle.land_wire_json.specs.declared.bodies.wire_fault.WireFault.{WireFault}
use Rattle.sqlite.specs.Effect.{Database}
use Rattle.sqlite_keyed.proofs.ListLemmas.{map-map}
use Rattle.sqlite_schema.specs.declared.schema.Table.{Table}
use Rattle.sqlite_trees.proofs.ListLemmas.{all-permutation}
use Rattle.sqlite_trees.specs.Tree.{Trees}
use Rattle.sqlite_value.specs.Order.{Row}
use Rattle.sqlite_value.specs.declared.value.Value.TheVariants.{Int}

-- the versions of a table's cells are those that it decodes to
pub keeps_from : {C X : Type 0} (table : Table) (count : ℕ) (cells : C → Row) (said : Row → Result (Version X) WireFault) (db : Trees) (ps : List (rows.Version C)) (vs : List (Version X))
    → map said (map (rows.versions_in table count cells).cells ps) ≡ map (λ v. Ok v) vs → Holds (rows.versions_in table count cells) db ps
    → Keeps (record { table = table; width = suc (suc count); said = said }) db vs
keeps_from table count cells said db ps vs are held =
    let form = rows.versions_in table count cells in
    let seen = map (columns_from 1 (suc (suc count))) (db table.tree) in
    record {
      said = subst (λ l. IsPermutation l (map (λ v. Ok v) vs)) (map-map said (columns_from 1 (suc (suc count))) (db table.tree))
          (subst (IsPermutation (map said seen)) are (IsPermutation-map said seen (map form.cells ps) held.rows));
      numbered = held.numbered;
    }

module _ {C X : Type 0} (table : Table) (count : ℕ) (cells : C → Row) (said : Row → Result (Version X) WireFault)
    (found : (r : Row) (v : Version X) → said (columns_from 1 (suc (suc count)) r) ≡ Ok v → (p : rows.Version C) × (cells p.what ++ Int p.since ∷ Int p.until ∷ [] ≡ columns_from 1 (suc (suc count)) r)) where
  abbrev form : Form (rows.Version C)
  form = rows.versions_in table count cells

  abbrev reading : Reading X
  reading = record { table = table; width = suc (suc count); said = said }

  abbrev cells_in : Row → Row
  cells_in r = columns_from 1 (suc (suc count)) r

  abbrev saying : Row → Result (Version X) WireFault
  saying r = said (cells_in r)

  abbrev IsSaid : Row → Type 0
  IsSaid r = (v : Version X) × (saying r ≡ Ok v)

  abbrev IsThing : rows.Version C → Type 0
  IsThing p = (v : Version X) × (said (form.cells p) ≡ Ok v)

  abbrev fine_as : Version X → Result (Version X) WireFault
  fine_as v = Ok v

  all_fine : (vs : List (Version X)) → AllByRecursion (λ s. (v : Version X) × (s ≡ Ok v)) (map fine_as vs)
  all_fine [] = tt
  all_fine (v ∷ vs) = ((v, refl), all_fine vs)

  of_rows : (rs : List Row) → AllByRecursion (λ s. (v : Version X) × (s ≡ Ok v)) (map saying rs) → AllByRecursion IsSaid rs
  of_rows [] all = tt
  of_rows (r ∷ rs) all = (all.0, of_rows rs all.1)

  -- the records of a table's rows
  things : (rs : List Row) → AllByRecursion IsSaid rs → (ps : List (rows.Version C)) × (map form.cells ps ≡ map cells_in rs) × AllByRecursion IsThing ps
  things [] all = ([], refl, tt)
  things (r ∷ rs) all =
      let one = found r all.0.0 all.0.1 in
      let others = things rs all.1 in
      (one.0 ∷ others.0, ap₂ (λ a b. a ∷ b) one.1 others.1, ((all.0.0, ap said one.1 ∙ all.0.1), others.2))

  module _ (old : Database) (vs : List (Version X)) (keeps : Keeps reading old.trees vs) where
    abbrev olds : List Row
    olds = old.trees table.tree

    laid : (ps : List (rows.Version C)) × (map form.cells ps ≡ map cells_in olds) × AllByRecursion IsThing ps
    laid = things olds (of_rows olds (all-permutation (λ s. (v : Version X) × (s ≡ Ok v)) (map fine_as vs) (map saying olds)
        (IsPermutation-sym (map saying olds) (map fine_as vs) keeps.said) (all_fine vs)))

    holds : Holds form old.trees laid.0
    holds = record { rows = subst (IsPermutation (map cells_in olds)) (sym laid.1) (IsPermutation-refl (map cells_in olds)); numbered = keeps.numbered }

  -- ---- versions that begin

  module _ (c : C) (x : X) (since : ℤ) (begun_said : said (cells c ++ Int since ∷ Int never ∷ []) ≡ Ok (opened_version x since)) (old new : Database) (adds : InsertsVersion form (rows.opened_version c since) old new) where
    begun_held : (vs : List (Version X)) → Keeps reading old.trees vs → Keeps reading new.trees (opened_version x since ∷ vs)
    begun_held vs keeps =
        let ps = laid old vs keeps in
        let held = adds.held ps.0 (holds old vs keeps) in
        let olds = old.trees table.tree in
        let news = new.trees table.tree in
        let moved : IsPermutation (map saying news) (said (form.cells (rows.opened_version c since)) ∷ map saying olds) =
        subst (λ l. IsPermutation l (said (form.cells (rows.opened_version c since)) ∷ map saying olds)) (map-map said cells_in news)
        (subst (λ l. IsPermutation (map said (map cells_in news)) (said (form.cells (rows.opened_version c since)) ∷ l)) (ap (map said) ps.1 ∙ map-map said cells_in olds)
        (IsPermutation-map said (map cells_in news) (form.cells (rows.opened_version c since) ∷ map form.cells ps.0) held.rows)) in
        record {
          said = IsPermutation-trans (map saying news) (Ok (opened_version x since) ∷ map saying olds) (Ok (opened_version x since) ∷ map (λ v. Ok v) vs)
              (subst (λ s. IsPermutation (map saying news) (s ∷ map saying olds)) begun_said moved)
              (IsPermutation-cons (Ok (opened_version x since)) (map saying olds) (map (λ v. Ok v) vs) keeps.said);
          numbered = held.numbered;
        }

    pub begins : Begins reading x since old new
    begins = record { schema = adds.schema; held = begun_held; kept = adds.kept }

  -- ---- versions that end

  module _ (meant : C → Bool) (meant_so : X → Bool) (stamp : ℤ)
      (closed_so : (p : rows.Version C) (v : Version X) → said (cells p.what ++ Int p.since ∷ Int p.until ∷ []) ≡ Ok v → said (form.cells (rows.closed_version meant stamp p)) ≡ Ok (closed_version meant_so stamp v)) where
    -- the decoded value of a closed version
    abbrev then_closed : Result (Version X) WireFault → Result (Version X) WireFault
    then_closed (Ok v) = Ok (closed_version meant_so stamp v)
    then_closed (Err e) = Err e

    closed_said : (p : rows.Version C) → IsThing p → said (form.cells (rows.closed_version meant stamp p)) ≡ then_closed (said (form.cells p))
    closed_said p thing = closed_so p thing.0 thing.1 ∙ sym (ap then_closed thing.1)

    each_closed : (ps : List (rows.Version C)) → AllByRecursion IsThing ps → map said (map form.cells (map (rows.closed_version meant stamp) ps)) ≡ map then_closed (map said (map form.cells ps))
    each_closed [] all = refl
    each_closed (p ∷ ps) all = ap₂ (λ a b. a ∷ b) (closed_said p all.0) (each_closed ps all.1)

    all_closed : (vs : List (Version X)) → map then_closed (map (λ v. Ok v) vs) ≡ map (λ v. Ok v) (map (closed_version meant_so stamp) vs)
    all_closed [] = refl
    all_closed (v ∷ vs) = ap (λ l. Ok (closed_version meant_so stamp v) ∷ l) (all_closed vs)

    module _ (old new : Database) (turns : UpdatesRows form (rows.closed_version meant stamp) old new) where
      closed_held : (vs : List (Version X)) → Keeps reading old.trees vs → Keeps reading new.trees (map (closed_version meant_so stamp) vs)
      closed_held vs keeps =
          let ps = laid old vs keeps in
          let held = turns.held ps.0 (holds old vs keeps) in
          let olds = old.trees table.tree in
          let news = new.trees table.tree in
          let turned : map said (map form.cells (map (rows.closed_version meant stamp) ps.0)) ≡ map then_closed (map saying olds) =
          each_closed ps.0 ps.2 ∙ ap (map then_closed) (ap (map said) ps.1 ∙ map-map said cells_in olds) in
          let moved : IsPermutation (map saying news) (map then_closed (map saying olds)) =
          subst (λ l. IsPermutation l (map then_closed (map saying olds))) (map-map said cells_in news)
          (subst (IsPermutation (map said (map cells_in news))) turned (IsPermutation-map said (map cells_in news) (map form.cells (map (rows.closed_version meant stamp) ps.0)) held.rows)) in
          record {
            said = IsPermutation-trans (map saying news) (map then_closed (map saying olds)) (map (λ v. Ok v) (map (closed_version meant_so stamp) vs)) moved
                (subst (IsPermutation (map then_closed (map saying olds))) (all_closed vs) (IsPermutation-map then_closed (map saying olds) (map (λ v. Ok v) vs) keeps.said));
            numbered = held.numbered;
          }

      pub closes : ClosesVersions reading meant_so stamp old new
      closes = record { schema = turns.schema; held = closed_held; kept = turns.kept }
