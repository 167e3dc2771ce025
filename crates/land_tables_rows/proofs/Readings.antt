-- The rows of a table, decoded in order.
use Rattle.std.proofs.Common.{◌≡◌, ◌≢◌, Bool, true, false, cond, List, [], ◌∷◌, map, Ok, Err, IfErr, IfOk, Result, refl, sym, ap, ap₂, subst, ◌∙◌, IsPermutation}
use Rattle.std.proofs.lemmas.List.Sorted.{IsPermutation-map, IsPermutation-sym, IsPermutation-trans}
use Rattle.std.specs.List.{AllByRecursion}
use Rattle.land_tables_rows.specs.Listing.Faults.{is_out_of_memory, of_error}
use Rattle.land_tables_rows.specs.Listing.Reading.{IsRead, IsUnreadableTable, Listing, Says}
use Rattle.land_tables_rows.specs.Reading.Readings.{each_row}
use Rattle.land_tables_rows.specs.declared.listing.fault.ReadFault.{ReadFault}
use Rattle.land_tables_rows.specs.declared.listing.fault.ReadFault.TheVariants.{Unreadable, NoMemory, Store}
use Rattle.land_tables_schema.proofs.Looking.{look_told}
use Rattle.land_tables_schema.specs.Rows.ReadQueries.{IsStoreRead}
use Rattle.land_wire_json.specs.Bodies.WireFaults.{◌>>=◌}
use Rattle.land_wire_json.specs.declared.bodies.wire_fault.WireFault.{WireFault}
use Rattle.sqlite.specs.State.{HasCleanDisk, State}
use Rattle.sqlite.specs.declared.error.Error.{Error}
use Rattle.sqlite_keyed.proofs.ListLemmas.{map-map}
use Rattle.sqlite_trees.proofs.ListLemmas.{all-permutation}
use Rattle.sqlite_trees.specs.Tree.{Trees}
use Rattle.sqlite_value.specs.Order.{Row}

module _ {X : Type 0} (said : Row → Result X WireFault) where
  pub each_all : (rows : List Row) (xs : List X) → each_row said rows ≡ Ok xs → map said rows ≡ map (λ x. Ok x) xs
  each_all [] xs h =
      let same : [] ≡ xs = (let e = h in cc) in
      ap (map (λ x. Ok x)) same
  each_all (r ∷ rs) xs h = go (said r) (each_row said rs) refl (each_all rs) refl h
    where
      go : (a : Result X WireFault) (b : Result (List X) WireFault) → said r ≡ a → ((ys : List X) → each_row said rs ≡ Ok ys → map said rs ≡ map (λ x. Ok x) ys) → each_row said rs ≡ b
          → (a >>= λ first. b >>= λ rest. Ok (first ∷ rest)) ≡ Ok xs → said r ∷ map said rs ≡ map (λ x. Ok x) xs
      go (Ok x) (Ok ys) is later are h =
          let same : x ∷ ys ≡ xs = (let e = h in cc) in
          ap₂ (λ a b. a ∷ b) is (later ys are) ∙ ap (map (λ x. Ok x)) same
      go (Ok x) (Err f) is later are h = absurd (let e = h in cc)
      go (Err f) b is later are h = absurd (let e = h in cc)

  IsSaid : Result X WireFault → Type 0
  IsSaid r = (x : X) × (r ≡ Ok x)

  all_said : (xs : List X) → AllByRecursion IsSaid (map (λ x. Ok x) xs)
  unfolding IsSaid
  all_said [] = tt
  all_said (x ∷ xs) = ((x, refl), all_said xs)

  each_from : (rows : List Row) → AllByRecursion IsSaid (map said rows) → (xs : List X) × (each_row said rows ≡ Ok xs)
  unfolding IsSaid
  each_from [] all = ([], refl)
  each_from (r ∷ rs) all =
      let rest = each_from rs all.1 in
      (all.0.0 ∷ rest.0, ap₂ (λ a b. a >>= λ first. b >>= λ rest. Ok (first ∷ rest)) all.0.1 rest.1)

module _ {X : Type 0} (listing : Listing X) (db : Trees) (rows : List Row) (shown : IsPermutation (map listing.shown (db listing.table.tree)) rows) where
  said_of_rows : IsPermutation (map (λ r. listing.said (listing.shown r)) (db listing.table.tree)) (map listing.said rows)
  said_of_rows = subst (λ l. IsPermutation l (map listing.said rows)) (map-map listing.said listing.shown (db listing.table.tree))
      (IsPermutation-map listing.said (map listing.shown (db listing.table.tree)) rows shown)

  pub says_read : (xs : List X) → each_row listing.said rows ≡ Ok xs → Says listing db xs
  says_read xs h = subst (IsPermutation (map (λ r. listing.said (listing.shown r)) (db listing.table.tree))) (each_all listing.said rows xs h) said_of_rows

  pub some_each : (xs : List X) → Says listing db xs → (ys : List X) × (each_row listing.said rows ≡ Ok ys)
  some_each xs says = each_from listing.said rows (all-permutation (IsSaid listing.said) (map (λ x. Ok x) xs) (map listing.said rows)
      (IsPermutation-trans (map (λ x. Ok x) xs) (map (λ r. listing.said (listing.shown r)) (db listing.table.tree)) (map listing.said rows)
      (IsPermutation-sym (map (λ r. listing.said (listing.shown r)) (db listing.table.tree)) (map (λ x. Ok x) xs) says) said_of_rows)
      (all_said listing.said xs))

  pub none_says : ((xs : List X) → each_row listing.said rows ≢ Ok xs) → (xs : List X) → ¬ Says listing db xs
  none_says none xs says =
      let found = some_each xs says in
      none found.0 found.1

  pub told : (r : Result (List X) ReadFault) → IsRead listing.said rows r → IfOk r (λ xs. Says listing db xs)
  told (Ok xs) h = says_read xs h
  told (Err fault) h = tt

  pub unreadable : (r : Result (List X) ReadFault) → IsRead listing.said rows r → IfErr r (IsUnreadableTable listing db)
  unreadable (Ok xs) h = tt
  unreadable (Err fault) h = λ is. none_says (h (λ e. absurd (let a = is in let b = e in cc))).1

-- a failed read says nothing about the rows
pub never_unreadable : {X : Type 0} (listing : Listing X) (db : Trees) (error : Error) (fault : ReadFault) → fault ≡ of_error error → IsUnreadableTable listing db fault
never_unreadable listing db error fault is unreadable = absurd (go (is_out_of_memory error) (sym is ∙ unreadable))
  where
    go : (b : Bool) → cond b NoMemory Store ≡ Unreadable → ⊥
    go true h = (let e = h in cc)
    go false h = (let e = h in cc)

-- rows that a read returned, decoded
module _ {X R E : Type 0} (listing : Listing X) (a b : State) (items : R → List Row) (got : R)
    (reads_only : IsStoreRead {X = R} {E = E} (Ok got) (λ x. IsPermutation (map listing.shown (a.now.trees listing.table.tree)) (items x)) a b) (lent : List Row) (same : lent ≡ items got)
    (r : Result (List X) ReadFault) (is_read : IsRead listing.said lent r) where
  is_read_of : IsRead listing.said (items got) r
  is_read_of = subst (λ l. IsRead listing.said l r) same is_read

  pub read_look : IsStoreRead r (Says listing a.now.trees) a b
  read_look = look_told a b r reads_only (λ clean shown. told listing a.now.trees (items got) shown r is_read_of)

  pub read_right : HasCleanDisk b → IfErr r (IsUnreadableTable listing a.now.trees)
  read_right clean = unreadable listing a.now.trees (items got) (reads_only.given clean) r is_read_of
