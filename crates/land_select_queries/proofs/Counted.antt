-- The numbers decoded from rows.
use Rattle.std.proofs.Common.{◌≡◌, inl, inr, ℕ, pos, List, [], ◌∷◌, map, Ok, Err, IfErr, IfOk, Result, refl, sym, ap, ap₂, subst, ◌∙◌}
use Rattle.std.specs.List.{AllByRecursion, Contains}
use Rattle.land_select_queries.specs.Joins.Meaning.{AreNumberRows}
use Rattle.land_select_queries.specs.Joins.Execution.{AreExactly, HoldsNoHistory, HoldsOfHistory}
use Rattle.land_tables_history.specs.declared.history.History.{History}
use Rattle.land_tables_rows.proofs.Readings.{each_all}
use Rattle.land_tables_rows.specs.Listing.Reading.{IsRead}
use Rattle.land_tables_rows.specs.Reading.Cells.{natural_in}
use Rattle.land_tables_rows.specs.Reading.Readings.{each_row}
use Rattle.land_tables_rows.specs.declared.listing.fault.ReadFault.{ReadFault}
use Rattle.land_wire_json.specs.Bodies.WireFaults.{◌>>=◌}
use Rattle.land_wire_json.specs.declared.bodies.wire_fault.WireFault.{WireFault}
use Rattle.sqlite.specs.declared.types.Value.TheVariants.{Int}
use Rattle.sqlite_rules.proofs.ListLemmas.{has_contained, contains_had}
use Rattle.sqlite_rules.proofs.ProbeLemmas.{has_mapped, mapped_has}
use Rattle.sqlite_rules.specs.Lists.{Has}
use Rattle.sqlite_trees.specs.Tree.{Trees}
use Rattle.sqlite_value.specs.Order.{Row, column}

abbrev pub counted : Row → Result ℕ WireFault
counted row = natural_in (column row 0)

same_fine : (m n : ℕ) → ◌≡◌ {A = Result ℕ WireFault} (Ok m) (Ok n) → m ≡ n
same_fine m n e = cc

-- the only number of a row is decoded
pub one_is_read : (n : ℕ) → counted (Int (pos n) ∷ []) ≡ Ok n
unfolding natural_in
one_is_read n = refl

each_from : (rows : List Row) → AllByRecursion (λ r. (x : ℕ) × (r ≡ Ok x)) (map counted rows) → (xs : List ℕ) × (each_row counted rows ≡ Ok xs)
each_from [] all = ([], refl)
each_from (row ∷ rows) all =
    let rest = each_from rows all.1 in
    (all.0.0 ∷ rest.0, ap₂ (λ a b. a >>= λ first. b >>= λ rest. Ok (first ∷ rest)) all.0.1 rest.1)

module _ (rows : List Row) (Wanted : ℕ → Type 0) (are : AreNumberRows rows Wanted) where
  pub all_numbers : (numbers : List ℕ) → map counted rows ≡ map (λ n. Ok n) numbers → AreExactly numbers Wanted
  all_numbers numbers read n = (to_wanted, from_wanted)
    where
      to_wanted : Contains numbers n → Wanted n
      to_wanted has =
          let fine = mapped_has {Y = Result ℕ WireFault} (λ n. Ok n) numbers n (has_contained numbers n has) in
          let it = has_mapped counted rows (Ok n) (subst (λ l. Has l (Ok n)) (sym read) fine) in
          let one = are.each it.0 it.1 in
          let same : one.0 ≡ n = same_fine one.0 n (sym (one_is_read one.0) ∙ ap counted (sym one.1) ∙ sym it.2) in
          (are.meant n).0 (subst (λ k. Has rows (Int (pos k) ∷ [])) same (subst (Has rows) one.1 it.1))

      from_wanted : Wanted n → Contains numbers n
      from_wanted w =
          let fine = subst (λ c. Has (map counted rows) c) (one_is_read n) (mapped_has counted rows (Int (pos n) ∷ []) ((are.meant n).1 w)) in
          let it = has_mapped {Y = Result ℕ WireFault} (λ n. Ok n) numbers (Ok n) (subst (λ l. Has l (Ok n)) read fine) in
          contains_had numbers n (subst (Has numbers) (sym (same_fine n it.0 it.2)) it.1)

  -- each of them is readable
  readable : (some : List Row) → ((row : Row) → Has some row → Has rows row) → AllByRecursion (λ r. (x : ℕ) × (r ≡ Ok x)) (map counted some)
  readable [] sub = tt
  readable (row ∷ more) sub =
      let one = are.each row (sub row (inl refl)) in
      ((one.0, ap counted one.1 ∙ one_is_read one.0), readable more (λ r h. sub r (inr h)))

-- rows of numbers that the current versions select
module _ (Wanted : History → ℕ → Type 0) (db : Trees) (rows : List Row) (are : HoldsOfHistory db (λ h. AreNumberRows rows (Wanted h))) where
  pub numbers_told : (r : Result (List ℕ) ReadFault) → IsRead counted rows r → IfOk r (λ numbers. HoldsOfHistory db (λ h. AreExactly numbers (Wanted h)))
  numbers_told (Ok numbers) read = λ moments h held. all_numbers rows (Wanted h) (are moments h held) numbers (each_all counted rows numbers read)
  numbers_told (Err fault) read = tt

  pub none_held : (r : Result (List ℕ) ReadFault) → IsRead counted rows r → IfErr r (HoldsNoHistory db)
  none_held (Ok numbers) read = tt
  none_held (Err fault) read = λ is moments h held.
      let it = each_from rows (readable rows (Wanted h) (are moments h held) rows (λ r has. has)) in
      (read (λ e. absurd (let a = is in let b = e in cc))).1 it.0 it.1
