-- The numbers of a lookup are facts of the register.
use Rattle.std.proofs.Common.{◌≡◌, ℕ, ℤ, not, nat_eq, List, [], ◌∷◌, length, refl, sym, ap, subst}
use Rattle.std.proofs.Math.Dec.{eqb-suc-zero}
use Rattle.std.proofs.lemmas.Bool.{false≢true}
use Rattle.std.proofs.lemmas.Bool.Decides.{Decides-eqb, Decides-like, same_from_decides}
use Rattle.std.specs.Bool.{Decides}
use Rattle.std.specs.FinMap.{FinMap}
use Rattle.std.specs.List.{Contains, list_any}
use Rattle.std.specs.Ordering.{nat_cmp}
use Rattle.land_core.specs.Entries.{has}
use Rattle.land_core.specs.Register.{stands}
use Rattle.land_core.specs.declared.kind.Kind.TheVariants as kind
use Rattle.land_core.specs.declared.register.Register.{Register}
use Rattle.land_rules.specs.Relations.{has_lodged, is_lodger_of, has_pending_mutation_on}
use Rattle.land_select_queries.proofs.Containing.{any_decides, first, in_nothing}
use Rattle.land_select_queries.proofs.Standing.{at_decides, has_decides}
use Rattle.land_select_queries.proofs.Views.{awaits_decides}
use Rattle.land_select_queries.specs.Joins.Execution.{AreExactly}
use Rattle.land_select_queries.specs.Lookups.Numbers.{IsOwnNumber, yields}
use Rattle.land_select_queries.specs.declared.lookups.column_lookup.ColumnLookup.TheVariants as record_lookup
use Rattle.land_tables_history.specs.History.{IsRegisterAt}
use Rattle.land_tables_history.specs.Standing.{IsPartAt}
use Rattle.land_tables_history.specs.declared.history.History.{History}
use Rattle.land_tables_history.specs.declared.version.Version.{Version}

-- ---- lists

module _ (Wanted : ℕ → Type 0) where
  -- a list is not empty if it has a wanted number
  some_wanted : (numbers : List ℕ) → AreExactly numbers Wanted → Decides (not (nat_eq (length numbers) 0)) ((n : ℕ) × Wanted n)
  some_wanted [] all = ((λ h. absurd (false≢true h)), (λ it. absurd (in_nothing it.0 ((all it.0).1 it.1))))
  some_wanted (n ∷ ns) all = ((λ h. (n, (all n).0 (first n ns))), (λ it. ap not (eqb-suc-zero (length ns))))

  -- and it has the number if it is wanted
  one_wanted : (n : ℕ) (numbers : List ℕ) → AreExactly numbers Wanted → Decides (list_any (nat_eq n) numbers) (Wanted n)
  one_wanted n numbers all =
      Decides-like (list_any (nat_eq n) numbers) (λ it. (all n).0 (subst (Contains numbers) (sym it.2) it.1)) (λ wanted. (n, (all n).1 wanted, refl))
      (any_decides (nat_eq n) (λ m. n ≡ m) numbers (λ m there. Decides-eqb n m))

-- ---- current versions

-- the number itself is returned if a current record has it
own_there : {V : Type 0} (t : ℤ) (versions : List (Version (ℕ × V))) (m : FinMap nat_cmp V) → IsPartAt t versions m → (number : ℕ) → Decides (has m number) ((n : ℕ) × IsOwnNumber t versions number n)
own_there t versions m part number =
    Decides-like (has m number) (λ under. (under.0.0, (under.0, under.1, under.2, refl))) (λ it. (it.1.0, it.1.1, it.1.2)) (has_decides t versions m part number)

module _ (r : Register) (t : ℤ) (h : History) (is : IsRegisterAt t h r) where
  -- the number of a party is returned if it exists
  pub party_told : (number : ℕ) (numbers : List ℕ) → AreExactly numbers (yields record_lookup.Party t h number) → not (nat_eq (length numbers) 0) ≡ stands r kind.Party number
  party_told number numbers all =
      same_from_decides (not (nat_eq (length numbers) 0)) (stands r kind.Party number) (some_wanted (yields record_lookup.Party t h number) numbers all) (own_there t h.parties r.parties is.parties number)

  -- and that of a unit
  pub unit_told : (number : ℕ) (numbers : List ℕ) → AreExactly numbers (yields record_lookup.Unit t h number) → not (nat_eq (length numbers) 0) ≡ stands r kind.Unit number
  unit_told number numbers all =
      same_from_decides (not (nat_eq (length numbers) 0)) (stands r kind.Unit number) (some_wanted (yields record_lookup.Unit t h number) numbers all) (own_there t h.units r.units is.units number)

  -- the lodger of a mutation is returned
  pub lodger_told : (party number : ℕ) (numbers : List ℕ) → AreExactly numbers (yields record_lookup.LodgerOfMutation t h number) → list_any (nat_eq party) numbers ≡ has_lodged r party number
  lodger_told party number numbers all =
      same_from_decides (list_any (nat_eq party) numbers) (has_lodged r party number) (one_wanted (yields record_lookup.LodgerOfMutation t h number) party numbers all)
      (Decides-like (has_lodged r party number) (λ it. (it.0, it.1.0, it.2, it.1.1)) (λ it. (it.0, (it.1, it.3), it.2))
      (at_decides t h.mutations r.mutations is.mutations (is_lodger_of party) (λ e. e.1.lodger ≡ party) (λ e standing. Decides-eqb e.1.lodger party) number))

  -- and the lodger of a pending mutation that refers to a unit
  pub lodgers_told : (party unit : ℕ) (numbers : List ℕ) → AreExactly numbers (yields record_lookup.LodgersOnUnit t h unit) → list_any (nat_eq party) numbers ≡ has_pending_mutation_on r party unit
  lodgers_told party unit numbers all =
      same_from_decides (list_any (nat_eq party) numbers) (has_pending_mutation_on r party unit) (one_wanted (yields record_lookup.LodgersOnUnit t h unit) party numbers all) (awaits_decides r t h is party unit)
