-- Intervals are valid by commits if and only if they are valid by the stamps of the commits.
use Rattle.std.proofs.Common.{◌≡◌, Bool, ◌&&◌, List, map as map_list, ap, ap₂, IsPermutation}
use Rattle.std.specs.Prelude.{ℤ}
use Rattle.land_core.specs.Entries.{are_distinct}
use Rattle.land_tables_history.proofs.NamingTests.{all_alike}
use Rattle.land_tables_history.proofs.StampOrders.{same_interval}
use Rattle.land_tables_history.specs.Intervals.{are_intervals, are_intervals_of, has_intervals, has_intervals_of, is_interval, is_interval_of, is_same_grant, is_same_mandate, is_same_member, is_same_naming, is_same_number, overlap}
use Rattle.land_tables_history.specs.declared.history.History.{History}
use Rattle.land_tables_history.specs.declared.moment.Moment.{Moment}
use Rattle.land_tables_history.specs.declared.version.Version.{Version}

module _ (moments : List Moment) (stamps : List ℤ) (p : IsPermutation (map_list (λ m. m.stamp) moments) stamps) where
  kind : {X : Type 0} (same : X → X → Bool) (vs : List (Version X)) → are_intervals_of same stamps vs ≡ are_intervals same moments vs
  kind same vs = ap (λ b. b && are_distinct (overlap same) vs) (all_alike (is_interval_of stamps) (is_interval moments) (same_interval moments stamps p) vs)

  five : {a b c d e j k l m n : Bool} → a ≡ j → b ≡ k → c ≡ l → d ≡ m → e ≡ n → (a && b && c && d && e) ≡ (j && k && l && m && n)
  five x1 x2 x3 x4 x5 = ap₂ (λ x y. x && y) (ap₂ (λ x y. x && y) (ap₂ (λ x y. x && y) (ap₂ (λ x y. x && y) x1 x2) x3) x4) x5

  ten : {a b c d e f g h i j a' b' c' d' e' f' g' h' i' j' : Bool} → a ≡ a' → b ≡ b' → c ≡ c' → d ≡ d' → e ≡ e' → f ≡ f' → g ≡ g' → h ≡ h' → i ≡ i' → j ≡ j'
      → (a && b && c && d && e && f && g && h && i && j) ≡ (a' && b' && c' && d' && e' && f' && g' && h' && i' && j')
  ten x1 x2 x3 x4 x5 x6 x7 x8 x9 x10 =
      ap₂ (λ x y. x && y) (ap₂ (λ x y. x && y) (ap₂ (λ x y. x && y) (ap₂ (λ x y. x && y) (ap₂ (λ x y. x && y) (five x1 x2 x3 x4 x5) x6) x7) x8) x9) x10

  pub by_stamps : (h : History) → has_intervals_of stamps h ≡ has_intervals moments h
  by_stamps h =
      ten (kind is_same_number h.parties) (kind is_same_grant h.roles) (kind is_same_member h.members) (kind is_same_number h.units) (kind is_same_number h.parcels)
      (kind is_same_number h.rrrs) (kind is_same_number h.sources) (kind is_same_number h.mutations) (kind is_same_naming h.namings)
      (kind is_same_mandate h.mandates)
