-- Whether lifespans are disjoint intervals does not depend on their order.
use Rattle.std.proofs.Common.{◌≡◌, Bool, ◌||◌, ◌&&◌, List, [], ◌∷◌, refl, ap₂, ◌∙◌, IsPermutation}
use Rattle.std.specs.Prelude.{pos, int_lt}
use Rattle.std.specs.List.{list_all}
use Rattle.std.specs.Ordering.{int_eq}
use Rattle.land_tables.proofs.Reordered.{ten}
use Rattle.land_tables.specs.Timelines.Judging.{OrderKeepsIntervals}
use Rattle.land_tables_history.proofs.Distinct.{distinct_permuted}
use Rattle.land_tables_history.proofs.Keys.{grants_flip, mandates_flip, members_flip, namings_flip, numbers_flip, overlap_flips}
use Rattle.land_tables_history.proofs.Permutations.{all_permuted, any_permuted}
use Rattle.land_tables_history.specs.Intervals.{are_intervals, is_interval, is_same_grant, is_same_mandate, is_same_member, is_same_naming, is_same_number, overlap}
use Rattle.land_tables_history.specs.Open.{never}
use Rattle.land_tables_history.specs.declared.moment.Moment.{Moment}
use Rattle.land_tables_history.specs.declared.version.Version.{Version}

-- the same test, stated differently
pub all_alike : {X : Type 0} (p q : X → Bool) → ((x : X) → p x ≡ q x) → (xs : List X) → list_all p xs ≡ list_all q xs
all_alike p q same [] = refl
all_alike p q same (x ∷ xs) = ap₂ (λ a b. a && b) (same x) (all_alike p q same xs)

-- ---- lifespans

interval_too : {X : Type 0} (moments others : List Moment) → IsPermutation moments others → (v : Version X) → is_interval others v ≡ is_interval moments v
interval_too moments others p v =
    ap₂ (λ a b. int_lt v.since v.until && a && (int_eq v.until never || b))
    (any_permuted (λ m. int_eq m.stamp v.since) moments others p) (any_permuted (λ m. int_eq m.stamp v.until) moments others p)

intervals_too : {X : Type 0} (same : X → X → Bool) → ((x y : X) → same x y ≡ same y x) → (moments others : List Moment) → IsPermutation moments others → (one other : List (Version X)) → IsPermutation one other
    → are_intervals same others other ≡ are_intervals same moments one
intervals_too same flips moments others p one other q =
    ap₂ (λ a b. a && b)
    (all_alike (is_interval others) (is_interval moments) (interval_too moments others p) other ∙ all_permuted (is_interval moments) one other q)
    (distinct_permuted (overlap same) (overlap_flips same flips) one other q)

pub intervals_anyhow : OrderKeepsIntervals
intervals_anyhow moments others one other p same =
    ten (intervals_too is_same_number numbers_flip moments others p one.parties other.parties same.parties)
    (intervals_too is_same_grant grants_flip moments others p one.roles other.roles same.roles)
    (intervals_too is_same_member members_flip moments others p one.members other.members same.members)
    (intervals_too is_same_number numbers_flip moments others p one.units other.units same.units)
    (intervals_too is_same_number numbers_flip moments others p one.parcels other.parcels same.parcels)
    (intervals_too is_same_number numbers_flip moments others p one.rrrs other.rrrs same.rrrs)
    (intervals_too is_same_number numbers_flip moments others p one.sources other.sources same.sources)
    (intervals_too is_same_number numbers_flip moments others p one.mutations other.mutations same.mutations)
    (intervals_too is_same_naming namings_flip moments others p one.namings other.namings same.namings)
    (intervals_too is_same_mandate mandates_flip moments others p one.mandates other.mandates same.mandates)
