-- The versions that are current at a moment.
use Rattle.std.specs.Prelude.{ℕ, ℤ, Bool, ◌&&◌, int_le, int_lt, List, map as map_list, filter}
use Rattle.std.specs.List.Sorted.{IsPermutation}
use Rattle.std.specs.Ordering.{nat_cmp}
use Rattle.std.specs.FinMap as map
use Rattle.std.specs.FinMap.{FinMap}
use Rattle.land_core.specs.Entries.{with_entries}
use Rattle.land_core.specs.Grants.{Grants, grants_in, set_entries}
use Rattle.land_core.specs.Mandates.{Mandates, mandates_in}
use Rattle.land_core.specs.declared.mandates.Mandate.{Mandate}
use Rattle.land_core.specs.declared.roles.Grant.{Grant}
use Rattle.land_tables_history.specs.declared.version.Version.{Version}

-- a lifespan includes its start, and not its end
abbrev pub is_current : {X : Type 0} → ℤ → Version X → Bool
is_current t v = int_le v.since t && int_lt t v.until

-- the values of the versions that are current at a moment, in the order of the list
abbrev pub current_values : {X : Type 0} → ℤ → List (Version X) → List X
current_values t versions = map_list (λ v. v.what) (filter (is_current t) versions)

-- the current versions are exactly these records
abbrev pub IsPartAt : {V : Type 0} → ℤ → List (Version (ℕ × V)) → FinMap nat_cmp V → Type 0
IsPartAt t versions m = IsPermutation (current_values t versions) (map.entries m)

-- the current records, inserted in order
abbrev pub part_at : {V : Type 0} → ℤ → List (Version (ℕ × V)) → FinMap nat_cmp V
part_at t versions = with_entries map.empty (current_values t versions)

-- the current versions are exactly these grants
abbrev pub AreRolesAt : ℤ → List (Version Grant) → Grants → Type 0
AreRolesAt t versions grants = IsPermutation (current_values t versions) (grants_in grants)

-- the current grants, inserted in order
abbrev pub roles_at : ℤ → List (Version Grant) → Grants
roles_at t versions = with_entries map.empty (set_entries (current_values t versions))

-- the current versions are exactly these mandates
abbrev pub AreMandatesAt : ℤ → List (Version Mandate) → Mandates → Type 0
AreMandatesAt t versions mandates = IsPermutation (current_values t versions) (mandates_in mandates)

-- the current mandates, inserted in order
abbrev pub mandates_at : ℤ → List (Version Mandate) → Mandates
mandates_at t versions = with_entries map.empty (set_entries (current_values t versions))
