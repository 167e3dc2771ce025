-- The valid lifespans of the versions of a history.
use Rattle.std.specs.Prelude.{◌≡◌, ℕ, ℤ, Bool, true, ◌&&◌, ◌||◌, ◌==◌, int_lt, List}
use Rattle.std.specs.List.{list_all, list_any}
use Rattle.std.specs.Ordering.{eq_by_cmp, int_eq}
use Rattle.land_core.specs.Entries.{are_distinct}
use Rattle.land_core.specs.Grants.{grant_cmp}
use Rattle.land_core.specs.Mandates.{mandate_cmp}
use Rattle.land_core.specs.declared.mandates.Mandate.{Mandate}
use Rattle.land_core.specs.declared.roles.Grant.{Grant}
use Rattle.land_tables_history.specs.Open.{never}
use Rattle.land_tables_history.specs.declared.group_member.GroupMember.{GroupMember}
use Rattle.land_tables_history.specs.declared.history.History.{History}
use Rattle.land_tables_history.specs.declared.moment.Moment.{Moment}
use Rattle.land_tables_history.specs.declared.naming.Naming.{Naming}
use Rattle.land_tables_history.specs.declared.version.Version.{Version}

-- ---- keys

abbrev pub is_same_number : {V : Type 0} → ℕ × V → ℕ × V → Bool
is_same_number a b = a.0 == b.0

abbrev pub is_same_grant : Grant → Grant → Bool
is_same_grant a b = eq_by_cmp grant_cmp a b

abbrev pub is_same_member : GroupMember → GroupMember → Bool
is_same_member a b = (a.group == b.group) && (a.member.party == b.member.party)

abbrev pub is_same_naming : Naming → Naming → Bool
is_same_naming a b = (a.mutation == b.mutation) && (a.unit == b.unit)

abbrev pub is_same_mandate : Mandate → Mandate → Bool
is_same_mandate a b = eq_by_cmp mandate_cmp a b

-- ---- lifespans

-- the moment is the stamp of a commit
abbrev pub is_stamp : List Moment → ℤ → Bool
is_stamp moments t = list_any (λ m. int_eq m.stamp t) moments

-- a lifespan starts at a stamp, and ends after that, at a stamp or never
abbrev pub is_interval : {X : Type 0} → List Moment → Version X → Bool
is_interval moments v =
    int_lt v.since v.until && is_stamp moments v.since && (int_eq v.until never || is_stamp moments v.until)

-- a moment is among these stamps
abbrev pub is_stamp_among : List ℤ → ℤ → Bool
is_stamp_among stamps t = list_any (λ stamp. int_eq stamp t) stamps

-- likewise for stamps only
abbrev pub is_interval_of : {X : Type 0} → List ℤ → Version X → Bool
is_interval_of stamps v =
    int_lt v.since v.until && is_stamp_among stamps v.since
    && (int_eq v.until never || is_stamp_among stamps v.until)

-- two lifespans of one key overlap
abbrev pub overlap : {X : Type 0} → (X → X → Bool) → Version X → Version X → Bool
overlap same_key v w = same_key v.what w.what && int_lt v.since w.until && int_lt w.since v.until

-- no two lifespans of one key overlap
abbrev pub AreApart : {X : Type 0} → (X → X → Bool) → List (Version X) → Type 0
AreApart same_key versions = are_distinct (overlap same_key) versions ≡ true

abbrev pub are_intervals : {X : Type 0} → (X → X → Bool) → List Moment → List (Version X) → Bool
are_intervals same_key moments versions =
    list_all (is_interval moments) versions && are_distinct (overlap same_key) versions

-- likewise for stamps only
abbrev pub are_intervals_of : {X : Type 0} → (X → X → Bool) → List ℤ → List (Version X) → Bool
are_intervals_of same_key stamps versions =
    list_all (is_interval_of stamps) versions && are_distinct (overlap same_key) versions

-- likewise for all versions
abbrev pub has_intervals : List Moment → History → Bool
has_intervals moments h =
    are_intervals is_same_number moments h.parties && are_intervals is_same_grant moments h.roles
    && are_intervals is_same_member moments h.members
    && are_intervals is_same_number moments h.units && are_intervals is_same_number moments h.parcels
    && are_intervals is_same_number moments h.rrrs
    && are_intervals is_same_number moments h.sources && are_intervals is_same_number moments h.mutations
    && are_intervals is_same_naming moments h.namings
    && are_intervals is_same_mandate moments h.mandates

-- likewise for stamps only
abbrev pub has_intervals_of : List ℤ → History → Bool
has_intervals_of stamps h =
    are_intervals_of is_same_number stamps h.parties && are_intervals_of is_same_grant stamps h.roles
    && are_intervals_of is_same_member stamps h.members
    && are_intervals_of is_same_number stamps h.units && are_intervals_of is_same_number stamps h.parcels
    && are_intervals_of is_same_number stamps h.rrrs
    && are_intervals_of is_same_number stamps h.sources && are_intervals_of is_same_number stamps h.mutations
    && are_intervals_of is_same_naming stamps h.namings
    && are_intervals_of is_same_mandate stamps h.mandates

-- in each list of versions, no two lifespans of one key overlap
pub record AreAllApart (h : History) : Type 0 where
  pub parties : AreApart is_same_number h.parties
  pub roles : AreApart is_same_grant h.roles
  pub members : AreApart is_same_member h.members
  pub units : AreApart is_same_number h.units
  pub parcels : AreApart is_same_number h.parcels
  pub rrrs : AreApart is_same_number h.rrrs
  pub sources : AreApart is_same_number h.sources
  pub mutations : AreApart is_same_number h.mutations
  pub namings : AreApart is_same_naming h.namings
  pub mandates : AreApart is_same_mandate h.mandates
