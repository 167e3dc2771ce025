-- The end of current versions, and lifespans that are open or have ended.
use Rattle.std.specs.Prelude.{ℤ, pos, Bool, ◌&&◌, ◌||◌, int_le}
use Rattle.std.specs.List.{list_all}
use Rattle.std.specs.Ordering.{int_eq}
use Rattle.land_tables_history.specs.declared.history.History.{History}
use Rattle.land_tables_history.specs.declared.version.Version.{Version}

-- the `until` of a current version: the first millisecond of the year 2100, after all moments
abbrev pub never : ℤ
never = pos 4102444800000

-- a lifespan is open, or has ended by a moment
abbrev pub has_ended : {X : Type 0} → ℤ → Version X → Bool
has_ended last v = int_eq v.until never || int_le v.until last

-- likewise for all versions
abbrev pub have_ended : ℤ → History → Bool
have_ended last h =
    list_all (has_ended last) h.parties && list_all (has_ended last) h.roles
    && list_all (has_ended last) h.members
    && list_all (has_ended last) h.units && list_all (has_ended last) h.parcels
    && list_all (has_ended last) h.rrrs
    && list_all (has_ended last) h.sources && list_all (has_ended last) h.mutations
    && list_all (has_ended last) h.namings
    && list_all (has_ended last) h.mandates
