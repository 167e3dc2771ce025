-- The content of a new register.
use Rattle.std.specs.Prelude.{pos, codes, List, [], ◌∷◌}
use Rattle.land_core.specs.Grants.{grant_to}
use Rattle.land_core.specs.declared.kind.PartyKind.TheVariants.{NonNaturalPerson}
use Rattle.land_core.specs.declared.role.Role.TheVariants.{StateAdministrator}
use Rattle.land_tables_history.specs.Changed.{opened_version}
use Rattle.land_tables_history.specs.declared.history.History.{History}
use Rattle.land_tables_history.specs.declared.moment.Moment.{Moment}

-- it changed once, at moment 0, and the next number is 2
abbrev pub new_moments : List Moment
new_moments = record { stamp = pos 0; next = 2 } ∷ []

-- party 1, the Land Office, is state administrator from that moment on
abbrev pub new_history : History
new_history = record {
  parties = opened_version (1, record { kind = NonNaturalPerson; name = codes "Land Office" }) (pos 0) ∷ [];
  roles = opened_version (grant_to 1 StateAdministrator) (pos 0) ∷ [];
  members = [];
  units = [];
  parcels = [];
  rrrs = [];
  sources = [];
  mutations = [];
  namings = [];
  mandates = [];
}
