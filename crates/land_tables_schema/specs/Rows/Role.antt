-- The rows of `role`.
use Rattle.std.specs.Prelude.{ℕ, Bool, ◌==◌, ◌&&◌, bytes_eq, List, [], ◌∷◌}
use Rattle.land_tables_schema.specs.Rows.Forms.{Form}
use Rattle.land_tables_schema.specs.Rows.Versions.{Version, versions_in, whole}
use Rattle.land_tables_schema.specs.Tables.{role}
use Rattle.sqlite_value.specs.Order.{Row}
use Rattle.sqlite_value.specs.declared.value.Value.TheVariants.{Text}

-- a role of a party: the number of the party, and the word of the role
pub record RoleRow : Type 0 where
  pub party : ℕ
  pub role : List ℕ

abbrev pub role_cells : RoleRow → Row
role_cells r = whole r.party ∷ Text r.role ∷ []

abbrev pub role_form : Form (Version RoleRow)
role_form = versions_in role 2 role_cells

-- whether this party has this role by it
abbrev pub is_grant : ℕ → List ℕ → RoleRow → Bool
is_grant party role r = (r.party == party) && bytes_eq r.role role
