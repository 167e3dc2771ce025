-- The rows of `party`.
use Rattle.std.specs.Prelude.{ℕ, Bool, ◌==◌, List, [], ◌∷◌}
use Rattle.land_tables_schema.specs.Rows.Forms.{Form}
use Rattle.land_tables_schema.specs.Rows.Versions.{Version, versions_in, whole}
use Rattle.land_tables_schema.specs.Tables.{party}
use Rattle.sqlite_value.specs.Order.{Row}
use Rattle.sqlite_value.specs.declared.value.Value.TheVariants.{Text}

-- a party: its number, its name, and the word of its kind
pub record PartyRow : Type 0 where
  pub number : ℕ
  pub name : List ℕ
  pub kind : List ℕ

abbrev pub party_cells : PartyRow → Row
party_cells p = whole p.number ∷ Text p.name ∷ Text p.kind ∷ []

abbrev pub party_form : Form (Version PartyRow)
party_form = versions_in party 3 party_cells

-- whether it has this number
abbrev pub is_party : ℕ → PartyRow → Bool
is_party number p = p.number == number
