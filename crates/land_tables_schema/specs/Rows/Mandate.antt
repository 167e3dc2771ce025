-- The rows of `mandate`.
use Rattle.std.specs.Prelude.{ℕ, Bool, ◌==◌, ◌&&◌, [], ◌∷◌}
use Rattle.land_tables_schema.specs.Rows.Forms.{Form}
use Rattle.land_tables_schema.specs.Rows.Versions.{Version, versions_in, whole}
use Rattle.land_tables_schema.specs.Tables.{mandate}
use Rattle.sqlite_value.specs.Order.{Row}

-- a mandate: the numbers of its principal, who gives it, and of its agent, who sees what the principal sees
pub record MandateRow : Type 0 where
  pub principal : ℕ
  pub agent : ℕ

abbrev pub mandate_cells : MandateRow → Row
mandate_cells r = whole r.principal ∷ whole r.agent ∷ []

abbrev pub mandate_form : Form (Version MandateRow)
mandate_form = versions_in mandate 2 mandate_cells

-- whether this principal gave the mandate to this agent
abbrev pub is_mandate : ℕ → ℕ → MandateRow → Bool
is_mandate principal agent r = (r.principal == principal) && (r.agent == agent)
