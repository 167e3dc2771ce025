-- The rows of `moments`.
use Rattle.std.specs.Prelude.{ℕ, ℤ, [], ◌∷◌}
use Rattle.land_tables_schema.specs.Rows.Versions.{whole}
use Rattle.sqlite_value.specs.Order.{Row}
use Rattle.sqlite_value.specs.declared.value.Value.TheVariants.{Int}

-- a commit: its stamp, and the next number after it
pub record Moment : Type 0 where
  pub stamp : ℤ
  pub next : ℕ

-- the columns of the row, whose rowid is the stamp
abbrev pub moment_row : Moment → Row
moment_row m = Int m.stamp ∷ whole m.next ∷ []
