-- The effect of a statement on one table on the others.
use Rattle.std.proofs.Common.{◌≡◌, ◌≢◌, ℕ, List, sym}
use Rattle.land_tables_schema.specs.Rows.Forms.{Form, Holds, Lists, KeepsOthers}
use Rattle.sqlite_schema.specs.declared.schema.Table.{Table}
use Rattle.sqlite_trees.specs.Tree.{Trees}
use Rattle.sqlite_value.specs.Order.{Row}

-- a table with unchanged rows holds the same values
pub still_holds : {X : Type 0} (form : Form X) (old new : Trees) (xs : List X) → new form.table.tree ≡ old form.table.tree → Holds form old xs → Holds form new xs
still_holds form old new xs same held = record { rows = rw same held.rows; numbered = rw same held.numbered }

pub still_lists : {X : Type 0} (table : Table) (row : X → Row) (old new : Trees) (xs : List X) → new table.tree ≡ old table.tree → Lists table row old xs → Lists table row new xs
still_lists table row old new xs same held = rw same held

-- the rows of all tables except one are unchanged
pub record AreKept (t : ℕ) (old new : Trees) : Type 0 where
  pub edition : t ≢ 0 → new 0 ≡ old 0
  pub moments : t ≢ 1 → new 1 ≡ old 1
  pub party : t ≢ 2 → new 2 ≡ old 2
  pub role : t ≢ 4 → new 4 ≡ old 4
  pub member : t ≢ 6 → new 6 ≡ old 6
  pub unit : t ≢ 8 → new 8 ≡ old 8
  pub parcel : t ≢ 10 → new 10 ≡ old 10
  pub rrr : t ≢ 12 → new 12 ≡ old 12
  pub source : t ≢ 14 → new 14 ≡ old 14
  pub mutation : t ≢ 16 → new 16 ≡ old 16
  pub names : t ≢ 18 → new 18 ≡ old 18
  pub mandate : t ≢ 20 → new 20 ≡ old 20

pub are_kept : (one : Table) (old new : Trees) → KeepsOthers one old new → AreKept one.tree old new
are_kept one old new kept = record {
  edition = λ other. kept.0 (λ e. other (sym e));
  moments = λ other. kept.1.0 (λ e. other (sym e));
  party = λ other. kept.1.1.0 (λ e. other (sym e));
  role = λ other. kept.1.1.1.0 (λ e. other (sym e));
  member = λ other. kept.1.1.1.1.0 (λ e. other (sym e));
  unit = λ other. kept.1.1.1.1.1.0 (λ e. other (sym e));
  parcel = λ other. kept.1.1.1.1.1.1.0 (λ e. other (sym e));
  rrr = λ other. kept.1.1.1.1.1.1.1.0 (λ e. other (sym e));
  source = λ other. kept.1.1.1.1.1.1.1.1.0 (λ e. other (sym e));
  mutation = λ other. kept.1.1.1.1.1.1.1.1.1.0 (λ e. other (sym e));
  names = λ other. kept.1.1.1.1.1.1.1.1.1.1.0 (λ e. other (sym e));
  mandate = λ other. kept.1.1.1.1.1.1.1.1.1.1.1.0 (λ e. other (sym e));
}
