-- The rows of `mutation`.
use Rattle.std.specs.Prelude.{ℕ, ℤ, Bool, ◌==◌, ◌<◌, ◌^◌, List, [], ◌∷◌}
use Rattle.land_tables_schema.specs.Rows.Forms.{Form}
use Rattle.land_tables_schema.specs.Rows.Versions.{Version, versions_in, whole}
use Rattle.land_tables_schema.specs.Tables.{mutation}
use Rattle.land_tables_schema.specs.declared.rows.tables.mutation.MutationCells.{MutationCells}
use Rattle.sqlite_value.specs.Order.{Row}
use Rattle.sqlite_value.specs.declared.value.Value.TheVariants.{Int, Text}

-- a mutation: its number, its lodger, its reference, the number of its source, the moment of its lodging, the
-- words of its act, its content and its state
pub record MutationRow : Type 0 where
  pub number : ℕ
  pub lodger : ℕ
  pub reference : List ℕ
  pub source : ℕ
  pub lodged : ℤ
  pub act : List ℕ
  pub content : List ℕ
  pub state : List ℕ

abbrev pub mutation_cells : MutationRow → Row
mutation_cells r =
    whole r.number ∷ whole r.lodger ∷ Text r.reference ∷ whole r.source ∷ Int r.lodged ∷ Text r.act
    ∷ Text r.content ∷ Text r.state ∷ []

abbrev pub mutation_form : Form (Version MutationRow)
mutation_form = versions_in mutation 8 mutation_cells

-- whether it has this number
abbrev pub is_mutation : ℕ → MutationRow → Bool
is_mutation number r = r.number == number

-- the mutation of the cells of a row
abbrev pub mutation_of : MutationCells → MutationRow
mutation_of c = record {
  number = c.number;
  lodger = c.lodger;
  reference = c.reference.now;
  source = c.source;
  lodged = c.lodged;
  act = c.act.now;
  content = c.content.now;
  state = c.state.now;
}

-- each number fits into a column
pub record FitsMutation (c : MutationCells) : Type 0 where
  pub number : c.number < 2 ^ 63
  pub lodger : c.lodger < 2 ^ 63
  pub source : c.source < 2 ^ 63
