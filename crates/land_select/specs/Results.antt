-- Results of queries.
use Rattle.land_tables.specs.TablesState.{HoldsRegister}
use Rattle.sqlite.specs.State.{State}
use Rattle.sqlite_trees.specs.Tree.{Trees}

-- the tables hold a register, and the value is a result for its rows
pub record IsResult {T : Type 0} (results : Trees → T → Type 0) (s : State) (it : T) : Type 0 where
  pub register : HoldsRegister s
  pub answer : results s.now.trees it
