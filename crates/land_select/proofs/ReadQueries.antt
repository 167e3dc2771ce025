-- A read-only query, by its meaning.
use Rattle.std.proofs.Common.{Result}
use Rattle.std.proofs.lemmas.Result.{IfOk-weaker}
use Rattle.land_tables_schema.specs.Rows.ReadQueries.{IsStoreRead}
use Rattle.sqlite.specs.State.{State}

pub look_means : {X E : Type 0} {P Q : X → Type 0} (a b : State) (r : Result X E) → IsStoreRead r P a b → ((x : X) → P x → Q x) → IsStoreRead r Q a b
look_means {P = P} {Q = Q} a b r reads_only means =
    record { given = λ clean. IfOk-weaker r P Q means (reads_only.given clean); same = reads_only.same; left = reads_only.left; survives = reads_only.survives }
