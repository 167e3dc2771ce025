use Rattle.std.specs.Prelude.{ℤ}
use Rattle.std.proofs.lemmas.Result.{IfOk-weaker}
use Rattle.land_keep.specs.Keeping.{SheetHasMoment}
use Rattle.land_keep.specs.declared.prepared.Prepared.{Prepared}
use Rattle.land_keep.proofs.machine.prepare_allowed.Goals as goal

pub returns-in-Do-clause-moment : goal.returns-in-Do-clause-moment
returns-in-Do-clause-moment g c =
    let Any : Prepared → Type 0 = λ it. (t : ℤ) → SheetHasMoment t it.reply in
    let Asked : Prepared → Type 0 = λ it. SheetHasMoment c.args.at it.reply in
    IfOk-weaker c.prepare_act.result Any Asked (λ it h. h c.args.at) c.prepare_act.ensures.moment
