use Rattle.std.proofs.Common.{◌*◌, ◌∙◌, refl, rules}
use Rattle.land_desk.proofs.Asking.{none_taken, not_begun, taken_at_most}
use Rattle.land_desk.proofs.Honesty.{comes_to_nothing}
use Rattle.land_desk.proofs.Moving.{reach_self}
use Rattle.land_desk.specs.Serving.{StepIfHonest}
use Rattle.land_desk.specs.declared.serve.DeskFault.TheVariants as desk
use Rattle.land_keep.specs.Keeping.{IsStateOf}
use Rattle.land_desk.proofs.serve.serve.Goals as goal

pub returns-in_default-clause-served : goal.returns-in_default-clause-served
returns-in_default-clause-served g c = comes_to_nothing (StepIfHonest (g.K.Keeper.honest c.args.keeper.now) g.C.Clock.reads)
    (λ s. IsStateOf (g.K.Keeper.honest c.args.keeper.now) (g.K.Keeper.closed c.args.keeper.now) (g.K.Keeper.timeline c.args.keeper.now) c.args.clock.now s)
    (record { closed = g.K.Keeper.closed c.args.keeper.now; timeline = g.K.Keeper.timeline c.args.keeper.now; clock = c.args.clock.now })
    (g.R.Read.remaining c.args.reader.now) (g.W.Write.contents c.args.writer.now) (refl, refl, λ live. refl)

pub returns-in_default-vec-clause-served : goal.returns-in_default-vec-clause-served
returns-in_default-vec-clause-served g c = comes_to_nothing (StepIfHonest (g.K.Keeper.honest c.args.keeper.now) g.C.Clock.reads)
    (λ s. IsStateOf (g.K.Keeper.honest c.args.keeper.now) (g.K.Keeper.closed c.args.keeper.now) (g.K.Keeper.timeline c.args.keeper.now) c.args.clock.now s)
    (record { closed = g.K.Keeper.closed c.args.keeper.now; timeline = g.K.Keeper.timeline c.args.keeper.now; clock = c.args.clock.now })
    (g.R.Read.remaining c.args.reader.now) (g.W.Write.contents c.args.writer.now) (refl, refl, λ live. refl)

pub returns-clause-served : goal.returns-clause-served
returns-clause-served g c = simp c.new-counted.ensures.same at c.serve_items.ensures.served

pub returns-in_default-clause-reached : goal.returns-in_default-clause-reached
returns-in_default-clause-reached g c = (_, reach_self (StepIfHonest (g.K.Keeper.honest c.args.keeper.now) g.C.Clock.reads) _, (refl, refl, λ live. refl))

pub returns-in_default-vec-clause-reached : goal.returns-in_default-vec-clause-reached
returns-in_default-vec-clause-reached g c = (_, reach_self (StepIfHonest (g.K.Keeper.honest c.args.keeper.now) g.C.Clock.reads) _, (refl, refl, λ live. refl))

pub returns-in_default-clause-reads : goal.returns-in_default-clause-reads
returns-in_default-clause-reads g c = not_begun (g.R.Read.remaining c.args.reader.now) desk.NoMemory

pub returns-in_default-clause-budget : goal.returns-in_default-clause-budget
returns-in_default-clause-budget g c = none_taken (g.R.Read.remaining c.args.reader.now) (1024 * 10000000)

pub returns-in_default-vec-clause-reads : goal.returns-in_default-vec-clause-reads
returns-in_default-vec-clause-reads g c = not_begun (g.R.Read.remaining c.args.reader.now) desk.NoMemory

pub returns-in_default-vec-clause-budget : goal.returns-in_default-vec-clause-budget
returns-in_default-vec-clause-budget g c = none_taken (g.R.Read.remaining c.args.reader.now) (1024 * 10000000)

pub returns-clause-reads : goal.returns-clause-reads
returns-clause-reads g c =
    let asked = simp c.new-counted.ensures.same at c.serve_items.ensures.reads in
    let name = c.serve_items.ensures.same_reference ∙ c.new-counted.ensures.same_reference in
    search rules

pub returns-clause-budget : goal.returns-clause-budget
returns-clause-budget g c =
    let spent = simp (c.new-counted.ensures.same, c.new-counted.ensures.left) at c.serve_items.ensures.budget in
    let name = c.serve_items.ensures.same_reference ∙ c.new-counted.ensures.same_reference in
    let most = taken_at_most (g.R.Read.remaining c.args.reader.now) (g.R.Read.remaining c.serve_items.new.reader.reader.now) (1024 * 10000000)
    (1024 * c.serve_items.new.reader.left) spent in
    search rules
