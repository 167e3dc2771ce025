use Rattle.std.proofs.Common.{rules}
use Rattle.std.specs.Prelude.{FitsSigned}
use Rattle.std.specs.Int.{w64}
use Rattle.std.proofs.lemmas.Int.{to_z-of_z}
use Rattle.std.proofs.lemmas.Option.{IfSome_then}
use Rattle.land_commands.specs.Program.{at_start, reads_fixed}
use Rattle.land_desk.proofs.Honesty.{serves_honestly}
use Rattle.land_desk.proofs.ServingLemmas.{nothing_done}
use Rattle.land_desk.specs.Serving.{StepOf}
use Rattle.sqlite.proofs.Callers.{memory_is_clean}
use Rattle.land_commands.proofs.run.talk.Goals as goal

pub returns-in_default : goal.returns-in_default
returns-in_default g c =
    let nothing = nothing_done (StepOf reads_fixed) (g.I.Read.remaining c.args.input.now) (g.O.Write.contents c.args.output.now) (at_start c.args.reading) in
    IfSome_then (g.I.Read.remaining c.args.input.now) nothing (λ bytes served. (_, served))

-- a store in memory is always honest
pub returns : goal.returns
returns g c =
    let fit : FitsSigned w64 c.args.reading = search rules in
    let begun = c.in-Ok.ensures in
    let it = simp (to_z-of_z, c.new-keeper.ensures, begun.is_open, begun.timeline (memory_is_clean c.in-Ok.tables.conn)) at c.serve.ensures.served in
    IfSome_then (g.I.Read.remaining c.args.input.now) it
    (λ bytes served. (served.0, serves_honestly reads_fixed _ (memory_is_clean c.serve.new.keeper.conn) bytes (at_start c.args.reading) served.0 _ _ _ served.1))
