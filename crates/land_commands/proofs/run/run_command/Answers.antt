use Rattle.std.proofs.Common.{ℤ, of_z, rules, subst, sym, to_z, w64, ◌≡◌}
use Rattle.land_commands.specs.Extracting.{ExtractsRegister, extract_request_of}
use Rattle.land_commands.specs.Program.{RunsCommand}
use Rattle.land_commands.specs.Words.PlainCommands.{order_of}
use Rattle.land_commands.specs.declared.words.command.Command.{Command}
use Rattle.land_commands.proofs.run.run_command.Goals as goal

-- the extract is written, or the error is reported
pub returns-in-Extract : goal.returns-in-Extract
returns-in-Extract g c =
    let S = g.H.Store.Store in
    let it = c.in-Extract in
    let old = g.O.Write.contents c.args.output.now in
    let new = g.O.Write.contents c.extract-done.new.output in
    let alike : to_z w64 (of_z w64 it.clock) ≡ it.clock = search rules in
    let done = subst (λ (clock : ℤ). ExtractsRegister S (g.H.Host.holds it.file.now) (extract_request_of clock it.caller.party it.caller.role it.kind it.at) old new c.extract-done.result)
    alike c.extract-done.ensures in
    subst (λ (command : Command). RunsCommand S (record { holds = g.H.Host.holds; is_closed = g.H.Host.is_closed; coming = g.H.Host.coming c.args.host.now; after = g.H.Host.coming c.extract-done.new.host; ended = g.H.Host.ended c.args.host.now; ended_after = g.H.Host.ended c.extract-done.new.host }) g.C.Clock.reads (order_of command) (g.I.Read.remaining c.args.input.now) c.args.clock.now c.args.clock.now old new
    (g.E.Write.contents c.args.errors.now) (g.E.Write.contents c.report_extracted.new.errors) c.report_extracted.result)
    (sym it.is) (c.extract-done.result, done, c.report_extracted.ensures)
