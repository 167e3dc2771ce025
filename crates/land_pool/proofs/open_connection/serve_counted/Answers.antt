use Rattle.std.proofs.Common.{◌≡◌, List, Option, Some, ap, subst, ℕ}
use Rattle.std.specs.Io.KnownBytes.{prepend_known}
use Rattle.land_desk.specs.Keepers.{ServesFirst}
use Rattle.land_pool.proofs.open_connection.serve_counted.Goals as goal

pub returns-clause-next_item : goal.returns-clause-next_item
returns-clause-next_item g c =
    subst (λ (r : Option (List ℕ)). ServesFirst g.K.Keeper g.C.Clock.reads c.args.keeper.now c.args.clock.now c.serve_when_read-served.new.keeper c.serve_when_read-served.new.clock
    (prepend_known c.args.connection.now.input.items r) (prepend_known c.serve_when_read-served.new.input.items (g.R.Read.remaining c.serve_when_read-served.new.reader.reader.now))
    (Some c.args.connection.now.output.items) (Some c.serve_when_read-served.new.output.items) c.serve_when_read-served.result)
    (ap (λ r. g.R.Read.remaining r) c.with_budget-reader.ensures.same) c.serve_when_read-served.ensures.next_item
