use Rattle.std.proofs.Common.{◌∙◌, ap, inl, inr, refl, subst, subst₂, sym, ℕ, List, Option, Result}
use Rattle.std.specs.Prelude.{OnOk}
use Rattle.land_commands.proofs.Filings.{served_and_closed}
use Rattle.land_commands.specs.Filed.{ServesTablesAtOnce}
use Rattle.land_commands.specs.ProgramFaults.{fault_of_pool}
use Rattle.land_pool.specs.Endings.{Ending}
use Rattle.land_pool.specs.declared.pool.PoolFault.{PoolFault}
use Rattle.land_commands.proofs.at_once_command.serve_file_at_once.Goals as goal

-- listening on the port failed
pub returns-in_default : goal.returns-in_default
returns-in_default g c = inr (inl (c.in_ok-tables.tables, c.in_ok-tables.ensures.finding, refl))

-- all connections were served, and the file is closed or not
pub returns-in-Ok-served : goal.returns-in-Ok-served
returns-in-Ok-served g c =
    let S = g.H.Store.Store in
    let port = c.args.port in
    let call = c.serve_tables_at_once-served in
    let from = c.in_ok-tables.tables in
    let to = call.result.1 in
    let came = c.in-Ok.ensures.coming ∙ ap (λ (coming : ℕ → Option (List (Option (List ℕ)))). coming port) c.in_ok-tables.ensures.port in
    let recorded = c.in-Ok.ensures.ended ∙ ap (λ (ended : ℕ → Option (List Ending)). ended port) c.in_ok-tables.ensures.ended in
    let stopped = c.stop_listening_at_once.ensures in
    let over = subst (λ (r : Result (Unit {0}) PoolFault). ServesTablesAtOnce S g.C.Clock.reads c.args.connections (g.H.Host.coming c.args.host.now port)
    (g.H.Host.coming c.stop_listening_at_once.new.self port) (record { old = g.H.Host.ended c.args.host.now port; new = g.H.Host.ended c.stop_listening_at_once.new.self port })
    from c.args.clock.now to call.new.clock r) c.in-Ok-served.is
    (subst₂ (λ old new. ServesTablesAtOnce S g.C.Clock.reads c.args.connections (g.H.Host.coming c.args.host.now port) (g.H.Host.coming c.stop_listening_at_once.new.self port)
    (record { old = old; new = new }) from c.args.clock.now to call.new.clock call.result.0) recorded (sym stopped.ended)
    (subst₂ (λ coming after. ServesTablesAtOnce S g.C.Clock.reads c.args.connections coming after
    (record { old = g.H.Source.ConnectionSource.ended c.in-Ok.source; new = g.H.Source.ConnectionSource.ended call.new.source })
    from c.args.clock.now to call.new.clock call.result.0) came (sym stopped.coming) call.ensures)) in
    served_and_closed S (g.H.Host.holds c.args.file.now) g.H.Host.is_closed
    (λ from to r. ServesTablesAtOnce S g.C.Clock.reads c.args.connections (g.H.Host.coming c.args.host.now port)
    (g.H.Host.coming c.stop_listening_at_once.new.self port) (record { old = g.H.Host.ended c.args.host.now port; new = g.H.Host.ended c.stop_listening_at_once.new.self port })
    from c.args.clock.now to call.new.clock r)
    fault_of_pool tt c.close.result (λ a b. refl)
    (record { from = from; to = to; taken = c.in_ok-tables.ensures.finding; served = over })
    (subst (λ conn. OnOk c.close.result (g.H.Host.is_closed conn)) c.into_connection.ensures c.close.ensures.closed) c.close.ensures.fault

-- the service ended early
pub returns-in-Err : goal.returns-in-Err
returns-in-Err g c =
    let S = g.H.Store.Store in
    let port = c.args.port in
    let call = c.serve_tables_at_once-served in
    let from = c.in_ok-tables.tables in
    let to = call.result.1 in
    let came = c.in-Ok.ensures.coming ∙ ap (λ (coming : ℕ → Option (List (Option (List ℕ)))). coming port) c.in_ok-tables.ensures.port in
    let recorded = c.in-Ok.ensures.ended ∙ ap (λ (ended : ℕ → Option (List Ending)). ended port) c.in_ok-tables.ensures.ended in
    let stopped = c.stop_listening_at_once.ensures in
    let over = subst (λ (r : Result (Unit {0}) PoolFault). ServesTablesAtOnce S g.C.Clock.reads c.args.connections (g.H.Host.coming c.args.host.now port)
    (g.H.Host.coming c.stop_listening_at_once.new.self port) (record { old = g.H.Host.ended c.args.host.now port; new = g.H.Host.ended c.stop_listening_at_once.new.self port })
    from c.args.clock.now to call.new.clock r) c.in-Err.is
    (subst₂ (λ old new. ServesTablesAtOnce S g.C.Clock.reads c.args.connections (g.H.Host.coming c.args.host.now port) (g.H.Host.coming c.stop_listening_at_once.new.self port)
    (record { old = old; new = new }) from c.args.clock.now to call.new.clock call.result.0) recorded (sym stopped.ended)
    (subst₂ (λ coming after. ServesTablesAtOnce S g.C.Clock.reads c.args.connections coming after
    (record { old = g.H.Source.ConnectionSource.ended c.in-Ok.source; new = g.H.Source.ConnectionSource.ended call.new.source })
    from c.args.clock.now to call.new.clock call.result.0) came (sym stopped.coming) call.ensures)) in
    inr (inr (inl (c.in-Err.fault, record { from = from; to = to; taken = c.in_ok-tables.ensures.finding; served = over }, c.from.ensures)))
