use Rattle.std.proofs.Common.{◌∙◌, ap, inl, inr, refl, subst, subst₂, sym, ℕ, List, Option, Result}
use Rattle.std.specs.Prelude.{OnOk}
use Rattle.land_commands.proofs.Filings.{served_and_closed}
use Rattle.land_commands.specs.Filed.{ServesTables}
use Rattle.land_commands.specs.ProgramFaults.{fault_of_service}
use Rattle.land_desk.specs.declared.service.serving.ServiceFault.{ServiceFault}
use Rattle.land_commands.proofs.file_commands.serve_file.Goals as goal

-- listening on the port failed
pub returns-in_default : goal.returns-in_default
returns-in_default g c = inr (inl (c.in_ok-tables.tables, c.in_ok-tables.ensures.finding, refl))

-- all connections were served, and the file is closed or not
pub returns-in-Ok-served : goal.returns-in-Ok-served
returns-in-Ok-served g c =
    let S = g.H.Store.Store in
    let from = c.in_ok-tables.tables in
    let to = c.serve_tables-served.result.1 in
    let came = c.in-Ok.ensures ∙ ap (λ (coming : ℕ → Option (List (Option (List ℕ)))). coming c.args.port) c.in_ok-tables.ensures.port in
    let over = subst (λ (r : Result (Unit {0}) ServiceFault). ServesTables S g.C.Clock.reads c.args.connections (g.H.Host.coming c.args.host.now c.args.port)
    (g.H.Host.coming c.stop_listening.new.self c.args.port) from c.args.clock.now to c.serve_tables-served.new.clock r) c.in-Ok-served.is
    (subst₂ (λ coming after. ServesTables S g.C.Clock.reads c.args.connections coming after from c.args.clock.now to c.serve_tables-served.new.clock
    c.serve_tables-served.result.0) came (sym c.stop_listening.ensures) c.serve_tables-served.ensures) in
    served_and_closed S (g.H.Host.holds c.args.file.now) g.H.Host.is_closed
    (λ from to r. ServesTables S g.C.Clock.reads c.args.connections (g.H.Host.coming c.args.host.now c.args.port)
    (g.H.Host.coming c.stop_listening.new.self c.args.port) from c.args.clock.now to c.serve_tables-served.new.clock r)
    fault_of_service tt c.close.result (λ a b. refl)
    (record { from = from; to = to; taken = c.in_ok-tables.ensures.finding; served = over })
    (subst (λ conn. OnOk c.close.result (g.H.Host.is_closed conn)) c.into_connection.ensures c.close.ensures.closed) c.close.ensures.fault

-- the service ended early
pub returns-in-Err : goal.returns-in-Err
returns-in-Err g c =
    let S = g.H.Store.Store in
    let from = c.in_ok-tables.tables in
    let to = c.serve_tables-served.result.1 in
    let came = c.in-Ok.ensures ∙ ap (λ (coming : ℕ → Option (List (Option (List ℕ)))). coming c.args.port) c.in_ok-tables.ensures.port in
    let over = subst (λ (r : Result (Unit {0}) ServiceFault). ServesTables S g.C.Clock.reads c.args.connections (g.H.Host.coming c.args.host.now c.args.port)
    (g.H.Host.coming c.stop_listening.new.self c.args.port) from c.args.clock.now to c.serve_tables-served.new.clock r) c.in-Err.is
    (subst₂ (λ coming after. ServesTables S g.C.Clock.reads c.args.connections coming after from c.args.clock.now to c.serve_tables-served.new.clock
    c.serve_tables-served.result.0) came (sym c.stop_listening.ensures) c.serve_tables-served.ensures) in
    inr (inr (inl (c.in-Err.fault, record { from = from; to = to; taken = c.in_ok-tables.ensures.finding; served = over }, c.from.ensures)))
