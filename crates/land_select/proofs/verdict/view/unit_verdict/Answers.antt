use Rattle.std.proofs.Common.{rules, ◌≡◌, ap, Bool, to_z, of_z, w64, ◌∙◌}
use Rattle.land_core.specs.declared.kind.Kind.TheVariants as kind
use Rattle.land_rules.specs.Denials.Sight.{verdict_given_sight}
use Rattle.land_tables_schema.proofs.Looking.{look_told}
use Rattle.sqlite.specs.Held.{state}
use Rattle.land_select.proofs.verdict.view.unit_verdict.Goals as goal

pub returns-clause-reads_only : goal.returns-clause-reads_only
returns-clause-reads_only g c =
    let when : to_z w64 (of_z w64 c.args.at) ≡ c.args.at = search rules in
    let reads_only = rw when at c.in_ok-told.ensures.reads_only in
    look_told (state g.S.Store c.args.conn.now) (state g.S.Store c.read_pending_unit.new.conn) _ reads_only
    (λ clean is moments h held r have stands.
    c.view_verdict.ensures ∙ ap (λ (it : Bool × Bool). verdict_given_sight it.0 it.1 c.args.caller kind.Unit c.args.unit) (is moments h held r have stands))
