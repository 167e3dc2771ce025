use Rattle.std.proofs.Common.{rules, ◌≡◌, subst, sym, to_z, of_z, w64, ◌∙◌}
use Rattle.std.specs.FinMap as map
use Rattle.land_core.specs.Register.{object_at}
use Rattle.land_core.specs.declared.kind.Kind.TheVariants as kinds
use Rattle.land_select_queries.proofs.Chains.{look_after, none_after}
use Rattle.land_select_queries.proofs.Persons.{as_it_stands, nobody_there}
use Rattle.land_select_queries.proofs.Records.{none_held}
use Rattle.land_select_queries.specs.Lookups.Parts.{ReadsPart}
use Rattle.land_tables_schema.proofs.Looking.{look_told}
use Rattle.sqlite.specs.Effect.{Database}
use Rattle.sqlite.specs.Held.{state}
use Rattle.land_select_queries.proofs.lookups.objects.party.Goals as goal

pub returns-in_err-known-clause-unreadable : goal.returns-in_err-known-clause-unreadable
returns-in_err-known-clause-unreadable g c clean =
    none_held (state g.S.Store c.args.conn.now).now.trees c.from_residual.result c.in_err-known.field-0.0 c.from_residual.ensures.1 (c.in_err-known.ensures.unreadable clean)

pub returns-in-Some-clause-reads_only : goal.returns-in-Some-clause-reads_only
returns-in-Some-clause-reads_only g c =
    let a = state g.S.Store c.args.conn.now in
    let n = c.args.number in
    let t = c.args.at in
    let found = c.in-Some.found in
    let when : to_z w64 (of_z w64 t) ≡ t = search rules in
    look_after a (state g.S.Store c.record.new.conn) (state g.S.Store c.party_with.new.conn) c.party_with.result (rw when at c.in_ok-known.ensures.reads_only) (rw when at c.party_with.ensures.reads_only)
    (λ it clean same is shown moments h held r have stands.
    subst (λ (now : Database). ReadsPart (λ r. object_at (record r { parties = map.insert map.empty n found }) kinds.Party n) t now.trees it) same shown moments h held r have stands
    ∙ as_it_stands r n found (sym c.in-Some.is ∙ is moments h held r have stands))

pub returns-in-Some-clause-unreadable : goal.returns-in-Some-clause-unreadable
returns-in-Some-clause-unreadable g c clean =
    none_after (state g.S.Store c.args.conn.now) (state g.S.Store c.record.new.conn) (state g.S.Store c.party_with.new.conn) c.party_with.result c.party_with.result c.in_ok-known.ensures.reads_only c.party_with.ensures.reads_only clean
    (c.party_with.ensures.unreadable clean)

pub returns-in-None-clause-reads_only : goal.returns-in-None-clause-reads_only
returns-in-None-clause-reads_only g c =
    let t = c.args.at in
    let when : to_z w64 (of_z w64 t) ≡ t = search rules in
    let reads_only = rw when at c.in_ok-known.ensures.reads_only in
    look_told (state g.S.Store c.args.conn.now) (state g.S.Store c.record.new.conn) _ reads_only
    (λ clean is moments h held r have stands. nobody_there r c.args.number (sym c.in-None.is ∙ is moments h held r have stands))
