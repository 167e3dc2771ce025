use Rattle.std.proofs.Common.{rules, ◌≡◌, nat_eq, subst, to_z, of_z, w64, Ok, ◌∙◌}
use Rattle.land_core.specs.Entries.{entries_where}
use Rattle.land_select_queries.proofs.Chains.{none_after}
use Rattle.land_select_queries.proofs.Persons.{by_its_own}
use Rattle.land_select_queries.proofs.Records.{none_held}
use Rattle.land_select_queries.specs.Lookups.Parts.{ReadsPart}
use Rattle.land_tables_rows.specs.declared.listing.fault.ReadFault.{ReadFault}
use Rattle.land_tables_schema.proofs.Looking.{look_fails, look_then, look_told}
use Rattle.land_tables_schema.specs.Rows.ReadQueries.{IsStoreRead}
use Rattle.sqlite.specs.Effect.{Database}
use Rattle.sqlite.specs.Held.{state}
use Rattle.land_select_queries.proofs.lookups.objects.party_with.Goals as goal

pub returns-in_err-roles-clause-unreadable : goal.returns-in_err-roles-clause-unreadable
returns-in_err-roles-clause-unreadable g c clean =
    none_held (state g.S.Store c.args.conn.now).now.trees c.from_residual.result c.in_err-roles.field-0.0 c.from_residual.ensures.1 (c.in_err-roles.ensures.unreadable clean)

pub returns-in_err-members-clause-reads_only : goal.returns-in_err-members-clause-reads_only
returns-in_err-members-clause-reads_only g c =
    look_fails (state g.S.Store c.args.conn.now) (state g.S.Store c.roles.new.conn) (state g.S.Store c.members.new.conn) c.from_residual-in_err-members.result c.from_residual-in_err-members.ensures.0 c.in_ok-roles.ensures.reads_only c.in_err-members.ensures.reads_only

pub returns-in_err-members-clause-unreadable : goal.returns-in_err-members-clause-unreadable
returns-in_err-members-clause-unreadable g c clean =
    let a = state g.S.Store c.args.conn.now in
    let b = state g.S.Store c.roles.new.conn in
    none_after a b (state g.S.Store c.members.new.conn) _ c.from_residual-in_err-members.result c.in_ok-roles.ensures.reads_only c.in_err-members.ensures.reads_only clean
    (none_held b.now.trees c.from_residual-in_err-members.result c.in_err-members.field-0.0 c.from_residual-in_err-members.ensures.1 (c.in_err-members.ensures.unreadable clean))

pub returns-clause-reads_only : goal.returns-clause-reads_only
returns-clause-reads_only g c =
    let a = state g.S.Store c.args.conn.now in
    let n = c.args.number in
    let t = c.args.at in
    let when : to_z w64 (of_z w64 t) ≡ t = search rules in
    let roles = c.in_ok-roles.roles in
    let members = c.in_ok-members.members in
    let both : IsStoreRead {X = Unit {0}} {E = ReadFault} (Ok tt) (λ _. ReadsPart (λ r. entries_where (λ grant u. nat_eq grant.party n) r.roles) t a.now.trees roles × ReadsPart (λ r. entries_where (λ k ms. nat_eq k n) r.members) t a.now.trees members)
    a (state g.S.Store c.members.new.conn) =
    look_then a (state g.S.Store c.roles.new.conn) (state g.S.Store c.members.new.conn) (rw when at c.in_ok-roles.ensures.reads_only) (rw when at c.in_ok-members.ensures.reads_only)
    (λ clean same one two. (one, subst (λ (now : Database). ReadsPart (λ r. entries_where (λ k ms. nat_eq k n) r.members) t now.trees members) same two)) in
    look_told a (state g.S.Store c.members.new.conn) _ both
    (λ clean both moments h held r have stands. c.in_ok-party_object.ensures ∙ by_its_own r n c.args.found roles members (both.0 moments h held r have stands) (both.1 moments h held r have stands))
