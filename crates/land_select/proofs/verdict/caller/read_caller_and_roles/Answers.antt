use Rattle.std.proofs.Common.{rules, ◌≡◌, ◌∙◌, ap₂, Bool, subst, sym, to_z, of_z, w64, Ok}
use Rattle.land_core.specs.Grants.{Grants}
use Rattle.land_core.specs.Register.{stands}
use Rattle.land_core.specs.declared.kind.Kind.TheVariants as kind
use Rattle.land_select.proofs.Callers.{who_asks_stands}
use Rattle.land_select.proofs.Viewed.{have_members}
use Rattle.land_select.specs.Verdicts.{roles_in}
use Rattle.land_select_queries.specs.Lookups.Parts.{ReadsPart}
use Rattle.land_tables_rows.specs.declared.listing.fault.ReadFault.{ReadFault}
use Rattle.land_tables_schema.proofs.Looking.{look_fails, look_then, look_told}
use Rattle.land_tables_schema.specs.Rows.ReadQueries.{IsStoreRead}
use Rattle.sqlite.specs.Effect.{Database}
use Rattle.sqlite.specs.Held.{state}
use Rattle.land_select.proofs.verdict.caller.read_caller_and_roles.Goals as goal

pub returns-then-is_held-clause-reads_only : goal.returns-then-is_held-clause-reads_only
returns-then-is_held-clause-reads_only g c =
    let when : to_z w64 (of_z w64 c.args.at) ≡ c.args.at = search rules in
    let reads_only = rw when at c.in_ok-roles.ensures.reads_only in
    let caller = c.args.caller in
    let roles = c.in_ok-roles.roles in
    let held = sym c.is_held.ensures ∙ c.if-is_held.true in
    look_told (state g.S.Store c.args.conn.now) (state g.S.Store c.roles.new.conn) _ reads_only
    (λ clean is moments h holds r premise stand.
    let are = is moments h holds r (have_members c.soundness_by_number.ensures r premise) stand in
    ap₂ (λ (there : Bool) (those : Grants). (there, those)) (who_asks_stands c.soundness_by_number.ensures r premise caller roles are held) are)

pub returns-in_err-there-clause-reads_only : goal.returns-in_err-there-clause-reads_only
returns-in_err-there-clause-reads_only g c =
    look_fails (state g.S.Store c.args.conn.now) (state g.S.Store c.roles.new.conn) (state g.S.Store c.party_exists.new.conn) c.from_residual-in_err-there.result c.from_residual-in_err-there.ensures.0 c.in_ok-roles.ensures.reads_only c.in_err-there.ensures.reads_only

pub returns-clause-reads_only : goal.returns-clause-reads_only
returns-clause-reads_only g c =
    let a = state g.S.Store c.args.conn.now in
    let d = state g.S.Store c.party_exists.new.conn in
    let party = c.args.caller.party in
    let t = c.args.at in
    let when : to_z w64 (of_z w64 t) ≡ t = search rules in
    let roles = c.in_ok-roles.roles in
    let there = c.in_ok-there.there in
    let both : IsStoreRead {X = Unit {0}} {E = ReadFault} (Ok tt) (λ _. ReadsPart (λ r. roles_in r party) t a.now.trees roles × ReadsPart (λ r. stands r kind.Party party) t a.now.trees there) a d =
    look_then a (state g.S.Store c.roles.new.conn) d (rw when at c.in_ok-roles.ensures.reads_only) (rw when at c.in_ok-there.ensures.reads_only)
    (λ clean same one two. (one, subst (λ (now : Database). ReadsPart (λ r. stands r kind.Party party) t now.trees there) same two)) in
    look_told a d _ both
    (λ clean both moments h held r premise stand.
    let have = have_members c.soundness_by_number.ensures r premise in
    ap₂ (λ (is : Bool) (those : Grants). (is, those)) (both.1 moments h held r have stand) (both.0 moments h held r have stand))
