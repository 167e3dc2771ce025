use Rattle.std.proofs.Common.{rules, ◌≡◌, ◌∙◌, ap, sym, to_z, of_z, w64}
use Rattle.land_core.specs.Grants.{Grants, grant_to, has_grant}
use Rattle.land_select.proofs.Callers.{holder_stands}
use Rattle.land_select.proofs.Judged.{looked_at_nothing}
use Rattle.land_select.proofs.KnownRoles.{one_role, own_roles_decide}
use Rattle.land_select.proofs.ReadQueries.{look_means}
use Rattle.sqlite.specs.Held.{state}
use Rattle.land_select.proofs.verdict.caller.caller_and_roles.Goals as goal

pub returns-then-is_held-clause-reads_only : goal.returns-then-is_held-clause-reads_only
returns-then-is_held-clause-reads_only g c =
    let caller = c.args.caller in
    let grant = grant_to caller.party caller.role in
    looked_at_nothing _ _ (state g.S.Store c.args.conn.now) c.requires.open
    (λ clean moments h held r premise stand given.
    let is = given c.if-is_held.true in
    record { party = sym (holder_stands c.soundness_by_number.ensures r caller premise is); role = ap (λ (m : Grants). has_grant m grant) (rw (c.new-roles.ensures, c.claimed_role.ensures) at c.in_ok-insert.ensures.ok) ∙ one_role grant ∙ sym is })

pub returns-clause-reads_only : goal.returns-clause-reads_only
returns-clause-reads_only g c =
    let when : to_z w64 (of_z w64 c.args.at) ≡ c.args.at = search rules in
    let reads_only = rw when at c.read_caller_and_roles.ensures.reads_only in
    look_means (state g.S.Store c.args.conn.now) (state g.S.Store c.read_caller_and_roles.new.conn) c.read_caller_and_roles.result reads_only
    (λ it told moments h held r premise stand given.
    let is = told moments h held r premise stand in
    record { party = ap (λ both. both.0) is; role = ap (λ both. has_grant both.1 (grant_to c.args.caller.party c.args.caller.role)) is ∙ own_roles_decide r c.args.caller })
