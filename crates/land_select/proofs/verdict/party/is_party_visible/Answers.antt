use Rattle.std.proofs.Common.{rules, ◌≡◌, to_z, of_z, w64, subst, sym, ◌∙◌}
use Rattle.land_core.specs.Register.{stands}
use Rattle.land_core.specs.declared.kind.Kind.TheVariants.{Party}
use Rattle.land_rules.specs.Rules.{sees}
use Rattle.land_select.proofs.PartySight.{name_seen}
use Rattle.land_select.specs.Cache.{IsFactWith}
use Rattle.land_select.specs.Parties.{AreOtherNames}
use Rattle.land_select.specs.Views.{AgreesIfGiven}
use Rattle.land_select_queries.proofs.Chains.{look_after}
use Rattle.land_tables_schema.proofs.Looking.{look_fails, look_then}
use Rattle.sqlite.specs.Effect.{Database}
use Rattle.sqlite.specs.Held.{state}
use Rattle.land_select.proofs.verdict.party.is_party_visible.Goals as goal

pub returns-then-is_listed-clause-reads_only : goal.returns-then-is_listed-clause-reads_only
returns-then-is_listed-clause-reads_only g c =
    let a = state g.S.Store c.args.conn.now in
    let t = c.args.at in
    let n = c.args.number in
    let caller = c.args.caller in
    let names = c.in_ok-names.names in
    let when : to_z w64 (of_z w64 t) ≡ t = search rules in
    let first = rw when at c.in_ok-names.ensures.reads_only in
    let next = rw when at c.read_object.ensures.reads_only in
    let listed = rw c.as_slice.ensures at c.is_listed.ensures in
    look_after a (state g.S.Store c.read_own_names.new.conn) (state g.S.Store c.read_object.new.conn) c.read_object.result first next
    (λ it clean same own told moments h held r premise is.
    let there = subst (λ (now : Database). IsFactWith (λ r. stands r Party n) caller Party n t now.trees it) same told moments h held r premise is in (
      there.0
          ∙ name_seen c.selections_are_the_rules.ensures c.seen_lists_are_exact.ensures c.circles_see_together.ensures r t h premise is n caller c.requires.role names (own moments h held r is) (sym listed ∙ c.if-is_listed.true),
      there.1,
    ))

pub returns-in_err-seen-clause-reads_only : goal.returns-in_err-seen-clause-reads_only
returns-in_err-seen-clause-reads_only g c =
    look_fails (state g.S.Store c.args.conn.now) (state g.S.Store c.read_own_names.new.conn) (state g.S.Store c.is_other_party_visible.new.conn) c.from_residual-in_err-seen.result c.from_residual-in_err-seen.ensures.0 c.in_ok-names.ensures.reads_only c.in_err-seen.ensures.reads_only

pub returns-clause-reads_only : goal.returns-clause-reads_only
returns-clause-reads_only g c =
    let a = state g.S.Store c.args.conn.now in
    let t = c.args.at in
    let n = c.args.number in
    let caller = c.args.caller in
    let names = c.in_ok-names.names in
    let seen = c.in_ok-seen.seen in
    let when : to_z w64 (of_z w64 t) ≡ t = search rules in
    let listed = rw c.as_slice.ensures at c.is_listed.ensures in
    look_then a (state g.S.Store c.read_own_names.new.conn) (state g.S.Store c.is_other_party_visible.new.conn) (rw when at c.in_ok-names.ensures.reads_only) (rw (c.as_slice-2.ensures, when) at c.in_ok-seen.ensures.reads_only)
    (λ clean same own told moments h held r premise is.
    let here = subst (λ (now : Database). AgreesIfGiven (AreOtherNames caller names n) (λ r. sees r caller Party n) t now.trees seen) same told in
    (here moments h held r premise is (own moments h held r is, sym listed ∙ c.if-is_listed.false), tt))
