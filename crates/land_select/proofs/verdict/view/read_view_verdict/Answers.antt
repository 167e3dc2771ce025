use Rattle.std.proofs.Common.{rules, ◌≡◌, false, ap, sym, to_z, of_z, w64, ◌∙◌}
use Rattle.land_rules.specs.Denials.Sight.{verdict_given_sight}
use Rattle.land_select.proofs.Judged.{sight_told, unit_told}
use Rattle.land_select.proofs.Viewed.{have_members}
use Rattle.land_tables_schema.proofs.Looking.{look_told}
use Rattle.sqlite.specs.Held.{state}
use Rattle.land_select.proofs.verdict.view.read_view_verdict.Goals as goal

pub returns-then-is_unit_of_conveyancer-clause-reads_only : goal.returns-then-is_unit_of_conveyancer-clause-reads_only
returns-then-is_unit_of_conveyancer-clause-reads_only g c =
    let when : to_z w64 (of_z w64 c.args.at) ≡ c.args.at = search rules in
    let reads_only = rw when at c.in_ok-verdict.ensures.reads_only in
    let is_so = sym c.is_unit_of_conveyancer.ensures ∙ c.if-is_unit_of_conveyancer.true in
    look_told (state g.S.Store c.args.conn.now) (state g.S.Store c.unit_verdict.new.conn) _ reads_only
    (λ clean is moments h held r premise stands. (
      is moments h held r (have_members c.soundness_by_number.ensures r premise) stands
          ∙ unit_told c.sight_decides_verdicts.ensures c.pending_units_are_visible.ensures r premise c.args.caller c.args.kind c.args.number is_so,
      tt,
    ))

pub returns-clause-reads_only : goal.returns-clause-reads_only
returns-clause-reads_only g c =
    let caller = c.args.caller in
    let k = c.args.kind in
    let n = c.args.number in
    let when : to_z w64 (of_z w64 c.args.at) ≡ c.args.at = search rules in
    let reads_only = rw when at c.in_ok-told.ensures.reads_only in
    let other = sym c.is_unit_of_conveyancer.ensures ∙ c.if-is_unit_of_conveyancer.false in
    look_told (state g.S.Store c.args.conn.now) (state g.S.Store c.is_visible.new.conn) _ reads_only
    (λ clean seen moments h held r premise stands.
    let it = seen moments h held r premise stands in
    (c.view_verdict-verdict.ensures ∙ ap (λ b. verdict_given_sight b false caller k n) it.0 ∙ sight_told c.sight_decides_verdicts.ensures r premise caller k n other, it.1))
