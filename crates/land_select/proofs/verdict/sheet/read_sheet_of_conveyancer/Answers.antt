use Rattle.std.proofs.Common.{rules, ◌≡◌, ap, Bool, subst, sym, to_z, of_z, w64, ◌∙◌}
use Rattle.land_core.specs.declared.kind.Kind.TheVariants as kind
use Rattle.land_rules.specs.Denials.Interests.{entries_in_unit}
use Rattle.land_rules.specs.Denials.Sight.{verdict_given_sight}
use Rattle.land_select.proofs.Awaiting.{entries_awaited}
use Rattle.land_select.proofs.Judged.{unit_told}
use Rattle.land_select.proofs.Viewed.{have_members}
use Rattle.land_select_queries.specs.Lookups.Parts.{ReadsPart}
use Rattle.land_tables_schema.proofs.Looking.{look_fails, look_then, look_told}
use Rattle.sqlite.specs.Effect.{Database}
use Rattle.sqlite.specs.Held.{state}
use Rattle.land_select.proofs.verdict.sheet.read_sheet_of_conveyancer.Goals as goal

pub returns-then-not-is_seen-clause-reads_only : goal.returns-then-not-is_seen-clause-reads_only
returns-then-not-is_seen-clause-reads_only g c =
    let caller = c.args.caller in
    let unit = c.args.unit in
    let when : to_z w64 (of_z w64 c.args.at) ≡ c.args.at = search rules in
    let reads_only = rw when at c.in_ok-told.ensures.reads_only in
    look_told (state g.S.Store c.args.conn.now) (state g.S.Store c.read_pending_unit.new.conn) _ reads_only
    (λ clean is moments h held r premise stands. (
      c.view_verdict-verdict.ensures ∙ ap (λ (it : Bool × Bool). verdict_given_sight it.0 it.1 caller kind.Unit unit) (is moments h held r (have_members c.soundness_by_number.ensures r premise) stands)
          ∙ unit_told c.sight_decides_verdicts.ensures c.pending_units_are_visible.ensures r premise caller kind.Unit unit c.requires.role,
      tt,
    ))

pub returns-in_err-entries-clause-reads_only : goal.returns-in_err-entries-clause-reads_only
returns-in_err-entries-clause-reads_only g c =
    look_fails (state g.S.Store c.args.conn.now) (state g.S.Store c.read_pending_unit.new.conn) (state g.S.Store c.entries.new.conn) c.from_residual-in_err-entries.result c.from_residual-in_err-entries.ensures.0 c.in_ok-told.ensures.reads_only c.in_err-entries.ensures.reads_only

pub returns-clause-reads_only : goal.returns-clause-reads_only
returns-clause-reads_only g c =
    let caller = c.args.caller in
    let unit = c.args.unit in
    let t = c.args.at in
    let when : to_z w64 (of_z w64 t) ≡ t = search rules in
    look_then (state g.S.Store c.args.conn.now) (state g.S.Store c.read_pending_unit.new.conn) (state g.S.Store c.entries.new.conn) (rw when at c.in_ok-told.ensures.reads_only) (rw when at c.in_ok-entries.ensures.reads_only)
    (λ clean same is have_entries moments h held r premise stands.
    let have = have_members c.soundness_by_number.ensures r premise in
    let told = is moments h held r have stands in
    let there = subst (λ (now : Database). ReadsPart (λ r. entries_in_unit r unit) t now.trees c.in_ok-entries.entries) same have_entries moments h held r have stands in (
      c.view_verdict-verdict.ensures ∙ ap (λ (it : Bool × Bool). verdict_given_sight it.0 it.1 caller kind.Unit unit) told
          ∙ unit_told c.sight_decides_verdicts.ensures c.pending_units_are_visible.ensures r premise caller kind.Unit unit c.requires.role,
      there ∙ entries_awaited c.pending_units_are_visible.ensures r caller unit premise c.requires.role (sym (ap (λ (it : Bool × Bool). it.0) told) ∙ c.if-not-is_seen.false),
    ))
