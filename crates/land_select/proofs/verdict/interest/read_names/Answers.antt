use Rattle.std.proofs.Common.{rules, ◌≡◌, ◌↔◌, ℕ, List, Ok, sym, subst, true, to_z, of_z, w64, ◌∙◌}
use Rattle.std.proofs.lemmas.Bool.{false≢true}
use Rattle.std.specs.List.{Contains}
use Rattle.land_rules.specs.Circles.{circle_of, is_name_of}
use Rattle.land_select.proofs.Judged.{looked_at_nothing}
use Rattle.land_select.proofs.ShownByInterest.{names_are}
use Rattle.land_select.specs.Views.{AreCallerGroupsAt}
use Rattle.land_select_queries.specs.Lookups.Parts.{IsCircleOf}
use Rattle.land_tables_rows.specs.declared.listing.fault.ReadFault.{ReadFault}
use Rattle.land_tables_schema.proofs.Looking.{look_fails, look_lost, look_then, look_told}
use Rattle.land_tables_schema.specs.Rows.ReadQueries.{IsStoreRead}
use Rattle.sqlite.specs.Effect.{Database}
use Rattle.sqlite.specs.Held.{state}
use Rattle.land_select.proofs.verdict.interest.read_names.Goals as goal

pub returns-then-not-is_citizen-clause-reads_only : goal.returns-then-not-is_citizen-clause-reads_only
returns-then-not-is_citizen-clause-reads_only g c =
    looked_at_nothing _ _ (state g.S.Store c.args.conn.now) c.requires.open
    (λ clean moments h held r stands citizen. absurd (false≢true (sym c.if-not-is_citizen.true ∙ c.is_citizen.ensures ∙ citizen)))

pub returns-in_err-groups-clause-reads_only : goal.returns-in_err-groups-clause-reads_only
returns-in_err-groups-clause-reads_only g c =
    look_fails (state g.S.Store c.args.conn.now) (state g.S.Store c.circle.new.conn) (state g.S.Store c.read_groups.new.conn) c.from_residual-in_err-groups.result c.from_residual-in_err-groups.ensures.0 c.in_ok-callers.ensures.reads_only c.in_err-groups.ensures.reads_only

pub returns-in_err-together-clause-reads_only : goal.returns-in_err-together-clause-reads_only
returns-in_err-together-clause-reads_only g c =
    let a = state g.S.Store c.args.conn.now in
    let d = state g.S.Store c.read_groups.new.conn in
    let two : IsStoreRead {X = Unit {0}} {E = ReadFault} (Ok tt) (λ _. Unit {0}) a d = look_then a (state g.S.Store c.circle.new.conn) d c.in_ok-callers.ensures.reads_only c.in_ok-groups.ensures.reads_only (λ _ _ _ _. tt) in
    look_lost a d c.from_residual-in_err-together.result c.from_residual-in_err-together.ensures.0 two

pub returns-clause-reads_only : goal.returns-clause-reads_only
returns-clause-reads_only g c =
    let a = state g.S.Store c.args.conn.now in
    let b = state g.S.Store c.circle.new.conn in
    let d = state g.S.Store c.read_groups.new.conn in
    let t = c.args.at in
    let party = c.args.caller.party in
    let when : to_z w64 (of_z w64 t) ≡ t = search rules in
    let callers = c.in_ok-callers.callers in
    let groups = c.in_ok-groups.groups in
    let both : IsStoreRead {X = Unit {0}} {E = ReadFault} (Ok tt) (λ _. IsCircleOf party t a.now.trees callers × AreCallerGroupsAt callers t a.now.trees groups) a d =
    look_then a b d (rw when at c.in_ok-callers.ensures.reads_only) (rw (c.as_slice.ensures, when) at c.in_ok-groups.ensures.reads_only)
    (λ clean same one two. (one, subst (λ (now : Database). AreCallerGroupsAt callers t now.trees groups) same two)) in
    let all = rw c.as_slice-2.ensures at c.in_ok-together.ensures in
    look_told a d _ both
    (λ clean known moments h held r stands citizen.
    subst (λ (names : List ℕ). (named : ℕ) → Contains names named ↔ (is_name_of r (circle_of r party) named ≡ true)) (sym all)
    (names_are r party callers groups (known.0 moments h held r stands) (known.1 moments h held r stands)))
