use Rattle.std.proofs.Common.{rules, ◌≡◌, ap, subst, sym, to_z, of_z, w64, Ok, ◌∙◌}
use Rattle.land_core.specs.Entries.{entries_where}
use Rattle.land_rules.specs.Circles.{circle_of, is_name_of}
use Rattle.land_rules.specs.Denials.Interests.{interest_of, shows_entry, shows_unit}
use Rattle.land_select.proofs.ShownByInterest.{shown_in_sight}
use Rattle.land_select.proofs.Viewed.{have_members}
use Rattle.land_select_queries.specs.Lookups.Parts.{ReadsPart}
use Rattle.land_tables_rows.specs.declared.listing.fault.ReadFault.{ReadFault}
use Rattle.land_tables_schema.proofs.Looking.{look_fails, look_lost, look_then}
use Rattle.land_tables_schema.specs.Rows.ReadQueries.{IsStoreRead}
use Rattle.sqlite.specs.Effect.{Database}
use Rattle.sqlite.specs.Held.{state}
use Rattle.land_select.proofs.verdict.interest.read_shown_unit.Goals as goal

pub returns-in_err-interest-clause-reads_only : goal.returns-in_err-interest-clause-reads_only
returns-in_err-interest-clause-reads_only g c =
    look_fails (state g.S.Store c.args.conn.now) (state g.S.Store c.entries.new.conn) (state g.S.Store c.read_interest_from.new.conn) c.from_residual-in_err-interest.result c.from_residual-in_err-interest.ensures.0 c.in_ok-all.ensures.reads_only c.in_err-interest.ensures.reads_only

pub returns-then-not-shows_unit-clause-reads_only : goal.returns-then-not-shows_unit-clause-reads_only
returns-then-not-shows_unit-clause-reads_only g c =
    let a = state g.S.Store c.args.conn.now in
    let caller = c.args.caller in
    let t = c.args.at in
    let when : to_z w64 (of_z w64 t) ≡ t = search rules in
    let entries = c.in_ok-all.all in
    look_then a (state g.S.Store c.entries.new.conn) (state g.S.Store c.read_interest_from.new.conn) (rw when at c.in_ok-all.ensures.reads_only) (rw when at c.in_ok-interest.ensures.reads_only)
    (λ clean same is told moments h held r premise stands.
    let have = have_members c.soundness_by_number.ensures r premise in
    let interest = subst (λ (now : Database). ReadsPart (λ r. interest_of (is_name_of r (circle_of r caller.party)) caller entries) t now.trees c.in_ok-interest.interest) same told moments h held r have stands in
    (sym c.if-not-shows_unit.true ∙ c.shows_unit.ensures ∙ ap shows_unit (interest ∙ ap (λ m. interest_of (is_name_of r (circle_of r caller.party)) caller m) (is moments h held r have stands)), tt))

pub returns-in_err-shown-clause-reads_only : goal.returns-in_err-shown-clause-reads_only
returns-in_err-shown-clause-reads_only g c =
    let a = state g.S.Store c.args.conn.now in
    let d = state g.S.Store c.read_interest_from.new.conn in
    let two : IsStoreRead {X = Unit {0}} {E = ReadFault} (Ok tt) (λ _. Unit {0}) a d = look_then a (state g.S.Store c.entries.new.conn) d c.in_ok-all.ensures.reads_only c.in_ok-interest.ensures.reads_only (λ _ _ _ _. tt) in
    look_lost a d c.from_residual-in_err-shown.result c.from_residual-in_err-shown.ensures.0 two

pub returns-clause-reads_only : goal.returns-clause-reads_only
returns-clause-reads_only g c =
    let a = state g.S.Store c.args.conn.now in
    let caller = c.args.caller in
    let t = c.args.at in
    let when : to_z w64 (of_z w64 t) ≡ t = search rules in
    let entries = c.in_ok-all.all in
    let interest = c.in_ok-interest.interest in
    look_then a (state g.S.Store c.entries.new.conn) (state g.S.Store c.read_interest_from.new.conn) (rw when at c.in_ok-all.ensures.reads_only) (rw when at c.in_ok-interest.ensures.reads_only)
    (λ clean same is told moments h held r premise stands.
    let have = have_members c.soundness_by_number.ensures r premise in
    let there = is moments h held r have stands in
    let by_entries = subst (λ (now : Database). ReadsPart (λ r. interest_of (is_name_of r (circle_of r caller.party)) caller entries) t now.trees interest) same told moments h held r have stands in
    let by = by_entries ∙ ap (λ m. interest_of (is_name_of r (circle_of r caller.party)) caller m) there in (
      sym c.if-not-shows_unit.false ∙ c.shows_unit.ensures ∙ ap shows_unit by,
      c.in_ok-shown.ensures ∙ ap (λ it. entries_where (λ n e. shows_entry it caller.party e) entries) by_entries
          ∙ ap (λ es. entries_where (λ n e. shows_entry (interest_of (is_name_of r (circle_of r caller.party)) caller es) caller.party e) es) there
          ∙ shown_in_sight c.interests_decide_sight.ensures r caller c.args.unit premise c.requires.role,
    ))
