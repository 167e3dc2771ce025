use Rattle.std.proofs.Common.{rules, ◌≡◌, nat_eq, subst, sym, to_z, of_z, w64, Ok, ap, ◌∙◌}
use Rattle.std.specs.List.{list_any}
use Rattle.land_core.specs.Entries.{entries_where}
use Rattle.land_core.specs.declared.kind.Kind.TheVariants.{Rrr}
use Rattle.land_select.proofs.Awaiting.{awaited_in_sight}
use Rattle.land_select.proofs.ShownByInterest.{shown_in_sight}
use Rattle.land_select.proofs.Viewed.{AreListed, all_in_sight, have_members, listed_in_sight}
use Rattle.land_select.specs.Views.{pending_entries, entries_by_interest}
use Rattle.land_select_queries.proofs.Chains.{look_after}
use Rattle.land_select_queries.specs.Joins.Sight.{IsSight}
use Rattle.land_select_queries.specs.Lookups.Parts.{ReadsPart}
use Rattle.land_tables_rows.specs.declared.listing.fault.ReadFault.{ReadFault}
use Rattle.land_tables_schema.proofs.Looking.{look_fails, look_lost, look_then, look_told}
use Rattle.land_tables_schema.specs.Rows.ReadQueries.{IsStoreRead}
use Rattle.sqlite.specs.Effect.{Database}
use Rattle.sqlite.specs.Held.{state}
use Rattle.land_select.proofs.view.read_visible_entries.Goals as goal

pub returns-then-sees_all-clause-reads_only : goal.returns-then-sees_all-clause-reads_only
returns-then-sees_all-clause-reads_only g c =
    let when : to_z w64 (of_z w64 c.args.at) ≡ c.args.at = search rules in
    let reads_only = rw when at c.in_ok-entries.ensures.reads_only in
    let all = sym c.sees_all.ensures ∙ c.if-sees_all.true in
    look_told (state g.S.Store c.args.conn.now) (state g.S.Store c.entries.new.conn) _ reads_only
    (λ clean is moments h held r premise stands.
    is moments h held r (have_members c.soundness_by_number.ensures r premise) stands ∙ all_in_sight c.full_sight_shows_all.ensures r c.args.caller c.args.unit all)

pub returns-then-sees_by_interest-clause-reads_only : goal.returns-then-sees_by_interest-clause-reads_only
returns-then-sees_by_interest-clause-reads_only g c =
    let t = c.args.at in
    let when : to_z w64 (of_z w64 t) ≡ t = search rules in
    let entries = c.in_ok-entries.entries in
    let by = sym c.sees_by_interest.ensures ∙ c.if-sees_by_interest.true in
    look_after (state g.S.Store c.args.conn.now) (state g.S.Store c.entries.new.conn) (state g.S.Store c.entries_by_interest.new.conn) c.entries_by_interest.result (rw when at c.in_ok-entries.ensures.reads_only) (rw when at c.entries_by_interest.ensures.reads_only)
    (λ it clean same is shown moments h held r premise stands.
    let have = have_members c.soundness_by_number.ensures r premise in
    subst (λ (now : Database). ReadsPart (λ r. entries_by_interest r c.args.caller entries) t now.trees it) same shown moments h held r have stands
    ∙ ap (entries_by_interest r c.args.caller) (is moments h held r have stands) ∙ shown_in_sight c.interests_decide_sight.ensures r c.args.caller c.args.unit premise by)

pub returns-then-sees_by_pending-clause-reads_only : goal.returns-then-sees_by_pending-clause-reads_only
returns-then-sees_by_pending-clause-reads_only g c =
    let t = c.args.at in
    let party = c.args.caller.party in
    let when : to_z w64 (of_z w64 t) ≡ t = search rules in
    let entries = c.in_ok-entries.entries in
    let by = sym c.sees_by_pending.ensures ∙ c.if-sees_by_pending.true in
    look_after (state g.S.Store c.args.conn.now) (state g.S.Store c.entries.new.conn) (state g.S.Store c.pending_entries.new.conn) c.pending_entries.result (rw when at c.in_ok-entries.ensures.reads_only) (rw when at c.pending_entries.ensures.reads_only)
    (λ it clean same is kept moments h held r premise stands.
    let have = have_members c.soundness_by_number.ensures r premise in
    subst (λ (now : Database). ReadsPart (λ r. pending_entries r party c.args.unit entries) t now.trees it) same kept moments h held r have stands
    ∙ ap (pending_entries r party c.args.unit) (is moments h held r have stands) ∙ awaited_in_sight c.pending_units_are_visible.ensures r c.args.caller c.args.unit premise by)

pub returns-in_err-listed-clause-reads_only : goal.returns-in_err-listed-clause-reads_only
returns-in_err-listed-clause-reads_only g c =
    look_fails (state g.S.Store c.args.conn.now) (state g.S.Store c.entries.new.conn) (state g.S.Store c.sight.new.conn) c.from_residual-in_err-listed.result c.from_residual-in_err-listed.ensures.0 c.in_ok-entries.ensures.reads_only c.in_err-listed.ensures.reads_only

pub returns-in_err-listed_entries-clause-reads_only : goal.returns-in_err-listed_entries-clause-reads_only
returns-in_err-listed_entries-clause-reads_only g c =
    let a = state g.S.Store c.args.conn.now in
    let d = state g.S.Store c.sight.new.conn in
    let two : IsStoreRead {X = Unit {0}} {E = ReadFault} (Ok tt) (λ _. Unit {0}) a d = look_then a (state g.S.Store c.entries.new.conn) d c.in_ok-entries.ensures.reads_only c.in_ok-listed.ensures.reads_only (λ _ _ _ _. tt) in
    look_lost a d c.from_residual-in_err-listed_entries.result c.from_residual-in_err-listed_entries.ensures.0 two

pub returns-clause-reads_only : goal.returns-clause-reads_only
returns-clause-reads_only g c =
    let a = state g.S.Store c.args.conn.now in
    let b = state g.S.Store c.entries.new.conn in
    let d = state g.S.Store c.sight.new.conn in
    let t = c.args.at in
    let when : to_z w64 (of_z w64 t) ≡ t = search rules in
    let entries = c.in_ok-entries.entries in
    let listed = c.in_ok-listed.listed in
    let both : IsStoreRead {X = Unit {0}} {E = ReadFault} (Ok tt) (λ _. AreListed t a.now.trees c.args.caller c.args.unit entries listed) a d =
    look_then a b d (rw when at c.in_ok-entries.ensures.reads_only) (rw when at c.in_ok-listed.ensures.reads_only)
    (λ clean same one two. (one, subst (λ (now : Database). IsSight c.args.caller Rrr t now.trees listed) same two)) in
    let kept = rw c.as_slice.ensures at c.in_ok-listed_entries.ensures in
    look_told a d _ both
    (λ clean both moments h held r premise stands.
    kept ∙ ap (entries_where (λ n e. list_any (nat_eq n) listed)) (both.0 moments h held r (have_members c.soundness_by_number.ensures r premise) stands)
    ∙ listed_in_sight c.seen_lists_are_exact.ensures r c.args.caller c.args.unit listed (both.1 moments h held r premise stands))
