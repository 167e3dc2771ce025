use Rattle.std.proofs.Common.{rules, ℕ, ◌≡◌, ◌∷◌, [], to_z, of_z, w64, length, length-append, arith, refl, ap, ◌∙◌, Ok, subst}
use Rattle.land_core.specs.declared.sequence.Sequence.{Sequence}
use Rattle.land_select_queries.proofs.Streamed.{begun, ended, goes_on, lost, refused, stopped, unreadable}
use Rattle.land_select_queries.specs.Joins.Execution.{AreNumbersOf}
use Rattle.land_tables_rows.specs.declared.listing.fault.ReadFault.{ReadFault}
use Rattle.land_tables_schema.specs.Rows.ReadQueries.{IsStoreRead}
use Rattle.sqlite.specs.Held.{state}
use Rattle.sqlite.specs.State.{HasCleanDisk, State}
use Rattle.land_select_queries.proofs.joins.running.stream_numbers.Goals as goal

pub returns-in_err-rows-clause-reads_only : goal.returns-in_err-rows-clause-reads_only
returns-in_err-rows-clause-reads_only g c =
    let when : to_z w64 (of_z w64 c.args.at) ≡ c.args.at = search rules in
    let now = c.query.follows.lender-at-none in
    let held = rw (c.in_err-rows.was, c.text_of.ensures, c.of_number.ensures, c.known_or_zero.ensures, c.of_moment.ensures, when) at c.query.follows.holds-at-none in
    let r = c.from_residual.result in
    let it : IsStoreRead r (AreNumbersOf c.args.selection c.args.at c.args.caller (state g.S.Store c.args.conn.now).now.trees) (state g.S.Store c.args.conn.now) (state g.S.Store now) =
    refused g.S.Store c.args.selection c.args.caller c.args.at c.args.conn.now now c.requires.has_tables held.survives c.in_err-rows.field-0.0 r c.from_residual.ensures.0 held.err in
    search rules

pub rows-init : goal.rows-init
rows-init g c =
    let when : to_z w64 (of_z w64 c.args.at) ≡ c.args.at = search rules in
    let made = rw (c.text_of.ensures, c.of_number.ensures, c.known_or_zero.ensures, c.of_moment.ensures, when) at c.in_ok-rows.ensures in
    (refl, rw (when, c.new-found.ensures) (begun g.S.Store c.args.selection c.args.caller c.args.at c.args.conn.now c.in_ok-rows.rows.conn.now c.requires.has_tables made.survives made.begun made.mode))

pub returns-in_err-row-clause-reads_only : goal.returns-in_err-row-clause-reads_only
returns-in_err-row-clause-reads_only g c =
    let when : to_z w64 (of_z w64 c.args.at) ≡ c.args.at = search rules in
    let so_far = rw when at c.rows.invariant.1 in
    let moved = c.next.follows.holds-at-none in
    let now = c.next.follows.lender-at-none.conn.now in
    let kept = rw c.in_err-row.was at moved.kept in
    let r = c.from_residual-in_err-row.result in
    let it : IsStoreRead r (AreNumbersOf c.args.selection c.args.at c.args.caller (state g.S.Store c.args.conn.now).now.trees) (state g.S.Store c.args.conn.now) (state g.S.Store now) =
    stopped g.S.Store c.args.selection c.args.caller c.args.at c.args.conn.now c.rows.rows.conn.now now c.rows.found c.in_err-row.field-0.0 r c.from_residual-in_err-row.ensures.0 so_far kept moved.survives in
    search rules

pub rows-smaller : goal.rows-smaller
rows-smaller g c =
    let one = rw c.in_ok-push_number.was at c.push_number.ensures.ok in
    let fits = rw c.in_ok-push_number.was at c.push_number.ensures.fits in
    let more = ap length one.2 ∙ length-append c.rows.found (one.0 ∷ []) in
    omega (arith, more, fits)

pub rows-preserved : goal.rows-preserved
rows-preserved g c =
    let when : to_z w64 (of_z w64 c.args.at) ≡ c.args.at = search rules in
    let so_far = rw when at c.rows.invariant.1 in
    let moved = c.next.follows.holds-at-none in
    let now = c.next.follows.lender-at-none.conn.now in
    let one = rw c.in_ok-push_number.was at c.push_number.ensures.ok in
    let gives = rw (c.in_ok-row.was, c.in-Some.is) at moved.ok in
    let same = rw c.in_ok-row.was at moved.same in
    let next = goes_on g.S.Store c.args.selection c.args.caller c.args.at c.args.conn.now c.rows.rows.conn.now now c.requires.has_tables c.rows.found so_far same moved.survives c.in-Some.row.now one.0 moved.mode gives one.1 in
    (search rules, rw (when, one.2) next)

pub returns-in_err-push_number-clause-reads_only : goal.returns-in_err-push_number-clause-reads_only
returns-in_err-push_number-clause-reads_only g c =
    let when : to_z w64 (of_z w64 c.args.at) ≡ c.args.at = search rules in
    let so_far = rw when at c.rows.invariant.1 in
    let moved = c.next.follows.holds-at-none in
    let now = c.next.follows.lender-at-none.conn.now in
    let same = rw c.in_ok-row.was at moved.same in
    let r = c.from_residual-in_err-push_number.result in
    let it : IsStoreRead r (AreNumbersOf c.args.selection c.args.at c.args.caller (state g.S.Store c.args.conn.now).now.trees) (state g.S.Store c.args.conn.now) (state g.S.Store now) =
    lost g.S.Store c.args.selection c.args.caller c.args.at c.args.conn.now c.rows.rows.conn.now now c.requires.has_tables c.rows.found so_far same moved.survives r c.from_residual-in_err-push_number.ensures.0 in
    search rules

pub returns-in_err-push_number-clause-unreadable : goal.returns-in_err-push_number-clause-unreadable
returns-in_err-push_number-clause-unreadable g c clean =
    let when : to_z w64 (of_z w64 c.args.at) ≡ c.args.at = search rules in
    let so_far = rw when at c.rows.invariant.1 in
    let moved = c.next.follows.holds-at-none in
    let now = c.next.follows.lender-at-none.conn.now in
    let gives = rw (c.in_ok-row.was, c.in-Some.is) at moved.ok in
    let same = rw c.in_ok-row.was at moved.same in
    let wrong = rw c.in_err-push_number.was at c.push_number.ensures.err in
    let late : HasCleanDisk (state g.S.Store now) = search rules in
    unreadable g.S.Store c.args.selection c.args.caller c.args.at c.args.conn.now c.rows.rows.conn.now now c.requires.has_tables c.rows.found so_far same moved.survives c.in-Some.row.now c.in_err-push_number.field-0.0
    c.from_residual-in_err-push_number.result gives wrong c.from_residual-in_err-push_number.ensures.1 late

pub returns-clause-reads_only : goal.returns-clause-reads_only
returns-clause-reads_only g c =
    let when : to_z w64 (of_z w64 c.args.at) ≡ c.args.at = search rules in
    let so_far = rw when at c.rows.invariant.1 in
    let moved = c.next.follows.holds-at-none in
    let now = c.next.follows.lender-at-none.conn.now in
    let gives = rw (c.in_ok-row.was, c.in_default.is) at moved.ok in
    let same = rw c.in_ok-row.was at moved.same in
    let ReadsUntil : State → Type 0 = λ last. IsStoreRead {X = Sequence ℕ} {E = ReadFault} (Ok c.rows.found) (AreNumbersOf c.args.selection c.args.at c.args.caller (state g.S.Store c.args.conn.now).now.trees) (state g.S.Store c.args.conn.now) last in
    subst ReadsUntil (search rules)
    (ended g.S.Store c.args.selection c.args.caller c.args.at c.args.conn.now c.rows.rows.conn.now now c.requires.has_tables c.rows.found so_far same moved.survives gives)
