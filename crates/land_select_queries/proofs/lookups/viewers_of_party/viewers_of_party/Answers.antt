use Rattle.std.proofs.Common.{rules, ◌≡◌, ◌≤◌, ◌<◌, ◌∙◌, length, to_z, of_z, w64, Ok, Err, sym}
use Rattle.std.proofs.lemmas.Bool.{leb-true, leb-false}
use Rattle.land_select_queries.proofs.Counted.{none_held, numbers_told}
use Rattle.land_select_queries.proofs.Records.{none_held as none_held_after}
use Rattle.land_select_queries.specs.Lookups.Viewers.{IsViewer}
use Rattle.land_tables_schema.proofs.Looking.{look_told}
use Rattle.sqlite.specs.Held.{state}
use Rattle.land_select_queries.proofs.lookups.viewers_of_party.viewers_of_party.Goals as goal

pub returns-then-not-are_within_limit-clause-reads_only : goal.returns-then-not-are_within_limit-clause-reads_only
returns-then-not-are_within_limit-clause-reads_only g c =
    let when : to_z w64 (of_z w64 c.args.at) ≡ c.args.at = search rules in
    let reads_only = rw when at c.in_ok-rows.ensures.reads_only in
    let rows = c.in_ok-rows.rows.items in
    let many : 16 < length rows = leb-false (length rows) 16 (sym (rw c.as_slice.ensures.value at c.are_within_limit.ensures) ∙ c.if-not-are_within_limit.true) in
    look_told (state g.S.Store c.args.conn.now) (state g.S.Store c.rows_of.new.conn) _ reads_only (λ clean are. are.many many)

pub returns-clause-reads_only : goal.returns-clause-reads_only
returns-clause-reads_only g c =
    let old = state g.S.Store c.args.conn.now in
    let relation = c.args.relation in
    let party = c.args.party in
    let t = c.args.at in
    let when : to_z w64 (of_z w64 t) ≡ t = search rules in
    let reads_only = rw when at c.in_ok-rows.ensures.reads_only in
    let rows = c.in_ok-rows.rows.items in
    let few : length rows ≤ 16 = leb-true (length rows) 16 (sym (rw c.as_slice.ensures.value at c.are_within_limit.ensures) ∙ c.if-not-are_within_limit.false) in
    let read = rw c.as_slice-2.ensures.value at c.in_ok-told.ensures in
    look_told old (state g.S.Store c.rows_of.new.conn) _ reads_only
    (λ clean are. numbers_told (λ h. IsViewer relation t h party) old.now.trees rows (are.few few) (Ok c.in_ok-told.told) read)

pub returns-in_err-told-clause-unreadable : goal.returns-in_err-told-clause-unreadable
returns-in_err-told-clause-unreadable g c clean =
    let trees = (state g.S.Store c.args.conn.now).now.trees in
    let relation = c.args.relation in
    let party = c.args.party in
    let t = c.args.at in
    let when : to_z w64 (of_z w64 t) ≡ t = search rules in
    let reads_only = rw when at c.in_ok-rows.ensures.reads_only in
    let rows = c.in_ok-rows.rows.items in
    let few : length rows ≤ 16 = leb-true (length rows) 16 (sym (rw c.as_slice.ensures.value at c.are_within_limit.ensures) ∙ c.if-not-are_within_limit.false) in
    let fault = c.in_err-told.field-0.0 in
    let read = rw c.as_slice-2.ensures.value at c.in_err-told.ensures in
    none_held_after trees c.from_residual-in_err-told.result fault c.from_residual-in_err-told.ensures.1 (none_held (λ h. IsViewer relation t h party) trees rows ((reads_only.given clean).few few) (Err fault) read)
