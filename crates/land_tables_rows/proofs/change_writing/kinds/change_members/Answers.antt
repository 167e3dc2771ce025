use Rattle.std.proofs.Common.{◌≡◌, ◌∙◌, ◌++◌, ℕ, Bool, true, List, Ok, ap, map, of_z, rules, subst, sym, to_z, w64}
use Rattle.std.specs.List.{list_all, list_any}
use Rattle.std.specs.Prelude.{nat_eq}
use Rattle.std.proofs.lemmas.Bool.{and_parts}
use Rattle.land_core.specs.Numbers.{is_number}
use Rattle.land_tables_history.specs.Changed.{listed_members}
use Rattle.land_tables_history.specs.Written.{existing_records}
use Rattle.land_tables_history.specs.declared.group_member.GroupMember.{GroupMember}
use Rattle.land_tables_rows.proofs.Fitting.{groups_known, members_fit}
use Rattle.land_tables_rows.proofs.Loops.{changes, more_closed, step_after}
use Rattle.land_tables_rows.specs.Member.Writing.{fits_member, member_reading}
use Rattle.land_tables_rows.specs.Recording.Whole.{fits_group}
use Rattle.land_tables_rows.specs.Writing.Holding.{ClosesVersions}
use Rattle.land_tables_schema.proofs.Steps.{step_then}
use Rattle.land_tables_schema.specs.Steps.{IsTransactionStep}
use Rattle.sqlite.specs.Held.{state}
use Rattle.sqlite.specs.declared.error.Error.{Error}
use Rattle.land_tables_rows.proofs.change_writing.kinds.change_members.Goals as goal

pub close_put-requires-clause-fits : goal.close_put-requires-clause-fits
close_put-requires-clause-fits g c =
    let groups = c.args.put.now in
    subst (λ l. list_all (λ e. is_number e.0) l ≡ true) (sym c.as_slice-2.ensures) (groups_known groups (and_parts (list_all fits_group groups) (list_all is_number c.args.ended.now) c.requires.fits).0)

pub begin_all-requires-clause-fits : goal.begin_all-requires-clause-fits
begin_all-requires-clause-fits g c =
    let groups = c.args.put.now in
    let listed : c.as_slice-4.result.now ≡ listed_members groups = c.as_slice-4.ensures ∙ c.in_ok-listed.ensures ∙ ap listed_members c.as_slice.ensures in
    subst (λ l. list_all fits_member l ≡ true) (sym listed) (members_fit groups (and_parts (list_all fits_group groups) (list_all is_number c.args.ended.now) c.requires.fits).0)

pub returns-clause-step : goal.returns-clause-step
returns-clause-step g c =
    let stamp : to_z w64 (of_z w64 c.args.stamp) ≡ c.args.stamp = search rules in
    let groups = c.args.put.now in
    let ended = c.args.ended.now in
    let listed : c.as_slice-4.result.now ≡ listed_members groups = c.as_slice-4.ensures ∙ c.in_ok-listed.ensures ∙ ap listed_members c.as_slice.ensures in
    let keys : List ℕ = map (λ e. e.0) (existing_records (λ e. e.0) c.args.next groups) in
    let has : GroupMember → ℕ → Bool = λ e group. nat_eq e.group group in
    let a = state g.S.Store c.args.tx.now.conn.now in
    let b = state g.S.Store c.close_put.new.tx.conn.now in
    let d = state g.S.Store c.close_all.new.tx.conn.now in
    let e = state g.S.Store c.begin_all.new.tx.conn.now in
    let first = rw (c.as_slice-2.ensures, stamp) at c.in_ok-close_put.ensures.step in
    let next = rw (c.as_slice-3.ensures, stamp) at c.in_ok-close_all.ensures.step in
    let last = rw (listed, stamp) at c.begin_all.ensures.step in
    let ends : IsTransactionStep {X = Unit {0}} {E = Error} (Ok tt) (ClosesVersions member_reading (λ x. list_any (has x) (keys ++ ended)) c.args.stamp) a d =
    step_then a b d first next (λ clean far one. more_closed member_reading has c.args.stamp c.requires.moment keys ended _ _ _ far one) in
    step_after a d e c.begin_all.result ends last (λ clean far one. changes member_reading (listed_members groups) (λ x. list_any (has x) (keys ++ ended)) c.args.stamp _ _ _ far one)
