use Rattle.std.proofs.Common.{rules, ◌≡◌, to_z, of_z, w64, ◌∙◌, inl, inr}
use Rattle.land_acts.specs.Slices.{mutations_in_slice}
use Rattle.land_select.proofs.SlicedRegisters.{about_none, look_so, no_look_needed}
use Rattle.land_select_queries.specs.Lookups.Parts.{ReadsPart}
use Rattle.land_tables_schema.specs.Rows.ReadQueries.{IsStoreRead}
use Rattle.sqlite.specs.Held.{state}
use Rattle.land_select.proofs.slices.mutations.mutations_of.Goals as goal

pub returns-in-Lodge-clause-reads_only : goal.returns-in-Lodge-clause-reads_only
returns-in-Lodge-clause-reads_only g c =
    let a = state g.S.Store c.args.conn.now in
    let b = state g.S.Store c.find_lodged.new.conn in
    let caller = c.args.caller in
    let when : to_z w64 (of_z w64 c.args.at) ≡ c.args.at = search rules in
    let reads_only = rw (when, c.as_str.ensures) at c.find_lodged.ensures.reads_only in
    let read : IsStoreRead c.find_lodged.result (ReadsPart (λ r. mutations_in_slice r caller c.args.act.now) c.args.at a.now.trees) a b = rw c.in-Lodge.is reads_only in
    look_so a b c.find_lodged.result read (λ it read moments h held r have stands given. read moments h held r have stands)

-- the mutation that is approved or refused
pub returns-in-Approve-clause-reads_only : goal.returns-in-Approve-clause-reads_only
returns-in-Approve-clause-reads_only g c =
    let a = state g.S.Store c.args.conn.now in
    let b = state g.S.Store c.decided_mutation.new.conn in
    let when : to_z w64 (of_z w64 c.args.at) ≡ c.args.at = search rules in
    let reads_only = rw when at c.decided_mutation.ensures.reads_only in
    let read = look_so a b c.decided_mutation.result reads_only (λ it read moments h held r have stands given. read moments h held r have stands c.args.caller given) in
    elim c.in-Approve.is [ inl is ↦ rw is read | inr is ↦ rw is read ]

pub returns-in_default : goal.returns-in_default
returns-in_default g c = record {
  reads_only = no_look_needed _ _ (state g.S.Store c.args.conn.now) c.requires.open
      (λ moments h held r have stands given. c.new.ensures ∙ about_none r c.args.caller c.args.act.now c.in_default.not-Lodge c.in_default.not-Approve c.in_default.not-Refuse);
  autocommit = λ autocommit. autocommit;
}
