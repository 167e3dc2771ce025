-- A number that no object can have returns only what all numbers return.
use Rattle.std.proofs.Common.{◌≡◌, ◌↔◌, ℕ, ℤ, List, Bool, true, false, if◌then◌else◌, refl, sym, ap, ◌∙◌, true≢false}
use Rattle.land_core.specs.Numbers.{is_number}
use Rattle.land_core.specs.declared.mutation.MutationRecord.{MutationRecord}
use Rattle.land_core.specs.declared.party.PartyRecord.{PartyRecord}
use Rattle.land_select_queries.proofs.Places.{members, mutations, parties, row_of, rrrs}
use Rattle.land_select_queries.proofs.Selected.{of, version}
use Rattle.land_select_queries.specs.Joins.Execution.{known_or_zero}
use Rattle.land_select_queries.specs.Sights.Selections.{LodgedPending, Entry, IsCurrent, selects}
use Rattle.land_select_queries.specs.declared.sights.selection.Selection.{Selection}
use Rattle.land_select_queries.specs.declared.sights.selection.Selection.TheVariants as selection
use Rattle.land_tables_history.specs.declared.group_member.GroupMember.{GroupMember}
use Rattle.land_tables_history.specs.declared.history.History.{History}
use Rattle.land_tables_history.specs.declared.moment.Moment.{Moment}
use Rattle.land_tables_rows.specs.Writing.History.{HoldsHistory}
use Rattle.sqlite_trees.specs.Tree.{Trees}

module _ (db : Trees) (moments : List Moment) (h : History) (held : HoldsHistory db moments h) (t : ℤ) (number : ℕ) where
  party_within : (p : ℕ × PartyRecord) → IsCurrent t h.parties p → is_number p.0 ≡ true
  party_within p stands = let v = version t h.parties p stands in (row_of db moments h held parties (of p v.since v.until) v.has).2.1

  member_within : (m : GroupMember) → IsCurrent t h.members m → is_number m.member.party ≡ true
  member_within m stands = let v = version t h.members m stands in (row_of db moments h held members (of m v.since v.until) v.has).2.1.0

  entry_within : (e : Entry) → IsCurrent t h.rrrs e → is_number e.1.party ≡ true
  entry_within e stands = let v = version t h.rrrs e stands in (row_of db moments h held rrrs (of e v.since v.until) v.has).2.1.0

  lodger_within : (m : ℕ × MutationRecord) → IsCurrent t h.mutations m → is_number m.1.lodger ≡ true
  lodger_within m stands = let v = version t h.mutations m stands in (row_of db moments h held mutations (of m v.since v.until) v.has).2.1.0

  -- a caller that is in a table has a number in range
  somebody : (n caller : ℕ) → n ≡ caller → is_number n ≡ true → is_number caller ≡ true
  somebody n caller same within = ap is_number (sym same) ∙ within

  lodged : (caller unit : ℕ) → LodgedPending t h caller unit → is_number caller ≡ true
  lodged caller unit a = somebody a.mutation.1.lodger caller a.lodger (lodger_within a.mutation a.mutation_stands)

  none : {X : Type 0} (caller : ℕ) → is_number caller ≡ false → is_number caller ≡ true → X
  none caller out within = absurd (true≢false (sym within ∙ out))

  -- two callers out of range get the same numbers
  alike : (s : Selection) (caller other : ℕ) → is_number caller ≡ false → selects s t h caller number → selects s t h other number
  alike (selection.All k) caller other out x = x
  alike selection.UnendedUnits caller other out x = x
  alike selection.UnendedParcels caller other out x = x
  alike selection.Itself caller other out x = none caller out (somebody x.0.0 caller x.2 (party_within x.0 x.1))
  alike selection.ItsGroups caller other out x = none caller out (somebody x.0.member.party caller x.2 (member_within x.0 x.1))
  alike selection.ItsLodgings caller other out x = none caller out (somebody x.0.1.lodger caller x.2 (lodger_within x.0 x.1))
  alike selection.HeldUnits caller other out x = none caller out (somebody x.0.1.party caller x.1.party (entry_within x.0 x.1.stands))
  alike selection.GroupUnits caller other out x = none caller out (somebody x.1.joined.member.party caller x.1.member (member_within x.1.joined x.1.joined_stands))
  alike selection.HeldEntries caller other out x = none caller out (somebody x.1.held.1.party caller x.1.interest.party (entry_within x.1.held x.1.interest.stands))
  alike selection.GroupEntries caller other out x = none caller out (somebody x.1.interest.joined.member.party caller x.1.interest.member (member_within x.1.interest.joined x.1.interest.joined_stands))
  alike selection.HeldParties caller other out x = none caller out (somebody x.1.held.1.party caller x.1.interest.party (entry_within x.1.held x.1.interest.stands))
  alike selection.GroupParties caller other out x = none caller out (somebody x.1.interest.joined.member.party caller x.1.interest.member (member_within x.1.interest.joined x.1.interest.joined_stands))
  alike selection.HeldMutations caller other out x = none caller out (somebody x.1.held.1.party caller x.1.interest.party (entry_within x.1.held x.1.interest.stands))
  alike selection.GroupMutations caller other out x = none caller out (somebody x.1.interest.joined.member.party caller x.1.interest.member (member_within x.1.interest.joined x.1.interest.joined_stands))
  alike selection.CreditUnits caller other out x = none caller out (somebody x.0.1.party caller x.1.party (entry_within x.0 x.1.stands))
  alike selection.CreditEntries caller other out x = none caller out (somebody x.1.held.1.party caller x.1.interest.party (entry_within x.1.held x.1.interest.stands))
  alike selection.CreditParties caller other out x = none caller out (somebody x.1.held.1.party caller x.1.interest.party (entry_within x.1.held x.1.interest.stands))
  alike selection.LodgedUnits caller other out x = none caller out (lodged caller x.0.0 x.2)
  alike selection.LodgedEntries caller other out x = none caller out (lodged caller x.0.1.unit x.1.awaits)
  alike selection.LodgedParties caller other out x = none caller out (lodged caller x.0.1.unit x.1.awaits)

  -- so a caller gets what its replacement gets
  pub asked_so : (s : Selection) (caller : ℕ) → selects s t h (known_or_zero caller) number ↔ selects s t h caller number
  asked_so s caller = go (is_number caller) refl
    where
      go : (b : Bool) → is_number caller ≡ b → selects s t h (if b then caller else 0) number ↔ selects s t h caller number
      go true is = ((λ x. x), (λ x. x))
      go false is = (alike s 0 caller refl, alike s caller 0 is)
