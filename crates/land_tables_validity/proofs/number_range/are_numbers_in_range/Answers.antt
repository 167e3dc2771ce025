use Rattle.std.proofs.Common.{◌≡◌, ◌↔◌, ◌∙◌, ap, subst, sym, Bool, true}
use Rattle.std.specs.List.Sorted.{IsSorted}
use Rattle.land_core.specs.Soundness.{has_rank_out_of_range, has_unused_number, exceeds_last_number}
use Rattle.land_tables_validity.proofs.MomentOrders.{goes_up_in_order}
use Rattle.land_tables_validity.proofs.UsedNumbers.{all_used}
use Rattle.land_tables_validity.specs.Chains.{is_increasing, stamp_cmp}
use Rattle.land_tables_validity.specs.Never.{Never}
use Rattle.land_tables_validity.specs.NumbersInUse.{are_all_in_range}
use Rattle.land_tables_validity.proofs.number_range.are_numbers_in_range.Goals as goal

pub are_all_in_range-requires : goal.are_all_in_range-requires
are_all_in_range-requires c = record {
  sorted = subst (IsSorted stamp_cmp) (sym c.as_slice.ensures.value) c.in_ok-sorted.ensures.sorted;
  up =
      ap is_increasing c.as_slice.ensures.value
      ∙ goes_up_in_order c.args.moments.now c.in_ok-sorted.sorted.items c.in_ok-sorted.ensures.same
      c.in_ok-sorted.ensures.sorted c.requires.moments;
}

pub returns : goal.returns
returns c =
    subst (λ (b : Bool). (b ≡ true) ↔ (Never exceeds_last_number c.args.moments.now c.args.history.now
    × Never has_unused_number c.args.moments.now c.args.history.now × Never has_rank_out_of_range c.args.moments.now c.args.history.now))
    (sym (c.are_all_in_range.ensures ∙ ap (λ ms. are_all_in_range ms c.args.history.now) c.as_slice.ensures.value))
    (all_used c.args.moments.now c.in_ok-sorted.sorted.items c.args.history.now c.in_ok-sorted.ensures.same
    c.in_ok-sorted.ensures.sorted c.requires.intervals c.requires.moments)
