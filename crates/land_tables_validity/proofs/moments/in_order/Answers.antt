use Rattle.std.proofs.Common.{rules, subst, List, IsPermutation}
use Rattle.std.proofs.lemmas.List.Sorted.{answers_always}
use Rattle.land_tables_history.specs.declared.moment.Moment.{Moment}
use Rattle.land_tables_validity.proofs.moments.in_order.Goals as goal

pub returns-clause-same : goal.returns-clause-same
returns-clause-same c =
    subst (λ (l : List Moment). IsPermutation l c.sort_unstable_by_key.new.self.items)
    c.in_ok-sorted.ensures c.sort_unstable_by_key.ensures.permutation

pub returns-clause-sorted : goal.returns-clause-sorted
returns-clause-sorted c = c.sort_unstable_by_key.ensures.sorted (λ m. m.stamp) (answers_always _ _ _ (λ f a r g called. search rules))
