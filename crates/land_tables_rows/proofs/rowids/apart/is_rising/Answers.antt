use Rattle.std.proofs.Common.{rules, int_lt}
use Rattle.std.proofs.lemmas.List.Sorted.{answers_always}
use Rattle.land_tables_rows.proofs.RowidOrders.{rising}
use Rattle.land_tables_rows.proofs.rowids.apart.is_rising.Goals as goal

pub returns : goal.returns
returns c = rising c.args.ids.now c.is_sorted_by.result (c.is_sorted_by.ensures.cases int_lt (answers_always _ _ _ (λ f a r g called. search rules)))
