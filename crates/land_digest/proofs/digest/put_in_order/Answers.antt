use Rattle.std.proofs.Common.{rules, subst}
use Rattle.std.specs.Result.{OnOk}
use Rattle.std.proofs.lemmas.List.Sorted.{answers_always}
use Rattle.land_digest.proofs.SortedEntries.{sorted_in_order}
use Rattle.land_digest.proofs.digest.put_in_order.Goals as goal
use Rattle.land_digest.specs.Entries.{Gains}
use Rattle.land_digest.specs.Events.{events_text}

pub returns : goal.returns
returns c =
    let sorted =
    c.sort_unstable_by_key.ensures.sorted (λ e. e.place)
    (answers_always _ _ _ (λ f a r g k. search rules)) in
    subst (λ es. OnOk c.put_entries.result (Gains c.args.hasher.now c.put_entries.new.hasher (events_text es)))
    (sorted_in_order c.args.entries.now _ c.sort_unstable_by_key.ensures.permutation sorted c.requires)
    c.put_entries.ensures
