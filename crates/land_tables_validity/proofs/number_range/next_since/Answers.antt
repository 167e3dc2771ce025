use Rattle.std.proofs.Common.{rules, ◌≡◌, ◌∙◌, ap, to_z, of_z, w64, pos}
use Rattle.std.proofs.lemmas.List.Sorted.{answers_always}
use Rattle.land_tables_validity.proofs.NextNumbers.{found_next, no_next}
use Rattle.land_tables_validity.specs.NumbersInUse.{next_since}
use Rattle.land_tables_validity.proofs.number_range.next_since.Goals as goal

pub bounds-moments-at : goal.bounds-moments-at
bounds-moments-at c = c.in-Ok.ensures.bound

pub returns-in-Ok : goal.returns-in-Ok
returns-in-Ok c =
    let since : to_z w64 (of_z w64 c.args.since) ≡ c.args.since = search rules in
    found_next c.args.moments.now (to_z w64 (of_z w64 c.args.since)) c.requires.up c.in-Ok.at c.in-Ok.ensures.bound
    (c.in-Ok.ensures.position (λ m. m.stamp) (answers_always _ _ _ (λ f a r g called. search rules))) (record { stamp = pos 0; next = 0 })
    ∙ ap (next_since c.args.moments.now) since

pub returns-in-Err : goal.returns-in-Err
returns-in-Err c =
    let since : to_z w64 (of_z w64 c.args.since) ≡ c.args.since = search rules in
    no_next c.args.moments.now (to_z w64 (of_z w64 c.args.since)) c.requires.sorted c.in-Err.field-0
    (c.in-Err.ensures.position (λ m. m.stamp) (answers_always _ _ _ (λ f a r g called. search rules)))
    ∙ ap (next_since c.args.moments.now) since
