use Rattle.std.proofs.Common.{◌≡◌, ◌+◌, ◌++◌, ◌∷◌, ap, append_assoc, arith, drop, flat_map, sym, ◌∙◌}
use Rattle.std.proofs.lemmas.Grind.{common_steps}
use Rattle.land_tables_validity.specs.KeyPairs.{key_spans}
use Rattle.land_tables_validity.specs.NamedUnits.{named_pairs}
use Rattle.land_tables_validity.proofs.namings.add_mutations.Goals as goal

pub loop-mutation-preserved : goal.loop-mutation-preserved
loop-mutation-preserved c =
    let mutation = c.mutation-item.result in
    let later = drop (c.loop-mutation.mutation-index + 1) c.args.mutations.now in
    let to_come : drop c.loop-mutation.mutation-index c.args.mutations.now ≡ mutation ∷ later = grind (arith, common_steps) in
    ap (λ l. l ++ flat_map (key_spans c.args.required named_pairs) later) c.in_ok-add_mutation.ensures
    ∙ append_assoc c.loop-mutation.coverage_spans.items (key_spans c.args.required named_pairs mutation)
    (flat_map (key_spans c.args.required named_pairs) later)
    ∙ ap (λ l. c.loop-mutation.coverage_spans.items ++ flat_map (key_spans c.args.required named_pairs) l) (sym to_come)
    ∙ c.loop-mutation.invariant
