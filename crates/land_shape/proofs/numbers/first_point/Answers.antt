use Rattle.std.proofs.Common.{◌∙◌, ap, length, Option, ℕ, unwrap_or, arith, not}
use Rattle.std.proofs.lemmas.List.Sums.{prefix_len-le-length}
use Rattle.land_shape.specs.Numbers.{is_point_byte}
use Rattle.land_shape.proofs.NumberLemmas.{first_found}
use Rattle.land_shape.proofs.numbers.first_point.Goals as goal

pub returns : goal.returns
returns c =
    let w = c.args.word.now in
    let value = c.unwrap_or.ensures ∙ ap (λ (o : Option ℕ). unwrap_or o (length w)) c.find_point.ensures ∙ first_found is_point_byte w in
    let few = prefix_len-le-length (λ x. not (is_point_byte x)) w in
    record { value = value; within = omega arith }
