use Rattle.std.proofs.Common.{arith}
use Rattle.land_wire_json.proofs.DecimalLemmas.{next_digit}
use Rattle.land_wire_json.proofs.bodies.decimals.value_of.Goals as goal

pub overflow_mul-value : goal.overflow_mul-value
overflow_mul-value c =
    let next = next_digit c.args.digits.now c.loop-digit.digit-index c.loop-digit.value c.requires.are_digits c.requires.few (omega arith) c.loop-digit.invariant in
    omega (arith, next.1)

pub overflow_add-value : goal.overflow_add-value
overflow_add-value c =
    let next = next_digit c.args.digits.now c.loop-digit.digit-index c.loop-digit.value c.requires.are_digits c.requires.few (omega arith) c.loop-digit.invariant in
    omega (arith, next.1)

pub loop-digit-preserved : goal.loop-digit-preserved
loop-digit-preserved c =
    let next = next_digit c.args.digits.now c.loop-digit.digit-index c.loop-digit.value c.requires.are_digits c.requires.few (omega arith) c.loop-digit.invariant in
    rw c.from.ensures next.0
