use Rattle.std.proofs.Common.{rules, ◌<◌, ◌/◌, arith, Ok, Err}
use Rattle.std.proofs.Math.Nat.{pos_of_dvd_of_pos}
use Rattle.land_fraction.specs.Ratio.{over, IsProper}
use Rattle.land_fraction.proofs.Fractions.{least_by_divisor, lowest_fraction, the_answer}
use Rattle.land_fraction.specs.declared.fault.FractionFault.TheVariants.{Zero, AboveOne, TooFine}
use Rattle.land_fraction.proofs.bounded.Fraction.new.Goals as goal

pub returns-then-n-eq0-clause-value : goal.returns-then-n-eq0-clause-value
returns-then-n-eq0-clause-value c = the_answer (over c.args.n c.args.d) (Err Zero) (search rules)

pub returns-then-n-d-clause-value : goal.returns-then-n-d-clause-value
returns-then-n-d-clause-value c = the_answer (over c.args.n c.args.d) (Err AboveOne) (omega arith, omega arith, omega arith)

pub nonzero_div-denominator : goal.nonzero_div-denominator
nonzero_div-denominator c = let above : 0 < c.args.d = omega arith in pos_of_dvd_of_pos c.greatest_divisor-divisor.ensures.second above

pub returns-then-denominator-gt-MAX_DENOMINATOR-clause-meaning :
    goal.returns-then-denominator-gt-MAX_DENOMINATOR-clause-meaning
returns-then-denominator-gt-MAX_DENOMINATOR-clause-meaning c =
    let least = least_by_divisor c.args.n c.args.d c.greatest_divisor-divisor.result (omega arith) c.greatest_divisor-divisor.ensures in
    (record { above_zero = omega arith; at_most_one = omega arith }, (c.args.d / c.greatest_divisor-divisor.result, least.0, omega arith))

pub returns-then-denominator-gt-MAX_DENOMINATOR-clause-value :
    goal.returns-then-denominator-gt-MAX_DENOMINATOR-clause-value
returns-then-denominator-gt-MAX_DENOMINATOR-clause-value c = the_answer (over c.args.n c.args.d) (Err TooFine) (returns-then-denominator-gt-MAX_DENOMINATOR-clause-meaning c)

pub nonzero_div-result : goal.nonzero_div-result
nonzero_div-result c = let above : 0 < c.args.d = omega arith in pos_of_dvd_of_pos c.greatest_divisor-divisor.ensures.second above

pub invariant_of-result : goal.invariant_of-result
invariant_of-result c =
    let least = least_by_divisor c.args.n c.args.d c.greatest_divisor-divisor.result (omega arith) c.greatest_divisor-divisor.ensures in
    let proper : IsProper (over c.args.n c.args.d) = record { above_zero = omega arith; at_most_one = omega arith } in
    lowest_fraction (over c.args.n c.args.d) _ _ proper least.0 least.1 (omega arith)

pub returns-clause-meaning : goal.returns-clause-meaning
returns-clause-meaning c =
    let least = least_by_divisor c.args.n c.args.d c.greatest_divisor-divisor.result (omega arith) c.greatest_divisor-divisor.ensures in
    let proper : IsProper (over c.args.n c.args.d) = record { above_zero = omega arith; at_most_one = omega arith } in
    (proper, lowest_fraction (over c.args.n c.args.d) _ _ proper least.0 least.1 (omega arith), least.1)

pub returns-clause-value : goal.returns-clause-value
returns-clause-value c = the_answer (over c.args.n c.args.d) (Ok _) (returns-clause-meaning c)
