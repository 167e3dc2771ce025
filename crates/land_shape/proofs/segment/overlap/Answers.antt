use Rattle.std.proofs.Common.{◌≡◌, ◌↔◌, IsTrue, true, sym, arith, w64, to_z, of_z}
use Rattle.std.proofs.lemmas.Int.{ints, clamps}
use Rattle.std.specs.Int.{int_min, int_max}
use lib.IntN.{ℤ}
use lib.Signed.{le_z}
use mir.Val.{SFits}
use Rattle.land_shape.specs.Turns.{Overlap}
use Rattle.land_shape.proofs.segment.overlap.Goals as goal

last_test : (a b c d p q r s : ℤ) → SFits w64 a → SFits w64 b → SFits w64 c → SFits w64 d
    → SFits w64 p → SFits w64 q → SFits w64 r → SFits w64 s
    → p ≡ int_min (to_z w64 (of_z w64 c)) (to_z w64 (of_z w64 d)) → q ≡ int_max (to_z w64 (of_z w64 a)) (to_z w64 (of_z w64 b))
    → r ≡ int_min (to_z w64 (of_z w64 a)) (to_z w64 (of_z w64 b)) → s ≡ int_max (to_z w64 (of_z w64 c)) (to_z w64 (of_z w64 d))
    → le_z (to_z w64 (of_z w64 p)) (to_z w64 (of_z w64 q)) ≡ true
    → IsTrue (le_z (to_z w64 (of_z w64 r)) (to_z w64 (of_z w64 s))) ↔ Overlap a b c d
last_test a b c d p q r s fa fb fc fd fp fq fr fs ep eq er es h = (
  λ t. record { low = omega (arith, ints, clamps); high = omega (arith, ints, clamps) },
  λ o. let g = o.high in sym (omega (arith, ints, clamps)),
)

pub returns-then-min-max : goal.returns-then-min-max
returns-then-min-max c =
    last_test c.args.a c.args.b c.args.c c.args.d _ _ _ _ c.ranges.a c.ranges.b c.ranges.c c.ranges.d
    (record { sfits = c.min.type_inv }) (record { sfits = c.max.type_inv })
    (record { sfits = c.min-then-min-max.type_inv }) (record { sfits = c.max-then-min-max.type_inv })
    c.min.ensures.value c.max.ensures.value c.min-then-min-max.ensures.value c.max-then-min-max.ensures.value
    c.if-min-max.true
