-- Decoding in steps: composing steps and taking them apart.
use Rattle.std.proofs.Common.{◌≡◌, Result, Ok, Err, refl}
use Rattle.land_wire_json.specs.Bodies.WireFaults.{◌>>=◌}
use Rattle.land_wire_json.specs.declared.bodies.wire_fault.WireFault.{WireFault}

-- a step that succeeds, and the result of the steps after it
pub record Stepped {A B : Type 0} (first : Result A WireFault) (next : A → Result B WireFault) (answer : B) : Type 0 where
  pub given : A
  pub is : first ≡ Ok given
  pub rest : next given ≡ Ok answer

pub stepped : {A B : Type 0} (first : Result A WireFault) (next : A → Result B WireFault) (answer : B) → (first >>= next) ≡ Ok answer → Stepped first next answer
stepped (Ok given) next answer e = record { given = given; is = refl; rest = e }
stepped (Err fault) next answer e = let never : ⊥ = cc in absurd never

pub same_value : {A : Type 0} (x y : A) → ◌≡◌ {A = Result A WireFault} (Ok x) (Ok y) → x ≡ y
same_value x y e = cc
