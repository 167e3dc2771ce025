-- Laws of the definitions
use Rattle.std.specs.Prelude.{◌≡◌, ℕ, List, Result}
use Rattle.land_shape.specs.declared.faults.ShapeFault.{ShapeFault}
use Rattle.land_shape.specs.Faults.{IsFirstFault, Denotes, IsOutlineAnswer}
use Rattle.land_shape.specs.Outline.{IsOutline}
use Rattle.land_shape.specs.Place.{Place}
use Rattle.land_shape.specs.Printed.{polygon_text}

-- the canonical form of a ring denotes that ring and no other
pub record PrintedLaw : Type 0 where
  pub stands : (ring : List Place) → IsOutline ring → Denotes (polygon_text ring) ring
  pub alone : (ring other : List Place) → IsOutline ring → Denotes (polygon_text ring) other → other ≡ ring

-- a text does not have two results: it denotes at most one ring, has at most one first fault, and not both
pub record OneAnswerLaw : Type 0 where
  pub one_ring : (text : List ℕ) (ring other : List Place) → Denotes text ring → Denotes text other
      → ring ≡ other
  pub one_fault : (text : List ℕ) (fault other : ShapeFault) → IsFirstFault text fault
      → IsFirstFault text other
      → fault ≡ other
  pub not_both : (text : List ℕ) (ring : List Place) (fault : ShapeFault) → Denotes text ring
      → ¬ IsFirstFault text fault

-- each text has a result: the ring that it denotes, or a first fault
abbrev pub OutlineAnswerLaw : Type 0
OutlineAnswerLaw = (text : List ℕ) → (answer : Result (List Place) ShapeFault) × IsOutlineAnswer text answer
