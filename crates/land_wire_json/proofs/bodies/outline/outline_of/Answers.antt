use Rattle.std.proofs.Common.{◌≡◌, ◌≢◌, ℕ, Bool, false, List, Result, Ok, Err, ap, sym, ◌∙◌}
use Rattle.std.proofs.lemmas.Bool.{false≢true}
use denote.Enum.Bare.{sameb}
use Rattle.land_shape.specs.Faults.{IsFirstFault, Denotes, IsOutlineAnswer}
use Rattle.land_shape.specs.Laws.{OneAnswerLaw}
use Rattle.land_shape.specs.Place.{Place}
use Rattle.land_shape.specs.contracts.faults.ShapeFault.{the_type}
use Rattle.land_shape.specs.declared.faults.ShapeFault.{ShapeFault}
use Rattle.land_shape.specs.declared.faults.ShapeFault.TheVariants as shape
use Rattle.land_wire_json.specs.Bodies.Outlines.{outline_answer, outline_of, ring_or_fault}
use Rattle.land_wire_json.specs.declared.bodies.wire_fault.WireFault.TheVariants as fault
use Rattle.land_wire_json.proofs.bodies.outline.outline_of.Goals as goal

ring_is : OneAnswerLaw → (text : List ℕ) (ring : List Place) → Denotes text ring → (answer : Result (List Place) ShapeFault) → IsOutlineAnswer text answer → ring_or_fault answer ≡ Ok ring
ring_is one text ring h (Ok other) right = ap Ok (one.one_ring text other ring right h)
ring_is one text ring h (Err f) right = absurd (one.not_both text ring f h right)

fault_is : OneAnswerLaw → (text : List ℕ) (f : ShapeFault) → IsFirstFault text f → (answer : Result (List Place) ShapeFault) → IsOutlineAnswer text answer → ring_or_fault answer ≡ Err (fault.Outline f)
fault_is one text f h (Ok ring) right = absurd (one.not_both text ring f right h)
fault_is one text f h (Err other) right = ap (λ g. Err (fault.Outline g)) (one.one_fault text other f right h)

pub returns-in-Ok : goal.returns-in-Ok
unfolding outline_of
returns-in-Ok c =
    ring_is c.one_answer.ensures c.args.text.now _ c.in-Ok.ensures.ring (outline_answer c.args.text.now) (c.outlines_are_answered.ensures c.args.text.now)

-- a fault that was compared with out of memory, and differs from it
other : (f : ShapeFault) (b : Bool) → b ≡ sameb the_type f shape.NoMemory → b ≡ false → f ≢ shape.NoMemory
other f b e differs h = false≢true (sym differs ∙ (e ∙ ap (λ g. sameb the_type g shape.NoMemory) h))

pub returns-in-Err-2 : goal.returns-in-Err-2
unfolding outline_of
returns-in-Err-2 c found =
    let first = c.in-Err.ensures.fault (other c.in-Err.fault c.eq.result c.eq.ensures c.if-eq.false) in
    fault_is c.one_answer.ensures c.args.text.now c.in-Err.fault first (outline_answer c.args.text.now) (c.outlines_are_answered.ensures c.args.text.now)
