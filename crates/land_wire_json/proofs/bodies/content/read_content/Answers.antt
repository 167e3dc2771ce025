use Rattle.std.proofs.Common.{◌∙◌, ap₂, subst, Result}
use Rattle.land_core.specs.declared.content.Content.{Content}
use Rattle.land_wire_json.specs.Bodies.Mutations.{content_in}
use Rattle.land_wire_json.specs.Bodies.WireFaults.{Returns}
use Rattle.land_wire_json.specs.declared.bodies.wire_fault.WireFault.{WireFault}
use Rattle.land_wire_json.proofs.bodies.content.read_content.Goals as goal

pub returns-clause-back : goal.returns-clause-back
returns-clause-back c it h same_word same_text =
    let e = ap₂ content_in same_word same_text ∙ c.contents_round_trip.ensures it h in
    let P : Result Content WireFault → Type 0 = λ wanted. Returns (λ (it : Content). it) c.content_in.result wanted in
    subst P e c.content_in.ensures
