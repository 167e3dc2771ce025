use Rattle.std.proofs.Common.{refl, append_assoc, rules}
use Rattle.land_wire_json.proofs.Steps.{then}
use Rattle.land_wire_json.proofs.texts.members.write_plan.Goals as goal

pub returns : goal.returns
returns c = record {
  added = then c.write_outline.result c.write_outline.ensures.added
      (λ e. rw (e, c.in_ok-key.ensures.ok, c.in_ok-write_text.ensures.added) (simp append_assoc refl));
  before = search rules;
}
