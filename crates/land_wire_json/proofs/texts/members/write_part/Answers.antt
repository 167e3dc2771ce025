use Rattle.std.proofs.Common.{refl, append_assoc, rules}
use Rattle.land_wire_json.proofs.Steps.{part_ends, then}
use Rattle.land_wire_json.proofs.texts.members.write_part.Goals as goal

pub returns : goal.returns
returns c = record {
  added = then c.end_object.result c.end_object.ensures.ok
      (λ e. rw (e, c.in_ok-write_unit.ensures.added, c.in_ok-write_plan.ensures.added, c.as_str.ensures, c.in_ok-begin_object.ensures.ok) (simp (append_assoc, part_ends) refl));
  before = search rules;
}
