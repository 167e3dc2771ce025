use Rattle.std.proofs.Common.{refl, append_assoc, rules}
use Rattle.land_wire_json.proofs.Steps.{joined, then}
use Rattle.land_wire_json.proofs.texts.fields.write_object.Goals as goal

pub returns : goal.returns
returns c = record {
  added = then c.end_object.result c.end_object.ensures.ok
      (λ e. rw (e, c.in_ok-write_fields.ensures.added, c.in_ok-begin_object.ensures.ok) (simp (append_assoc, joined) refl));
  before = search rules;
}
