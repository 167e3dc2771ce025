use Rattle.std.proofs.Common.{SFits, w64, refl, append_assoc, rules}
use Rattle.std.proofs.lemmas.Int.{to_z-of_z}
use Rattle.land_wire_json.proofs.Steps.{then}
use Rattle.land_wire_json.proofs.texts.mutation.write_mutation.Goals as goal

pub returns : goal.returns
returns c =
    let moment : SFits w64 c.args.mutation.now.lodged = search rules in
    record {
      added = then c.end_object.result c.end_object.ensures.ok
          (λ e. rw (
            e,
            c.in_ok-write_fields.ensures.added,
            c.state_word.ensures,
            c.as_str.ensures,
            c.in_ok-write_content.ensures.added,
            c.in_ok-key.ensures.ok,
            c.in_ok-write_text.ensures.added,
            c.act_word.ensures,
            c.in_ok-begin_object.ensures.ok,
          )
          (simp (append_assoc, to_z-of_z) refl));
      before = search rules;
    }
