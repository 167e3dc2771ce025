use Rattle.std.proofs.Common.{◌∙◌, codes}
use Rattle.land_wire_json.specs.Texts.Objects.{object_data}
use Rattle.land_wire_json.specs.Texts.Values.{one_member}
use Rattle.serde_json.proofs.Texts.{print-outline}
use Rattle.land_wire.proofs.text.object_text.Goals as goal

pub returns : goal.returns
returns c =
    c.text_of.ensures
    ∙ rw (c.in_ok-end_object.ensures.ok, c.in_ok-write_object_json.ensures.added, c.in_ok-key.ensures.ok, c.in_ok-begin_object.ensures.ok, c.in_ok-out.ensures.tokens)
    (print-outline (one_member (codes "object") (object_data c.args.object.now)))
