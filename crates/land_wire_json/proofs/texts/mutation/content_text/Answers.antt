use Rattle.std.proofs.Common.{◌∙◌}
use Rattle.land_wire_json.specs.Texts.Mutations.{content_data}
use Rattle.serde_json.proofs.Texts.{print-outline}
use Rattle.land_wire_json.proofs.texts.mutation.content_text.Goals as goal

pub returns : goal.returns
returns c =
    c.text_of.ensures ∙ rw (c.in_ok-write_content.ensures.added, c.in_ok-out.ensures.tokens) (print-outline (content_data c.args.content.now))
