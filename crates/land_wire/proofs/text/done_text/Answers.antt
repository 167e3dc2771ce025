use Rattle.std.proofs.Common.{◌∙◌, SFits, w64, rules}
use Rattle.std.proofs.lemmas.Int.{to_z-of_z}
use Rattle.land_wire.specs.Replies.{done_data}
use Rattle.serde_json.proofs.Texts.{print-outline}
use Rattle.land_wire.proofs.text.done_text.Goals as goal

pub returns : goal.returns
returns c =
    let stamp : SFits w64 c.args.done.now.stamp = search rules in
    c.text_of.ensures
    ∙ rw (c.in_ok-write_object.ensures.added, c.in_ok-out.ensures.tokens, c.as_slice.ensures) (simp to_z-of_z (print-outline (done_data c.args.done.now)))
