use Rattle.land_wire.proofs.ReplyTexts.{denied_text, fault_text, refused_text, store_text}
use Rattle.land_wire.proofs.laws.short_replies_have_plain_texts.Goals as goal

pub returns : goal.returns
returns c = λ n. (denied_text n, fault_text n, refused_text n, store_text n)
