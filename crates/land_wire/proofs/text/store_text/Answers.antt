use Rattle.std.proofs.Common.{◌≡◌, refl, arith}
use Rattle.std.specs.Fmt.{digits}
use Rattle.land_wire.proofs.ReplyTexts as texts
use Rattle.land_wire.proofs.text.store_text.Goals as goal

pub returns-in-501 : goal.returns-in-501
unfolding digits
returns-in-501 c = rw (c.in-501.is, texts.store_text) refl

pub returns-in-502 : goal.returns-in-502
unfolding digits
returns-in-502 c = rw (c.in-502.is, texts.store_text) refl

pub returns-in_default : goal.returns-in_default
unfolding digits
returns-in_default c = let e : c.args.number ≡ 503 = omega arith in rw (e, texts.store_text) refl
