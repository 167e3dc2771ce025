use Rattle.std.proofs.Common.{◌≡◌, ◌++◌, ◌+◌, ◌<◌, ◌^◌, [], ◌∷◌, subst, append_assoc, ◌∙◌, ap, arith, to_z}
use Rattle.std.proofs.Common.{of_z, w64}
use Rattle.std.proofs.lemmas.Int.{to_z-of_z}
use Rattle.std.specs.Fmt.{signed_decimal}
use Rattle.sha2.specs.Hashers.{Holds256}
use lib.Signed.{mag}
use Rattle.land_digest.proofs.Decimals.{integer_text}
use Rattle.land_digest.proofs.fields.put_integer.Goals as goal

pub returns : goal.returns
returns c m h =
    let back : to_z w64 (of_z w64 c.args.n) ≡ c.args.n = to_z-of_z w64 c.args.n c.ranges.n in
    let e : c.as_bytes.result.now ≡ signed_decimal c.args.n =
    c.as_bytes.ensures.value ∙ c.format.ensures.text ∙ ap signed_decimal back in
    let small : mag c.args.n + 1 < 2 ^ 64 = omega (arith, c.ranges.n.sfits) in
    let b = c.update-2.ensures (m ++ c.as_bytes.result.now) (c.update.ensures m h) in
    subst (λ t. Holds256 c.update-2.new.self (m ++ t)) (ap (λ l. l ++ 59 ∷ []) e
    ∙ integer_text c.args.n small)
    (subst (Holds256 c.update-2.new.self) (append_assoc m c.as_bytes.result.now (59 ∷ [])) b)
