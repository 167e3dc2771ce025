use Rattle.std.proofs.Common.{◌≡◌, ◌++◌, [], ◌∷◌, subst, append_assoc, ◌∙◌}
use Rattle.sha2.specs.Hashers.{Holds256}
use Rattle.land_digest.proofs.Decimals.{decimal_digits}
use Rattle.land_digest.proofs.fields.put_number.Goals as goal
use Rattle.land_digest.specs.Fields.{digits}

pub returns : goal.returns
returns c m h =
    let e : c.as_bytes.result.now ≡ digits c.args.n =
    c.as_bytes.ensures.value ∙ c.format.ensures.text ∙ decimal_digits c.args.n c.ranges.n.fits in
    let b = c.update-2.ensures (m ++ c.as_bytes.result.now) (c.update.ensures m h) in
    subst (λ t. Holds256 c.update-2.new.self (m ++ (t ++ 59 ∷ []))) e
    (subst (Holds256 c.update-2.new.self) (append_assoc m c.as_bytes.result.now (59 ∷ [])) b)
