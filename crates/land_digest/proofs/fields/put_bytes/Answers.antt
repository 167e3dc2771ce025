use Rattle.std.proofs.Common.{◌≡◌, ◌++◌, [], ◌∷◌, length, subst, append_assoc, ◌∙◌, rules}
use Rattle.sha2.specs.Hashers.{Holds256}
use Rattle.land_digest.proofs.Decimals.{decimal_digits}
use Rattle.land_digest.proofs.fields.put_bytes.Goals as goal
use Rattle.land_digest.specs.Fields.{digits}

pub returns : goal.returns
returns c m h =
    let bytes = c.args.bytes.now in
    let e : c.as_bytes.result.now ≡ digits (length bytes) =
    c.as_bytes.ensures.value ∙ c.format.ensures.text ∙ decimal_digits (length bytes) (search rules) in
    let b =
    c.update-3.ensures ((m ++ c.as_bytes.result.now) ++ 58 ∷ [])
    (c.update-2.ensures (m ++ c.as_bytes.result.now) (c.update.ensures m h)) in
    subst (λ t. Holds256 c.update-3.new.self (m ++ (t ++ 58 ∷ bytes))) e
    (subst (Holds256 c.update-3.new.self)
    (append_assoc (m ++ c.as_bytes.result.now) (58 ∷ []) bytes
    ∙ append_assoc m c.as_bytes.result.now (58 ∷ bytes)) b)
