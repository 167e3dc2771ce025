use Rattle.std.proofs.Common.{◌≡◌, ◌++◌, List, ℕ, ℤ, [], subst, append_assoc, append-nil, refl, to_z, of_z}
use Rattle.std.proofs.Common.{w64}
use Rattle.std.proofs.lemmas.Int.{to_z-of_z}
use Rattle.sha2.specs.Hashers.{Holds256}
use Rattle.land_digest.proofs.lines.put_place.Goals as goal
use Rattle.land_digest.specs.Fields.{Number, field_text, number_field}

joined : (m a b c d e : List ℕ)
    → ((((m ++ a) ++ b) ++ c) ++ d) ++ e ≡ m ++ (a ++ (b ++ (c ++ (d ++ (e ++ [])))))
joined m a b c d e = simp (append_assoc, append-nil) refl

pub returns : goal.returns
returns c m h =
    let whole =
    c.put_number-4.ensures _ (c.put_number-3.ensures _
    (c.put_number-2.ensures _ (c.put_number.ensures _ (c.put_integer.ensures m h)))) in
    let back : to_z w64 (of_z w64 c.args.stamp) ≡ c.args.stamp = to_z-of_z w64 c.args.stamp c.ranges.stamp in
    subst (λ (z : ℤ). Holds256 c.put_number-4.new.hasher
    (m ++ (field_text (Number z) ++ (field_text (number_field c.args.ends) ++ (field_text (number_field c.args.table)
    ++ (field_text (number_field c.args.first) ++ (field_text (number_field c.args.second) ++ []))))))) back
    (subst (Holds256 c.put_number-4.new.hasher)
    (joined m (field_text (Number (to_z w64 (of_z w64 c.args.stamp)))) (field_text (number_field c.args.ends))
    (field_text (number_field c.args.table)) (field_text (number_field c.args.first))
    (field_text (number_field c.args.second))) whole)
