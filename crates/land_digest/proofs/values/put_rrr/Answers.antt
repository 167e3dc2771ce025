use Rattle.std.proofs.Common.{◌≡◌, ◌++◌, List, ℕ, [], ◌∷◌, flat_map, subst, append_assoc, append-nil, refl}
use Rattle.std.proofs.Common.{sym, ◌∙◌, ap}
use Rattle.std.proofs.lemmas.List.Concat.{flat_map-append}
use Rattle.sha2.specs.Hashers.{Holds256}
use Rattle.land_core.specs.Words.{class_word}
use Rattle.land_digest.proofs.values.put_rrr.Goals as goal
use Rattle.land_digest.specs.Fields.{Text, field_text, number_field}
use Rattle.land_digest.specs.Rows.{class_values}

joined : (m a b c d e : List ℕ)
    → ((((m ++ a) ++ b) ++ c) ++ d) ++ e ≡ m ++ (a ++ (b ++ (c ++ (d ++ (e ++ [])))))
joined m a b c d e = simp (append_assoc, append-nil) refl

pub returns : goal.returns
returns c m h =
    let r = c.args.rrr.now in
    let unit = field_text (number_field r.unit) in
    let party = field_text (number_field r.party) in
    let word = field_text (Text (class_word r.class)) in
    let class = flat_map field_text (class_values r.class) in
    let source = field_text (number_field r.source) in
    let whole =
    c.put_number-3.ensures _ (c.put_class.ensures _ (c.put_text.ensures _
    (c.put_number-2.ensures _ (c.put_number.ensures m h)))) in
    subst (Holds256 c.put_number-3.new.hasher)
    (ap (λ text. ((((m ++ unit) ++ party) ++ field_text (Text text)) ++ class) ++ source) c.class_word.ensures
    ∙ joined m unit party word class source
    ∙ ap (λ l. m ++ (unit ++ (party ++ (word ++ l))))
    (sym (flat_map-append field_text (class_values r.class) (number_field r.source ∷ [])))) whole
