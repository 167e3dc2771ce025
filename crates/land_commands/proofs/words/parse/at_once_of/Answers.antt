use Rattle.std.proofs.Common.{◌≡◌, inl, inr, refl, ℕ, pos, List, Bor, Option, Some, None, codes, option_map, rules, true}
use Rattle.clap.specs.Words.{Row, Text, first_of}
use Rattle.land_commands.specs.Words.Names.{IsNumberOr, IsOptionNumber}
use Rattle.land_commands.proofs.words.parse.at_once_of.Goals as goal

-- no number is named by a limit that is present and not valid
invalid : (rows : List Row) (text : Option (Bor Text)) → option_map (λ t. t.now) text ≡ first_of (codes "at-once") rows → (text ≡ None → ⊥)
    → IsOptionNumber rows (codes "at-once") (pos 1) (pos 1024) None → IsNumberOr rows (codes "at-once") (pos 1) (pos 1024) (pos 1) None
invalid rows text found present none number (inl has) = none number has
invalid rows None found present none number (inr absent) = present refl
invalid rows (Some t) found present none number (inr absent) = let missing = absent.0 in cc

none_read : (rows : List Row) (result : Option ℕ) → result ≡ None → IsNumberOr rows (codes "at-once") (pos 1) (pos 1024) (pos 1) None
    → IsNumberOr rows (codes "at-once") (pos 1) (pos 1024) (pos 1) (option_map pos result)
none_read rows None e none = none
none_read rows (Some at_once) e none = cc

pub returns-in_err-at_once : goal.returns-in_err-at_once
returns-in_err-at_once c =
    let present : (c.text_of.result ≡ None → ⊥) = λ e. (let absent : c.is_none.result ≡ true = search (rules, e) in cc) in
    none_read _ _ c.from_residual.ensures (invalid _ c.text_of.result c.text_of.ensures present c.in_err-at_once.ensures)
