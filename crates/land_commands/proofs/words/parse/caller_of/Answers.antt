use Rattle.std.proofs.Common.{◌≡◌, ℕ, pos, List, Option, Some, None, codes, option_map, rules}
use Rattle.clap.specs.Words.{Row}
use Rattle.land_commands.specs.Words.Names.{IsCallerOption, IsOptionNumber}
use Rattle.land_core.specs.declared.caller.Caller.{Caller}
use Rattle.land_commands.proofs.words.parse.caller_of.Goals as goal

-- without a party the caller is unknown
without_party : (rows : List Row) (party : Option ℕ) → IsOptionNumber rows (codes "party") (pos 1) (pos 1000000000) (option_map pos party) → party ≡ None
    → IsCallerOption rows None
without_party rows None none e party role has = none (pos party) has.0
without_party rows (Some some_party) some e party role has = cc

nobody_asks : (rows : List Row) (result : Option Caller) → result ≡ None → IsCallerOption rows None → IsCallerOption rows result
nobody_asks rows None e none = none
nobody_asks rows (Some caller) e none = cc

pub returns-in_err-party : goal.returns-in_err-party
returns-in_err-party c =
    let none : c.party_of.result ≡ None = search rules in
    let ended : c.from_residual.result ≡ None = search rules in
    nobody_asks _ _ ended (without_party _ _ c.party_of.ensures none)
