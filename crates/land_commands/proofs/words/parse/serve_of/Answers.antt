use Rattle.std.proofs.Common.{◌≡◌, ap, arith, refl, ℕ, pos, List, [], ◌∷◌, Option, Some, None, codes, option_map, rules}
use Rattle.clap.specs.Words.{Row, Text}
use Rattle.land_commands.specs.Words.Names.{IsNumberOr, IsOptionNumber, HasOptionsOf}
use Rattle.land_commands.specs.Words.PlainCommands.{to_talk, to_make, to_serve, to_check, to_migrate, to_extract, to_digest, order_of}
use Rattle.land_commands.specs.declared.words.command.Command.{Command}
use Rattle.land_commands.proofs.words.parse.serve_of.Goals as goal

abbrev first_code : Text → ℕ
first_code [] = 0
first_code (x ∷ xs) = x

codes_differ : (code : ℕ) → code ≡ 99 → code ≡ 115 → ⊥
codes_differ code e f = absurd (omega (arith, e, f))

-- without a port no service is named
without_port : (rows : List Row) (port : Option ℕ) → IsOptionNumber rows (codes "port") (pos 1) (pos 65535) (option_map pos port) → port ≡ None
    → HasOptionsOf (codes "serve") rows None
without_port rows None none e (to_serve file port connections at_once) word has = none (pos port) has.1
without_port rows None none e (to_talk clock) word has = cc
without_port rows None none e (to_make file) word has = cc
without_port rows None none e (to_check file) word has = codes_differ 99 refl (ap first_code word)
without_port rows None none e (to_migrate file) word has = cc
without_port rows None none e (to_extract file clock party role kind at) word has = cc
without_port rows None none e (to_digest file at) word has = cc
without_port rows (Some port) some e order word has = cc

-- nor without a number of connections
without_count : (rows : List Row) (count : Option ℕ) → IsOptionNumber rows (codes "connections") (pos 1) (pos 1000000) (option_map pos count) → count ≡ None
    → HasOptionsOf (codes "serve") rows None
without_count rows None none e (to_serve file port connections at_once) word has = none (pos connections) has.2
without_count rows None none e (to_talk clock) word has = cc
without_count rows None none e (to_make file) word has = cc
without_count rows None none e (to_check file) word has = codes_differ 99 refl (ap first_code word)
without_count rows None none e (to_migrate file) word has = cc
without_count rows None none e (to_extract file clock party role kind at) word has = cc
without_count rows None none e (to_digest file at) word has = cc
without_count rows (Some count) some e order word has = cc

-- nor with an invalid limit
without_limit : (rows : List Row) (limit : Option ℕ) → IsNumberOr rows (codes "at-once") (pos 1) (pos 1024) (pos 1) (option_map pos limit) → limit ≡ None
    → HasOptionsOf (codes "serve") rows None
without_limit rows None none e (to_serve file port connections at_once) word has = none (pos at_once) has.3
without_limit rows None none e (to_talk clock) word has = cc
without_limit rows None none e (to_make file) word has = cc
without_limit rows None none e (to_check file) word has = codes_differ 99 refl (ap first_code word)
without_limit rows None none e (to_migrate file) word has = cc
without_limit rows None none e (to_extract file clock party role kind at) word has = cc
without_limit rows None none e (to_digest file at) word has = cc
without_limit rows (Some limit) some e order word has = cc

none_named : (rows : List Row) (result : Option Command) → result ≡ None → HasOptionsOf (codes "serve") rows None → HasOptionsOf (codes "serve") rows (option_map order_of result)
none_named rows None e none = none
none_named rows (Some command) e none = cc

pub returns-in_err-port : goal.returns-in_err-port
returns-in_err-port c =
    let none : c.port_of.result ≡ None = search rules in
    let ended : c.from_residual-in_err-port.result ≡ None = search rules in
    none_named _ _ ended (without_port _ _ c.port_of.ensures none)

pub returns-in_err-connections : goal.returns-in_err-connections
returns-in_err-connections c =
    let none : c.connections_of.result ≡ None = search rules in
    let ended : c.from_residual-in_err-connections.result ≡ None = search rules in
    none_named _ _ ended (without_count _ _ c.connections_of.ensures none)

pub returns-in_err-at_once : goal.returns-in_err-at_once
returns-in_err-at_once c =
    let none : c.at_once_of.result ≡ None = search rules in
    let ended : c.from_residual-in_err-at_once.result ≡ None = search rules in
    none_named _ _ ended (without_limit _ _ c.at_once_of.ensures none)
