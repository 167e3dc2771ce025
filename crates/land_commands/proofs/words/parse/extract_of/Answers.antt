use Rattle.std.proofs.Common.{◌≡◌, ap, arith, refl, ℕ, ℤ, pos, List, [], ◌∷◌, Option, Some, None, codes, option_map, rules}
use Rattle.clap.specs.Words.{Row, Text}
use Rattle.land_commands.specs.Words.Names.{HasOptions, IsCallerOption, IsOptionNumber, HasOptionsOf}
use Rattle.land_commands.specs.Words.PlainCommands.{to_talk, to_make, to_serve, to_check, to_migrate, to_extract, to_digest, order_of}
use Rattle.land_commands.specs.declared.words.command.Command.{Command}
use Rattle.land_core.specs.Numbers.{last_moment}
use Rattle.land_core.specs.declared.caller.Caller.{Caller}
use Rattle.land_core.specs.declared.kind.Kind.{Kind}
use Rattle.land_core.specs.declared.role.Role.{Role}
use Rattle.land_commands.proofs.words.parse.extract_of.Goals as goal

-- the options of an extract are missing
abbrev Lacks : List Row → Type 0
Lacks rows = (file : List ℕ) (clock : ℤ) (party : ℕ) (role : Role) (kind : Kind) (at : Option ℤ) → HasOptions rows (to_extract file clock party role kind at) → ⊥

abbrev first_code : Text → ℕ
first_code [] = 0
first_code (x ∷ xs) = x

codes_differ : (code : ℕ) → code ≡ 109 → code ≡ 101 → ⊥
codes_differ code e f = absurd (omega (arith, e, f))

-- then no extract is named
none_lacking : (rows : List Row) → Lacks rows → HasOptionsOf (codes "extract") rows None
none_lacking rows lacks (to_talk clock) word has = cc
none_lacking rows lacks (to_make file) word has = cc
none_lacking rows lacks (to_serve file port connections at_once) word has = cc
none_lacking rows lacks (to_check file) word has = cc
none_lacking rows lacks (to_migrate file) word has = codes_differ 109 refl (ap first_code word)
none_lacking rows lacks (to_extract file clock party role kind at) word has = lacks file clock party role kind at has
none_lacking rows lacks (to_digest file at) word has = cc

without_clock : (rows : List Row) (clock : Option ℤ) → IsOptionNumber rows (codes "clock") (pos 0) last_moment clock → clock ≡ None → Lacks rows
without_clock rows None none e file clock party role kind at has = none clock has.1
without_clock rows (Some reads) some e file clock party role kind at has = cc

without_caller : (rows : List Row) (caller : Option Caller) → IsCallerOption rows caller → caller ≡ None → Lacks rows
without_caller rows None none e file clock party role kind at has = none party role has.2
without_caller rows (Some caller) some e file clock party role kind at has = cc

none_named : (rows : List Row) (result : Option Command) → result ≡ None → Lacks rows → HasOptionsOf (codes "extract") rows (option_map order_of result)
none_named rows None e lacks = none_lacking rows lacks
none_named rows (Some command) e lacks = cc

pub returns-in_err-clock : goal.returns-in_err-clock
returns-in_err-clock c =
    let none : c.clock_of.result ≡ None = search rules in
    let ended : c.from_residual-in_err-clock.result ≡ None = search rules in
    none_named _ _ ended (without_clock _ _ c.clock_of.ensures none)

pub returns-in_err-caller : goal.returns-in_err-caller
returns-in_err-caller c =
    let none : c.caller_of.result ≡ None = search rules in
    let ended : c.from_residual-in_err-caller.result ≡ None = search rules in
    none_named _ _ ended (without_caller _ _ c.caller_of.ensures none)
