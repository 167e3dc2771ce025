-- Arguments in which `clap` finds no fault name a command. There is one such lemma for each command.
use Rattle.std.proofs.Common.{◌≡◌, ◌⊎◌, inl, inr, refl, ℕ, pos, Bool, true, false, List, [], ◌∷◌, Option, Some, None, cond, is_some, option_map, codes}
use Rattle.std.specs.Option.{option_map_or}
use Rattle.std.specs.Str.Parse.{signed_digits_value}
use Rattle.clap.specs.Faults.{check_fault, defaults_fault, entered_fault, fault_of, level_fault, settle_fault, walk_fault}
use Rattle.clap.specs.Simple.{Shape, argument_words, built, entered, label_of, names_of, rows_at}
use Rattle.clap.specs.Values.{Accepts}
use Rattle.clap.specs.Walk.{Row, Text, answers_to, finished, first_of, nothing_held, rows_after, settled, stop_after, walk, walk_from}
use Rattle.clap.specs.declared.builder.value_parser.ValueParser.TheVariants as parser
use Rattle.land_commands.proofs.BuiltCommands.{digest_built, extract_built, file_built, serve_built, talk_built}
use Rattle.land_commands.proofs.FaultlessExtract.{OptionShape, at_told, count_of, extract_named, file_shape, moment_if_any, one_keeps, told}
use Rattle.land_commands.proofs.GivenOptions.{Each, HasNoDefault, given_passes, help_keeps, option_keeps, passes_if_any, required_given}
use Rattle.land_commands.proofs.WalkKeeps.{both_none}
use Rattle.land_commands.specs.Words.Choices.{AreChoiceWords}
use Rattle.land_commands.specs.Words.Commands.{land_app}
use Rattle.land_commands.specs.Words.Names.{HasNumberOr, IsCommandIn, NamesBy}
use Rattle.land_commands.specs.Words.Options.{count_parser, limit_parser, moment_parser, port_parser}
use Rattle.land_commands.specs.Words.PlainCommands.{PlainCommand, to_talk, to_make, to_serve, to_check, to_migrate, to_digest}
use Rattle.land_commands.specs.declared.words.choices.Choices.{Choices}

-- arguments of `talk` without a fault have a moment for the clock
talk_named : (words : List Text) → level_fault talk_built [] nothing_held words false [] ≡ []
    → (order : PlainCommand) × IsCommandIn (Some (rows_at talk_built words)) order
talk_named words e =
    let none : Each HasNoDefault talk_built.rules = (refl, (refl, tt)) in
    let given = required_given talk_built none words e in
    let clock = given_passes talk_built none words e (codes "clock") (Accepts false moment_parser)
    (option_keeps (codes "clock") (Accepts false moment_parser) (codes "clock") true moment_parser (λ same text h. h), (help_keeps _, tt)) (given.0 refl) in (
      to_talk (signed_digits_value 10 clock.0),
      (rows_after talk_built.rules [] words, refl, record { text = clock.0; found = clock.1; in_range = clock.2; value = refl }),
    )

-- arguments of a command with only a file have a value for it
file_named : (name : Text) (words : List Text) → level_fault (file_built name) [] nothing_held words false [] ≡ []
    → (file : Text) × (first_of (codes "file") (rows_after (file_built name).rules [] words) ≡ Some file)
file_named name words e =
    let none : Each HasNoDefault (file_built name).rules = (refl, (refl, tt)) in
    let given = required_given (file_built name) none words e in
    let file = given_passes (file_built name) none words e (codes "file") (Accepts false parser.String)
    (option_keeps (codes "file") (Accepts false parser.String) (codes "file") true parser.String (λ same text h. h), (help_keeps _, tt)) (given.0 refl) in
    (file.0, file.1)

abbrev port_shape : OptionShape
port_shape = told (codes "port") true port_parser

abbrev count_shape : OptionShape
count_shape = told (codes "connections") true count_parser

abbrev limit_shape : OptionShape
limit_shape = told (codes "at-once") false limit_parser

-- an optional limit is a number, or absent
limit_if_any : (rows : List Row) → (first_of (codes "at-once") rows ≡ None) ⊎ ((text : Text) × (first_of (codes "at-once") rows ≡ Some text) × Accepts false limit_parser text)
    → (at_once : ℕ) × HasNumberOr rows (codes "at-once") (pos 1) (pos 1024) (pos 1) (pos at_once)
limit_if_any rows (inl none) = (1, inr (none, refl))
limit_if_any rows (inr (text, found, accepted)) =
    let number = count_of (signed_digits_value 10 text) accepted.2 in
    (number.0, inl (record { text = text; found = found; in_range = accepted; value = number.1 }))

-- arguments of `serve` without a fault have a file, a port and a number of connections, and a limit if `--at-once` is given
serve_named : (words : List Text) → level_fault serve_built [] nothing_held words false [] ≡ []
    → (order : PlainCommand) × IsCommandIn (Some (rows_at serve_built words)) order
serve_named words e =
    let none : Each HasNoDefault serve_built.rules = (refl, (refl, (refl, (refl, (refl, tt))))) in
    let given = required_given serve_built none words e in
    let file = given_passes serve_built none words e (codes "file") (Accepts false parser.String)
    (one_keeps (codes "file") (Accepts false parser.String) [] file_shape (port_shape ∷ count_shape ∷ limit_shape ∷ []) refl refl (λ text h. h)) (given.0 refl) in
    let port = given_passes serve_built none words e (codes "port") (Accepts false port_parser)
    (one_keeps (codes "port") (Accepts false port_parser) (file_shape ∷ []) port_shape (count_shape ∷ limit_shape ∷ []) refl refl (λ text h. h)) (given.1.0 refl) in
    let count = given_passes serve_built none words e (codes "connections") (Accepts false count_parser)
    (one_keeps (codes "connections") (Accepts false count_parser) (file_shape ∷ port_shape ∷ []) count_shape (limit_shape ∷ []) refl refl (λ text h. h)) (given.1.1.0 refl) in
    let limit = limit_if_any (rows_after serve_built.rules [] words)
    (passes_if_any serve_built none words e (codes "at-once") (Accepts false limit_parser)
    (one_keeps (codes "at-once") (Accepts false limit_parser) (file_shape ∷ port_shape ∷ count_shape ∷ []) limit_shape [] refl refl (λ text h. h))) in
    let at_port = count_of (signed_digits_value 10 port.0) port.2.2 in
    let in_all = count_of (signed_digits_value 10 count.0) count.2.2 in (
      to_serve file.0 at_port.0 in_all.0 limit.0,
      (
        rows_after serve_built.rules [] words,
        refl,
        (
          file.1,
          record { text = port.0; found = port.1; in_range = port.2; value = at_port.1 },
          record { text = count.0; found = count.1; in_range = count.2; value = in_all.1 },
          limit.1,
        ),
      ),
    )

-- arguments of `digest` without a fault have a file, and a moment if `--at` is given
digest_named : (words : List Text) → level_fault digest_built [] nothing_held words false [] ≡ []
    → (order : PlainCommand) × IsCommandIn (Some (rows_at digest_built words)) order
digest_named words e =
    let none : Each HasNoDefault digest_built.rules = (refl, (refl, (refl, tt))) in
    let given = required_given digest_built none words e in
    let file = given_passes digest_built none words e (codes "file") (Accepts false parser.String)
    (one_keeps (codes "file") (Accepts false parser.String) [] file_shape (at_told ∷ []) refl refl (λ text h. h)) (given.0 refl) in
    let at = moment_if_any (rows_after digest_built.rules [] words)
    (passes_if_any digest_built none words e (codes "at") (Accepts false moment_parser)
    (one_keeps (codes "at") (Accepts false moment_parser) (file_shape ∷ []) at_told [] refl refl (λ text h. h))) in
    (to_digest file.0 at.0, (rows_after digest_built.rules [] words, refl, (file.1, at.1)))

module _ (choices : Choices) (spelled : AreChoiceWords choices) where
  -- if a command is required, there is one
  command_wanted : (rows : List Row) (has : Bool) → check_fault (built (land_app choices)).top rows has ≡ [] → has ≡ true
  command_wanted rows true e = refl
  command_wanted rows false e = cc

  -- the command with this name
  abbrev shape_of : (talk make serve check migrate extract digest : Bool) → Option Shape
  shape_of talk make serve check migrate extract digest =
      cond talk (Some talk_built)
      (cond make (Some (file_built (codes "new")))
      (cond serve (Some serve_built)
      (cond check (Some (file_built (codes "check")))
      (cond migrate (Some (file_built (codes "migrate"))) (cond extract (Some (extract_built choices)) (cond digest (Some digest_built) None))))))

  picked_named : (words : List Text) (talk make serve check migrate extract digest : Bool)
      → is_some (option_map (λ s. rows_at s words) (shape_of talk make serve check migrate extract digest)) ≡ true
      → option_map_or (λ s. level_fault s [] nothing_held words false []) (shape_of talk make serve check migrate extract digest) [] ≡ []
      → (order : PlainCommand) × IsCommandIn (option_map (λ s. rows_at s words) (shape_of talk make serve check migrate extract digest)) order
  picked_named words true make serve check migrate extract digest has e = talk_named words e
  picked_named words false true serve check migrate extract digest has e =
      let file = file_named (codes "new") words e in
      (to_make file.0, (rows_after (file_built (codes "new")).rules [] words, refl, file.1))
  picked_named words false false true check migrate extract digest has e = serve_named words e
  picked_named words false false false true migrate extract digest has e =
      let file = file_named (codes "check") words e in
      (to_check file.0, (rows_after (file_built (codes "check")).rules [] words, refl, file.1))
  picked_named words false false false false true extract digest has e =
      let file = file_named (codes "migrate") words e in
      (to_migrate file.0, (rows_after (file_built (codes "migrate")).rules [] words, refl, file.1))
  picked_named words false false false false false true digest has e = extract_named choices spelled words e
  picked_named words false false false false false false true has e = digest_named words e
  picked_named words false false false false false false false has e = cc

  -- the command at which the walk over the arguments stops
  command_named : (stop : Option (Text × List Text)) → is_some (entered (built (land_app choices)) stop) ≡ true
      → entered_fault (built (land_app choices)) stop ≡ [] → (order : PlainCommand) × IsCommandIn (entered (built (land_app choices)) stop) order
  command_named None has e = cc
  command_named (Some q) has e =
      picked_named q.1 (answers_to q.0 (label_of talk_built)) (answers_to q.0 (label_of (file_built (codes "new"))))
      (answers_to q.0 (label_of serve_built)) (answers_to q.0 (label_of (file_built (codes "check"))))
      (answers_to q.0 (label_of (file_built (codes "migrate")))) (answers_to q.0 (label_of (extract_built choices)))
      (answers_to q.0 (label_of digest_built)) has e

  -- arguments without a fault name a command
  pub named_by_words : (words : List Text) → fault_of (land_app choices) words ≡ [] → (order : PlainCommand) × NamesBy choices words order
  named_by_words words e =
      let a = built (land_app choices) in
      let given = argument_words (land_app choices) words in
      let end = (walk a.top.rules (names_of a) nothing_held given).held in
      let stop = stop_after a.top.rules (names_of a) given in
      let below = (both_none (walk_fault a.top (names_of a) (walk_from nothing_held) given) _ e).1 in
      let entry = both_none (entered_fault a stop) _ below in
      let settles = (both_none (settle_fault a.top.rules false end) _ entry.1).1 in
      let checks = (both_none (defaults_fault (settled a.top.rules end).rows a.top.rules) _ settles).1 in
      let command = command_named stop (command_wanted (finished a.top.rules end) (is_some (entered a stop)) checks) entry.0 in
      (command.0, record { faultless = e; found = command.1 })
