-- Arguments with each option once, in the order of the help text, name the command with these options.
use Rattle.std.proofs.Common.{◌≡◌, ◌≢◌, ◌∙◌, ◌≤◌, ◌<◌, ◌==◌, inl, inr, refl, rules, sym, ap, subst, arith, ℕ, pos, Bool, true, false, List, [], ◌∷◌, ◌++◌, Some, None, codes, w64}
use Rattle.std.proofs.lemmas.Bool.Decides.{nat_tests}
use Rattle.std.specs.Prelude.{◌≤ℤ◌, FitsSigned, fold}
use Rattle.std.specs.Char.{digit_value}
use Rattle.std.specs.Str.Parse.{IsNumeral, signed_digits_value, without_leading_sign}
use Rattle.clap.proofs.OnLiterals.{clap_on_literals}
use Rattle.clap.proofs.ValueTestLemmas.{Accepts-accepts}
use Rattle.clap.specs.Faults.{check_fault, defaults_fault, fault_of, level_fault, settle_fault, turn_fault, walk_fault}
use Rattle.clap.specs.Kinds.{Kinds, or_else}
use Rattle.clap.specs.Simple.{Shape}
use Rattle.clap.specs.ValueTests.{accepts}
use Rattle.clap.specs.Values.{IsSignedIn}
use Rattle.clap.specs.Walk.{Held, Row, Text, Walk, finished, idle, nothing_held, option, rows_after, settled, walk_from, walked}
use Rattle.clap.specs.Words.{subcommand_of}
use Rattle.clap.specs.declared.builder.value_parser.Reading.{Reading}
use Rattle.clap.specs.declared.builder.value_parser.Reading.TheVariants as reading
use Rattle.clap.specs.declared.parser.matches.ValueSource.TheVariants.{CommandLine}
use Rattle.land_commands.proofs.BuiltCommands.{file_built, serve_built, talk_built}
use Rattle.land_commands.specs.Words.Commands.{land_app}
use Rattle.land_commands.specs.Words.Laws.{IsPlainText, IsNumeralIn, PlainServiceLaw, serve_words}
use Rattle.land_commands.specs.Words.Names.{NamesBy}
use Rattle.land_commands.specs.Words.Options.{count_parser, limit_parser, moment_parser, port_parser}
use Rattle.land_commands.specs.Words.PlainCommands.{to_talk, to_make, to_serve, to_check, to_migrate}
use Rattle.land_commands.specs.declared.words.choices.Choices.{Choices}
use Rattle.land_core.specs.Numbers.{last_millisecond}

pub none_of_both : (a b : Kinds) → a ≡ [] → b ≡ [] → or_else a b ≡ []
none_of_both [] b e f = f
none_of_both (k ∷ ks) b e f = cc

-- after the name of an option, its value is expected
abbrev pub expects_value : List Row → Text → Walk
expects_value rows name = record {
  held = record { rows = rows; pending = Some (name, []); skip = 0 };
  waiting = option name;
  position = 1;
  is_trailing = false;
  stopped = None;
}

-- and then it is present
abbrev pub with_value : List Row → Text → Text → Walk
with_value rows name value = record {
  held = record { rows = rows; pending = Some (name, value ∷ []); skip = 0 };
  waiting = idle;
  position = 1;
  is_trailing = false;
  stopped = None;
}

abbrev pub row_with : Text → Reading → Text → Row
row_with name how value = record {
  id = name;
  values = value ∷ [];
  count = None;
  source = Some CommandLine;
  reading = how;
}

abbrev pub clock_row : Text → Row
clock_row = row_with (codes "clock") reading.WithoutMinus

abbrev pub file_row : Text → Row
file_row = row_with (codes "file") reading.AsWritten

abbrev port_row : Text → Row
port_row = row_with (codes "port") reading.WithoutMinus

abbrev count_row : Text → Row
count_row = row_with (codes "connections") reading.WithoutMinus

abbrev limit_row : Text → Row
limit_row = row_with (codes "at-once") reading.WithoutMinus

-- ---- walks

-- arguments without a fault lead from one position of a walk to another
pub record Leads (s : Shape) (from : Walk) (words : List Text) (end : Walk) : Type 0 where
  pub well : walk_fault s [] from words ≡ []
  pub ends : fold (walked s.rules []) from words ≡ end

pub empty_walk : (s : Shape) (from : Walk) → Leads s from [] from
unfolding walk_fault
empty_walk s from = record { well = refl; ends = refl }

pub on_to : (s : Shape) (from next : Walk) (word : Text) (words : List Text) (end : Walk) → walked s.rules [] from word ≡ next → turn_fault s [] from word ≡ []
    → Leads s next words end → Leads s from (word ∷ words) end
unfolding walk_fault
on_to s from next word words end is well rest = record {
  well = none_of_both _ _ well (ap (λ (w : Walk). walk_fault s [] w words) is ∙ rest.well);
  ends = ap (λ (w : Walk). fold (walked s.rules []) w words) is ∙ rest.ends;
}

-- at the end of the walk nothing is missing or wrong
pub record EndsWell (s : Shape) (end : Held) : Type 0 where
  pub settles : settle_fault s.rules s.args_override_self end ≡ []
  pub defaults : defaults_fault (settled s.rules end).rows s.rules ≡ []
  pub checks : check_fault s (finished s.rules end) false ≡ []

module _ (s : Shape) (words : List Text) (end : Walk) (leads : Leads s (walk_from nothing_held) words end) where
  pub level_well : EndsWell s end.held → level_fault s [] nothing_held words false [] ≡ []
  level_well well =
      let held = ap (λ (w : Walk). w.held) leads.ends in
      none_of_both _ _ leads.well
      (none_of_both _ _ (ap (settle_fault s.rules s.args_override_self) held ∙ well.settles)
      (none_of_both _ _ (ap (λ (h : Held). defaults_fault (settled s.rules h).rows s.rules) held ∙ well.defaults)
      (ap (λ (h : Held). check_fault s (finished s.rules h) false) held ∙ well.checks)))

  pub rows_well : rows_after s.rules [] words ≡ finished s.rules end.held
  rows_well = ap (λ (w : Walk). finished s.rules w.held) leads.ends

-- ---- texts and numbers

-- a digit is not a sign
no_sign : (sign x : ℕ) → 36 ≤ digit_value sign → digit_value x < 10 → (x == sign) ≡ false
no_sign sign x other digit = go (x == sign) refl
  where
    go : (t : Bool) → (x == sign) ≡ t → t ≡ false
    go true e =
        let same : x ≡ sign = grind (arith, nat_tests) in
        let bad : digit_value sign < 10 = subst (λ y. digit_value y < 10) same digit in
        absurd (omega arith)
    go false e = refl

pub no_hyphen : (x : ℕ) → x ≢ 45 → (x == 45) ≡ false
no_hyphen x other = go (x == 45) refl
  where
    go : (t : Bool) → (x == 45) ≡ t → t ≡ false
    go true e = let same : x ≡ 45 = grind (arith, nat_tests) in absurd (other same)
    go false e = refl

-- such a number fits in 64 bits
fits_64_bits : (n : ℕ) → n ≤ 9223372036854775807 → FitsSigned w64 (pos n)
fits_64_bits n most = omega arith

-- digits of a number do not start with a hyphen, are in the range, and are read as that number
abbrev pub IsRead : (digits : Text) (least most number : ℕ) → Type 0
IsRead digits least most number =
    IsPlainText digits × IsSignedIn (pos least) (pos most) digits × (signed_digits_value 10 digits ≡ pos number)

pub numeral_reads : (digits : Text) (least most number : ℕ) → most ≤ 9223372036854775807 → IsNumeralIn digits least most number → IsRead digits least most number
numeral_reads [] least most number small writes = absurd (omega arith)
numeral_reads (x ∷ xs) least most number small writes =
    let minus = no_sign 45 x (omega arith) writes.0.1.0 in
    let plus = no_sign 43 x (omega arith) writes.0.1.0 in
    let unsigned : without_leading_sign (x ∷ xs) ≡ x ∷ xs = rw (minus, plus) refl in
    let value : signed_digits_value 10 (x ∷ xs) ≡ pos number = rw (minus, plus) (ap pos writes.1) in
    let numeral : IsNumeral 10 (without_leading_sign (x ∷ xs)) = subst (IsNumeral 10) (sym unsigned) writes.0 in
    let low : pos least ≤ℤ pos number = search rules in
    let high : pos number ≤ℤ pos most = search rules in
    let small_one : number ≤ 9223372036854775807 = omega (arith, small, writes.3) in
    ((λ e. let bad : (x == 45) ≡ true = rw e refl in cc), (numeral, rw value (fits_64_bits number small_one), rw value low, rw value high), value)

-- ---- `talk`

talk_asks : walked talk_built.rules [] (walk_from nothing_held) (codes "--clock") ≡ expects_value [] (codes "clock")
unfolding clap_on_literals
talk_asks = refl

talk_asks_well : turn_fault talk_built [] (walk_from nothing_held) (codes "--clock") ≡ []
unfolding clap_on_literals
talk_asks_well = refl

talk_answers : (x : ℕ) (xs : Text) → (x == 45) ≡ false → walked talk_built.rules [] (expects_value [] (codes "clock")) (x ∷ xs) ≡ with_value [] (codes "clock") (x ∷ xs)
unfolding clap_on_literals
talk_answers x xs sign = rw sign (rw sign refl)

talk_answers_well : (x : ℕ) (xs : Text) → (x == 45) ≡ false → turn_fault talk_built [] (expects_value [] (codes "clock")) (x ∷ xs) ≡ []
unfolding clap_on_literals
talk_answers_well x xs sign = rw sign (rw sign refl)

talk_leads : (x : ℕ) (xs : Text) → (x == 45) ≡ false
    → Leads talk_built (walk_from nothing_held) (codes "--clock" ∷ (x ∷ xs) ∷ []) (with_value [] (codes "clock") (x ∷ xs))
talk_leads x xs sign =
    on_to talk_built _ _ _ _ _ talk_asks talk_asks_well
    (on_to talk_built _ _ _ _ _ (talk_answers x xs sign) (talk_answers_well x xs sign) (empty_walk talk_built _))

talk_ends : (digits : Text) → accepts false moment_parser digits ≡ true → EndsWell talk_built (with_value [] (codes "clock") digits).held
unfolding clap_on_literals
talk_ends digits accepted = record { settles = rw accepted refl; defaults = refl; checks = refl }

-- the arguments of the program are those of `talk` after its name
talk_fault_below : (choices : Choices) (program digits : Text) → fault_of (land_app choices) (program ∷ codes "talk" ∷ codes "--clock" ∷ digits ∷ [])
    ≡ or_else (level_fault talk_built [] nothing_held (codes "--clock" ∷ digits ∷ []) false []) []
unfolding clap_on_literals
talk_fault_below choices program digits = refl

talk_rows_below : (choices : Choices) (program digits : Text) → subcommand_of (land_app choices) (program ∷ codes "talk" ∷ codes "--clock" ∷ digits ∷ [])
    ≡ Some (codes "talk", rows_after talk_built.rules [] (codes "--clock" ∷ digits ∷ []))
unfolding clap_on_literals
talk_rows_below choices program digits = refl

pub plain_talk : (choices : Choices) (program digits : Text) (moment : ℕ) → IsNumeralIn digits 0 last_millisecond moment
    → NamesBy choices (program ∷ codes "talk" ∷ codes "--clock" ∷ digits ∷ []) (to_talk (pos moment))
plain_talk choices program [] moment writes = absurd (omega arith)
plain_talk choices program (x ∷ xs) moment writes =
    let read = numeral_reads (x ∷ xs) 0 last_millisecond moment (omega arith) writes in
    let leads = talk_leads x xs (no_hyphen x read.0) in
    let ends = talk_ends (x ∷ xs) (Accepts-accepts false moment_parser (x ∷ xs) read.1) in
    record {
      faultless = talk_fault_below choices program (x ∷ xs) ∙ none_of_both _ _ (level_well talk_built _ _ leads ends) refl;
      found = (
        clock_row (x ∷ xs) ∷ [],
        talk_rows_below choices program (x ∷ xs) ∙ ap (λ (rows : List Row). Some (codes "talk", rows)) (rows_well talk_built _ _ leads),
        record { text = x ∷ xs; found = refl; in_range = read.1; value = read.2 },
      );
    }

-- ---- commands with only a file, of any name

file_asks : (name : Text) → walked (file_built name).rules [] (walk_from nothing_held) (codes "--file") ≡ expects_value [] (codes "file")
unfolding clap_on_literals
file_asks name = refl

file_asks_well : (name : Text) → turn_fault (file_built name) [] (walk_from nothing_held) (codes "--file") ≡ []
unfolding clap_on_literals
file_asks_well name = refl

file_answers : (name : Text) (x : ℕ) (xs : Text) → (x == 45) ≡ false
    → walked (file_built name).rules [] (expects_value [] (codes "file")) (x ∷ xs) ≡ with_value [] (codes "file") (x ∷ xs)
unfolding clap_on_literals
file_answers name x xs sign = rw sign (rw sign refl)

file_answers_well : (name : Text) (x : ℕ) (xs : Text) → (x == 45) ≡ false → turn_fault (file_built name) [] (expects_value [] (codes "file")) (x ∷ xs) ≡ []
unfolding clap_on_literals
file_answers_well name x xs sign = rw sign (rw sign refl)

file_leads : (name : Text) (x : ℕ) (xs : Text) → (x == 45) ≡ false
    → Leads (file_built name) (walk_from nothing_held) (codes "--file" ∷ (x ∷ xs) ∷ []) (with_value [] (codes "file") (x ∷ xs))
file_leads name x xs sign =
    on_to (file_built name) _ _ _ _ _ (file_asks name) (file_asks_well name)
    (on_to (file_built name) _ _ _ _ _ (file_answers name x xs sign) (file_answers_well name x xs sign) (empty_walk (file_built name) _))

file_ends : (name file : Text) → EndsWell (file_built name) (with_value [] (codes "file") file).held
unfolding clap_on_literals
file_ends name file = record { settles = refl; defaults = refl; checks = refl }

make_fault_below : (choices : Choices) (program file : Text) → fault_of (land_app choices) (program ∷ codes "new" ∷ codes "--file" ∷ file ∷ [])
    ≡ or_else (level_fault (file_built (codes "new")) [] nothing_held (codes "--file" ∷ file ∷ []) false []) []
unfolding clap_on_literals
make_fault_below choices program file = refl

make_rows_below : (choices : Choices) (program file : Text) → subcommand_of (land_app choices) (program ∷ codes "new" ∷ codes "--file" ∷ file ∷ [])
    ≡ Some (codes "new", rows_after (file_built (codes "new")).rules [] (codes "--file" ∷ file ∷ []))
unfolding clap_on_literals
make_rows_below choices program file = refl

check_fault_below : (choices : Choices) (program file : Text) → fault_of (land_app choices) (program ∷ codes "check" ∷ codes "--file" ∷ file ∷ [])
    ≡ or_else (level_fault (file_built (codes "check")) [] nothing_held (codes "--file" ∷ file ∷ []) false []) []
unfolding clap_on_literals
check_fault_below choices program file = refl

check_rows_below : (choices : Choices) (program file : Text) → subcommand_of (land_app choices) (program ∷ codes "check" ∷ codes "--file" ∷ file ∷ [])
    ≡ Some (codes "check", rows_after (file_built (codes "check")).rules [] (codes "--file" ∷ file ∷ []))
unfolding clap_on_literals
check_rows_below choices program file = refl

migrate_fault_below : (choices : Choices) (program file : Text) → fault_of (land_app choices) (program ∷ codes "migrate" ∷ codes "--file" ∷ file ∷ [])
    ≡ or_else (level_fault (file_built (codes "migrate")) [] nothing_held (codes "--file" ∷ file ∷ []) false []) []
unfolding clap_on_literals
migrate_fault_below choices program file = refl

migrate_rows_below : (choices : Choices) (program file : Text) → subcommand_of (land_app choices) (program ∷ codes "migrate" ∷ codes "--file" ∷ file ∷ [])
    ≡ Some (codes "migrate", rows_after (file_built (codes "migrate")).rules [] (codes "--file" ∷ file ∷ []))
unfolding clap_on_literals
migrate_rows_below choices program file = refl

plain_make : (choices : Choices) (program : Text) (x : ℕ) (xs : Text) → (x == 45) ≡ false → NamesBy choices (program ∷ codes "new" ∷ codes "--file" ∷ (x ∷ xs) ∷ []) (to_make (x ∷ xs))
plain_make choices program x xs sign =
    let leads = file_leads (codes "new") x xs sign in
    record {
      faultless = make_fault_below choices program (x ∷ xs) ∙ none_of_both _ _ (level_well (file_built (codes "new")) _ _ leads (file_ends (codes "new") (x ∷ xs))) refl;
      found = (
        file_row (x ∷ xs) ∷ [],
        make_rows_below choices program (x ∷ xs) ∙ ap (λ (rows : List Row). Some (codes "new", rows)) (rows_well (file_built (codes "new")) _ _ leads),
        refl,
      );
    }

plain_check : (choices : Choices) (program : Text) (x : ℕ) (xs : Text) → (x == 45) ≡ false → NamesBy choices (program ∷ codes "check" ∷ codes "--file" ∷ (x ∷ xs) ∷ []) (to_check (x ∷ xs))
plain_check choices program x xs sign =
    let leads = file_leads (codes "check") x xs sign in
    record {
      faultless = check_fault_below choices program (x ∷ xs) ∙ none_of_both _ _ (level_well (file_built (codes "check")) _ _ leads (file_ends (codes "check") (x ∷ xs))) refl;
      found = (
        file_row (x ∷ xs) ∷ [],
        check_rows_below choices program (x ∷ xs) ∙ ap (λ (rows : List Row). Some (codes "check", rows)) (rows_well (file_built (codes "check")) _ _ leads),
        refl,
      );
    }

plain_migrate : (choices : Choices) (program : Text) (x : ℕ) (xs : Text) → (x == 45) ≡ false → NamesBy choices (program ∷ codes "migrate" ∷ codes "--file" ∷ (x ∷ xs) ∷ []) (to_migrate (x ∷ xs))
plain_migrate choices program x xs sign =
    let leads = file_leads (codes "migrate") x xs sign in
    record {
      faultless = migrate_fault_below choices program (x ∷ xs) ∙ none_of_both _ _ (level_well (file_built (codes "migrate")) _ _ leads (file_ends (codes "migrate") (x ∷ xs))) refl;
      found = (
        file_row (x ∷ xs) ∷ [],
        migrate_rows_below choices program (x ∷ xs) ∙ ap (λ (rows : List Row). Some (codes "migrate", rows)) (rows_well (file_built (codes "migrate")) _ _ leads),
        refl,
      );
    }

pub plain_files : (choices : Choices) (program file : Text) → IsPlainText file
    → NamesBy choices (program ∷ codes "new" ∷ codes "--file" ∷ file ∷ []) (to_make file)
    × NamesBy choices (program ∷ codes "check" ∷ codes "--file" ∷ file ∷ []) (to_check file)
    × NamesBy choices (program ∷ codes "migrate" ∷ codes "--file" ∷ file ∷ []) (to_migrate file)
plain_files choices program [] plain = absurd plain
plain_files choices program (x ∷ xs) plain =
    let sign = no_hyphen x plain in
    (plain_make choices program x xs sign, plain_check choices program x xs sign, plain_migrate choices program x xs sign)

-- ---- `serve`

file_asked : walked serve_built.rules [] (walk_from nothing_held) (codes "--file") ≡ expects_value [] (codes "file")
unfolding clap_on_literals
file_asked = refl

file_asked_well : turn_fault serve_built [] (walk_from nothing_held) (codes "--file") ≡ []
unfolding clap_on_literals
file_asked_well = refl

file_answered : (x : ℕ) (xs : Text) → (x == 45) ≡ false → walked serve_built.rules [] (expects_value [] (codes "file")) (x ∷ xs) ≡ with_value [] (codes "file") (x ∷ xs)
unfolding clap_on_literals
file_answered x xs sign = rw sign (rw sign refl)

file_answered_well : (x : ℕ) (xs : Text) → (x == 45) ≡ false → turn_fault serve_built [] (expects_value [] (codes "file")) (x ∷ xs) ≡ []
unfolding clap_on_literals
file_answered_well x xs sign = rw sign (rw sign refl)

port_asked : (file : Text) → walked serve_built.rules [] (with_value [] (codes "file") file) (codes "--port") ≡ expects_value (file_row file ∷ []) (codes "port")
unfolding clap_on_literals
port_asked file = refl

port_asked_well : (file : Text) → turn_fault serve_built [] (with_value [] (codes "file") file) (codes "--port") ≡ []
unfolding clap_on_literals
port_asked_well file = refl

port_answered : (rows : List Row) (x : ℕ) (xs : Text) → (x == 45) ≡ false
    → walked serve_built.rules [] (expects_value rows (codes "port")) (x ∷ xs) ≡ with_value rows (codes "port") (x ∷ xs)
unfolding clap_on_literals
port_answered rows x xs sign = rw sign (rw sign refl)

port_answered_well : (rows : List Row) (x : ℕ) (xs : Text) → (x == 45) ≡ false → turn_fault serve_built [] (expects_value rows (codes "port")) (x ∷ xs) ≡ []
unfolding clap_on_literals
port_answered_well rows x xs sign = rw sign (rw sign refl)

count_asked : (file digits : Text) → walked serve_built.rules [] (with_value (file_row file ∷ []) (codes "port") digits) (codes "--connections")
    ≡ expects_value (file_row file ∷ port_row digits ∷ []) (codes "connections")
unfolding clap_on_literals
count_asked file digits = refl

count_asked_well : (file digits : Text) → accepts false port_parser digits ≡ true
    → turn_fault serve_built [] (with_value (file_row file ∷ []) (codes "port") digits) (codes "--connections") ≡ []
unfolding clap_on_literals
count_asked_well file digits accepted = rw accepted refl

count_answered : (rows : List Row) (x : ℕ) (xs : Text) → (x == 45) ≡ false
    → walked serve_built.rules [] (expects_value rows (codes "connections")) (x ∷ xs) ≡ with_value rows (codes "connections") (x ∷ xs)
unfolding clap_on_literals
count_answered rows x xs sign = rw sign (rw sign refl)

count_answered_well : (rows : List Row) (x : ℕ) (xs : Text) → (x == 45) ≡ false → turn_fault serve_built [] (expects_value rows (codes "connections")) (x ∷ xs) ≡ []
unfolding clap_on_literals
count_answered_well rows x xs sign = rw sign (rw sign refl)

limit_asked : (file port count : Text)
    → walked serve_built.rules [] (with_value (file_row file ∷ port_row port ∷ []) (codes "connections") count) (codes "--at-once")
    ≡ expects_value (file_row file ∷ port_row port ∷ count_row count ∷ []) (codes "at-once")
unfolding clap_on_literals
limit_asked file port count = refl

limit_asked_well : (file port count : Text) → accepts false count_parser count ≡ true
    → turn_fault serve_built [] (with_value (file_row file ∷ port_row port ∷ []) (codes "connections") count) (codes "--at-once") ≡ []
unfolding clap_on_literals
limit_asked_well file port count accepted = rw accepted refl

limit_answered : (rows : List Row) (x : ℕ) (xs : Text) → (x == 45) ≡ false
    → walked serve_built.rules [] (expects_value rows (codes "at-once")) (x ∷ xs) ≡ with_value rows (codes "at-once") (x ∷ xs)
unfolding clap_on_literals
limit_answered rows x xs sign = rw sign (rw sign refl)

limit_answered_well : (rows : List Row) (x : ℕ) (xs : Text) → (x == 45) ≡ false → turn_fault serve_built [] (expects_value rows (codes "at-once")) (x ∷ xs) ≡ []
unfolding clap_on_literals
limit_answered_well rows x xs sign = rw sign (rw sign refl)

count_ends : (file port count : Text) → accepts false count_parser count ≡ true
    → EndsWell serve_built (with_value (file_row file ∷ port_row port ∷ []) (codes "connections") count).held
unfolding clap_on_literals
count_ends file port count accepted = record { settles = rw accepted refl; defaults = refl; checks = refl }

limit_ends : (file port count limit : Text) → accepts false limit_parser limit ≡ true
    → EndsWell serve_built (with_value (file_row file ∷ port_row port ∷ count_row count ∷ []) (codes "at-once") limit).held
unfolding clap_on_literals
limit_ends file port count limit accepted = record { settles = rw accepted refl; defaults = refl; checks = refl }

serve_fault_below : (choices : Choices) (program file port count : Text) → fault_of (land_app choices) (program ∷ codes "serve" ∷ serve_words file port count)
    ≡ or_else (level_fault serve_built [] nothing_held (serve_words file port count) false []) []
unfolding clap_on_literals
serve_fault_below choices program file port count = refl

serve_rows_below : (choices : Choices) (program file port count : Text) → subcommand_of (land_app choices) (program ∷ codes "serve" ∷ serve_words file port count)
    ≡ Some (codes "serve", rows_after serve_built.rules [] (serve_words file port count))
unfolding clap_on_literals
serve_rows_below choices program file port count = refl

limit_fault_below : (choices : Choices) (program file port count limit : Text)
    → fault_of (land_app choices) (program ∷ codes "serve" ∷ (serve_words file port count ++ codes "--at-once" ∷ limit ∷ []))
    ≡ or_else (level_fault serve_built [] nothing_held (serve_words file port count ++ codes "--at-once" ∷ limit ∷ []) false []) []
unfolding clap_on_literals
limit_fault_below choices program file port count limit = refl

limit_rows_below : (choices : Choices) (program file port count limit : Text)
    → subcommand_of (land_app choices) (program ∷ codes "serve" ∷ (serve_words file port count ++ codes "--at-once" ∷ limit ∷ []))
    ≡ Some (codes "serve", rows_after serve_built.rules [] (serve_words file port count ++ codes "--at-once" ∷ limit ∷ []))
unfolding clap_on_literals
limit_rows_below choices program file port count limit = refl

module _ (choices : Choices) (program : Text) (x y z : ℕ) (xs ys zs : Text) (port connections : ℕ) (plain : IsPlainText (x ∷ xs))
    (port_read : IsRead (y ∷ ys) 1 65535 port) (count_read : IsRead (z ∷ zs) 1 1000000 connections) where
  count_passes : accepts false count_parser (z ∷ zs) ≡ true
  count_passes = Accepts-accepts false count_parser (z ∷ zs) count_read.1

  -- the walk until the number of connections
  to_count : (more : List Text) (end : Walk)
      → Leads serve_built (with_value (file_row (x ∷ xs) ∷ port_row (y ∷ ys) ∷ []) (codes "connections") (z ∷ zs)) more end
      → Leads serve_built (walk_from nothing_held) (serve_words (x ∷ xs) (y ∷ ys) (z ∷ zs) ++ more) end
  to_count more end rest =
      let a = no_hyphen x plain in
      let b = no_hyphen y port_read.0 in
      let c = no_hyphen z count_read.0 in
      let port_passes = Accepts-accepts false port_parser (y ∷ ys) port_read.1 in
      on_to serve_built _ _ _ _ _ file_asked file_asked_well
      (on_to serve_built _ _ _ _ _ (file_answered x xs a) (file_answered_well x xs a)
      (on_to serve_built _ _ _ _ _ (port_asked (x ∷ xs)) (port_asked_well (x ∷ xs))
      (on_to serve_built _ _ _ _ _ (port_answered _ y ys b) (port_answered_well _ y ys b)
      (on_to serve_built _ _ _ _ _ (count_asked (x ∷ xs) (y ∷ ys)) (count_asked_well (x ∷ xs) (y ∷ ys) port_passes)
      (on_to serve_built _ _ _ _ _ (count_answered _ z zs c) (count_answered_well _ z zs c) rest)))))

  one_at_a_time : NamesBy choices (program ∷ codes "serve" ∷ serve_words (x ∷ xs) (y ∷ ys) (z ∷ zs)) (to_serve (x ∷ xs) port connections 1)
  one_at_a_time =
      let leads = to_count [] _ (empty_walk serve_built _) in
      let ends = count_ends (x ∷ xs) (y ∷ ys) (z ∷ zs) count_passes in
      record {
        faultless = serve_fault_below choices program (x ∷ xs) (y ∷ ys) (z ∷ zs) ∙ none_of_both _ _ (level_well serve_built _ _ leads ends) refl;
        found = (
          file_row (x ∷ xs) ∷ port_row (y ∷ ys) ∷ count_row (z ∷ zs) ∷ [],
          serve_rows_below choices program (x ∷ xs) (y ∷ ys) (z ∷ zs) ∙ ap (λ (rows : List Row). Some (codes "serve", rows)) (rows_well serve_built _ _ leads),
          (
            refl,
            record { text = y ∷ ys; found = refl; in_range = port_read.1; value = port_read.2 },
            record { text = z ∷ zs; found = refl; in_range = count_read.1; value = count_read.2 },
            inr (refl, refl),
          ),
        );
      }

  at_limit : (w : ℕ) (ws : Text) (at_once : ℕ) → IsRead (w ∷ ws) 1 1024 at_once
      → NamesBy choices (program ∷ codes "serve" ∷ (serve_words (x ∷ xs) (y ∷ ys) (z ∷ zs) ++ codes "--at-once" ∷ (w ∷ ws) ∷ []))
      (to_serve (x ∷ xs) port connections at_once)
  at_limit w ws at_once limit_read =
      let sign = no_hyphen w limit_read.0 in
      let leads =
      to_count (codes "--at-once" ∷ (w ∷ ws) ∷ []) _
      (on_to serve_built _ _ _ _ _ (limit_asked (x ∷ xs) (y ∷ ys) (z ∷ zs)) (limit_asked_well (x ∷ xs) (y ∷ ys) (z ∷ zs) count_passes)
      (on_to serve_built _ _ _ _ _ (limit_answered _ w ws sign) (limit_answered_well _ w ws sign) (empty_walk serve_built _))) in
      let ends = limit_ends (x ∷ xs) (y ∷ ys) (z ∷ zs) (w ∷ ws) (Accepts-accepts false limit_parser (w ∷ ws) limit_read.1) in
      record {
        faultless = limit_fault_below choices program (x ∷ xs) (y ∷ ys) (z ∷ zs) (w ∷ ws) ∙ none_of_both _ _ (level_well serve_built _ _ leads ends) refl;
        found = (
          file_row (x ∷ xs) ∷ port_row (y ∷ ys) ∷ count_row (z ∷ zs) ∷ limit_row (w ∷ ws) ∷ [],
          limit_rows_below choices program (x ∷ xs) (y ∷ ys) (z ∷ zs) (w ∷ ws) ∙ ap (λ (rows : List Row). Some (codes "serve", rows)) (rows_well serve_built _ _ leads),
          (
            refl,
            record { text = y ∷ ys; found = refl; in_range = port_read.1; value = port_read.2 },
            record { text = z ∷ zs; found = refl; in_range = count_read.1; value = count_read.2 },
            inl (record { text = w ∷ ws; found = refl; in_range = limit_read.1; value = limit_read.2 }),
          ),
        );
      }

  at_any_limit : (limit_digits : Text) (at_once : ℕ) → IsNumeralIn limit_digits 1 1024 at_once
      → NamesBy choices (program ∷ codes "serve" ∷ (serve_words (x ∷ xs) (y ∷ ys) (z ∷ zs) ++ codes "--at-once" ∷ limit_digits ∷ []))
      (to_serve (x ∷ xs) port connections at_once)
  at_any_limit [] at_once written = absurd (omega arith)
  at_any_limit (w ∷ ws) at_once written = at_limit w ws at_once (numeral_reads (w ∷ ws) 1 1024 at_once (omega arith) written)

pub plain_service : PlainServiceLaw
plain_service choices program [] port_digits count_digits port connections plain port_written count_written = absurd plain
plain_service choices program (x ∷ xs) [] count_digits port connections plain port_written count_written = absurd (omega arith)
plain_service choices program (x ∷ xs) (y ∷ ys) [] port connections plain port_written count_written = absurd (omega arith)
plain_service choices program (x ∷ xs) (y ∷ ys) (z ∷ zs) port connections plain port_written count_written =
    let port_read = numeral_reads (y ∷ ys) 1 65535 port (omega arith) port_written in
    let count_read = numeral_reads (z ∷ zs) 1 1000000 connections (omega arith) count_written in (
      one_at_a_time choices program x y z xs ys zs port connections plain port_read count_read,
      at_any_limit choices program x y z xs ys zs port connections plain port_read count_read,
    )
