-- A condition on the rows that each use of an option preserves is preserved by a walk over arguments without a fault.
use Rattle.std.proofs.Common.{◌≡◌, ◌&&◌, refl, ℕ, zero, suc, Bool, true, false, List, [], ◌∷◌, Option, Some, None, is_some, length, drop, if◌then◌else◌}
use Rattle.std.specs.Prelude.{encode_utf8, find, fold, slice_get}
use Rattle.std.specs.Option.{option_map_or}
use Rattle.std.specs.Str.{bytes_eq, chars}
use Rattle.clap.specs.Faults.{bundle_fault, bundle_step_fault, flag_word_fault, flags_fault, long_fault, option_fault, other_fault, positional_fault, react_fault, settle_fault, short_fault, step_fault, stray_fault, turn_fault, use_fault, walk_fault, word_fault}
use Rattle.clap.specs.Kinds.{Kinds, or_else}
use Rattle.clap.specs.Lexer.{long_of, short_of}
use Rattle.clap.specs.Simple.{Shape}
use Rattle.clap.specs.Walk.{Held, Names, Outcome, Row, Rule, Step, Text, Waiting, Walk, after_flag, after_step, arg_by_id, arg_by_index, arg_by_long, arg_by_short, attached_value, bundle_met, bundle_step, done, flag_met, idle, is_pending, long_met, long_or_other, next, option, option_met, option_word, plain, plain_word, positional, reacted, refused, settled, settled_rows, short_met, short_or_plain, subcommand, subcommand_met, subcommand_or_other, takes_several, takes_values, to_positional, trailing, used, used_by_id, value, waits, walked, walked_from, word_met}
use Rattle.clap.specs.declared.error.kind.ErrorKind.TheVariants as kind

-- if the appended list is empty, both lists are
pub both_none : (a b : Kinds) → or_else a b ≡ [] → (a ≡ []) × (b ≡ [])
both_none [] b e = (refl, e)
both_none (k ∷ ks) b e = cc

module _ (s : Shape) (Good : List Row → Type 0)
    (keeps : (p : Rule → Bool) (a : Rule) → find p s.rules ≡ Some a → (again : Bool) (values : List Text) (rows : List Row) → use_fault again a values rows ≡ []
    → Good rows → Good (used a values rows)) where
  by_id : (again : Bool) (p : Rule → Bool) (o : Option Rule) → find p s.rules ≡ o → (values : List Text) (rows : List Row)
      → option_map_or (λ a. use_fault again a values rows) o [] ≡ [] → Good rows → Good (used_by_id o values rows)
  by_id again p None at values rows e good = good
  by_id again p (Some a) at values rows e good = keeps p a at again values rows e good

  settled_keep : (again : Bool) (pending : Option (Text × List Text)) (rows : List Row)
      → option_map_or (λ q. option_map_or (λ a. use_fault again a q.1 rows) (arg_by_id s.rules q.0) []) pending [] ≡ [] → Good rows
      → Good (settled_rows s.rules pending rows)
  settled_keep again None rows e good = good
  settled_keep again (Some q) rows e good = by_id again (λ a. bytes_eq a.id q.0) (arg_by_id s.rules q.0) refl q.1 rows e good

  pub settle_keeps : (again : Bool) (h : Held) → settle_fault s.rules again h ≡ [] → Good h.rows → Good (settled s.rules h).rows
  settle_keeps again h e good = settled_keep again h.pending h.rows e good

  react_keeps : (again : Bool) (p : Rule → Bool) (a : Rule) → find p s.rules ≡ Some a → (values : List Text) (h : Held) → react_fault s.rules again a values h ≡ []
      → Good h.rows → Good (reacted s.rules a values h).rows
  react_keeps again p a at values h e good =
      let parts = both_none (settle_fault s.rules again h) _ e in
      keeps p a at again values (settled s.rules h).rows parts.1 (settle_keeps again h parts.0 good)

  option_keeps : (again : Bool) (p : Rule → Bool) (a : Rule) → find p s.rules ≡ Some a → (v : Option Text) (h : Held) → option_fault s.rules again a v h ≡ []
      → Good h.rows → Good (option_met s.rules a v h).0.rows
  option_keeps again p a at (Some v) h e good = react_keeps again p a at (v ∷ []) h e good
  option_keeps again p a at None h e good = settle_keeps again h e good

  long_keeps : (again : Bool) (p : Rule → Bool) (found : Option Rule) → find p s.rules ≡ found → (v : Option Text) (h : Held) → long_fault s.rules again found v h ≡ []
      → Good h.rows → Good (long_met s.rules found v h).0.rows
  long_keeps again p None at v h e good = good
  long_keeps again p (Some a) at v h e good = go (takes_values a) v e
    where
      go : (t : Bool) (v : Option Text)
          → (if t then option_fault s.rules again a v h
          else (if is_some v then kind.TooManyValues ∷ [] else react_fault s.rules again a [] h)) ≡ []
          → Good (if t then option_met s.rules a v h else flag_met s.rules a v h).0.rows
      go true v e = option_keeps again p a at v h e good
      go false (Some v) e = good
      go false None e = react_keeps again p a at [] h e good

  short_keeps : (again : Bool) (p : Rule → Bool) (found : Option Rule) → find p s.rules ≡ found → (rest : Text) (h : Held)
      (later : Held → Held × Outcome) (later_fault : Held → Kinds) → ((h : Held) → later_fault h ≡ [] → Good h.rows → Good (later h).0.rows)
      → short_fault s.rules again found rest h later_fault ≡ [] → Good h.rows → Good (short_met s.rules found rest h later).0.rows
  short_keeps again p None at rest h later later_fault more e good = good
  short_keeps again p (Some a) at rest h later later_fault more e good = go (takes_values a) e
    where
      go : (t : Bool)
          → (if t then option_fault s.rules again a (attached_value rest) h
          else or_else (react_fault s.rules again a [] h) (later_fault (reacted s.rules a [] h))) ≡ []
          → Good (if t then option_met s.rules a (attached_value rest) h else later (reacted s.rules a [] h)).0.rows
      go true e = option_keeps again p a at (attached_value rest) h e good
      go false e =
          let parts = both_none (react_fault s.rules again a [] h) _ e in
          more (reacted s.rules a [] h) parts.1 (react_keeps again p a at [] h parts.0 good)

  character_keeps : (again : Bool) (first : Option ℕ) (flags : Text) (skip : ℕ) (so_far : Outcome) (h : Held)
      (later : Text → ℕ → Outcome → Held → Held × Outcome) (later_fault : Text → ℕ → Held → Kinds)
      → ((flags : Text) (skip : ℕ) (so_far : Outcome) (h : Held) → later_fault flags skip h ≡ [] → Good h.rows → Good (later flags skip so_far h).0.rows)
      → bundle_step_fault s.rules again first flags skip h later_fault ≡ [] → Good h.rows
      → Good (bundle_step s.rules first flags skip so_far h later).0.rows
  character_keeps again None flags skip so_far h later later_fault more e good = good
  character_keeps again (Some x) flags zero so_far h later later_fault more e good =
      let rest = drop (length (encode_utf8 x)) flags in
      short_keeps again _ (arg_by_short s.rules x) refl rest h (later rest 0 done) (later_fault rest 0) (more rest 0 done) e good
  character_keeps again (Some x) flags (suc skip) so_far h later later_fault more e good =
      more (drop (length (encode_utf8 x)) flags) skip so_far h e good

  bundle_keeps : (again : Bool) (k : ℕ) (flags : Text) (skip : ℕ) (so_far : Outcome) (h : Held) → flags_fault s.rules again k flags skip h ≡ [] → Good h.rows
      → Good (bundle_met s.rules k flags skip so_far h).0.rows
  unfolding bundle_met flags_fault
  bundle_keeps again zero flags skip so_far h e good = good
  bundle_keeps again (suc k) flags skip so_far h e good =
      character_keeps again (slice_get (chars flags) 0) flags skip so_far h (bundle_met s.rules k) (flags_fault s.rules again k) (bundle_keeps again k) e good

  plain_keeps : (waiting : Waiting) (word : Text) (h : Held) → Good h.rows → Good (plain_word s.rules waiting word h).0.rows
  plain_keeps idle word h good = good
  plain_keeps positional word h good = good
  plain_keeps (option id) word h good = go (arg_by_id s.rules id)
    where
      go : (o : Option Rule) → Good (option_word o id word h).0.rows
      go None = good
      go (Some a) = good

  after_keeps : (waiting : Waiting) (word : Text) (h : Held) (outcome : Outcome) → Good h.rows → Good (after_flag s.rules waiting word h outcome).0.rows
  after_keeps waiting word h done good = good
  after_keeps waiting word h (waits id) good = good
  after_keeps waiting word h plain good = plain_keeps waiting word h good
  after_keeps waiting word h refused good = plain_keeps waiting word h good

  short_word_keeps : (again : Bool) (waiting : Waiting) (word : Text) (o : Option Text) (h : Held)
      → option_map_or (λ flags. bundle_fault s.rules again flags h) o [] ≡ [] → Good h.rows → Good (short_or_plain s.rules waiting word o h).0.rows
  short_word_keeps again waiting word None h e good = plain_keeps waiting word h good
  short_word_keeps again waiting word (Some flags) h e good =
      after_keeps waiting word _ _ (bundle_keeps again (length flags) flags h.skip plain (record h { skip = 0 }) e good)

  flag_word_keeps : (again : Bool) (waiting : Waiting) (word : Text) (o : Option (Text × Option Text)) (h : Held)
      → flag_word_fault s.rules again o word h ≡ [] → Good h.rows → Good (long_or_other s.rules waiting word o h).0.rows
  flag_word_keeps again waiting word None h e good = short_word_keeps again waiting word (short_of word) h e good
  flag_word_keeps again waiting word (Some q) h e good =
      after_keeps waiting word _ _ (long_keeps again _ (arg_by_long s.rules q.0) refl q.1 h e good)

  other_keeps : (o : Option Text) (waiting : Waiting) (position : ℕ) (word : Text) (h : Held) → other_fault s o word h ≡ [] → Good h.rows
      → Good (subcommand_or_other s.rules o waiting position word h).0.rows
  other_keeps (Some name) waiting position word h e good = good
  other_keeps None waiting position word h e good = go (bytes_eq word (45 ∷ 45 ∷ [])) e
    where
      go : (t : Bool) → (if t then [] else flag_word_fault s.rules s.args_override_self (long_of word) word h) ≡ []
          → Good (if t then (h, trailing position) else long_or_other s.rules waiting word (long_of word) h).0.rows
      go true e = good
      go false e = flag_word_keeps s.args_override_self waiting word (long_of word) h e good

  word_keeps : (names : Names) (is_trailing : Bool) (waiting : Waiting) (position : ℕ) (word : Text) (h : Held)
      → word_fault s names is_trailing waiting word h ≡ [] → Good h.rows
      → Good (word_met s.rules names is_trailing waiting position word h).0.rows
  word_keeps names true waiting position word h e good = good
  word_keeps names false waiting position word h e good = other_keeps (subcommand_met names waiting word) waiting position word h e good

  positional_keeps : (a : Rule) (h : Held) → positional_fault s.rules s.args_override_self a h ≡ [] → Good h.rows
      → Good (if is_pending a h.pending && takes_several a then h else settled s.rules h).rows
  positional_keeps a h e good = go (is_pending a h.pending && takes_several a) e
    where
      go : (t : Bool) → (if t then [] else settle_fault s.rules s.args_override_self h) ≡ [] → Good (if t then h else settled s.rules h).rows
      go true e = good
      go false e = settle_keeps s.args_override_self h e good

  step_keeps : (word : Text) (w : Walk) (h : Held) (step : Step) → step_fault s w.position h step ≡ [] → Good h.rows
      → Good (after_step s.rules word w h step).held.rows
  step_keeps word w h (next waiting) e good = good
  step_keeps word w h (trailing position) e good = good
  step_keeps word w h (subcommand name) e good = good
  step_keeps word w h value e good = go (arg_by_index s.rules w.position) e
    where
      go : (o : Option Rule) → option_map_or (λ a. positional_fault s.rules s.args_override_self a h) o (stray_fault s) ≡ []
          → Good (to_positional s.rules o word w h).held.rows
      go None e = good
      go (Some a) e = positional_keeps a h e good

  turn_keeps : (names : Names) (w : Walk) (word : Text) → turn_fault s names w word ≡ [] → Good w.held.rows → Good (walked s.rules names w word).held.rows
  unfolding walked
  turn_keeps names w word e good = go w.stopped e
    where
      met : Held × Step
      met = word_met s.rules names w.is_trailing w.waiting w.position word w.held

      go : (o : Option (Text × List Text))
          → (if is_some o then [] else or_else (word_fault s names w.is_trailing w.waiting word w.held) (step_fault s w.position met.0 met.1)) ≡ []
          → Good (walked_from s.rules names o w word).held.rows
      go (Some q) e = good
      go None e =
          let parts = both_none (word_fault s names w.is_trailing w.waiting word w.held) _ e in
          step_keeps word w met.0 met.1 parts.1 (word_keeps names w.is_trailing w.waiting w.position word w.held parts.0 good)

  pub walk_keeps : (names : Names) (w : Walk) (words : List Text) → walk_fault s names w words ≡ [] → Good w.held.rows
      → Good (fold (walked s.rules names) w words).held.rows
  unfolding walk_fault
  walk_keeps names w [] e good = good
  walk_keeps names w (word ∷ words) e good =
      let parts = both_none (turn_fault s names w word) _ e in
      walk_keeps names (walked s.rules names w word) words parts.1 (turn_keeps names w word parts.0 good)
