-- The register that is read from tables at any moment is the timeline's.
use Rattle.std.proofs.Common.{◌≡◌, ◌∙◌, ap, refl, sym, subst, inl, Bool, true, false, cond, [], ◌∷◌, Option, Some, None, Result, Ok, Err, IfOk, arith}
use Rattle.std.specs.Prelude.{ℤ, pos, ◌<ℤ◌, ◌≤ℤ◌, int_le, int_lt, fold, unwrap_or, if◌then◌else◌}
use Rattle.std.specs.Int.{int_min}
use Rattle.std.specs.Option.{option_map}
use Rattle.std.specs.List.{AllByRecursion}
use Rattle.std.proofs.lemmas.Int.{ints}
use Rattle.land_core.specs.Numbers.{IsMoment, last_moment}
use Rattle.land_core.specs.Register.{empty_register}
use Rattle.land_core.specs.declared.register.Register.{Register}
use Rattle.land_keep.proofs.Timelines.{last_is_moment}
use Rattle.land_keep.specs.Keeping.{Closes}
use Rattle.land_keep.specs.Timeline.{IsSoundTimeline, Timeline, last_register, last_stamp, register_at}
use Rattle.land_keep.specs.declared.store_fault.StoreFault.{StoreFault}
use Rattle.land_keep.specs.declared.timeline.Version.{Version}
use Rattle.land_tables.proofs.Tellings.{read_stands}
use Rattle.land_tables.proofs.WrittenTimelines.{stays_last}
use Rattle.land_tables.specs.Calls.{IsSafeRead}
use Rattle.land_tables.specs.TablesState.{HoldsRegister}
use Rattle.land_tables.specs.Standing.{ReadsAt, decoded_timeline}
use Rattle.land_tables.specs.Timelines.Laws.{OrderDoesNotMatter, ReadingIsTheRegister, HistoriesRepresentOneTimeline}
use Rattle.land_tables_history.proofs.MomentOrder.{le_through}
use Rattle.land_tables_schema.proofs.Looking.{was_clean}
use Rattle.sqlite.specs.State.{HasCleanDisk, State}

is_before : (t stamp : ℤ) → pos 0 ≤ℤ stamp → t <ℤ pos 0 → int_le stamp t ≡ false
is_before t stamp le less = grind (arith, ints)

none_found : (t : ℤ) → t <ℤ pos 0 → (tl : Timeline) → AllByRecursion (λ v. IsMoment v.stamp) tl → fold (λ found v. if int_le v.stamp t then Some v else found) None tl ≡ None
none_found t less [] all = refl
none_found t less (v ∷ vs) all =
    ap (λ b. fold (λ found v. if int_le v.stamp t then Some v else found) (cond b (Some v) None) vs) (is_before t v.stamp all.0.0 less) ∙ none_found t less vs all.1

-- before the first moment the register is empty
pub before_all : (tl : Timeline) (t : ℤ) → IsSoundTimeline tl → t <ℤ pos 0 → register_at tl t ≡ empty_register
before_all tl t sound less = ap (λ (o : Option Version). unwrap_or (option_map (λ (v : Version). v.register) o) empty_register) (none_found t less tl sound.moments)

pub not_before : (t : ℤ) → int_lt t (pos 0) ≡ false → pos 0 ≤ℤ t
not_before t h = grind (arith, ints)

-- after the last moment the register is that of the last moment
pub past_all : (tl : Timeline) (t : ℤ) → IsSoundTimeline tl → last_moment ≤ℤ t → register_at tl t ≡ register_at tl last_moment
past_all tl t sound le =
    let is_moment = last_is_moment tl sound in
    stays_last tl t sound.rising (le_through (last_stamp tl) last_moment t is_moment le) ∙ sym (stays_last tl last_moment sound.rising is_moment)

-- the register that was read at a moment is the timeline's
pub read_is : HistoriesRepresentOneTimeline → OrderDoesNotMatter → ReadingIsTheRegister → (s : State) → HoldsRegister s → (t : ℤ) → IsMoment t → (register : Register) → ReadsAt s.now.trees t register
    → register ≡ register_at (decoded_timeline s.now.trees) t
read_is one order reading s office t is_moment register read =
    let tl = decoded_timeline s.now.trees in
    read.4 ∙ reading read.0 read.1 tl t (read_stands one order s.now.trees tl office.holds read.0 read.1 read.2 read.3) office.sound is_moment

past_last : (t : ℤ) → int_lt last_moment t ≡ true → last_moment ≤ℤ t
past_last t h = grind (arith, ints)

within_last : (t : ℤ) → int_lt last_moment t ≡ false → t ≤ℤ last_moment
within_last t h = grind (arith, ints)

abbrev pub IsReadAt : (t u : ℤ) → Type 0
IsReadAt t u = IsMoment u × ((tl : Timeline) → IsSoundTimeline tl → register_at tl t ≡ register_at tl u)

-- a time at or after the first moment is read at the clamped moment
pub read_moment : (t u : ℤ) → pos 0 ≤ℤ t → u ≡ int_min t last_moment → IsReadAt t u
read_moment t u le is = go (int_lt last_moment t) refl is
  where
    go : (b : Bool) → int_lt last_moment t ≡ b → u ≡ cond b last_moment t → IsMoment u × ((tl : Timeline) → IsSoundTimeline tl → register_at tl t ≡ register_at tl u)
    go true h e = subst (λ u. IsMoment u × ((tl : Timeline) → IsSoundTimeline tl → register_at tl t ≡ register_at tl u)) (sym e) ((omega (arith, ints), omega (arith, ints)), λ tl sound. past_all tl t sound (past_last t h))
    go false h e = subst (λ u. IsMoment u × ((tl : Timeline) → IsSoundTimeline tl → register_at tl t ≡ register_at tl u)) (sym e) ((le, within_last t h), λ tl sound. refl)

-- nothing is read for a time before the first moment
pub read_nothing : (s : State) (t : ℤ) → (HasCleanDisk s → HoldsRegister s) → t <ℤ pos 0 → (r : Register) → r ≡ empty_register → IsSafeRead {X = Register} (Ok r) (λ it. it ≡ register_at (decoded_timeline s.now.trees) t) s s
read_nothing s t office less r is = record {
  given = λ clean. is ∙ sym (before_all (decoded_timeline s.now.trees) t (office clean).sound less);
  same = λ clean _. record { is_open = (office clean).is_open; now = refl; committed = (office clean).committed };
  survives = record { clean = omega arith; shield = λ x. x; counts = omega arith; limit = refl; closes = λ _ t. inl t; crash = λ _ _ x. inl x };
}

-- the register that is read from the tables is the timeline's
pub read_register : HistoriesRepresentOneTimeline → OrderDoesNotMatter → ReadingIsTheRegister → (a b : State) (t u : ℤ) → (HasCleanDisk a → HoldsRegister a) → IsReadAt t u → (r : Result Register StoreFault)
    → IsSafeRead r (ReadsAt a.now.trees u) a b → IsSafeRead r (λ it. it ≡ register_at (decoded_timeline a.now.trees) t) a b
read_register one order reading a b t u office place r safe = record {
  given = λ clean. (
      let was = office (was_clean a b safe.survives clean) in
      go was r (safe.given clean));
  same = safe.same;
  survives = safe.survives;
}
  where
    go : HoldsRegister a → (r : Result Register StoreFault) → IfOk r (ReadsAt a.now.trees u) → IfOk r (λ it. it ≡ register_at (decoded_timeline a.now.trees) t)
    go was (Ok it) read = read_is one order reading a was u place.0 it read ∙ sym (place.1 (decoded_timeline a.now.trees) was.sound)
    go was (Err fault) read = tt

least : (a b : ℤ) → a ≡ b → b ≤ℤ a
least a b is = omega (arith, ints)

-- the register that is read at the last stamp is the last register
pub read_last : (tl : Timeline) (t : ℤ) (was after : Bool) (r : Result Register StoreFault) → Closes was after r → (was ≡ false → (t ≡ last_stamp tl) × IsSoundTimeline tl)
    → IfOk r (λ it. it ≡ register_at tl t) → IfOk r (λ it. it ≡ last_register tl)
read_last tl t false after (Ok it) closes known is = is ∙ stays_last tl t (known refl).1.rising (least t (last_stamp tl) (known refl).0)
read_last tl t true after (Ok it) closes known is = absurd closes
read_last tl t was after (Err fault) closes known is = tt
