-- The versions at the moment that is read form the timeline's register at the requested time.
use Rattle.std.proofs.Common.{◌≡◌, ◌∙◌, ap, refl, sym, subst, Bool, true, false, cond, ◌||◌, [], ◌∷◌, map, arith}
use Rattle.std.specs.Prelude.{ℤ, pos, ◌<ℤ◌, ◌≤ℤ◌, int_le, int_lt}
use Rattle.std.specs.Int.{int_min}
use Rattle.std.specs.List.{AllByRecursion}
use Rattle.std.specs.Ordering.{int_eq}
use Rattle.std.proofs.lemmas.Bool.{false≢true}
use Rattle.std.proofs.lemmas.Int.{ints}
use Rattle.land_core.specs.Numbers.{IsMoment, last_moment}
use Rattle.land_core.specs.Register.{empty_register}
use Rattle.land_core.specs.declared.register.Register.{Register}
use Rattle.land_keep.specs.Timeline.{Timeline, register_at}
use Rattle.land_tables.proofs.AdoptedTimelines.{nothing_stands}
use Rattle.land_tables.proofs.ReadBack.{before_all, not_before, read_moment}
use Rattle.land_tables.proofs.ToldIntervals.{told_intervals}
use Rattle.land_tables.specs.TablesState.{HoldsRegister}
use Rattle.land_tables.specs.Standing.{decoded_timeline}
use Rattle.land_tables.specs.Timelines.{version_moment}
use Rattle.land_tables_history.proofs.Permutations.{any_permuted}
use Rattle.land_tables_history.proofs.Proper.{all_proper}
use Rattle.land_tables_history.specs.History.{IsRegisterAt}
use Rattle.land_tables_history.specs.Intervals.{is_stamp}
use Rattle.sqlite.specs.State.{State}

is_after : (s t u : ℤ) → pos 0 ≤ℤ s → t <ℤ pos 0 → int_eq s u ≡ true → int_le u t ≡ false
is_after s t u le less is = grind (arith, ints)

-- each stamp is after every time before the first moment
all_after : (tl : Timeline) (t u : ℤ) → AllByRecursion (λ v. IsMoment v.stamp) tl → t <ℤ pos 0 → is_stamp (map version_moment tl) u ≡ true → int_le u t ≡ false
all_after [] t u all less is = absurd (false≢true is)
all_after (v ∷ vs) t u all less is = go (int_eq v.stamp u) refl is (all_after vs t u all.1 less)
  where
    go : (b : Bool) → int_eq v.stamp u ≡ b → (b || is_stamp (map version_moment vs) u) ≡ true → (is_stamp (map version_moment vs) u ≡ true → int_le u t ≡ false) → int_le u t ≡ false
    go true here is rest = is_after v.stamp t u all.0.0 less here
    go false here is rest = rest is

-- before the first moment the tables of a register have no versions
stands_before : (s : State) (register : HoldsRegister s) (t : ℤ) → t <ℤ pos 0 → IsRegisterAt t register.holds.history empty_register
stands_before s register t less =
    let tl = decoded_timeline s.now.trees in
    let holds = register.holds in
    nothing_stands holds.listed holds.history t (all_proper holds.listed holds.history (sym (told_intervals s.now.trees tl holds) ∙ register.intervals))
    (λ u is. all_after tl t u register.sound.moments less (sym (any_permuted (λ m. int_eq m.stamp u) (map version_moment tl) holds.listed holds.stands.moments) ∙ is))

before : (t : ℤ) → int_lt t (pos 0) ≡ true → t <ℤ pos 0
before t h = grind (arith, ints)

not_past : (t : ℤ) → int_lt t (pos 0) ≡ true → int_lt last_moment t ≡ false
not_past t h = grind (arith, ints)

-- a request for time t that reads at u returns the register at t
abbrev pub IsLookedAt : (t u : ℤ) → Type 1
IsLookedAt t u = (s : State) (register : HoldsRegister s) → IsRegisterAt u register.holds.history (register_at (decoded_timeline s.now.trees) t)

-- times after the last moment read at the last moment, all others at themselves
pub look_moment : (t u : ℤ) → u ≡ int_min t last_moment → IsLookedAt t u
look_moment t u is = go (int_lt t (pos 0)) refl
  where
    go : (b : Bool) → int_lt t (pos 0) ≡ b → IsLookedAt t u
    go true h = λ s register.
        let holds = register.holds in
        let itself : u ≡ t = is ∙ ap (λ b. cond b last_moment t) (not_past t h) in
        subst (λ (x : ℤ). IsRegisterAt x holds.history (register_at (decoded_timeline s.now.trees) t)) (sym itself)
        (subst (λ (r : Register). IsRegisterAt t holds.history r) (sym (before_all (decoded_timeline s.now.trees) t register.sound (before t h))) (stands_before s register t (before t h)))
    go false h = λ s register.
        let holds = register.holds in
        let place = read_moment t u (not_before t h) is in
        subst (λ (r : Register). IsRegisterAt u holds.history r) (sym (place.1 (decoded_timeline s.now.trees) register.sound)) (holds.stands.stands u place.0)
