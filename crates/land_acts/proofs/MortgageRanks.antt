-- The ranks of the mortgages on a unit, and the next one.
use Rattle.std.proofs.Common.{◌≡◌, ℕ, ◌+◌, ◌<◌, ◌≤◌, Bool, true, false, cond, ◌||◌, ◌&&◌, not, Option, Some, None, List, [], ◌∷◌, refl, sym, ap, ◌∙◌, arith}
use Rattle.std.specs.Prelude.{nat_eq, nat_lt, filter}
use Rattle.std.specs.Option.{option_map_or}
use Rattle.std.specs.List.{list_any, filter_map, cons_option}
use Rattle.std.specs.Cmp.{nat_cmp_total}
use Rattle.std.specs.FinMap as map
use Rattle.std.specs.FinMap.{nat_cmp-IsAntisymmetric}
use Rattle.std.proofs.lemmas.Bool.{ltb-true, not-false, or_parts}
use Rattle.std.proofs.lemmas.Bool.Decides.{nat_tests}
use Rattle.land_acts.specs.Mutations.Mortgaging.{greatest, next_rank, rank_in, ranks_in}
use Rattle.land_core.proofs.Reflection.{entries-entries_where, none_at, none_passes}
use Rattle.land_core.proofs.SoundRegisters.{next_above_zero}
use Rattle.land_core.specs.Entries.{entries_where, some}
use Rattle.land_core.specs.Soundness.{IsSound, is_rank_out_of_range}
use Rattle.land_core.specs.Units.{are_of_one_rank, rank_of}
use Rattle.land_core.specs.declared.register.Register.{Register}
use Rattle.land_core.specs.declared.rrr.RrrRecord.{RrrRecord}
use Rattle.land_core.specs.declared.soundness.Unsound.TheVariants.{Rank}

-- whether a rank reaches a bound
abbrev reaches : (bound : ℕ) → Option ℕ → Bool
reaches bound rank = option_map_or (λ k. not (nat_lt k bound)) rank false

-- the greatest number reaches a bound exactly if some number does
some_reaches : {X : Type 0} (h : X → Option ℕ) (bound : ℕ) → 0 < bound → (xs : List X) → list_any (λ x. reaches bound (h x)) xs ≡ not (nat_lt (greatest (filter_map h xs)) bound)
some_reaches h bound above [] = grind (arith, nat_tests)
some_reaches h bound above (x ∷ xs) = ap (λ b. reaches bound (h x) || b) (some_reaches h bound above xs) ∙ first (h x) (filter_map h xs)
  where
    either : (k g : ℕ) → (not (nat_lt k bound) || not (nat_lt g bound)) ≡ not (nat_lt (cond (nat_lt k g) g k) bound)
    either k g = grind (arith, nat_tests)

    first : (o : Option ℕ) (ns : List ℕ) → (reaches bound o || not (nat_lt (greatest ns) bound)) ≡ not (nat_lt (greatest (cons_option o ns)) bound)
    first None ns = refl
    first (Some k) ns = either k (greatest ns)

-- if no item satisfies a condition, no item of the filtered list does
none_kept : {X : Type 0} (t p : X → Bool) (xs : List X) → list_any t xs ≡ false → list_any t (filter p xs) ≡ false
none_kept t p [] none = refl
none_kept {X} t p (x ∷ xs) none =
    let parts = or_parts (t x) (list_any t xs) none in
    let rest = none_kept t p xs parts.1 in
    elim (p x) as (λ b. list_any t (cond b (x ∷ filter p xs) (filter p xs)) ≡ false) [ true ↦ ap (λ b. b || list_any t (filter p xs)) parts.0 ∙ rest | false ↦ rest ]

-- ---- in a sound register the next rank is at most the next number

module _ (r : Register) (sound : IsSound r) (unit : ℕ) where
  in_bounds : (e : RrrRecord) → is_rank_out_of_range r (rank_of e.class) ≡ false → reaches r.next (rank_in unit e) ≡ false
  in_bounds e h = elim (nat_eq e.unit unit) as (λ b. reaches r.next (cond b (rank_of e.class) None) ≡ false) [ true ↦ of_rank (rank_of e.class) h | false ↦ refl ]
    where
      below : (k next : ℕ) → (nat_lt 0 k && nat_lt k next) ≡ true → not (nat_lt k next) ≡ false
      below k next h = grind (arith, nat_tests)

      of_rank : (o : Option ℕ) → is_rank_out_of_range r o ≡ false → reaches r.next o ≡ false
      of_rank None h = refl
      of_rank (Some k) h = below k r.next (not-false _ h)

  none_reaches : list_any (λ e. reaches r.next (rank_in unit e.1)) (map.entries r.rrrs) ≡ false
  none_reaches =
      none_passes nat_cmp_total nat_cmp-IsAntisymmetric (λ n e. reaches r.next (rank_in unit e)) r.rrrs
      (λ n e is. in_bounds e (none_at nat_cmp_total nat_cmp-IsAntisymmetric (λ n e. is_rank_out_of_range r (rank_of e.class)) r.rrrs n e (sound Rank) is))

  fits : (es : List (ℕ × RrrRecord)) → list_any (λ e. reaches r.next (rank_in unit e.1)) es ≡ false → greatest (filter_map (λ e. rank_in unit e.1) es) + 1 ≤ r.next
  fits es none =
      let less = ltb-true (greatest (filter_map (λ e. rank_in unit e.1) es)) r.next (not-false _ (sym (some_reaches (λ e. rank_in unit e.1) r.next (next_above_zero r sound) es) ∙ none)) in
      omega (arith, less)

  pub next_rank_fits : next_rank r unit ≤ r.next
  next_rank_fits = fits (map.entries r.rrrs) none_reaches

  -- the same for some of the entries
  pub next_rank_fits_kept : (s : Register) (kept : ℕ → RrrRecord → Bool) → s.rrrs ≡ entries_where kept r.rrrs → next_rank s unit ≤ r.next
  next_rank_fits_kept s kept is =
      fits (map.entries s.rrrs)
      (ap (λ m. some (λ n e. reaches r.next (rank_in unit e)) m) is
      ∙ ap (list_any (λ e. reaches r.next (rank_in unit e.1))) (entries-entries_where nat_cmp_total nat_cmp-IsAntisymmetric kept r.rrrs)
      ∙ none_kept (λ e. reaches r.next (rank_in unit e.1)) (λ e. kept e.0 e.1) (map.entries r.rrrs) none_reaches)

-- no mortgage on a unit has the next rank
pub next_rank_apart : (r : Register) (unit n : ℕ) (e : RrrRecord) → map.get r.rrrs n ≡ Some e → nat_eq e.unit unit ≡ true → are_of_one_rank (rank_of e.class) (Some (next_rank r unit)) ≡ false
next_rank_apart r unit n e is here =
    let none : list_any (λ e. reaches (next_rank r unit) (rank_in unit e.1)) (map.entries r.rrrs) ≡ false =
    some_reaches (λ e. rank_in unit e.1) (next_rank r unit) (omega arith) (map.entries r.rrrs) ∙ not_itself (greatest (ranks_in r unit)) in
    of_rank (rank_of e.class)
    (sym (ap (λ b. reaches (next_rank r unit) (cond b (rank_of e.class) None)) here) ∙ none_at nat_cmp_total nat_cmp-IsAntisymmetric (λ n e. reaches (next_rank r unit) (rank_in unit e)) r.rrrs n e none is)
  where
    not_itself : (g : ℕ) → not (nat_lt g (g + 1)) ≡ false
    not_itself g = grind (arith, nat_tests)

    other : (k bound : ℕ) → not (nat_lt k bound) ≡ false → nat_eq k bound ≡ false
    other k bound h = grind (arith, nat_tests)

    of_rank : (o : Option ℕ) → reaches (next_rank r unit) o ≡ false → are_of_one_rank o (Some (next_rank r unit)) ≡ false
    of_rank None h = refl
    of_rank (Some k) h = other k (next_rank r unit) h
