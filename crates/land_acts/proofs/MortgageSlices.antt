-- A mortgage has the same refusals and the same change on the slice as on the register.
use Rattle.std.proofs.Common.{◌≡◌, ◌+◌, ℕ, Bool, true, false, cond, None, List, [], ◌∷◌, length, refl, sym, ap, ◌∙◌}
use Rattle.std.specs.Prelude.{ℤ, Option, filter, nat_eq}
use Rattle.std.specs.List.{filter_map, AllByRecursion}
use Rattle.std.specs.Cmp.{nat_cmp_total}
use Rattle.std.specs.FinMap as map
use Rattle.std.specs.FinMap.{nat_cmp-IsAntisymmetric}
use Rattle.std.proofs.lemmas.Bool.{false≢true}
use Rattle.land_acts.proofs.EndedEntries.{filter_map-kept, filter_within}
use Rattle.land_acts.specs.Mutations.Mortgaging.{greatest, mortgage_change, mortgage_refusals, next_rank, rank_in, ranks_in}
use Rattle.land_core.proofs.Reflection.{entries-entries_where}
use Rattle.land_core.specs.Entries.{has, entries_where}
use Rattle.land_core.specs.Register.{holds}
use Rattle.land_core.specs.Units.{rank_of, rrr_count}
use Rattle.land_core.specs.declared.content.Mortgage.{Mortgage}
use Rattle.land_core.specs.declared.register.Register.{Register}
use Rattle.land_core.specs.declared.role.Role.TheVariants.{Bank}
use Rattle.land_core.specs.declared.rrr.RrrRecord.{RrrRecord}

-- a register with only some entries of another one, but all those of a unit; both agree on whether the unit
-- exists, and on the next number
pub record AgreeOnUnit (s r : Register) (unit : ℕ) : Type 0 where
  pub kept : ℕ → RrrRecord → Bool
  pub entries : s.rrrs ≡ entries_where kept r.rrrs
  pub keeps : (n : ℕ) (e : RrrRecord) → nat_eq e.unit unit ≡ true → kept n e ≡ true
  pub stands : has s.units unit ≡ has r.units unit
  pub next : s.next ≡ r.next

module _ (s r : Register) (unit : ℕ) (agree : AgreeOnUnit s r unit) where
  entries_kept : map.entries s.rrrs ≡ filter (λ e. agree.kept e.0 e.1) (map.entries r.rrrs)
  entries_kept = ap map.entries agree.entries ∙ entries-entries_where nat_cmp_total nat_cmp-IsAntisymmetric agree.kept r.rrrs

  pub count_agrees : rrr_count s unit ≡ rrr_count r unit
  count_agrees =
      ap (λ es. length (filter (λ e. nat_eq e.1.unit unit) es)) entries_kept
      ∙ ap length (filter_within (λ e. nat_eq e.1.unit unit) (λ e. agree.kept e.0 e.1) (λ e here. agree.keeps e.0 e.1 here) (map.entries r.rrrs))

  ranks_agree : ranks_in s unit ≡ ranks_in r unit
  ranks_agree =
      ap (filter_map (λ e. rank_in unit e.1)) entries_kept
      ∙ filter_map-kept (λ e. rank_in unit e.1) (λ e. agree.kept e.0 e.1) (map.entries r.rrrs) (elsewhere (map.entries r.rrrs))
    where
      no_rank : (n : ℕ) (e : RrrRecord) → agree.kept n e ≡ false → rank_in unit e ≡ None
      no_rank n e lost = elim (nat_eq e.unit unit) as (λ b. nat_eq e.unit unit ≡ b → cond b (rank_of e.class) None ≡ None) [
        | true ↦ λ here. absurd (false≢true (sym lost ∙ agree.keeps n e here))
        | false ↦ λ other. refl
      ] refl

      elsewhere : (es : List (ℕ × RrrRecord)) → AllByRecursion (λ e. agree.kept e.0 e.1 ≡ false → rank_in unit e.1 ≡ None) es
      elsewhere [] = tt
      elsewhere (e ∷ es) = (λ lost. no_rank e.0 e.1 lost, elsewhere es)

  pub next_rank_agrees : next_rank s unit ≡ next_rank r unit
  next_rank_agrees = ap (λ ranks. greatest ranks + 1) ranks_agree

module _ (s r : Register) (it : Mortgage) (agree : AgreeOnUnit s r it.unit) where
  pub mortgage_refusals_agree : has s.parties it.creditor ≡ has r.parties it.creditor → holds s it.creditor Bank ≡ holds r it.creditor Bank
      → (stamp : Option ℤ) → mortgage_refusals s it stamp ≡ mortgage_refusals r it stamp
  mortgage_refusals_agree creditor bank stamp = rw (agree.stands, creditor, agree.next, count_agrees s r it.unit agree, bank) refl

  pub mortgage_change_agrees : (source : ℕ) → mortgage_change s source it ≡ mortgage_change r source it
  mortgage_change_agrees source = rw (agree.next, ranks_agree s r it.unit agree) refl
