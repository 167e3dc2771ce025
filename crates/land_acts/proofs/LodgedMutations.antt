-- A lodging keeps a register sound: its source, its mutation and its reference are new.
use Rattle.std.proofs.Common.{◌≡◌, ℕ, ◌+◌, ◌<◌, ◌≤◌, Bool, true, false, ◌||◌, ◌&&◌, not, cond, List, [], ◌∷◌, Option, Some, None, refl, sym, ap, ◌∙◌, arith}
use Rattle.std.specs.Prelude.{ℤ, nat_lt, is_some}
use Rattle.std.specs.List.{find, list_any}
use Rattle.std.specs.Option.{option_map_or}
use Rattle.std.specs.Cmp.{nat_cmp_total}
use Rattle.std.specs.FinMap as map
use Rattle.std.specs.FinMap.{nat_cmp-IsAntisymmetric}
use Rattle.std.proofs.lemmas.Bool.{false≢true}
use Rattle.std.proofs.lemmas.Bool.Decides.{nat_tests}
use Rattle.land_acts.proofs.EnteredEntries.{each_record, here, there}
use Rattle.land_acts.proofs.Growth.{anchored, anchored_back, has_stays, mutations_stay, placed, placed_back, ranks_grow, unused_grows, used_grows}
use Rattle.land_acts.specs.Lodging.{document_kind, has_lodged_other, is_same_lodging, lodge_change, lodge_repeat, new_mutation_record, receipt_of_lodging, mutation_with_reference, repeat_of}
use Rattle.land_acts.specs.Mutations.Planning.{runs_out_of_numbers}
use Rattle.land_core.proofs.Booleans.{and_false}
use Rattle.land_core.proofs.Reflection.{none_at, none_passes}
use Rattle.land_core.proofs.SoundRegisters.{are_used, are_used_back, next_above_zero, refers, refers_back, unused_from, used_bounds, used_from}
use Rattle.land_core.specs.Changes.{after}
use Rattle.land_core.specs.Contents.{is_well_formed_content}
use Rattle.land_core.specs.Entries.{has}
use Rattle.land_core.specs.Mutations.{is_lodged_as, have_same_reference}
use Rattle.land_core.specs.Soundness.{IsSound, is_dangling_mutation, shares_reference_with_later, is_used}
use Rattle.land_core.specs.declared.act.Lodging.{Lodging}
use Rattle.land_core.specs.declared.caller.Caller.{Caller}
use Rattle.land_core.specs.declared.mutation.MutationRecord.{MutationRecord}
use Rattle.land_core.specs.declared.register.Register.{Register}
use Rattle.land_core.specs.declared.soundness.Unsound.TheVariants.{Reference, Shares, Group, Bare, Crowded, Twice, Rank, Administrator, Reused, Memory}
use Rattle.land_core.specs.declared.source.SourceRecord.{SourceRecord}

-- if nothing is found, no item satisfies the condition
pub none_found : {X : Type 0} (p : X → Bool) (xs : List X) → find p xs ≡ None → list_any p xs ≡ false
none_found p [] h = refl
none_found {X} p (x ∷ xs) h =
    elim (p x) as (λ b. cond b (Some x) (find p xs) ≡ None → (b || list_any p xs) ≡ false) [ true ↦ λ e. absurd (some_none e) | false ↦ λ e. none_found p xs e ] h
  where
    some_none : Some x ≡ None → ⊥
    some_none e = cc

-- a lodging that is not a repeat, and has no other one under its reference, has a new reference
pub fresh : (r : Register) (caller : Caller) (it : Lodging) → lodge_repeat r caller it ≡ None → has_lodged_other r caller it ≡ false → mutation_with_reference r caller.party it.reference ≡ None
fresh r caller it no_repeat no_other = by_case (mutation_with_reference r caller.party it.reference) refl no_repeat no_other
  where
    by_case : (o : Option (ℕ × MutationRecord)) → mutation_with_reference r caller.party it.reference ≡ o → repeat_of r it o ≡ None → option_map_or (λ e. not (is_same_lodging r it e.1)) o false ≡ false
        → mutation_with_reference r caller.party it.reference ≡ None
    by_case None e a b = e
    by_case (Some e) is a b =
        elim (is_same_lodging r it e.1) as (λ same. cond same (Some (receipt_of_lodging e)) None ≡ None → not same ≡ false → mutation_with_reference r caller.party it.reference ≡ None) [
          | true ↦ λ told other. absurd (some_none told)
          | false ↦ λ told other. absurd (false≢true (sym other))
        ] a b
      where
        some_none : Some (receipt_of_lodging e) ≡ None → ⊥
        some_none e = cc

module _ (r : Register) (caller : Caller) (it : Lodging) (stamp : ℤ) (sound : IsSound r) where
  abbrev more : Register
  more = after (lodge_change r caller it stamp) r

  abbrev document : SourceRecord
  document = record { kind = document_kind it.content; title = it.document }

  abbrev lodged : MutationRecord
  lodged = new_mutation_record caller it r.next stamp

  grows : r.next ≤ more.next
  grows = omega arith

  source_below : (n : ℕ) (s : SourceRecord) → map.get r.sources n ≡ Some s → n < r.next
  source_below n s is = (used_bounds r n (used_from r r.sources (are_used r (refers r (sound Reference)).numbers).sources n s is)).1

  mutation_below : (n : ℕ) (m : MutationRecord) → map.get r.mutations n ≡ Some m → n < r.next
  mutation_below n m is = (used_bounds r n (used_from r r.mutations (are_used r (refers r (sound Reference)).numbers).mutations n m is)).1

  sources_stay : (n : ℕ) → has r.sources n ≡ true → has more.sources n ≡ true
  sources_stay = has_stays r.sources more.sources (λ n s is. there r.sources r.next document n s (source_below n s is) is)

  -- the earlier mutations, in the register afterwards
  old_ones : (n : ℕ) (m : MutationRecord) → map.get r.mutations n ≡ Some m → is_dangling_mutation more m ≡ false
  old_ones n m is =
      none_at nat_cmp_total nat_cmp-IsAntisymmetric (λ n m. is_dangling_mutation more m) r.mutations n m
      (mutations_stay r (record more { mutations = r.mutations }) refl (λ n h. h) sources_stay (refers r (sound Reference)).mutations) is

  alone : mutation_with_reference r caller.party it.reference ≡ None → (n : ℕ) (m : MutationRecord) → map.get r.mutations n ≡ Some m → is_lodged_as caller.party it.reference m ≡ false
  alone none n m is =
      none_at nat_cmp_total nat_cmp-IsAntisymmetric (λ n m. is_lodged_as caller.party it.reference m) r.mutations n m (none_found (λ e. is_lodged_as caller.party it.reference e.1) (map.entries r.mutations) none) is

  not_after : (n : ℕ) → n < r.next → nat_lt (r.next + 1) n ≡ false
  not_after n less = grind (arith, nat_tests)

  not_itself : (n : ℕ) → nat_lt n n ≡ false
  not_itself n = grind (arith, nat_tests)

  pub lodged_is_sound : has r.parties caller.party ≡ true → is_well_formed_content it.content ≡ true → runs_out_of_numbers r 2 ≡ false → mutation_with_reference r caller.party it.reference ≡ None → IsSound more
  lodged_is_sound lodger formed room none Memory = refl
  lodged_is_sound lodger formed room none Shares = sound Shares
  lodged_is_sound lodger formed room none Group = sound Group
  lodged_is_sound lodger formed room none Bare = sound Bare
  lodged_is_sound lodger formed room none Crowded = sound Crowded
  lodged_is_sound lodger formed room none Twice = sound Twice
  lodged_is_sound lodger formed room none Administrator = sound Administrator
  lodged_is_sound lodger formed room none Rank = ranks_grow r more grows r.rrrs (sound Rank)
  lodged_is_sound lodger formed room none Reference =
      let before = refers r (sound Reference) in
      let used = are_used r before.numbers in
      let above = next_above_zero r sound in
      let first_used : is_used more r.next ≡ true = grind (arith, nat_tests) in
      let second_used : is_used more (r.next + 1) ≡ true = grind (arith, nat_tests) in
      refers_back more (record {
        room = room;
        numbers = are_used_back more (record {
          parties = unused_grows r more grows r.parties used.parties;
          units = unused_grows r more grows r.units used.units;
          parcels = unused_grows r more grows r.parcels used.parcels;
          rrrs = unused_grows r more grows r.rrrs used.rrrs;
          sources = unused_from more more.sources (each_record r.sources r.next document (λ n s. is_used more n ≡ true) first_used (λ n s is. used_grows r more grows n (used_from r r.sources used.sources n s is)));
          mutations = unused_from more more.mutations (each_record r.mutations (r.next + 1) lodged (λ n m. is_used more n ≡ true) second_used (λ n m is. used_grows r more grows n (used_from r r.mutations used.mutations n m is)));
        });
        grants = before.grants;
        members = before.members;
        parcels = placed_back more (λ n p is. let one = placed r before.parcels n p is in (one.0, sources_stay p.source one.1));
        rrrs = anchored_back more (λ n e is. let one = anchored r before.rrrs n e is in record { unit = one.unit; party = one.party; source = sources_stay e.source one.source });
        mutations = none_passes nat_cmp_total nat_cmp-IsAntisymmetric (λ n m. is_dangling_mutation more m) more.mutations
            (each_record r.mutations (r.next + 1) lodged (λ n m. is_dangling_mutation more m ≡ false)
            (ap (λ b. not (b && has more.sources r.next && is_well_formed_content it.content)) lodger
            ∙ ap (λ b. not (b && is_well_formed_content it.content)) (ap is_some (here r.sources r.next document)) ∙ ap not formed)
            old_ones);
        mandates = before.mandates;
      })
  lodged_is_sound lodger formed room none Reused =
      none_passes nat_cmp_total nat_cmp-IsAntisymmetric (shares_reference_with_later more) more.mutations
      (each_record r.mutations (r.next + 1) lodged (λ n m. shares_reference_with_later more n m ≡ false)
      (none_passes nat_cmp_total nat_cmp-IsAntisymmetric (λ k other. nat_lt (r.next + 1) k && have_same_reference lodged other) more.mutations
      (each_record r.mutations (r.next + 1) lodged (λ k other. (nat_lt (r.next + 1) k && have_same_reference lodged other) ≡ false)
      (ap (λ b. b && have_same_reference lodged lodged) (not_itself (r.next + 1)))
      (λ k other is. ap (λ b. b && have_same_reference lodged other) (not_after k (mutation_below k other is)))))
      (λ n m is.
      none_passes nat_cmp_total nat_cmp-IsAntisymmetric (λ k other. nat_lt n k && have_same_reference m other) more.mutations
      (each_record r.mutations (r.next + 1) lodged (λ k other. (nat_lt n k && have_same_reference m other) ≡ false)
      (ap (λ b. nat_lt n (r.next + 1) && b) (alone none n m is) ∙ and_false (nat_lt n (r.next + 1)))
      (λ k other later.
      none_at nat_cmp_total nat_cmp-IsAntisymmetric (λ k other. nat_lt n k && have_same_reference m other) r.mutations k other
      (none_at nat_cmp_total nat_cmp-IsAntisymmetric (shares_reference_with_later r) r.mutations n m (sound Reused) is) later))))
