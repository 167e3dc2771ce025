-- A decision changes only the state of a mutation, which soundness does not read.
use Rattle.std.proofs.Common.{◌≡◌, ℕ, true, false, ◌&&◌, cond, Some, refl, sym, ap, ◌∙◌, subst}
use Rattle.std.specs.Prelude.{nat_lt}
use Rattle.std.specs.Ordering.{nat_cmp, eq_by_cmp}
use Rattle.std.specs.Cmp.{nat_cmp_total}
use Rattle.std.specs.FinMap as map
use Rattle.std.specs.FinMap.{nat_cmp-IsAntisymmetric}
use Rattle.land_acts.proofs.Numbers.{one_number}
use Rattle.land_acts.specs.Deciding.{decided_mutation}
use Rattle.land_core.proofs.Reflection.{none_at, none_passes}
use Rattle.land_core.proofs.SoundRegisters.{are_used, are_used_back, refers, refers_back, unused_from, used_from}
use Rattle.land_core.specs.Mutations.{have_same_reference}
use Rattle.land_core.specs.Soundness.{IsSound, is_dangling_mutation, shares_reference_with_later}
use Rattle.land_core.specs.declared.mutation.MutationRecord.{MutationRecord}
use Rattle.land_core.specs.declared.mutation.MutationState.{MutationState}
use Rattle.land_core.specs.declared.register.Register.{Register}
use Rattle.land_core.specs.declared.soundness.Unsound.TheVariants.{Reference, Shares, Group, Bare, Crowded, Twice, Rank, Administrator, Reused, Memory}

module _ (r : Register) (number : ℕ) (m : MutationRecord) (state : MutationState) where
  abbrev new : Register
  new = record r { mutations = map.insert r.mutations number (decided_mutation state m) }

  -- the mutation before the change: it had the same lodger, reference, source and content
  record Was (n : ℕ) (x : MutationRecord) : Type 0 where
    old : MutationRecord
    there : map.get r.mutations n ≡ Some old
    is : x ≡ decided_mutation x.state old

  was : map.get r.mutations number ≡ Some m → (n : ℕ) (x : MutationRecord) → map.get new.mutations n ≡ Some x → Was n x
  was there n x is =
      elim (eq_by_cmp nat_cmp n number) as (λ b. eq_by_cmp nat_cmp n number ≡ b → cond b (Some (decided_mutation state m)) (map.get r.mutations n) ≡ Some x → Was n x) [
        | true ↦ λ at e. record { old = m; there = subst (λ (k : ℕ). map.get r.mutations k ≡ Some m) (sym (one_number n number at)) there; is = changed e }
        | false ↦ λ apart e. record { old = x; there = e; is = refl }
      ] refl (sym (map.get-insert nat_cmp_total r.mutations number (decided_mutation state m) n) ∙ is)
    where
      changed : Some (decided_mutation state m) ≡ Some x → x ≡ decided_mutation x.state m
      changed e = subst (λ (y : MutationRecord). y ≡ decided_mutation y.state m) (inside e) refl
        where
          inside : Some (decided_mutation state m) ≡ Some x → decided_mutation state m ≡ x
          inside e = cc

  pub decided_is_sound : map.get r.mutations number ≡ Some m → IsSound r → IsSound new
  decided_is_sound there sound Memory = refl
  decided_is_sound there sound Shares = sound Shares
  decided_is_sound there sound Group = sound Group
  decided_is_sound there sound Bare = sound Bare
  decided_is_sound there sound Crowded = sound Crowded
  decided_is_sound there sound Twice = sound Twice
  decided_is_sound there sound Rank = sound Rank
  decided_is_sound there sound Administrator = sound Administrator
  decided_is_sound there sound Reference =
      let before = refers r (sound Reference) in
      let used = are_used r before.numbers in
      refers_back new (record {
        room = before.room;
        numbers = are_used_back new (record {
          parties = used.parties;
          units = used.units;
          parcels = used.parcels;
          rrrs = used.rrrs;
          sources = used.sources;
          mutations = unused_from new new.mutations (λ n x is. let old = was there n x is in used_from r r.mutations used.mutations n old.old old.there);
        });
        grants = before.grants;
        members = before.members;
        parcels = before.parcels;
        rrrs = before.rrrs;
        mutations = none_passes nat_cmp_total nat_cmp-IsAntisymmetric (λ n x. is_dangling_mutation new x) new.mutations (λ n x is.
            let old = was there n x is in
            ap (is_dangling_mutation r) old.is ∙ none_at nat_cmp_total nat_cmp-IsAntisymmetric (λ n x. is_dangling_mutation r x) r.mutations n old.old before.mutations old.there);
        mandates = before.mandates;
      })
  decided_is_sound there sound Reused =
      none_passes nat_cmp_total nat_cmp-IsAntisymmetric (shares_reference_with_later new) new.mutations (λ n x is.
      let old = was there n x is in
      none_passes nat_cmp_total nat_cmp-IsAntisymmetric (λ k y. nat_lt n k && have_same_reference x y) new.mutations (λ k y later.
      let other = was there k y later in
      ap (λ z. nat_lt n k && have_same_reference z y) old.is ∙ ap (λ z. nat_lt n k && have_same_reference old.old z) other.is
      ∙ none_at nat_cmp_total nat_cmp-IsAntisymmetric (λ k y. nat_lt n k && have_same_reference old.old y) r.mutations k other.old
      (none_at nat_cmp_total nat_cmp-IsAntisymmetric (shares_reference_with_later r) r.mutations n old.old (sound Reused) old.there) other.there))
