-- A party is added under the next number, and all other records are unchanged.
use Rattle.std.proofs.Common.{◌≡◌, ℕ, ◌+◌, ◌<◌, ◌≤◌, true, false, cond, ◌&&◌, not, Option, Some, None, refl, sym, ap, ◌∙◌, subst, arith}
use Rattle.std.specs.Prelude.{nat_lt}
use Rattle.std.specs.Option.{option_map_or}
use Rattle.std.specs.Ordering.{nat_cmp, eq_by_cmp, is_eq}
use Rattle.std.specs.Cmp.{nat_cmp_total, tied_itself}
use Rattle.std.specs.FinMap as map
use Rattle.std.proofs.lemmas.Bool.{false≢true}
use Rattle.std.proofs.lemmas.Bool.Decides.{nat_tests}
use Rattle.land_acts.proofs.Growth.{used_grows, unused_grows, has_stays, anchored, anchored_back}
use Rattle.land_acts.proofs.Numbers.{one_number, lesser_apart}
use Rattle.land_core.proofs.SoundRegisters.{are_used, are_used_back, refers, used_from, unused_from, used_bounds, next_above_zero, loose_from, single_from, AreTight}
use Rattle.land_core.specs.Entries.{has}
use Rattle.land_core.specs.Members.{Members}
use Rattle.land_core.specs.Register.{has_single_party, has_group, is_single}
use Rattle.land_core.specs.Soundness.{IsSound, has_unused, has_unused_number, has_dangling_grant, has_dangling_rrr, is_used}
use Rattle.land_core.specs.declared.party.PartyRecord.{PartyRecord}
use Rattle.land_core.specs.declared.register.Register.{Register}
use Rattle.land_core.specs.declared.soundness.Unsound.TheVariants.{Reference}

-- each party of a register is a party of another one, unchanged
abbrev pub StayParties : Register → Register → Type 0
StayParties r new = (n : ℕ) (p : PartyRecord) → map.get r.parties n ≡ Some p → map.get new.parties n ≡ Some p

pub single_stays : (r new : Register) → StayParties r new → (n : ℕ) → has_single_party r n ≡ true → has_single_party new n ≡ true
single_stays r new stay n h = found (map.get r.parties n) refl h
  where
    found : (o : Option PartyRecord) → map.get r.parties n ≡ o → option_map_or (λ (p : PartyRecord). is_single p.kind) o false ≡ true → has_single_party new n ≡ true
    found None e h = absurd (false≢true h)
    found (Some p) e h = ap (λ o. option_map_or (λ (p : PartyRecord). is_single p.kind) o false) (stay n p e) ∙ h

pub group_stays : (r new : Register) → StayParties r new → (n : ℕ) → has_group r n ≡ true → has_group new n ≡ true
group_stays r new stay n h = found (map.get r.parties n) refl h
  where
    found : (o : Option PartyRecord) → map.get r.parties n ≡ o → option_map_or (λ (p : PartyRecord). not (is_single p.kind)) o false ≡ true → has_group new n ≡ true
    found None e h = absurd (false≢true h)
    found (Some p) e h = ap (λ o. option_map_or (λ (p : PartyRecord). not (is_single p.kind)) o false) (stay n p e) ∙ h

pub tight_stays : (r new : Register) → StayParties r new → (group : ℕ) (members : Members) → AreTight r group members → AreTight new group members
tight_stays r new stay group members h = record {
  grouped = group_stays r new stay group h.grouped;
  single = λ n share is. single_stays r new stay n (h.single n share is);
}

-- the former next number is in use when the next number increases by one
next_used : (next : ℕ) → 0 < next → (nat_lt 0 next && nat_lt next (next + 1)) ≡ true
next_used next h = grind (arith, nat_tests)

module _ (r new : Register) (party : PartyRecord) (parties : new.parties ≡ map.insert r.parties r.next party) (next : new.next ≡ r.next + 1) (sound : IsSound r) where
  grows : r.next ≤ new.next
  grows = rw next (omega arith)

  put_at : (n : ℕ) → map.get new.parties n ≡ cond (eq_by_cmp nat_cmp n r.next) (Some party) (map.get r.parties n)
  put_at n = ap (λ m. map.get m n) parties ∙ map.get-insert nat_cmp_total r.parties r.next party n

  -- no party had the next number
  pub not_next : (n : ℕ) (p : PartyRecord) → map.get r.parties n ≡ Some p → eq_by_cmp nat_cmp n r.next ≡ false
  not_next n p is = lesser_apart n r.next (used_bounds r n (used_from r r.parties (are_used r (refers r (sound Reference)).numbers).parties n p is)).1

  pub stay : StayParties r new
  stay n p is = put_at n ∙ ap (λ b. cond b (Some party) (map.get r.parties n)) (not_next n p is) ∙ is

  pub put_there : map.get new.parties r.next ≡ Some party
  put_there = put_at r.next ∙ ap (λ b. cond b (Some party) (map.get r.parties r.next)) (ap is_eq (tied_itself nat_cmp_total r.next))

  -- each party of the new register is the new one or existed before
  pub each_party : (P : ℕ → PartyRecord → Type 0) → P r.next party → ((n : ℕ) (p : PartyRecord) → eq_by_cmp nat_cmp n r.next ≡ false → map.get r.parties n ≡ Some p → P n p)
      → (n : ℕ) (p : PartyRecord) → map.get new.parties n ≡ Some p → P n p
  each_party P here there n p is =
      elim (eq_by_cmp nat_cmp n r.next) as (λ b. eq_by_cmp nat_cmp n r.next ≡ b → cond b (Some party) (map.get r.parties n) ≡ Some p → P n p) [
        | true ↦ λ at e. subst (λ (q : PartyRecord). P n q) (same_party_record e) (subst (λ (k : ℕ). P k party) (sym (one_number n r.next at)) here)
        | false ↦ λ apart e. there n p apart e
      ] refl (sym (put_at n) ∙ is)
    where
      same_party_record : Some party ≡ Some p → party ≡ p
      same_party_record e = cc

  parties_used : has_unused new new.parties ≡ false
  parties_used =
      unused_from new new.parties
      (each_party (λ n p. is_used new n ≡ true)
      (ap (λ k. nat_lt 0 r.next && nat_lt r.next k) next ∙ next_used r.next (next_above_zero r sound))
      (λ n p apart is. used_grows r new grows n (used_from r r.parties (are_used r (refers r (sound Reference)).numbers).parties n p is)))

  pub all_used : new.units ≡ r.units → new.parcels ≡ r.parcels → new.rrrs ≡ r.rrrs → new.sources ≡ r.sources → new.mutations ≡ r.mutations → has_unused_number new ≡ false
  all_used units parcels rrrs sources mutations =
      let before = are_used r (refers r (sound Reference)).numbers in
      are_used_back new (record {
        parties = parties_used;
        units = ap (has_unused new) units ∙ unused_grows r new grows r.units before.units;
        parcels = ap (has_unused new) parcels ∙ unused_grows r new grows r.parcels before.parcels;
        rrrs = ap (has_unused new) rrrs ∙ unused_grows r new grows r.rrrs before.rrrs;
        sources = ap (has_unused new) sources ∙ unused_grows r new grows r.sources before.sources;
        mutations = ap (has_unused new) mutations ∙ unused_grows r new grows r.mutations before.mutations;
      })

  -- the references of entries exist as before
  pub no_loose_rrr : new.units ≡ r.units → new.rrrs ≡ r.rrrs → new.sources ≡ r.sources → has_dangling_rrr new ≡ false
  no_loose_rrr units rrrs sources =
      anchored_back new (λ n e is.
      let one = anchored r (refers r (sound Reference)).rrrs n e (sym (ap (λ m. map.get m n) rrrs) ∙ is) in
      record {
        unit = ap (λ m. has m e.unit) units ∙ one.unit;
        party = has_stays r.parties new.parties stay e.party one.party;
        source = ap (λ m. has m e.source) sources ∙ one.source;
      })

  pub no_loose_grant : new.roles ≡ r.roles → has_dangling_grant new ≡ false
  no_loose_grant roles =
      loose_from new (λ g is. single_stays r new stay g.party (single_from r (refers r (sound Reference)).grants g (sym (ap (λ m. map.get m g) roles) ∙ is)))
