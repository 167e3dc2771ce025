-- Used numbers stay valid when the next number increases, and so do the ranks of mortgages.
use Rattle.std.proofs.Common.{◌≡◌, ℕ, ◌≤◌, true, false, ◌&&◌, not, Option, Some, None, refl, ap, ◌∙◌, arith}
use Rattle.std.specs.Prelude.{is_some, nat_lt}
use Rattle.std.specs.Ordering.{nat_cmp}
use Rattle.std.specs.Cmp.{nat_cmp_total}
use Rattle.std.specs.FinMap as map
use Rattle.std.specs.FinMap.{FinMap, nat_cmp-IsAntisymmetric}
use Rattle.std.proofs.lemmas.Bool.{false≢true, and_parts, not-false}
use Rattle.std.proofs.lemmas.Bool.Decides.{nat_tests}
use Rattle.land_core.proofs.Reflection.{none_passes, none_at}
use Rattle.land_core.proofs.SoundRegisters.{used_from, unused_from}
use Rattle.land_core.specs.Contents.{is_well_formed_content}
use Rattle.land_core.specs.Entries.{some, has}
use Rattle.land_core.specs.Soundness.{has_unused, has_dangling_mutation, has_dangling_parcel, has_dangling_rrr, is_used, is_dangling_mutation, is_rank_out_of_range}
use Rattle.land_core.specs.Units.{rank_of}
use Rattle.land_core.specs.declared.parcel.ParcelRecord.{ParcelRecord}
use Rattle.land_core.specs.declared.register.Register.{Register}
use Rattle.land_core.specs.declared.rrr.RrrRecord.{RrrRecord}

used_more : (next more n : ℕ) → next ≤ more → (nat_lt 0 n && nat_lt n next) ≡ true → (nat_lt 0 n && nat_lt n more) ≡ true
used_more next more n grows h = grind (arith, nat_tests)

module _ (r new : Register) (grows : r.next ≤ new.next) where
  pub used_grows : (n : ℕ) → is_used r n ≡ true → is_used new n ≡ true
  used_grows n h = used_more r.next new.next n grows h

  pub unused_grows : {V : Type 0} (records : FinMap nat_cmp V) → has_unused r records ≡ false → has_unused new records ≡ false
  unused_grows records none = unused_from new records (λ n v is. used_grows n (used_from r records none n v is))

  rank_grows : (rank : Option ℕ) → is_rank_out_of_range r rank ≡ false → is_rank_out_of_range new rank ≡ false
  rank_grows None h = refl
  rank_grows (Some rank) h = ap not (used_grows rank (not-false _ h))

  -- the ranks of these entries stay in range
  pub ranks_grow : (rrrs : FinMap nat_cmp RrrRecord) → some (λ n e. is_rank_out_of_range r (rank_of e.class)) rrrs ≡ false → some (λ n e. is_rank_out_of_range new (rank_of e.class)) rrrs ≡ false
  ranks_grow rrrs none =
      none_passes nat_cmp_total nat_cmp-IsAntisymmetric (λ n e. is_rank_out_of_range new (rank_of e.class)) rrrs
      (λ n e is. rank_grows (rank_of e.class) (none_at nat_cmp_total nat_cmp-IsAntisymmetric (λ n e. is_rank_out_of_range r (rank_of e.class)) rrrs n e none is))

-- a key of a map is a key of a map with more entries
pub has_stays : {V : Type 0} (old new : FinMap nat_cmp V) → ((n : ℕ) (v : V) → map.get old n ≡ Some v → map.get new n ≡ Some v) → (n : ℕ) → has old n ≡ true → has new n ≡ true
has_stays {V} old new stay n h = found (map.get old n) refl h
  where
    found : (o : Option V) → map.get old n ≡ o → is_some o ≡ true → has new n ≡ true
    found None e h = absurd (false≢true h)
    found (Some v) e h = ap is_some (stay n v e)

-- the references of an entry
pub record AreAnchored (r : Register) (e : RrrRecord) : Type 0 where
  pub unit : has r.units e.unit ≡ true
  pub party : has r.parties e.party ≡ true
  pub source : has r.sources e.source ≡ true

pub anchored : (r : Register) → has_dangling_rrr r ≡ false → (n : ℕ) (e : RrrRecord) → map.get r.rrrs n ≡ Some e → AreAnchored r e
anchored r none n e is =
    let all = not-false _ (none_at nat_cmp_total nat_cmp-IsAntisymmetric (λ n e. not (has r.units e.unit && has r.parties e.party && has r.sources e.source)) r.rrrs n e none is) in
    let last = and_parts (has r.units e.unit && has r.parties e.party) (has r.sources e.source) all in
    let first = and_parts (has r.units e.unit) (has r.parties e.party) last.0 in
    record { unit = first.0; party = first.1; source = last.1 }

pub anchored_back : (r : Register) → ((n : ℕ) (e : RrrRecord) → map.get r.rrrs n ≡ Some e → AreAnchored r e) → has_dangling_rrr r ≡ false
anchored_back r h =
    none_passes nat_cmp_total nat_cmp-IsAntisymmetric (λ n e. not (has r.units e.unit && has r.parties e.party && has r.sources e.source)) r.rrrs
    (λ n e is.
    let one = h n e is in
    ap (λ b. not (b && has r.parties e.party && has r.sources e.source)) one.unit ∙ ap (λ b. not (b && has r.sources e.source)) one.party ∙ ap not one.source)

-- the unit and the source of a parcel
pub placed : (r : Register) → has_dangling_parcel r ≡ false → (n : ℕ) (p : ParcelRecord) → map.get r.parcels n ≡ Some p → (has r.units p.unit ≡ true) × (has r.sources p.source ≡ true)
placed r none n p is =
    and_parts (has r.units p.unit) (has r.sources p.source)
    (not-false _ (none_at nat_cmp_total nat_cmp-IsAntisymmetric (λ n p. not (has r.units p.unit && has r.sources p.source)) r.parcels n p none is))

pub placed_back : (r : Register) → ((n : ℕ) (p : ParcelRecord) → map.get r.parcels n ≡ Some p → (has r.units p.unit ≡ true) × (has r.sources p.source ≡ true)) → has_dangling_parcel r ≡ false
placed_back r h =
    none_passes nat_cmp_total nat_cmp-IsAntisymmetric (λ n p. not (has r.units p.unit && has r.sources p.source)) r.parcels
    (λ n p is. let one = h n p is in ap (λ b. not (b && has r.sources p.source)) one.0 ∙ ap not one.1)

-- mutations are unchanged, and their references exist as before
pub mutations_stay : (r new : Register) → new.mutations ≡ r.mutations → ((n : ℕ) → has r.parties n ≡ true → has new.parties n ≡ true) → ((n : ℕ) → has r.sources n ≡ true → has new.sources n ≡ true)
    → has_dangling_mutation r ≡ false → has_dangling_mutation new ≡ false
mutations_stay r new same parties sources none =
    ap (some (λ n m. is_dangling_mutation new m)) same
    ∙ none_passes nat_cmp_total nat_cmp-IsAntisymmetric (λ n m. is_dangling_mutation new m) r.mutations (λ n m is.
    let all = and_parts (has r.parties m.lodger && has r.sources m.source) (is_well_formed_content m.content) (not-false _ (none_at nat_cmp_total nat_cmp-IsAntisymmetric (λ n m. is_dangling_mutation r m) r.mutations n m none is)) in
    let first = and_parts (has r.parties m.lodger) (has r.sources m.source) all.0 in
    ap (λ b. not (b && has new.sources m.source && is_well_formed_content m.content)) (parties m.lodger first.0)
    ∙ ap (λ b. not (b && is_well_formed_content m.content)) (sources m.source first.1) ∙ ap not all.1)
