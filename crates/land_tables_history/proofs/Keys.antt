-- Equality of keys is symmetric.
use Rattle.std.proofs.Common.{◌≡◌, ℕ, Bool, ◌&&◌, ap, ap₂, ◌∙◌, arith}
use Rattle.std.specs.Prelude.{int_lt}
use Rattle.std.proofs.lemmas.Cmp.{eq_by_cmp_equiv, nat_eq_equiv}
use Rattle.land_core.proofs.FiniteSets.{grants_total, mandates_total}
use Rattle.land_core.specs.declared.mandates.Mandate.{Mandate}
use Rattle.land_core.specs.declared.roles.Grant.{Grant}
use Rattle.land_tables_history.specs.Intervals.{is_same_grant, is_same_mandate, is_same_member, is_same_naming, is_same_number, overlap}
use Rattle.land_tables_history.specs.declared.group_member.GroupMember.{GroupMember}
use Rattle.land_tables_history.specs.declared.naming.Naming.{Naming}
use Rattle.land_tables_history.specs.declared.version.Version.{Version}

pub numbers_flip : {V : Type 0} (a b : ℕ × V) → is_same_number a b ≡ is_same_number b a
numbers_flip a b = nat_eq_equiv.symm a.0 b.0

pub grants_flip : (a b : Grant) → is_same_grant a b ≡ is_same_grant b a
grants_flip = (eq_by_cmp_equiv grants_total).symm

pub members_flip : (a b : GroupMember) → is_same_member a b ≡ is_same_member b a
members_flip a b = ap₂ (λ x y. x && y) (nat_eq_equiv.symm a.group b.group) (nat_eq_equiv.symm a.member.party b.member.party)

pub namings_flip : (a b : Naming) → is_same_naming a b ≡ is_same_naming b a
namings_flip a b = ap₂ (λ x y. x && y) (nat_eq_equiv.symm a.mutation b.mutation) (nat_eq_equiv.symm a.unit b.unit)

pub mandates_flip : (a b : Mandate) → is_same_mandate a b ≡ is_same_mandate b a
mandates_flip = (eq_by_cmp_equiv mandates_total).symm

-- ---- lifespans

and_turned : (a b c : Bool) → (a && b && c) ≡ (a && c && b)
and_turned a b c = grind arith

pub overlap_flips : {X : Type 0} (same : X → X → Bool) → ((x y : X) → same x y ≡ same y x) → (v w : Version X) → overlap same v w ≡ overlap same w v
overlap_flips same flips v w =
    ap (λ b. b && int_lt v.since w.until && int_lt w.since v.until) (flips v.what w.what) ∙ and_turned (same w.what v.what) (int_lt v.since w.until) (int_lt w.since v.until)
