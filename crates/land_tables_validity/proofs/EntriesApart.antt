-- Two entries conflict if and only if they have the same key.
use Rattle.std.proofs.Common.{◌≡◌, ◌↔◌, ℕ, Bool, true, false, ◌&&◌, ◌||◌, List, Option, Some, None, refl, sym, ap, ap₂, subst, ◌∙◌, arith}
use Rattle.std.specs.Prelude.{nat_eq}
use Rattle.std.specs.Ordering.{eq_by_cmp, nat_cmp, ordering_then}
use Rattle.std.specs.declared.cmp.Ordering.{Ordering}
use Rattle.std.proofs.lemmas.Cmp.{nat_eq_equiv}
use Rattle.land_core.specs.Soundness.{has_clash}
use Rattle.land_core.specs.Units.{are_of_one_rank, are_of_one_type, do_clash, is_type, rank_of, type_of}
use Rattle.land_core.specs.declared.rrr.Class.{Class}
use Rattle.land_core.specs.declared.rrr.Class.TheVariants.{Right, Restriction, Responsibility, Mortgage}
use Rattle.land_core.specs.declared.rrr.RightType.{RightType}
use Rattle.land_core.specs.declared.rrr.RightType.TheVariants.{Ownership, Lease, Usufruct}
use Rattle.land_core.specs.declared.rrr.RrrRecord.{RrrRecord}
use Rattle.land_tables_history.proofs.Entered.{same_numbers}
use Rattle.land_tables_history.proofs.Proper.{all_proper}
use Rattle.land_tables_history.specs.Intervals.{has_intervals}
use Rattle.land_tables_history.specs.declared.history.History.{History}
use Rattle.land_tables_history.specs.declared.moment.Moment.{Moment}
use Rattle.land_tables_validity.proofs.PairsApart.{never_pair}
use Rattle.land_tables_validity.proofs.VersionsApart.{eq_then, is_one, where_apart}
use Rattle.land_tables_validity.specs.ApartSpans.{spans_where}
use Rattle.land_tables_validity.specs.Never.{Never}
use Rattle.land_tables_validity.specs.Places.{right_type_index, place_in, entry_place}
use Rattle.land_tables_validity.specs.declared.duplicate_rights.Place.{Place}
use Rattle.land_tables_history.specs.Sweeps.Apart.{are_apart}
use Rattle.land_tables_history.specs.declared.sweeps.apart.Span.{Span}

-- ---- places

-- by kind, then by unit and holder
abbrev pub place_cmp : Place → Place → Ordering
place_cmp a b = ordering_then (nat_cmp a.kind b.kind) (ordering_then (nat_cmp a.unit b.unit) (nat_cmp a.holder b.holder))

same_place : (a b : Place) → eq_by_cmp place_cmp a b ≡ (nat_eq a.kind b.kind && (nat_eq a.unit b.unit && nat_eq a.holder b.holder))
same_place a b =
    eq_then (nat_cmp a.kind b.kind) (ordering_then (nat_cmp a.unit b.unit) (nat_cmp a.holder b.holder))
    ∙ ap₂ (λ x y. x && y) (same_numbers a.kind b.kind)
    (eq_then (nat_cmp a.unit b.unit) (nat_cmp a.holder b.holder) ∙ ap₂ (λ x y. x && y) (same_numbers a.unit b.unit)
    (same_numbers a.holder b.holder))

one_kind : (s t : RightType) → nat_eq (right_type_index s) (right_type_index t) ≡ is_type s t
one_kind Ownership Ownership = refl
one_kind Ownership Lease = refl
one_kind Ownership Usufruct = refl
one_kind Lease Ownership = refl
one_kind Lease Lease = refl
one_kind Lease Usufruct = refl
one_kind Usufruct Ownership = refl
one_kind Usufruct Lease = refl
one_kind Usufruct Usufruct = refl

no_mortgage : (s : RightType) → nat_eq (right_type_index s) 3 ≡ false
no_mortgage Ownership = refl
no_mortgage Lease = refl
no_mortgage Usufruct = refl

no_right : (s : RightType) → nat_eq 3 (right_type_index s) ≡ false
no_right Ownership = refl
no_right Lease = refl
no_right Usufruct = refl

nothing : (u p : Bool) → false ≡ (u && (p && false || false))
nothing true true = refl
nothing true false = refl
nothing false p = refl

by_right : (k u p : Bool) → (k && (u && p)) ≡ (u && (p && k || false))
by_right k u p = grind arith

by_rank : (u p r : Bool) → (u && r) ≡ (u && (p && false || r))
by_rank u p r = grind arith

module _ (unit party unit' party' : ℕ) where
  abbrev clash_of : Class → Class → Bool
  clash_of c d =
      nat_eq unit unit' && (nat_eq party party' && are_of_one_type (type_of c) (type_of d) || are_of_one_rank (rank_of c) (rank_of d))

  by_class : (c d : Class) → is_one place_cmp (place_in unit party c) (place_in unit' party' d) ≡ clash_of c d
  by_class (Right s share) (Right t other) =
      same_place (record { kind = right_type_index s; unit = unit; holder = party }) (record { kind = right_type_index t; unit = unit'; holder = party' })
      ∙ ap (λ k. k && (nat_eq unit unit' && nat_eq party party')) (one_kind s t)
      ∙ by_right (is_type s t) (nat_eq unit unit') (nat_eq party party')
  by_class (Right s share) (Mortgage amount currency rank) =
      same_place (record { kind = right_type_index s; unit = unit; holder = party }) (record { kind = 3; unit = unit'; holder = rank })
      ∙ ap (λ k. k && (nat_eq unit unit' && nat_eq party rank)) (no_mortgage s)
      ∙ nothing (nat_eq unit unit') (nat_eq party party')
  by_class (Right s share) (Restriction words) = nothing (nat_eq unit unit') (nat_eq party party')
  by_class (Right s share) (Responsibility words) = nothing (nat_eq unit unit') (nat_eq party party')
  by_class (Restriction words) d = nothing (nat_eq unit unit') (nat_eq party party')
  by_class (Responsibility words) d = nothing (nat_eq unit unit') (nat_eq party party')
  by_class (Mortgage amount currency rank) (Right t other) =
      same_place (record { kind = 3; unit = unit; holder = rank }) (record { kind = right_type_index t; unit = unit'; holder = party' })
      ∙ ap (λ k. k && (nat_eq unit unit' && nat_eq rank party')) (no_right t)
      ∙ nothing (nat_eq unit unit') (nat_eq party party')
  by_class (Mortgage amount currency rank) (Mortgage amount' currency' rank') =
      same_place (record { kind = 3; unit = unit; holder = rank }) (record { kind = 3; unit = unit'; holder = rank' })
      ∙ by_rank (nat_eq unit unit') (nat_eq party party') (nat_eq rank rank')
  by_class (Mortgage amount currency rank) (Restriction words) = nothing (nat_eq unit unit') (nat_eq party party')
  by_class (Mortgage amount currency rank) (Responsibility words) = nothing (nat_eq unit unit') (nat_eq party party')

by_places : (e f : ℕ × RrrRecord) → is_one place_cmp (entry_place e.1) (entry_place f.1) ≡ do_clash e.1 f.1
by_places e f = by_class e.1.unit e.1.party f.1.unit f.1.party e.1.class f.1.class

-- ---- conflicts are symmetric

type_turned : (a b : RightType) → is_type a b ≡ is_type b a
type_turned Ownership Ownership = refl
type_turned Ownership Lease = refl
type_turned Ownership Usufruct = refl
type_turned Lease Ownership = refl
type_turned Lease Lease = refl
type_turned Lease Usufruct = refl
type_turned Usufruct Ownership = refl
type_turned Usufruct Lease = refl
type_turned Usufruct Usufruct = refl

types_turned : (a b : Option RightType) → are_of_one_type a b ≡ are_of_one_type b a
types_turned (Some a) (Some b) = type_turned a b
types_turned (Some a) None = refl
types_turned None (Some b) = refl
types_turned None None = refl

ranks_turned : (a b : Option ℕ) → are_of_one_rank a b ≡ are_of_one_rank b a
ranks_turned (Some a) (Some b) = nat_eq_equiv.symm a b
ranks_turned (Some a) None = refl
ranks_turned None (Some b) = refl
ranks_turned None None = refl

joined : {a b c d p q r s : Bool} → a ≡ p → b ≡ q → c ≡ r → d ≡ s → (a && (b && c || d)) ≡ (p && (q && r || s))
joined e f g h = cc

clash_turned : (e f : RrrRecord) → do_clash e f ≡ do_clash f e
clash_turned e f =
    joined (nat_eq_equiv.symm e.unit f.unit) (nat_eq_equiv.symm e.party f.party) (types_turned (type_of e.class) (type_of f.class))
    (ranks_turned (rank_of e.class) (rank_of f.class))

-- ---- all moments

-- entries conflict if and only if the spans of their keys overlap
pub entries_apart : (moments : List Moment) (h : History) → has_intervals moments h ≡ true → (spans : List (Span Place))
    → spans ≡ spans_where (λ (e : ℕ × RrrRecord). entry_place e.1) h.rrrs
    → (are_apart place_cmp spans ≡ true) ↔ Never has_clash moments h
entries_apart moments h intervals spans made =
    let p = all_proper moments h intervals in
    subst (λ (b : Bool). (b ≡ true) ↔ Never has_clash moments h)
    (sym (ap (are_apart place_cmp) made ∙ where_apart place_cmp (λ e. entry_place e.1) (λ e f. do_clash e.1 f.1) by_places h.rrrs))
    (never_pair do_clash clash_turned h.rrrs p.rrrs.apart moments p.rrrs.intervals)
