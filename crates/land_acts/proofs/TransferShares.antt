-- Common multiples of the shares of a type in a unit, and the rights of giver and receiver, from the entries
-- at each number.
use Rattle.std.proofs.Common.{◌≡◌, ◌≢◌, ℕ, ◌<◌, Bool, true, false, cond, ◌&&◌, Option, Some, None, List, [], ◌∷◌, refl, sym, ap, ◌∙◌, subst}
use Rattle.std.specs.Prelude.{nat_eq}
use Rattle.std.specs.Int.{◌∣◌}
use Rattle.std.specs.List.{find as find_in, filter_map, cons_option, AllByRecursion}
use Rattle.std.specs.Option.{option_map_or}
use Rattle.std.specs.Ordering.{nat_cmp}
use Rattle.std.specs.Cmp.{nat_cmp_total}
use Rattle.std.specs.FinMap as map
use Rattle.std.specs.FinMap.{FinMap, nat_cmp-IsAntisymmetric}
use Rattle.std.proofs.lemmas.Bool.{false≢true, eqb-true, eq-eqb, and_parts}
use Rattle.std.proofs.lemmas.List.Elements.{All-from_recursion, recursion_from_All}
use Rattle.land_acts.proofs.TransferSums.{at_each}
use Rattle.land_acts.specs.Mutations.Transferring.{right_of_class, right_in_unit, right_at, right_by_party, is_right_held_by}
use Rattle.land_acts.specs.declared.mutations.transfer.HeldRight.{HeldRight}
use Rattle.land_core.proofs.FiniteMaps.{none_is_not_some}
use Rattle.land_core.proofs.RecordLookups.{one_type, type_itself}
use Rattle.land_core.proofs.Reflection.{each_there}
use Rattle.land_core.specs.Units.{is_type, share_in_unit, type_of}
use Rattle.land_core.specs.declared.register.Register.{Register}
use Rattle.land_core.specs.declared.rrr.Class.{Class}
use Rattle.land_core.specs.declared.rrr.Class.TheVariants as class
use Rattle.land_core.specs.declared.rrr.RightType.{RightType}
use Rattle.land_core.specs.declared.rrr.RrrRecord.{RrrRecord}
use Rattle.land_fraction.specs.Ratio.{Ratio}
use Rattle.land_fraction.specs.Wholeness.{IsCommonMultiple}

pub same_some : {X : Type 0} {x y : X} → Some x ≡ Some y → x ≡ y
same_some e = cc

-- ---- a property of all values that are taken from a list

taken_all : {X Y : Type 0} (P : Y → Type 0) (take : X → Option Y) (xs : List X) → AllByRecursion (λ x. (y : Y) → take x ≡ Some y → P y) xs → AllByRecursion P (filter_map take xs)
taken_all P take [] h = tt
taken_all {X} {Y} P take (x ∷ xs) h =
    let rest = taken_all P take xs h.1 in
    elim (take x) as (λ (o : Option Y). take x ≡ o → AllByRecursion P (cons_option o (filter_map take xs))) [
      | None ↦ λ e. rest
      | Some y ↦ λ e. (h.0 y e, rest)
    ] refl

all_taken : {X Y : Type 0} (P : Y → Type 0) (take : X → Option Y) (xs : List X) → AllByRecursion P (filter_map take xs) → AllByRecursion (λ x. (y : Y) → take x ≡ Some y → P y) xs
all_taken P take [] h = tt
all_taken {X} {Y} P take (x ∷ xs) h =
    elim (take x) as (λ (o : Option Y). take x ≡ o → AllByRecursion P (cons_option o (filter_map take xs)) → AllByRecursion (λ x. (y : Y) → take x ≡ Some y → P y) (x ∷ xs)) [
      | None ↦ λ e all. (λ y is. absurd (none_is_not_some (sym e ∙ is)), all_taken P take xs all)
      | Some z ↦ λ e all. (λ y is. subst P (same_some (sym e ∙ is)) all.0, all_taken P take xs all.1)
    ] refl h

-- ---- common multiples

module _ (rrrs : FinMap nat_cmp RrrRecord) (unit : ℕ) (type : RightType) where
  abbrev shares : List Ratio
  shares = filter_map (λ e. share_in_unit unit type e.1) (map.entries rrrs)

  pub multiple_from : (m : ℕ) → 0 < m → ((n : ℕ) (e : RrrRecord) (share : Ratio) → map.get rrrs n ≡ Some e → share_in_unit unit type e ≡ Some share → share.denominator ∣ m) → IsCommonMultiple m shares
  multiple_from m above h = record {
    positive = above;
    of_all = All-from_recursion (λ (share : Ratio). share.denominator ∣ m) shares
        (taken_all (λ (share : Ratio). share.denominator ∣ m) (λ (e : ℕ × RrrRecord). share_in_unit unit type e.1) (map.entries rrrs) (each (map.entries rrrs) (each_there nat_cmp_total nat_cmp-IsAntisymmetric rrrs)));
  }
    where
      each : (es : List (ℕ × RrrRecord)) → AllByRecursion (λ e. map.get rrrs e.0 ≡ Some e.1) es → AllByRecursion (λ e. (share : Ratio) → share_in_unit unit type e.1 ≡ Some share → share.denominator ∣ m) es
      each [] all = tt
      each (e ∷ es) all = (λ share is. h e.0 e.1 share all.0 is, each es all.1)

  -- a property of each share is one of the share at a number
  pub each_share : (P : Ratio → Type 0) → AllByRecursion P shares → (n : ℕ) (e : RrrRecord) (share : Ratio) → map.get rrrs n ≡ Some e → share_in_unit unit type e ≡ Some share → P share
  each_share P all n e share is taken =
      at_each (λ (e : ℕ × RrrRecord). (share : Ratio) → share_in_unit unit type e.1 ≡ Some share → P share) rrrs
      (all_taken P (λ (e : ℕ × RrrRecord). share_in_unit unit type e.1) (map.entries rrrs) all) n e is share taken

pub multiple_at : (rrrs : FinMap nat_cmp RrrRecord) (unit : ℕ) (type : RightType) (m : ℕ) → IsCommonMultiple m (filter_map (λ e. share_in_unit unit type e.1) (map.entries rrrs))
    → (n : ℕ) (e : RrrRecord) (share : Ratio) → map.get rrrs n ≡ Some e → share_in_unit unit type e ≡ Some share → share.denominator ∣ m
multiple_at rrrs unit type m h n e share is taken =
    each_share rrrs unit type (λ (share : Ratio). share.denominator ∣ m)
    (recursion_from_All (λ (share : Ratio). share.denominator ∣ m) (filter_map (λ e. share_in_unit unit type e.1) (map.entries rrrs)) h.of_all) n e share is taken

-- ---- the right of giver or receiver

-- the entry of a right
pub record IsHeldAt (rrrs : FinMap nat_cmp RrrRecord) (unit : ℕ) (held : HeldRight) : Type 0 where
  pub entry : RrrRecord
  pub there : map.get rrrs held.number ≡ Some entry
  pub in_unit : entry.unit ≡ unit
  pub party : entry.party ≡ held.party
  pub class : entry.class ≡ class.Right held.right_type held.share

record IsOfClass (number party : ℕ) (it : Class) (held : HeldRight) : Type 0 where
  number_is : held.number ≡ number
  party_is : held.party ≡ party
  class_is : it ≡ class.Right held.right_type held.share

of_class : (number party : ℕ) (it : Class) (held : HeldRight) → right_of_class number party it ≡ Some held → IsOfClass number party it held
of_class number party (class.Right type share) held h =
    let same = same_some h in
    record {
      number_is = ap (λ (x : HeldRight). x.number) (sym same);
      party_is = ap (λ (x : HeldRight). x.party) (sym same);
      class_is = ap (λ (x : HeldRight). class.Right x.right_type x.share) same;
    }
of_class number party (class.Restriction words) held h = absurd (none_is_not_some h)
of_class number party (class.Responsibility words) held h = absurd (none_is_not_some h)
of_class number party (class.Mortgage amount currency rank) held h = absurd (none_is_not_some h)

record IsIn (unit number : ℕ) (e : RrrRecord) (held : HeldRight) : Type 0 where
  in_unit : e.unit ≡ unit
  is_class : IsOfClass number e.party e.class held

in_unit_from : (unit number : ℕ) (e : RrrRecord) (held : HeldRight) → right_in_unit unit number e ≡ Some held → IsIn unit number e held
in_unit_from unit number e held h =
    elim (nat_eq e.unit unit) as (λ b. nat_eq e.unit unit ≡ b → cond b (right_of_class number e.party e.class) None ≡ Some held → IsIn unit number e held) [
      | true ↦ λ same is. record { in_unit = eqb-true e.unit unit same; is_class = of_class number e.party e.class held is }
      | false ↦ λ other is. absurd (none_is_not_some is)
    ] refl h

held_from : (rrrs : FinMap nat_cmp RrrRecord) (unit number : ℕ) (e : RrrRecord) (held : HeldRight) → map.get rrrs number ≡ Some e → right_in_unit unit number e ≡ Some held → IsHeldAt rrrs unit held
held_from rrrs unit number e held is h =
    let it = in_unit_from unit number e held h in
    record { entry = e; there = ap (map.get rrrs) it.is_class.number_is ∙ is; in_unit = it.in_unit; party = sym it.is_class.party_is; class = it.is_class.class_is }

-- the right at a number
pub held_there : (r : Register) (unit number : ℕ) (held : HeldRight) → right_at r unit number ≡ Some held → IsHeldAt r.rrrs unit held × (held.number ≡ number)
held_there r unit number held h =
    elim (map.get r.rrrs number) as (λ (o : Option RrrRecord). map.get r.rrrs number ≡ o → option_map_or (right_in_unit unit number) o None ≡ Some held → IsHeldAt r.rrrs unit held × (held.number ≡ number)) [
      | None ↦ λ is e. absurd (none_is_not_some e)
      | Some e ↦ λ is e_held. (held_from r.rrrs unit number e held is e_held, (in_unit_from unit number e held e_held).is_class.number_is)
    ] refl h

-- the first right that satisfies a condition is among the entries
record FoundIn (unit : ℕ) (p : HeldRight → Bool) (held : HeldRight) (rrrs : FinMap nat_cmp RrrRecord) : Type 0 where
  number : ℕ
  entry : RrrRecord
  there : map.get rrrs number ≡ Some entry
  is_held : right_in_unit unit number entry ≡ Some held
  passes : p held ≡ true

first_found : (rrrs : FinMap nat_cmp RrrRecord) (unit : ℕ) (p : HeldRight → Bool) (held : HeldRight) (es : List (ℕ × RrrRecord)) → AllByRecursion (λ e. map.get rrrs e.0 ≡ Some e.1) es
    → find_in p (filter_map (λ e. right_in_unit unit e.0 e.1) es) ≡ Some held → FoundIn unit p held rrrs
first_found rrrs unit p held [] all h = absurd (none_is_not_some h)
first_found rrrs unit p held (e ∷ es) all h =
    elim (right_in_unit unit e.0 e.1) as (λ (o : Option HeldRight). right_in_unit unit e.0 e.1 ≡ o → find_in p (cons_option o (filter_map (λ e. right_in_unit unit e.0 e.1) es)) ≡ Some held → FoundIn unit p held rrrs) [
      | None ↦ λ is later. first_found rrrs unit p held es all.1 later
      | Some x ↦ λ is here.
          elim (p x) as (λ b. p x ≡ b → cond b (Some x) (find_in p (filter_map (λ e. right_in_unit unit e.0 e.1) es)) ≡ Some held → FoundIn unit p held rrrs) [
            | true ↦ λ passes same. record { number = e.0; entry = e.1; there = all.0; is_held = is ∙ same; passes = ap p (sym (same_some same)) ∙ passes }
            | false ↦ λ fails later. first_found rrrs unit p held es all.1 later
          ] refl here
    ] refl h

-- if no right satisfies a condition, no entry is such a right
none_found : (unit : ℕ) (p : HeldRight → Bool) (es : List (ℕ × RrrRecord)) → find_in p (filter_map (λ e. right_in_unit unit e.0 e.1) es) ≡ None
    → AllByRecursion (λ e. (held : HeldRight) → right_in_unit unit e.0 e.1 ≡ Some held → p held ≡ false) es
none_found unit p [] h = tt
none_found unit p (e ∷ es) h =
    elim (right_in_unit unit e.0 e.1) as (λ (o : Option HeldRight). right_in_unit unit e.0 e.1 ≡ o → find_in p (cons_option o (filter_map (λ e. right_in_unit unit e.0 e.1) es)) ≡ None
    → AllByRecursion (λ e. (held : HeldRight) → right_in_unit unit e.0 e.1 ≡ Some held → p held ≡ false) (e ∷ es)) [
      | None ↦ λ is later. (λ held at. absurd (none_is_not_some (sym is ∙ at)), none_found unit p es later)
      | Some x ↦ λ is here.
          elim (p x) as (λ b. p x ≡ b → cond b (Some x) (find_in p (filter_map (λ e. right_in_unit unit e.0 e.1) es)) ≡ None → AllByRecursion (λ e. (held : HeldRight) → right_in_unit unit e.0 e.1 ≡ Some held → p held ≡ false) (e ∷ es)) [
            | true ↦ λ passes same. absurd (none_is_not_some (sym same))
            | false ↦ λ fails later. (λ held at. ap p (same_some (sym at ∙ is)) ∙ fails, none_found unit p es later)
          ] refl here
    ] refl h

-- a right that a party has of a type
pub record IsHeldBy (rrrs : FinMap nat_cmp RrrRecord) (unit party : ℕ) (type : RightType) (held : HeldRight) : Type 0 where
  pub held_right : IsHeldAt rrrs unit held
  pub by_party : held.party ≡ party
  pub of_type : held.right_type ≡ type

pub held_by_there : (r : Register) (unit party : ℕ) (type : RightType) (held : HeldRight) → right_by_party r unit party type ≡ Some held → IsHeldBy r.rrrs unit party type held
held_by_there r unit party type held h =
    let it = first_found r.rrrs unit (is_right_held_by party type) held (map.entries r.rrrs) (each_there nat_cmp_total nat_cmp-IsAntisymmetric r.rrrs) h in
    let parts = and_parts (nat_eq held.party party) (is_type held.right_type type) it.passes in
    record {
      held_right = held_from r.rrrs unit it.number it.entry held it.there it.is_held;
      by_party = eqb-true held.party party parts.0;
      of_type = one_type held.right_type type parts.1;
    }

-- if a party has no right of a type, no entry is one
pub none_held_by : (r : Register) (unit party : ℕ) (type : RightType) → right_by_party r unit party type ≡ None
    → (n : ℕ) (e : RrrRecord) → map.get r.rrrs n ≡ Some e → e.unit ≡ unit → e.party ≡ party → type_of e.class ≢ Some type
none_held_by r unit party type none n e is in_unit by_party of_type =
    let fails = at_each (λ (e : ℕ × RrrRecord). (held : HeldRight) → right_in_unit unit e.0 e.1 ≡ Some held → is_right_held_by party type held ≡ false) r.rrrs
    (none_found unit (is_right_held_by party type) (map.entries r.rrrs) none) n e is in
    a_right e.class of_type (λ held at. fails held (ap (λ b. cond b (right_of_class n e.party e.class) None) (eq-eqb e.unit unit in_unit) ∙ at))
  where
    a_right : (it : Class) → type_of it ≡ Some type → ((held : HeldRight) → right_of_class n e.party it ≡ Some held → is_right_held_by party type held ≡ false) → ⊥
    a_right (class.Right other share) same fails =
        let none_passes = fails (record { number = n; party = e.party; right_type = other; share = share }) refl in
        false≢true (sym none_passes ∙ ap (λ b. b && is_type other type) (eq-eqb e.party party by_party) ∙ ap (λ (t : RightType). is_type t type) (same_some same) ∙ type_itself type)
    a_right (class.Restriction words) same fails = none_is_not_some same
    a_right (class.Responsibility words) same fails = none_is_not_some same
    a_right (class.Mortgage amount currency rank) same fails = none_is_not_some same
