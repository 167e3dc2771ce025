-- The shares of a type in a unit keep their sum when a share moves, and still sum to one if they do not
-- become too fine.
use Rattle.std.proofs.Common.{◌≡◌, ◌≢◌, ℕ, ◌+◌, ◌-◌, ◌*◌, ◌/◌, ◌<◌, ◌≤◌, true, false, cond, ◌&&◌, Option, Some, None, List, [], inl, inr, Result, Ok, Err, refl, sym, ap, ◌∙◌, subst, arith}
use Rattle.std.specs.Prelude.{nat_eq}
use Rattle.std.specs.Int.{◌∣◌}
use Rattle.std.specs.List.{filter_map, AllByRecursion}
use Rattle.std.specs.Ordering.{nat_cmp}
use Rattle.std.specs.FinMap as map
use Rattle.std.specs.FinMap.{FinMap}
use Rattle.std.proofs.Math.Nat.{dvd-mul_left, dvd-mul_right, div-mul_cancel, eq_of_mul-eq-mul_left, eq_of_mul-eq-mul_right, le_of_mul-le-mul_right, mul-le-mul_right, mul-pos, pos_of_dvd_of_pos}
use Rattle.std.proofs.lemmas.Bool.{false≢true, ltb-false}
use Rattle.std.proofs.lemmas.List.Elements.{All-weaker}
use Rattle.std.proofs.lemmas.Nat.Gcd.{dvd_trans}
use Rattle.std.proofs.lemmas.Cmp.{nat_eq_equiv}
use Rattle.land_acts.proofs.TransferMoves.{IsBefore, IsMoved, each_entry, moved_sum, right_left, share_at}
use Rattle.land_acts.proofs.TransferShares.{each_share, multiple_at, multiple_from}
use Rattle.land_acts.proofs.TransferSums.{part_of, parts-weighed, weigh, weigh-filter_map, weigh_map, weight_of, without_one}
use Rattle.land_acts.specs.Mutations.Transferring.{is_above, is_too_fine, right_entry, increased_share, remaining_share}
use Rattle.land_acts.specs.declared.mutations.transfer.HeldRight.{HeldRight}
use Rattle.land_core.proofs.RecordLookups.{type_itself}
use Rattle.land_core.specs.Units.{is_type, share_in_unit}
use Rattle.land_core.specs.declared.content.Transfer.{Transfer}
use Rattle.land_core.specs.declared.register.Register.{Register}
use Rattle.land_core.specs.declared.rrr.Class.TheVariants as class
use Rattle.land_core.specs.declared.rrr.RightType.{RightType}
use Rattle.land_core.specs.declared.rrr.RrrRecord.{RrrRecord}
use Rattle.land_fraction.proofs.Fractions.{answered, denominator_pos, pos_first}
use Rattle.land_fraction.proofs.Moves.{parts-difference, parts-sum, sum_answer, wholeness-kept}
use Rattle.land_fraction.proofs.Multiples.{parts_of-times}
use Rattle.land_fraction.proofs.Wholes.{the_wholeness, wholeness-is}
use Rattle.land_fraction.specs.Answer.{IsFractionOrFault, fraction_of}
use Rattle.land_fraction.specs.Ratio.{Ratio, difference_of, sum_of, max_denominator}
use Rattle.land_fraction.specs.Wholeness.{IsCommonMultiple, IsTooFine, IsWhole, IsWholeness, parts_of, wholeness}
use Rattle.land_fraction.specs.declared.fault.FractionFault.{FractionFault}
use Rattle.land_fraction.specs.declared.fault.FractionFault.TheVariants.{Zero, AboveOne, TooFine}
use Rattle.land_fraction.specs.declared.lists.Whole.{Whole}
use Rattle.land_fraction.specs.declared.lists.Whole.TheVariants as whole

-- ---- shares in equal parts

-- equal shares have the same count of parts
even_parts : (m x y a b c d : ℕ) → 0 < m → x * b ≡ m → y * d ≡ m → a * d ≡ c * b → a * x ≡ c * y
even_parts m x y a b c d above ex ey e =
    let times : a * d * (x * y) ≡ c * b * (x * y) = ap (λ (t : ℕ). t * (x * y)) e in
    let first : a * x * m ≡ a * x * (y * d) = ap (λ (t : ℕ). a * x * t) (sym ey) in
    let second : c * y * m ≡ c * y * (x * b) = ap (λ (t : ℕ). c * y * t) (sym ex) in
    eq_of_mul-eq-mul_right m above (a * x) (c * y) (omega arith)

-- a share with at most all parts is at most one
not_above_one : (m : ℕ) (share : Ratio) → 0 < m → share.denominator ∣ m → part_of m share ≤ m → share.numerator ≤ share.denominator
not_above_one m share above divides fits =
    let x : ℕ = m / share.denominator in
    let e : x * share.denominator ≡ m = div-mul_cancel share.denominator divides in
    let pos : 0 < x = pos_first x share.denominator m e above in
    let upto : share.numerator * x ≤ m = fits in
    let room : share.numerator * x ≤ share.denominator * x = omega arith in
    le_of_mul-le-mul_right room pos

-- the remaining share of a right, if there is one
abbrev pub left_of : Result Ratio FractionFault → Option Ratio
left_of (Ok share) = Some share
left_of (Err fault) = None

-- if there is a value, it satisfies the condition
abbrev pub Each : {X : Type 0} → (X → Type 0) → Option X → Type 0
Each P None = Unit {0}
Each P (Some x) = P x

-- no share remains if all of it was transferred
all_gone : (m : ℕ) (a share : Ratio) → 0 < m → a.denominator ∣ m → share.denominator ∣ m → share.numerator * a.denominator ≤ a.numerator * share.denominator
    → IsFractionOrFault (difference_of a share) (Err Zero) → part_of m share ≡ part_of m a
all_gone m a share above ha hs upto (inl none) =
    let gone : a.numerator * share.denominator - share.numerator * a.denominator ≡ 0 = none in
    let same : share.numerator * a.denominator ≡ a.numerator * share.denominator = omega arith in
    even_parts m (m / share.denominator) (m / a.denominator) share.numerator share.denominator a.numerator a.denominator above (div-mul_cancel share.denominator hs) (div-mul_cancel a.denominator ha) same
all_gone m a share above ha hs upto (inr none) =
    let gone : a.denominator * share.denominator ≡ 0 = none in
    let pos = mul-pos (pos_of_dvd_of_pos ha above) (pos_of_dvd_of_pos hs above) in
    absurd (omega (arith, gone, pos))

not_more_left : (a share : Ratio) → a.numerator ≤ a.denominator → IsFractionOrFault (difference_of a share) (Err AboveOne) → ⊥
not_more_left a share upto h =
    let more : a.denominator * share.denominator < a.numerator * share.denominator - share.numerator * a.denominator = h.2 in
    let whole : a.numerator * share.denominator ≤ a.denominator * share.denominator = mul-le-mul_right share.denominator upto in
    omega arith

left_parts : (m : ℕ) (a share : Ratio) (o : Result Ratio FractionFault) → fraction_of (difference_of a share) ≡ o → is_too_fine o ≡ false
    → share.numerator * a.denominator ≤ a.numerator * share.denominator → 0 < m → a.denominator ∣ m → share.denominator ∣ m → Each (λ left. left.denominator ∣ m) (left_of o) → a.numerator ≤ a.denominator
    → weight_of (part_of m) (left_of o) + part_of m share ≡ part_of m a
left_parts m a share (Ok left) e coarse upto above ha hs hl one =
    let same : 0 + part_of m left + part_of m share ≡ 0 + part_of m a = parts-difference m a share left e above ha hs hl in
    omega (arith, same)
left_parts m a share (Err Zero) e coarse upto above ha hs hl one =
    let gone = all_gone m a share above ha hs upto (subst (λ (o : Result Ratio FractionFault). IsFractionOrFault (difference_of a share) o) e (answered (difference_of a share))) in
    omega (arith, gone)
left_parts m a share (Err AboveOne) e coarse upto above ha hs hl one =
    absurd (not_more_left a share one (subst (λ (o : Result Ratio FractionFault). IsFractionOrFault (difference_of a share) o) e (answered (difference_of a share))))
left_parts m a share (Err TooFine) e coarse upto above ha hs hl one = absurd (false≢true (sym coarse))

-- the receiver's share afterwards: the transferred share, or its sum with the earlier one
abbrev pub IsGrown : Transfer → (share : Ratio) → Option HeldRight → Type 0
IsGrown it share None = share ≡ it.share
IsGrown it share (Some held) = increased_share it held ≡ Ok share

grown_parts : (m : ℕ) (it : Transfer) (share : Ratio) (to : Option HeldRight) → IsGrown it share to → 0 < m → it.share.denominator ∣ m → share.denominator ∣ m → Each (λ (held : HeldRight). held.share.denominator ∣ m) to
    → part_of m share ≡ part_of m it.share + weight_of (λ (held : HeldRight). part_of m held.share) to
grown_parts m it share None e above hs hg ht = let same : part_of m share ≡ part_of m it.share = ap (part_of m) e in omega (arith, same)
grown_parts m it share (Some held) e above hs hg ht =
    let same : 0 + part_of m held.share + part_of m it.share ≡ 0 + part_of m share = parts-sum m held.share it.share share e above ht hs hg in
    omega (arith, same)

-- the denominator of the transferred share is positive if that of the receiver's share is
moved_pos : (it : Transfer) (share : Ratio) (to : Option HeldRight) → IsGrown it share to → 0 < share.denominator → 0 < it.share.denominator
moved_pos it share None e above = subst (λ (s : Ratio). 0 < s.denominator) e above
moved_pos it share (Some held) e above =
    pos_first it.share.denominator held.share.denominator (held.share.denominator * it.share.denominator) (omega arith)
    (denominator_pos (sum_of held.share it.share) (sum_answer held.share it.share share e).0)

-- ---- the shares of the type

-- a multiple of a common multiple is a common multiple
finer_multiple : (m many : ℕ) (shares : List Ratio) → 0 < many → m ∣ many → IsCommonMultiple m shares → IsCommonMultiple many shares
finer_multiple m many shares above divides h = record {
  positive = above;
  of_all = All-weaker (λ (s : Ratio). s.denominator ∣ m) (λ (s : Ratio). s.denominator ∣ many) (λ s p. dvd_trans s.denominator p divides) shares h.of_all;
}

module _ (r : Register) (rrrs : FinMap nat_cmp RrrRecord) (unit receiver source : ℕ) (from : HeldRight) (left : Option Ratio) (number : ℕ) (share : Ratio) (to : Option HeldRight)
    (moved : IsMoved r rrrs unit receiver source from left number share to) where
  abbrev type : RightType
  type = from.right_type

  is_here : (nat_eq unit unit && is_type type type) ≡ true
  is_here = ap (λ b. b && is_type type type) (nat_eq_equiv.refl unit) ∙ type_itself type

  share_here : (e : RrrRecord) (s : Ratio) → e.unit ≡ unit → e.class ≡ class.Right type s → share_in_unit unit type e ≡ Some s
  share_here e s in_unit is = share_at unit type e unit type s in_unit is ∙ ap (λ b. cond b (Some s) None) is_here

  abbrev old_shares : List Ratio
  old_shares = filter_map (λ e. share_in_unit unit type e.1) (map.entries r.rrrs)

  abbrev new_shares : List Ratio
  new_shares = filter_map (λ e. share_in_unit unit type e.1) (map.entries rrrs)

  -- numbers that divide a common multiple of the earlier shares
  from_divides : (m : ℕ) → IsCommonMultiple m old_shares → from.share.denominator ∣ m
  from_divides m h = multiple_at r.rrrs unit type m h from.number moved.first.entry from.share moved.first.there (share_here moved.first.entry from.share moved.first.in_unit moved.first.class)

  to_divides : (m : ℕ) → IsCommonMultiple m old_shares → (o : Option HeldRight) → IsBefore r unit receiver type number o → Each (λ (held : HeldRight). held.share.denominator ∣ m) o
  to_divides m h None before = tt
  to_divides m h (Some held) before =
      let right = before.0.held_right in
      multiple_at r.rrrs unit type m h held.number right.entry held.share right.there
      (share_here right.entry held.share right.in_unit (right.class ∙ ap (λ (t : RightType). class.Right t held.share) before.0.of_type))

  -- and of the later shares
  left_divides : (m : ℕ) → IsCommonMultiple m new_shares → (o : Option Ratio) → left ≡ o → Each (λ (s : Ratio). s.denominator ∣ m) o
  left_divides m h None is = tt
  left_divides m h (Some s) is =
      multiple_at rrrs unit type m h from.number (right_entry unit from.party type s source) s (moved.at_first ∙ ap (right_left unit from.party type source) is)
      (share_here (right_entry unit from.party type s source) s refl refl)

  share_divides : (m : ℕ) → IsCommonMultiple m new_shares → share.denominator ∣ m
  share_divides m h = multiple_at rrrs unit type m h number (right_entry unit receiver type share source) share moved.at_second (share_here (right_entry unit receiver type share source) share refl refl)

  -- if shares sum to one, none is above one
  pub from_at_most_one : IsWhole old_shares → from.share.numerator ≤ from.share.denominator
  from_at_most_one whole =
      let m : ℕ = whole.0 in
      let all : weigh_map (λ e. weight_of (part_of m) (share_in_unit unit type e)) r.rrrs ≡ m =
      sym (weigh-filter_map (part_of m) (λ (e : ℕ × RrrRecord). share_in_unit unit type e.1) (map.entries r.rrrs)) ∙ sym (parts-weighed m old_shares) ∙ whole.3 in
      let one = without_one (λ e. weight_of (part_of m) (share_in_unit unit type e)) r.rrrs from.number in
      let here : weight_of (λ e. weight_of (part_of m) (share_in_unit unit type e)) (map.get r.rrrs from.number) ≡ part_of m from.share =
      ap (weight_of (λ e. weight_of (part_of m) (share_in_unit unit type e))) moved.first.there ∙ ap (weight_of (part_of m)) (share_here moved.first.entry from.share moved.first.in_unit moved.first.class) in
      not_above_one m from.share whole.2.positive (from_divides m whole.2) (omega (arith, all, one, here))

  -- the right is among the earlier shares
  pub had_some : old_shares ≢ []
  had_some none =
      each_share r.rrrs unit type (λ (s : Ratio). ⊥) (subst (λ (shares : List Ratio). AllByRecursion (λ (s : Ratio). ⊥) shares) (sym none) tt) from.number moved.first.entry from.share moved.first.there
      (share_here moved.first.entry from.share moved.first.in_unit moved.first.class)

  -- whether a number is a common multiple of the shares does not depend on the source
  pub any_source : (entries : FinMap nat_cmp RrrRecord) (other : ℕ) → IsMoved r entries unit receiver other from left number share to → (m : ℕ)
      → IsCommonMultiple m (filter_map (λ e. share_in_unit unit type e.1) (map.entries entries)) → IsCommonMultiple m new_shares
  any_source entries other alike m h =
      let each = each_entry r rrrs unit receiver source from left number share to moved (λ k e. (got : Ratio) → share_in_unit unit type e ≡ Some got → got.denominator ∣ m)
      (λ s at got is. multiple_at entries unit type m h from.number (right_entry unit from.party type s other) got (alike.at_first ∙ ap (right_left unit from.party type other) at) is)
      (λ got is. multiple_at entries unit type m h number (right_entry unit receiver type share other) got alike.at_second is)
      (λ k e off away is got taken. multiple_at entries unit type m h k e got (alike.differ.elsewhere k off away ∙ is) taken) in
      multiple_from rrrs unit type m h.positive (λ k e got is taken. each k e is got taken)

  -- the sum of the shares is preserved, in parts whose count is a multiple of the denominator of the
  -- transferred share
  even_sum : (it : Transfer) (o : Result Ratio FractionFault) → remaining_share it from ≡ o → left ≡ left_of o → is_too_fine o ≡ false → is_above it from ≡ false → IsGrown it share to
      → from.share.numerator ≤ from.share.denominator → (parts : ℕ) → IsCommonMultiple parts old_shares → IsCommonMultiple parts new_shares → it.share.denominator ∣ parts
      → parts_of parts new_shares ≡ parts_of parts old_shares
  even_sum it o is_left left_is coarse not_above increased_entry one parts first second moves =
      let upto : it.share.numerator * from.share.denominator ≤ from.share.numerator * it.share.denominator = ltb-false (from.share.numerator * it.share.denominator) (it.share.numerator * from.share.denominator) not_above in
      let kept : weight_of (part_of parts) left + part_of parts it.share ≡ part_of parts from.share =
      ap (λ (l : Option Ratio). weight_of (part_of parts) l + part_of parts it.share) left_is
      ∙ left_parts parts from.share it.share o is_left coarse upto first.positive (from_divides parts first) moves (left_divides parts second (left_of o) left_is) one in
      let added = grown_parts parts it share to increased_entry first.positive moves (share_divides parts second) (to_divides parts first to moved.second) in
      let sum : weigh (part_of parts) new_shares + (part_of parts from.share + weight_of (λ (held : HeldRight). part_of parts held.share) to)
      ≡ weigh (part_of parts) old_shares + (weight_of (part_of parts) left + part_of parts share) = moved_sum r rrrs unit receiver source from left number share to moved (part_of parts) unit type true is_here in
      let before = parts-weighed parts old_shares in
      let after = parts-weighed parts new_shares in
      omega (arith, kept, added, sum, before, after)

  -- and so for each common multiple of the shares before and after
  pub sum_kept : (it : Transfer) (o : Result Ratio FractionFault) → remaining_share it from ≡ o → left ≡ left_of o → is_too_fine o ≡ false → is_above it from ≡ false → IsGrown it share to
      → from.share.numerator ≤ from.share.denominator → (parts : ℕ) → IsCommonMultiple parts old_shares → IsCommonMultiple parts new_shares → parts_of parts new_shares ≡ parts_of parts old_shares
  sum_kept it o is_left left_is coarse not_above increased_entry one parts first second =
      let extra : ℕ = it.share.denominator in
      let extra_pos : 0 < extra = moved_pos it share to increased_entry (pos_of_dvd_of_pos (share_divides parts second) second.positive) in
      let above : 0 < extra * parts = mul-pos extra_pos first.positive in
      let finer = dvd-mul_left parts extra in
      let same = even_sum it o is_left left_is coarse not_above increased_entry one (extra * parts) (finer_multiple parts (extra * parts) old_shares above finer first) (finer_multiple parts (extra * parts) new_shares above finer second)
      (dvd-mul_right extra parts) in
      eq_of_mul-eq-mul_left extra extra_pos (parts_of parts new_shares) (parts_of parts old_shares)
      (sym (parts_of-times extra parts new_shares second.of_all) ∙ same ∙ parts_of-times extra parts old_shares first.of_all)

  pub whole_kept : (it : Transfer) (o : Result Ratio FractionFault) → remaining_share it from ≡ o → left ≡ left_of o → is_too_fine o ≡ false → is_above it from ≡ false → IsGrown it share to
      → (m : ℕ) → m ≤ max_denominator → IsCommonMultiple m new_shares → IsWhole old_shares → IsWhole new_shares
  whole_kept it o is_left left_is coarse not_above increased_entry m fits multiple was =
      let many : ℕ = was.0 * m in
      let above : 0 < many = mul-pos was.2.positive multiple.positive in
      let first : IsCommonMultiple many old_shares = finer_multiple was.0 many old_shares above (dvd-mul_right was.0 m) was.2 in
      let second : IsCommonMultiple many new_shares = finer_multiple m many new_shares above (dvd-mul_left m was.0) multiple in
      let same = sum_kept it o is_left left_is coarse not_above increased_entry (from_at_most_one was) many first second in
      let yes = wholeness-kept old_shares new_shares (record { parts = many; first = first; second = second; same = sym same }) (sym (the_wholeness old_shares whole.Yes was))
      (λ fine. let more = too_fine fine m multiple in omega (arith, more, fits)) in
      subst (λ (w : Whole). IsWholeness new_shares w) yes (wholeness-is new_shares)
    where
      too_fine : wholeness new_shares ≡ whole.TooFine → IsTooFine new_shares
      too_fine fine = subst (λ (w : Whole). IsWholeness new_shares w) fine (wholeness-is new_shares)
