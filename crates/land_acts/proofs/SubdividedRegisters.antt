-- A subdivision adds its parts one at a time, and after each of them the register is sound.
use Rattle.std.proofs.Common.{◌≡◌, ℕ, ◌+◌, ◌≤◌, true, false, cond, Some, None, Option, List, [], ◌∷◌, ◌++◌, length, refl, sym, ap, ◌∙◌, subst, arith}
use Rattle.std.specs.Prelude.{filter, is_none, is_some, nat_eq, map as map_list}
use Rattle.std.specs.Option.{option_map_or}
use Rattle.std.specs.Ordering.{nat_cmp}
use Rattle.std.specs.FinMap as map
use Rattle.std.specs.FinMap.{FinMap}
use Rattle.std.proofs.lemmas.Bool.{false≢true, le-ltb, ltb-false}
use Rattle.land_acts.proofs.SubdividedParcels.{AreLeft, all_left, left_beside, one_ends, one_more, parcelled, parcelled_is_sound, parcels_in}
use Rattle.land_acts.proofs.SubdividedUnits.{IsCopy, copied, copied_is_sound, count_stays, entries_stay, stands_apart, unit_stays}
use Rattle.land_acts.specs.Mutations.Numbering.{with_numbers_from}
use Rattle.land_acts.specs.Mutations.Planning.{runs_out_of_numbers}
use Rattle.land_acts.specs.Mutations.Subdividing.{Origin, all_parts, copies_made, count_for, entries_made, list_entries_of, has_parcel_in, in_unit, next_after, numbers_for, origin_of, parcel_of_part, parcel_made, count_other_parcels, parcels_made, count_staying, subdivision_change, subdivision_count, unit_made, units_made, would_have_many_parcels}
use Rattle.land_core.specs.Changes.{after}
use Rattle.land_core.specs.Entries.{has, with_entries}
use Rattle.land_core.specs.Numbers.{last_next}
use Rattle.land_core.specs.Soundness.{IsSound}
use Rattle.land_core.specs.Units.{parcel_count}
use Rattle.land_core.specs.declared.parcel.ParcelRecord.{ParcelRecord}
use Rattle.land_core.specs.declared.register.Register.{Register}
use Rattle.land_core.specs.declared.rrr.RrrRecord.{RrrRecord}
use Rattle.land_core.specs.declared.subdivision.Part.{Part}
use Rattle.land_core.specs.declared.subdivision.Subdivision.{Subdivision}
use Rattle.land_core.specs.declared.unit.UnitRecord.{UnitRecord}

-- ---- numbers

-- the next number increases with each part
pub next_grows : (origin : Origin) (first : ℕ) (parts : List Part) → first ≤ next_after origin first parts
next_grows origin first [] = omega arith
next_grows origin first (part ∷ parts) = let rest = next_grows origin (first + numbers_for origin part.unit) parts in omega (arith, rest)

-- it is the first number plus the count of new objects, which does not depend on the source
pub next_counted : (r : Register) (source : ℕ) (it : Subdivision) (first : ℕ) (parts : List Part) → next_after (origin_of r source it) first parts ≡ first + count_for (origin_of r 0 it) parts
next_counted r source it first [] = omega arith
next_counted r source it first (part ∷ parts) =
    let rest = next_counted r source it (first + numbers_for (origin_of r source it) part.unit) parts in
    let same = as_many part.unit in
    rest ∙ omega (arith, same)
  where
    as_many : (o : Option (List ℕ)) → numbers_for (origin_of r source it) o ≡ numbers_for (origin_of r 0 it) o
    as_many None = refl
    as_many (Some name) = refl

-- the next number after a subdivision
pub subdivided_next : (r : Register) (source : ℕ) (it : Subdivision) → (subdivision_change r source it).next ≡ r.next + subdivision_count r it
subdivided_next r source it = next_counted r source it r.next (all_parts it)

pub subdivision_grows : (r : Register) (source : ℕ) (it : Subdivision) → r.next ≤ (subdivision_change r source it).next
subdivision_grows r source it = next_grows (origin_of r source it) r.next (all_parts it)

-- ---- one part

-- a register with the objects of some parts, under its next numbers
abbrev parted : Origin → List Part → Register → Register
parted origin parts r = record r {
  units = with_entries r.units (units_made origin r.next parts);
  parcels = with_entries r.parcels (parcels_made origin r.next parts);
  rrrs = with_entries r.rrrs (copies_made origin r.next parts);
  next = next_after origin r.next parts;
}

-- and with the objects of one part
abbrev with_part : Origin → Part → (new_unit : Option (List ℕ)) → Register → Register
with_part origin part None r = parcelled r r.parcels (parcel_of_part origin origin.unit part)
with_part origin part (Some name) r = copied r origin.unit (record { name = name; checked = origin.checked }) (parcel_of_part origin r.next part)

-- writing a concatenation is writing one list after the other
with_entries-append : {V : Type 0} (m : FinMap nat_cmp V) (xs ys : List (ℕ × V)) → with_entries m (xs ++ ys) ≡ with_entries (with_entries m xs) ys
with_entries-append m [] ys = refl
with_entries-append m (x ∷ xs) ys = with_entries-append (map.insert m x.0 x.1) xs ys

-- the objects of some parts are those of the first one, and then of the others
parted_first : (origin : Origin) (part : Part) (parts : List Part) (r : Register) → list_entries_of r origin.unit ≡ origin.entries → parted origin (part ∷ parts) r ≡ parted origin parts (with_part origin part part.unit r)
parted_first origin part parts r entries = by_unit part.unit
  where
    by_unit : (o : Option (List ℕ)) → record r {
      units = with_entries r.units (unit_made origin r.next o ++ units_made origin (r.next + numbers_for origin o) parts);
      parcels = with_entries r.parcels (parcel_made origin r.next part o ++ parcels_made origin (r.next + numbers_for origin o) parts);
      rrrs = with_entries r.rrrs (entries_made origin r.next o ++ copies_made origin (r.next + numbers_for origin o) parts);
      next = next_after origin (r.next + numbers_for origin o) parts;
    } ≡ parted origin parts (with_part origin part o r)
    by_unit None = refl
    by_unit (Some name) =
        ap (λ (rrrs : FinMap nat_cmp RrrRecord). record r {
          units = with_entries r.units (units_made origin r.next (record part { unit = Some name } ∷ parts));
          parcels = with_entries r.parcels (parcels_made origin r.next (record part { unit = Some name } ∷ parts));
          rrrs = rrrs;
          next = next_after origin (r.next + (2 + length origin.entries)) parts;
        }) (with_entries-append r.rrrs (with_numbers_from (r.next + 2) (map_list (in_unit r.next) origin.entries)) (copies_made origin (r.next + (2 + length origin.entries)) parts))
        ∙ ap (λ (es : List RrrRecord). parted origin parts (record r {
          units = map.insert r.units r.next (record { name = name; checked = origin.checked });
          parcels = map.insert r.parcels (r.next + 1) (parcel_of_part origin r.next part);
          rrrs = with_entries r.rrrs (with_numbers_from (r.next + 2) (map_list (in_unit r.next) es));
          next = r.next + (2 + length es);
        })) (sym entries)

-- the invariant before some parts: the unit is unchanged, it has space, and there are numbers
record IsReady (origin : Origin) (parts : List Part) (r : Register) : Type 0 where
  sound : IsSound r
  original : UnitRecord
  stands : map.get r.units origin.unit ≡ Some original
  marked : origin.checked ≡ original.checked
  entries : list_entries_of r origin.unit ≡ origin.entries
  source : has r.sources origin.source ≡ true
  few : parcel_count r origin.unit + count_staying parts ≤ 256
  room : next_after origin r.next parts ≤ last_next

-- it holds before the others if it holds before the first
ready_next : (origin : Origin) (part : Part) (parts : List Part) (r : Register) → IsReady origin (part ∷ parts) r → IsReady origin parts (with_part origin part part.unit r)
ready_next origin part parts r ready = by_unit part.unit ready.few ready.room
  where
    by_unit : (o : Option (List ℕ)) → parcel_count r origin.unit + length (cond (is_none o) (part ∷ filter (λ (x : Part). is_none x.unit) parts) (filter (λ (x : Part). is_none x.unit) parts)) ≤ 256
        → next_after origin (r.next + numbers_for origin o) parts ≤ last_next → IsReady origin parts (with_part origin part o r)
    by_unit None few room =
        let after_this = next_grows origin (r.next + 1) parts in
        let more = one_more r ready.sound r.parcels (parcel_of_part origin origin.unit part) (all_left r origin.unit) in
        record {
          sound = parcelled_is_sound r ready.sound r.parcels (parcel_of_part origin origin.unit part) (all_left r origin.unit) (ap is_some ready.stands) ready.source
              (le-ltb last_next (r.next + 1) (omega (arith, after_this, room))) (omega (arith, few));
          original = ready.original;
          stands = ready.stands;
          marked = ready.marked;
          entries = ready.entries;
          source = ready.source;
          few = omega (arith, few, more);
          room = room;
        }
    by_unit (Some name) few room =
        let new : UnitRecord = record { name = name; checked = origin.checked } in
        let parcel = parcel_of_part origin r.next part in
        let after_this = next_grows origin (r.next + (2 + length origin.entries)) parts in
        let long : length (list_entries_of r origin.unit) ≡ length origin.entries = ap length ready.entries in
        let copy : IsCopy r origin.unit new parcel = record {
          original = ready.original;
          stands = ready.stands;
          marked = ready.marked;
          in_new = refl;
          source = ready.source;
          room = le-ltb last_next (r.next + (2 + length (list_entries_of r origin.unit))) (omega (arith, after_this, room, long));
        } in
        let apart = stands_apart r ready.sound origin.unit new parcel copy origin.unit ready.original ready.stands in
        let same = count_stays r ready.sound origin.unit new parcel copy origin.unit apart in
        record {
          sound = copied_is_sound r ready.sound origin.unit new parcel copy;
          original = ready.original;
          stands = unit_stays r ready.sound origin.unit new parcel copy origin.unit ready.original ready.stands;
          marked = ready.marked;
          entries = entries_stay r ready.sound origin.unit new parcel copy origin.unit apart ∙ ready.entries;
          source = ready.source;
          few = omega (arith, few, same);
          room = subst (λ (n : ℕ). next_after origin (r.next + (2 + n)) parts ≤ last_next) (sym long) room;
        }

-- ---- all parts

parted_is_sound : (origin : Origin) (parts : List Part) (r : Register) → IsReady origin parts r → IsSound (parted origin parts r)
parted_is_sound origin [] r ready = ready.sound
parted_is_sound origin (part ∷ parts) r ready =
    subst IsSound (sym (parted_first origin part parts r ready.entries)) (parted_is_sound origin parts (with_part origin part part.unit r) (ready_next origin part parts r ready))

-- a subdivision whose parcel is in its unit, which has space for the parts, keeps a register sound
pub subdivided_is_sound : (r : Register) (source : ℕ) (it : Subdivision) → IsSound r → has r.sources source ≡ true → has r.units it.unit ≡ true → has_parcel_in r it.unit it.parcel ≡ true
    → runs_out_of_numbers r (subdivision_count r it) ≡ false → would_have_many_parcels r it ≡ false → IsSound (after (subdivision_change r source it) r)
subdivided_is_sound r source it sound from unit parcel numbers few = found (map.get r.units it.unit) refl unit (map.get r.parcels it.parcel) refl parcel
  where
    origin : Origin
    origin = origin_of r source it

    first : ParcelRecord
    first = parcel_of_part origin it.unit (record { label = it.first.label; outline = it.first.outline; unit = None })

    left : FinMap nat_cmp ParcelRecord
    left = map.remove r.parcels it.parcel

    found : (o : Option UnitRecord) → map.get r.units it.unit ≡ o → is_some o ≡ true → (p : Option ParcelRecord) → map.get r.parcels it.parcel ≡ p → option_map_or (λ (p : ParcelRecord). nat_eq p.unit it.unit) p false ≡ true
        → IsSound (after (subdivision_change r source it) r)
    found None e h p at here = absurd (false≢true h)
    found (Some u) e h None at here = absurd (false≢true here)
    found (Some u) e h (Some p) at here =
        let ends : AreLeft r it.unit left = one_ends r it.unit it.parcel p at here in
        let beside : parcels_in left it.unit ≡ count_other_parcels r it.unit (it.parcel ∷ []) = left_beside r it.unit it.parcel in
        let fits : count_other_parcels r it.unit (it.parcel ∷ []) + count_staying (all_parts it) ≤ 256 = ltb-false 256 (count_other_parcels r it.unit (it.parcel ∷ []) + count_staying (all_parts it)) few in
        let last : r.next + subdivision_count r it ≤ last_next = ltb-false last_next (r.next + subdivision_count r it) numbers in
        let counted : next_after origin (r.next + 1) it.rest ≡ r.next + subdivision_count r it = subdivided_next r source it in
        let after_first : r.next + 1 ≤ next_after origin (r.next + 1) it.rest = next_grows origin (r.next + 1) it.rest in
        let more = one_more r sound left first ends in
        parted_is_sound origin it.rest (parcelled r left first) (record {
          sound = parcelled_is_sound r sound left first ends unit from (le-ltb last_next (r.next + 1) (omega (arith, last, counted, after_first))) (omega (arith, beside, fits));
          original = u;
          stands = e;
          marked = ap (λ o. option_map_or (λ (u : UnitRecord). u.checked) o false) e;
          entries = refl;
          source = from;
          few = omega (arith, beside, fits, more);
          room = omega (arith, last, counted);
        })
