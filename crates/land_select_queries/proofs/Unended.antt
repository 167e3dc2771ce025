-- At the last moment, the versions that have not ended are the current ones.
use Rattle.std.proofs.Common.{◌≡◌, ◌↔◌, ℕ, ℤ, pos, List, ◌&&◌, Bool, true, false, int_le, int_lt, if◌then◌else◌, Ok, Err, Result, refl, ap, subst, ◌∙◌, arith}
use Rattle.std.proofs.lemmas.Bool.{and_parts}
use Rattle.std.proofs.lemmas.Int.{ints}
use Rattle.land_core.specs.Numbers.{last_moment}
use Rattle.land_core.specs.declared.kind.Kind.TheVariants as kind
use Rattle.land_core.specs.declared.parcel.ParcelRecord.{ParcelRecord}
use Rattle.land_core.specs.declared.unit.UnitRecord.{UnitRecord}
use Rattle.land_select_queries.proofs.Places.{parcels, read_back, units}
use Rattle.land_select_queries.proofs.Selected.{of, stood, version}
use Rattle.land_select_queries.specs.Joins.Execution.{SelectsAll}
use Rattle.land_select_queries.specs.Sights.Selections.{IsCurrentUnder, IsUnendedUnder}
use Rattle.land_select_queries.specs.declared.sights.selection.Selection.TheVariants as selection
use Rattle.land_tables_history.specs.declared.history.History.{History}
use Rattle.land_tables_history.specs.declared.moment.Moment.{Moment}
use Rattle.land_tables_history.specs.declared.version.Version.{Version}
use Rattle.land_tables_rows.proofs.Stepping.{same_value, stepped}
use Rattle.land_tables_rows.specs.Parcel.Reading.{parcel_in}
use Rattle.land_tables_rows.specs.Parcel.Writing.{parcel_reading}
use Rattle.land_tables_rows.specs.Reading.Cells.{end_in, flag_in, integer_in, label_in, moment_in, name_in, number_in, text_in, until_most}
use Rattle.land_tables_rows.specs.Unit.Reading.{unit_in}
use Rattle.land_tables_rows.specs.Unit.Writing.{unit_reading}
use Rattle.land_tables_rows.specs.Writing.History.{HoldsHistory}
use Rattle.land_tables_schema.specs.Rows.ReadQueries.{columns_from}
use Rattle.land_wire_json.specs.Bodies.Outlines.{outline_of}
use Rattle.land_wire_json.specs.declared.bodies.wire_fault.WireFault.{WireFault}
use Rattle.land_wire_json.specs.declared.bodies.wire_fault.WireFault.TheVariants as fault
use Rattle.sqlite_rules.proofs.ListLemmas.{has_contained, contains_had}
use Rattle.sqlite_rules.specs.Lists.{Has}
use Rattle.sqlite_trees.specs.Tree.{Trees}
use Rattle.sqlite_value.specs.Order.{Row, column}
use Rattle.sqlite_value.specs.declared.value.Value.{Value}

-- a decoded moment is at most the last
most_if : (b : Bool) (y z : ℤ) → (b ≡ true → int_le y last_moment ≡ true) → ◌≡◌ {A = Result ℤ WireFault} (if b then Ok y else Err fault.Number) (Ok z) → int_le z last_moment ≡ true
most_if true y z so e = subst (λ (x : ℤ). int_le x last_moment ≡ true) (same_value y z e) (so refl)
most_if false y z so e = let none : ⊥ = cc in absurd none

moment_most : (c : Value) (z : ℤ) → moment_in c ≡ Ok z → int_le z last_moment ≡ true
unfolding moment_in
moment_most c z e =
    let h = stepped (integer_in c) (until_most last_moment) z e in
    most_if (int_le (pos 0) h.given && int_le h.given last_moment) h.given z (λ is. (and_parts (int_le (pos 0) h.given) (int_le h.given last_moment) is).1) h.rest

begun_by : (since t : ℤ) → int_le since last_moment ≡ true → int_lt t last_moment ≡ false → int_le since t ≡ true
begun_by since t a b = grind (arith, ints)

-- so a version that is read has begun by the last moment
unit_begun : (r : Row) (v : Version (ℕ × UnitRecord)) → unit_reading.said (columns_from 1 unit_reading.width r) ≡ Ok v → int_le v.since last_moment ≡ true
unfolding unit_in
unit_begun r v e =
    let a = stepped (number_in (column r 1)) _ v e in
    let b = stepped (name_in (column r 2)) _ v a.rest in
    let c = stepped (flag_in (column r 3)) _ v b.rest in
    let d = stepped (moment_in (column r 4)) _ v c.rest in
    let f = stepped (end_in (column r 5)) _ v d.rest in
    let all = same_value _ v f.rest in
    moment_most (column r 4) v.since (d.is ∙ ap (λ (w : Version (ℕ × UnitRecord)). Ok w.since) all)

parcel_begun : (r : Row) (v : Version (ℕ × ParcelRecord)) → parcel_reading.said (columns_from 1 parcel_reading.width r) ≡ Ok v → int_le v.since last_moment ≡ true
unfolding parcel_in
parcel_begun r v e =
    let a = stepped (number_in (column r 1)) _ v e in
    let b = stepped (number_in (column r 2)) _ v a.rest in
    let c = stepped (label_in (column r 3)) _ v b.rest in
    let t = stepped (text_in (column r 4)) _ v c.rest in
    let o = stepped (outline_of t.given) _ v t.rest in
    let s = stepped (number_in (column r 5)) _ v o.rest in
    let d = stepped (moment_in (column r 6)) _ v s.rest in
    let f = stepped (end_in (column r 7)) _ v d.rest in
    let all = same_value _ v f.rest in
    moment_most (column r 6) v.since (d.is ∙ ap (λ (w : Version (ℕ × ParcelRecord)). Ok w.since) all)

-- if all versions have begun, those that have not ended are current
same_numbers : {V : Type 0} (t : ℤ) (vs : List (Version (ℕ × V))) (number : ℕ) → ((v : Version (ℕ × V)) → Has vs v → int_le v.since t ≡ true) → IsUnendedUnder t vs number ↔ IsCurrentUnder t vs number
same_numbers t vs number begun = (
  (λ x. let has = has_contained vs x.0 x.1 in (x.0.what, stood t vs x.0 has (begun x.0 has) x.2, x.3)),
  (λ x. let v = version t vs x.0 x.1 in (of x.0 v.since v.until, contains_had vs (of x.0 v.since v.until) v.has, v.going, x.2)),
)

pub all_units : (t : ℤ) → int_lt t last_moment ≡ false → (db : Trees) → SelectsAll selection.UnendedUnits kind.Unit t db
all_units t late db moments h held caller number =
    same_numbers t h.units number (λ v has. let it = read_back db moments h held units v has in begun_by v.since t (unit_begun it.0 v it.2) late)

pub all_parcels : (t : ℤ) → int_lt t last_moment ≡ false → (db : Trees) → SelectsAll selection.UnendedParcels kind.Parcel t db
all_parcels t late db moments h held caller number =
    same_numbers t h.parcels number (λ v has. let it = read_back db moments h held parcels v has in begun_by v.since t (parcel_begun it.0 v it.2) late)
