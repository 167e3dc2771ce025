-- The statement of a range of each kind as a query of one table, and the rows that it returns.
use Rattle.std.proofs.Common.{◌≡◌, ◌<◌, ◌&&◌, inl, inr, ℕ, ℤ, pos, Bool, true, false, nat_le, int_le, int_lt, min, List, [], ◌∷◌, codes, Ok, refl, sym, ap, ap₂, subst, ◌∙◌, arith}
use Rattle.std.proofs.lemmas.Bool.{and_parts, false≢true}
use Rattle.std.proofs.lemmas.Bool.Decides.{Decides-and, Decides-at, Decides-like, leb_tells}
use Rattle.std.specs.Bool.{Decides}
use Rattle.land_core.specs.Numbers.{is_number}
use Rattle.land_core.specs.declared.kind.Kind.{Kind}
use Rattle.land_core.specs.declared.kind.Kind.TheVariants as kind
use Rattle.land_select_queries.proofs.Joined.{Asks}
use Rattle.land_select_queries.proofs.Known.{caller, still}
use Rattle.land_select_queries.proofs.Places as place
use Rattle.land_select_queries.proofs.Places.{shape, shows}
use Rattle.land_select_queries.proofs.Records.{are_rows}
use Rattle.land_select_queries.proofs.Tested.{Lives, decides_by, itself, meant_lives}
use Rattle.land_select_queries.specs.Lookups.Ranges.{AreRowsWithin, Recorded, is_within, listing_of, text_within}
use Rattle.land_tables_history.specs.Standing.{is_current}
use Rattle.land_tables_history.specs.declared.version.Version.{Version}
use Rattle.land_tables_schema.proofs.Updates.{passes, plainly}
use Rattle.land_tables_schema.proofs.Versions.{columns_of}
use Rattle.land_tables_schema.specs.Schemas.{schema_v2_with}
use Rattle.sqlite.specs.Listing.{understood}
use Rattle.sqlite.specs.Program.{overlay}
use Rattle.sqlite.specs.Query.{IsAnswer, Query}
use Rattle.sqlite.specs.Term.{Term, col, eval_all}
use Rattle.sqlite_schema.specs.declared.schema.Index.{Index}
use Rattle.sqlite_sql.specs.Term.{op2}
use Rattle.sqlite_sql.specs.declared.ops.BinaryOp.TheVariants.{Compare}
use Rattle.sqlite_sql.specs.declared.ops.CompareOp.TheVariants.{Le}
use Rattle.sqlite_tied.specs.Compute.{everything}
use Rattle.sqlite_trees.specs.Tree.{Trees}
use Rattle.sqlite_value.specs.Order.{Row}
use Rattle.sqlite_value.specs.declared.keys.Collation.TheVariants.{Binary}
use Rattle.sqlite_value.specs.declared.value.Value.TheVariants.{Int}

-- a number above that of each object
abbrev pub beyond : ℕ
beyond = 1_000_000_001

-- the parameters: the first number, the time, the last number
abbrev pub asked : (first last : ℕ) → (t : ℤ) → Row
asked first last t = Int (pos (min first beyond)) ∷ Int t ∷ Int (pos (min last beyond)) ∷ []

-- the number in this column is in the range
abbrev pub ranged : (slot : ℕ) → (more : List Term) → List Term
ranged slot more = op2 (Compare Le Binary) caller (col slot 1) ∷ op2 (Compare Le Binary) (col slot 1) (col 0 2) ∷ more

-- the tests of WHERE: the range and the lifespan
abbrev pub filter_of : Kind → List Term
filter_of kind.Party = ranged 1 (still 1 4)
filter_of kind.Unit = ranged 1 (still 1 4)
filter_of kind.Parcel = ranged 1 (still 1 6)
filter_of kind.Rrr = ranged 1 (still 1 12)
filter_of kind.Source = ranged 1 (still 1 4)
filter_of kind.Mutation = ranged 1 (still 1 9)

-- the columns of the result
abbrev pub project_of : Kind → List Term
project_of kind.Party = columns_of 1 1 5
project_of kind.Unit = columns_of 1 1 5
project_of kind.Parcel = columns_of 1 1 7
project_of kind.Rrr = columns_of 1 1 13
project_of kind.Source = columns_of 1 1 5
project_of kind.Mutation = columns_of 1 1 10

abbrev pub query_of : Kind → Query
query_of k = plainly (listing_of k).table.tree (filter_of k) (project_of k)

-- each statement is exactly its query
pub asks : (k : Kind) (indexes : List Index) → Asks (schema_v2_with indexes) (text_within k) (query_of k)
unfolding understood everything
asks kind.Party indexes = record { names = codes "number" ∷ codes "name" ∷ codes "kind" ∷ codes "since" ∷ codes "until" ∷ []; command = refl; unlisted = refl; plain = (refl, refl) }
asks kind.Unit indexes = record { names = codes "number" ∷ codes "name" ∷ codes "checked" ∷ codes "since" ∷ codes "until" ∷ []; command = refl; unlisted = refl; plain = (refl, refl) }
asks kind.Parcel indexes = record { names = codes "number" ∷ codes "unit" ∷ codes "label" ∷ codes "outline" ∷ codes "source" ∷ codes "since" ∷ codes "until" ∷ []; command = refl; unlisted = refl; plain = (refl, refl) }
asks kind.Rrr indexes = record { names = codes "number" ∷ codes "unit" ∷ codes "party" ∷ codes "class" ∷ codes "num" ∷ codes "den" ∷ codes "amount" ∷ codes "currency" ∷ codes "place" ∷ codes "words" ∷ codes "source" ∷ codes "since" ∷ codes "until" ∷ []; command = refl; unlisted = refl; plain = (refl, refl) }
asks kind.Source indexes = record { names = codes "number" ∷ codes "kind" ∷ codes "title" ∷ codes "since" ∷ codes "until" ∷ []; command = refl; unlisted = refl; plain = (refl, refl) }
asks kind.Mutation indexes = record { names = codes "number" ∷ codes "lodger" ∷ codes "reference" ∷ codes "source" ∷ codes "lodged" ∷ codes "act" ∷ codes "content" ∷ codes "state" ∷ codes "since" ∷ codes "until" ∷ []; command = refl; unlisted = refl; plain = (refl, refl) }

-- a query reads the rows of its table
stored : (k : Kind) (db : Trees) → overlay db [] (listing_of k).table.tree ≡ db (listing_of k).table.tree
stored kind.Party db = refl
stored kind.Unit db = refl
stored kind.Parcel db = refl
stored kind.Rrr db = refl
stored kind.Source db = refl
stored kind.Mutation db = refl

-- and returns the columns of a row that are decoded
shown : (k : Kind) (params r : Row) → eval_all (project_of k) (params ∷ r ∷ []) ≡ (listing_of k).shown r
shown kind.Party params r = refl
shown kind.Unit params r = refl
shown kind.Parcel params r = refl
shown kind.Rrr params r = refl
shown kind.Source params r = refl
shown kind.Mutation params r = refl

-- no object has a number above the greatest
short : (key : ℕ) → is_number key ≡ true → key < beyond
short key within = elim (leb_tells key 1_000_000_000) [
  | inl le ↦ let at_most = le.1 in omega arith
  | inr gt ↦ absurd (false≢true (sym gt.0 ∙ (and_parts (nat_le 1 key) (nat_le key 1_000_000_000) within).1))
]

-- comparing an object's number with the limited number is the same as with the given one
at_least : (first key : ℕ) → is_number key ≡ true → nat_le (min first beyond) key ≡ nat_le first key
at_least first key within =
    let less = short key within in
    elim (leb_tells (min first beyond) key) [
      | inl low ↦ elim (leb_tells first key) [
        | inl high ↦ low.0 ∙ sym high.0
        | inr high ↦ let a = low.1 in let b = high.1 in absurd (omega arith)
      ]
      | inr low ↦ elim (leb_tells first key) [
        | inl high ↦ let a = low.1 in let b = high.1 in absurd (omega arith)
        | inr high ↦ low.0 ∙ sym high.0
      ]
    ]

at_most : (last key : ℕ) → is_number key ≡ true → nat_le key (min last beyond) ≡ nat_le key last
at_most last key within =
    let less = short key within in
    elim (leb_tells key (min last beyond)) [
      | inl low ↦ elim (leb_tells key last) [
        | inl high ↦ low.0 ∙ sym high.0
        | inr high ↦ let a = low.1 in let b = high.1 in absurd (omega arith)
      ]
      | inr low ↦ elim (leb_tells key last) [
        | inl high ↦ let a = low.1 in let b = high.1 in absurd (omega arith)
        | inr high ↦ low.0 ∙ sym high.0
      ]
    ]

pub in_range : (first last key : ℕ) → is_number key ≡ true
    → Decides (is_within first last key) ((int_le (pos (min first beyond)) (pos key) ≡ true) × (int_le (pos key) (pos (min last beyond)) ≡ true))
in_range first last key within =
    Decides-at _ _ (sym (ap₂ ◌&&◌ (at_least first key within) (at_most last key within)))
    (Decides-and (nat_le (min first beyond) key) (nat_le key (min last beyond)) (itself (nat_le (min first beyond) key)) (itself (nat_le key (min last beyond))))

by_range : (b : Bool) (key first last : ℕ) (t since until : ℤ) → is_number key ≡ true
    → Decides b ((int_le (pos (min first beyond)) (pos key) ≡ true) × ((int_le (pos key) (pos (min last beyond)) ≡ true) × Lives t since until))
    → b ≡ ((int_le since t && int_lt t until) && is_within first last key)
by_range b key first last t since until within passes =
    meant_lives b (is_within first last key) ((int_le (pos (min first beyond)) (pos key) ≡ true) × (int_le (pos key) (pos (min last beyond)) ≡ true)) t since until
    (in_range first last key within)
    (Decides-like b (λ h. ((h.0, h.1.0), h.1.1)) (λ h. (h.0.0, (h.0.1, h.1))) passes)

-- a row of a version passes if the version is current and its number is in the range
tests : (k : Kind) (r : Row) (v : Version (ℕ × Recorded k)) → (listing_of k).said ((listing_of k).shown r) ≡ Ok v → (first last : ℕ) (t : ℤ)
    → passes (filter_of k) (asked first last t) r ≡ (is_current t v && is_within first last v.what.0)
tests kind.Party r v e first last t =
    by_range (passes (filter_of kind.Party) (asked first last t) r) v.what.0 first last t v.since v.until (shows place.parties r v e).1
    (decides_by (filter_of kind.Party) (asked first last t) (shape place.parties v) r (shows place.parties r v e).0 refl)
tests kind.Unit r v e first last t =
    by_range (passes (filter_of kind.Unit) (asked first last t) r) v.what.0 first last t v.since v.until (shows place.units r v e).1
    (decides_by (filter_of kind.Unit) (asked first last t) (shape place.units v) r (shows place.units r v e).0 refl)
tests kind.Parcel r v e first last t =
    by_range (passes (filter_of kind.Parcel) (asked first last t) r) v.what.0 first last t v.since v.until (shows place.parcels r v e).1.0
    (decides_by (filter_of kind.Parcel) (asked first last t) (shape place.parcels v) r (shows place.parcels r v e).0 refl)
tests kind.Rrr r v e first last t =
    by_range (passes (filter_of kind.Rrr) (asked first last t) r) v.what.0 first last t v.since v.until (shows place.rrrs r v e).1.1
    (decides_by (filter_of kind.Rrr) (asked first last t) (shape place.rrrs v) r (shows place.rrrs r v e).0 refl)
tests kind.Source r v e first last t =
    by_range (passes (filter_of kind.Source) (asked first last t) r) v.what.0 first last t v.since v.until (shows place.sources r v e).1
    (decides_by (filter_of kind.Source) (asked first last t) (shape place.sources v) r (shows place.sources r v e).0 refl)
tests kind.Mutation r v e first last t =
    by_range (passes (filter_of kind.Mutation) (asked first last t) r) v.what.0 first last t v.since v.until (shows place.mutations r v e).1.1
    (decides_by (filter_of kind.Mutation) (asked first last t) (shape place.mutations v) r (shows place.mutations r v e).0 refl)

-- the result of a kind's statement has the rows of the current records in the range
pub are_rows_within : (k : Kind) (first last : ℕ) (t : ℤ) (db : Trees) (rows : List Row) → IsAnswer (query_of k) (overlay db []) (asked first last t) rows → AreRowsWithin k first last t db rows
are_rows_within k first last t db rows answer =
    are_rows (listing_of k) (filter_of k) (project_of k) (asked first last t) (λ it. is_within first last it.0) t db (stored k db) (shown k (asked first last t)) (λ r v e. tests k r v e first last t) rows answer
