-- Rows whose last two columns are the lifespan: how versions decode when they begin and when they are closed.
use Rattle.std.proofs.Common.{◌≡◌, ◌&&◌, ℕ, suc, ℤ, [], ◌∷◌, ◌++◌, Bool, true, false, if◌then◌else◌, Ok, Result, refl, sym, ap, ap₂, ◌∙◌}
use Rattle.std.specs.Ordering.{int_eq}
use Rattle.land_core.specs.Numbers.{IsMoment}
use Rattle.land_tables_history.specs.Changed.{opened_version, closed_version}
use Rattle.land_tables_history.specs.Open.{never}
use Rattle.land_tables_history.specs.declared.version.Version.{Version}
use Rattle.land_tables_rows.proofs.Bounds.{bound, end_reads, moment_reads, same_end, same_moment, same_ok, until_says}
use Rattle.land_tables_rows.proofs.Writes as write
use Rattle.land_tables_rows.specs.Reading.Cells.{end_in, moment_in}
use Rattle.land_tables_rows.specs.Writing.Holding.{Begins, ClosesVersions, Reading}
use Rattle.land_tables_schema.specs.Rows.Forms.{InsertsVersion, Form, UpdatesRows}
use Rattle.land_tables_schema.specs.Rows.ReadQueries.{columns_from}
use Rattle.land_tables_schema.specs.Rows.Versions as rows
use Rattle.land_wire_json.specs.Bodies.WireFaults.{◌>>=◌}
use Rattle.land_wire_json.specs.declared.bodies.wire_fault.WireFault.{WireFault}
use Rattle.sqlite.specs.Effect.{Database}
use Rattle.sqlite_schema.specs.declared.schema.Table.{Table}
use Rattle.sqlite_value.specs.Order.{Row}
use Rattle.sqlite_value.specs.declared.value.Value.TheVariants.{Int}

-- a record with its lifespan, decoded
abbrev pub lived : {X : Type 0} → X → (since until : ℤ) → Result (Version X) WireFault
lived it since until = moment_in (Int since) >>= λ s. end_in (Int until) >>= λ u. Ok (record { what = it; since = s; until = u })

-- How a record is laid out in cells: `what` is the value of the cells without the lifespan. Every row that
-- decodes was laid out from a record.
pub record IsReading {C X : Type 0} (table : Table) (count : ℕ) (cells : C → Row) (said : Row → Result (Version X) WireFault) (what : C → Result X WireFault) : Type 0 where
  pub reads : (c : C) (since until : ℤ) → said (cells c ++ Int since ∷ Int until ∷ []) ≡ (what c >>= λ it. lived it since until)
  pub found : (r : Row) (v : Version X) → said (columns_from 1 (suc (suc count)) r) ≡ Ok v → (p : rows.Version C) × (cells p.what ++ Int p.since ∷ Int p.until ∷ [] ≡ columns_from 1 (suc (suc count)) r)

module _ {C X : Type 0} (table : Table) (count : ℕ) (cells : C → Row) (said : Row → Result (Version X) WireFault) (what : C → Result X WireFault) (is : IsReading table count cells said what) where
  abbrev form : Form (rows.Version C)
  form = rows.versions_in table count cells

  abbrev reading : Reading X
  reading = record { table = table; width = suc (suc count); said = said }

  pub begun_said : (c : C) (x : X) (since : ℤ) → what c ≡ Ok x → IsMoment since → said (form.cells (rows.opened_version c since)) ≡ Ok (opened_version x since)
  begun_said c x since is_x moment = is.reads c since never ∙ rw (is_x, moment_reads since moment, end_reads) refl

  -- a version begins
  pub begins : (c : C) (x : X) (since : ℤ) → what c ≡ Ok x → IsMoment since → (old new : Database) → InsertsVersion form (rows.opened_version c since) old new → Begins reading x since old new
  begins c x since is_x moment = write.begins table count cells said is.found c x since (begun_said c x since is_x moment)

  module _ (meant : C → Bool) (meant_so : X → Bool) (agree : (c : C) (x : X) → what c ≡ Ok x → meant_so x ≡ meant c) (stamp : ℤ) (moment : IsMoment stamp) where
    closed_at : (p : rows.Version C) (x : X) (b : Bool) → what p.what ≡ Ok x → said (form.cells p) ≡ Ok (record { what = x; since = p.since; until = p.until }) → moment_in (Int p.since) ≡ Ok p.since
        → said (form.cells (if b then record p { until = stamp } else p)) ≡ Ok (if b then record { what = x; since = p.since; until = stamp } else record { what = x; since = p.since; until = p.until })
    closed_at p x true is_x fine began = is.reads p.what p.since stamp ∙ rw (is_x, began, until_says stamp moment) refl
    closed_at p x false is_x fine began = fine

    closed_so : (p : rows.Version C) (x : X) → what p.what ≡ Ok x → said (form.cells p) ≡ Ok (record { what = x; since = p.since; until = p.until }) → moment_in (Int p.since) ≡ Ok p.since
        → said (form.cells (rows.closed_version meant stamp p)) ≡ Ok (closed_version meant_so stamp (record { what = x; since = p.since; until = p.until }))
    closed_so p x is_x fine began =
        closed_at p x (meant p.what && int_eq p.until never) is_x fine began
        ∙ ap (λ m. Ok (if m && int_eq p.until never then record { what = x; since = p.since; until = stamp } else record { what = x; since = p.since; until = p.until })) (sym (agree p.what x is_x))

    closed_said : (p : rows.Version C) (v : Version X) → said (form.cells p) ≡ Ok v → said (form.cells (rows.closed_version meant stamp p)) ≡ Ok (closed_version meant_so stamp v)
    closed_said p v is_v =
        let whole = sym (is.reads p.what p.since p.until) ∙ is_v in
        let one = bound (what p.what) (λ it. lived it p.since p.until) v whole in
        let two = bound (moment_in (Int p.since)) (λ s. end_in (Int p.until) >>= λ u. Ok (record { what = one.0; since = s; until = u })) v one.2 in
        let three = bound (end_in (Int p.until)) (λ u. Ok (record { what = one.0; since = two.0; until = u })) v two.2 in
        let since = same_moment p.since two.0 two.1 in
        let until = same_end p.until three.0 three.1 in
        let is : record { what = one.0; since = p.since; until = p.until } ≡ v = ap₂ (λ s u. record { what = one.0; since = s; until = u }) since until ∙ same_ok three.2 in
        closed_so p one.0 one.1 (is_v ∙ ap (λ w. Ok w) (sym is)) (two.1 ∙ ap (λ s. Ok s) (sym since)) ∙ ap (λ w. Ok (closed_version meant_so stamp w)) is

    -- the matching versions end
    pub closes : (old new : Database) → UpdatesRows form (rows.closed_version meant stamp) old new → ClosesVersions reading meant_so stamp old new
    closes = write.closes table count cells said is.found meant meant_so stamp closed_said
