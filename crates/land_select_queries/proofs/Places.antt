-- The tables of joins, their versions, and the columns that terms read.
use Rattle.std.proofs.Common.{◌≡◌, ℕ, List, [], ◌∷◌, map, true, Result, Ok, refl, sym, ap, ◌∙◌}
use Rattle.std.proofs.lemmas.List.Sorted.{Contains-permutation, IsPermutation-sym}
use Rattle.land_core.specs.Numbers.{is_number}
use Rattle.land_core.specs.Words.{role_word, state_word}
use Rattle.land_core.specs.declared.mandates.Mandate.{Mandate}
use Rattle.land_core.specs.declared.mutation.MutationRecord.{MutationRecord}
use Rattle.land_core.specs.declared.parcel.ParcelRecord.{ParcelRecord}
use Rattle.land_core.specs.declared.party.PartyRecord.{PartyRecord}
use Rattle.land_core.specs.declared.roles.Grant.{Grant}
use Rattle.land_core.specs.declared.rrr.RrrRecord.{RrrRecord}
use Rattle.land_core.specs.declared.source.SourceRecord.{SourceRecord}
use Rattle.land_core.specs.declared.unit.UnitRecord.{UnitRecord}
use Rattle.land_select_queries.proofs.Shapes.{Fits}
use Rattle.land_select_queries.proofs.Words.{entry_cell, entry_word, in_range, role_cell, state_cell}
use Rattle.land_tables_history.specs.declared.group_member.GroupMember.{GroupMember}
use Rattle.land_tables_history.specs.declared.history.History.{History}
use Rattle.land_tables_history.specs.declared.moment.Moment.{Moment}
use Rattle.land_tables_history.specs.declared.naming.Naming.{Naming}
use Rattle.land_tables_history.specs.declared.version.Version.{Version}
use Rattle.land_tables_rows.proofs.CellReadings.{end_is, moment_is, number_is}
use Rattle.land_tables_rows.proofs.Stepping.{same_value, stepped}
use Rattle.land_tables_rows.specs.Mandate.Reading.{mandate_in}
use Rattle.land_tables_rows.specs.Mandate.Writing.{mandate_reading}
use Rattle.land_tables_rows.specs.Member.Reading.{member_in}
use Rattle.land_tables_rows.specs.Member.Writing.{member_reading}
use Rattle.land_tables_rows.specs.Mutation.Reading.{mutation_in}
use Rattle.land_tables_rows.specs.Mutation.Writing.{mutation_reading}
use Rattle.land_tables_rows.specs.Naming.Reading.{naming_in}
use Rattle.land_tables_rows.specs.Naming.Writing.{naming_reading}
use Rattle.land_tables_rows.specs.Parcel.Reading.{parcel_in}
use Rattle.land_tables_rows.specs.Parcel.Writing.{parcel_reading}
use Rattle.land_tables_rows.specs.Party.Reading.{party_in}
use Rattle.land_tables_rows.specs.Party.Writing.{party_reading}
use Rattle.land_tables_rows.specs.Reading.Cells.{end_in, moment_in, name_in, number_in, flag_in, label_in, text_in, title_in, reference_in, share_in}
use Rattle.land_tables_rows.specs.Reading.Words.{class_word_in, party_kind_in, role_in, source_kind_in, state_in}
use Rattle.land_tables_rows.specs.Role.Reading.{role_grant_in}
use Rattle.land_tables_rows.specs.Role.Writing.{role_reading}
use Rattle.land_tables_rows.specs.Rrr.Reading.{class_by, rrr_in}
use Rattle.land_tables_rows.specs.Rrr.Writing.{rrr_reading}
use Rattle.land_tables_rows.specs.Source.Reading.{source_in}
use Rattle.land_tables_rows.specs.Source.Writing.{source_reading}
use Rattle.land_tables_rows.specs.Unit.Reading.{unit_in}
use Rattle.land_tables_rows.specs.Unit.Writing.{unit_reading}
use Rattle.land_tables_rows.specs.Writing.History.{HoldsHistory}
use Rattle.land_tables_rows.specs.Writing.Holding.{Keeps, Reading}
use Rattle.land_tables_schema.specs.Rows.ReadQueries.{columns_from}
use Rattle.land_tables_schema.specs.Rows.Versions.{whole}
use Rattle.land_wire_json.specs.Bodies.Mutations.{content_in}
use Rattle.land_wire_json.specs.Bodies.Outlines.{outline_of}
use Rattle.land_wire_json.specs.declared.bodies.wire_fault.WireFault.{WireFault}
use Rattle.sqlite.specs.Program.{overlay}
use Rattle.sqlite_rules.proofs.ListLemmas.{has_contained, contains_had}
use Rattle.sqlite_rules.proofs.ProbeLemmas.{has_mapped, mapped_has}
use Rattle.sqlite_rules.specs.Lists.{Has}
use Rattle.sqlite_trees.specs.Tree.{Trees}
use Rattle.sqlite_value.specs.Order.{Row, column}
use Rattle.sqlite_value.specs.declared.value.Value.TheVariants.{Null, Int, Text}

pub data Place : Type 0 where
  parties : Place
  roles : Place
  members : Place
  units : Place
  parcels : Place
  rrrs : Place
  sources : Place
  mutations : Place
  names : Place
  mandates : Place

-- the record type of a table
abbrev pub What : Place → Type 0
What parties = ℕ × PartyRecord
What roles = Grant
What members = GroupMember
What units = ℕ × UnitRecord
What parcels = ℕ × ParcelRecord
What rrrs = ℕ × RrrRecord
What sources = ℕ × SourceRecord
What mutations = ℕ × MutationRecord
What names = Naming
What mandates = Mandate

-- the decoder of its rows
abbrev pub row_decoder : (p : Place) → Reading (What p)
row_decoder parties = party_reading
row_decoder roles = role_reading
row_decoder members = member_reading
row_decoder units = unit_reading
row_decoder parcels = parcel_reading
row_decoder rrrs = rrr_reading
row_decoder sources = source_reading
row_decoder mutations = mutation_reading
row_decoder names = naming_reading
row_decoder mandates = mandate_reading

abbrev pub tree : Place → ℕ
tree p = (row_decoder p).table.tree

abbrev pub versions : (p : Place) → History → List (Version (What p))
versions parties h = h.parties
versions roles h = h.roles
versions members h = h.members
versions units h = h.units
versions parcels h = h.parcels
versions rrrs h = h.rrrs
versions sources h = h.sources
versions mutations h = h.mutations
versions names h = h.namings
versions mandates h = h.mandates

pub keeps : (db : Trees) (moments : List Moment) (h : History) → HoldsHistory db moments h → (p : Place) → Keeps (row_decoder p) db (versions p h)
keeps db moments h held parties = held.the_parties
keeps db moments h held roles = held.the_roles
keeps db moments h held members = held.the_members
keeps db moments h held units = held.the_units
keeps db moments h held parcels = held.the_parcels
keeps db moments h held rrrs = held.the_rrrs
keeps db moments h held sources = held.the_sources
keeps db moments h held mutations = held.the_mutations
keeps db moments h held names = held.the_namings
keeps db moments h held mandates = held.the_mandates

-- a statement reads the rows of the tables
pub as_stored : (db : Trees) (p : Place) → overlay db [] (tree p) ≡ db (tree p)
as_stored db parties = refl
as_stored db roles = refl
as_stored db members = refl
as_stored db units = refl
as_stored db parcels = refl
as_stored db rrrs = refl
as_stored db sources = refl
as_stored db mutations = refl
as_stored db names = refl
as_stored db mandates = refl

-- the columns that joins read, of a row of a version
abbrev pub shape : (p : Place) → Version (What p) → Row
shape parties v = Null ∷ whole v.what.0 ∷ Null ∷ Null ∷ Int v.since ∷ Int v.until ∷ []
shape roles v = Null ∷ whole v.what.party ∷ Text (role_word v.what.role) ∷ Int v.since ∷ Int v.until ∷ []
shape members v = Null ∷ whole v.what.group ∷ whole v.what.member.party ∷ Null ∷ Null ∷ Int v.since ∷ Int v.until ∷ []
shape units v = Null ∷ whole v.what.0 ∷ Null ∷ Null ∷ Int v.since ∷ Int v.until ∷ []
shape parcels v = Null ∷ whole v.what.0 ∷ whole v.what.1.unit ∷ Null ∷ Null ∷ Null ∷ Int v.since ∷ Int v.until ∷ []
shape rrrs v =
    Null ∷ whole v.what.0 ∷ whole v.what.1.unit ∷ whole v.what.1.party ∷ Text (entry_word v.what.1.class) ∷ Null ∷ Null ∷ Null ∷ Null
    ∷ Null ∷ Null ∷ Null ∷ Int v.since ∷ Int v.until ∷ []
shape sources v = Null ∷ whole v.what.0 ∷ Null ∷ Null ∷ Int v.since ∷ Int v.until ∷ []
shape mutations v =
    Null ∷ whole v.what.0 ∷ whole v.what.1.lodger ∷ Null ∷ Null ∷ Null ∷ Null ∷ Null ∷ Text (state_word v.what.1.state) ∷ Int v.since
    ∷ Int v.until ∷ []
shape names v = Null ∷ whole v.what.mutation ∷ whole v.what.unit ∷ Int v.since ∷ Int v.until ∷ []
shape mandates v = Null ∷ whole v.what.principal ∷ whole v.what.agent ∷ Int v.since ∷ Int v.until ∷ []

-- a number is in range
abbrev pub IsNumber : ℕ → Type 0
IsNumber n = is_number n ≡ true

-- numbers that are compared with a parameter are within their limits
abbrev pub IsWithin : (p : Place) → Version (What p) → Type 0
IsWithin parties v = IsNumber v.what.0
IsWithin roles v = IsNumber v.what.party
IsWithin members v = IsNumber v.what.member.party × IsNumber v.what.group
IsWithin units v = IsNumber v.what.0
IsWithin parcels v = IsNumber v.what.0 × IsNumber v.what.1.unit
IsWithin rrrs v = IsNumber v.what.1.party × IsNumber v.what.0 × IsNumber v.what.1.unit
IsWithin sources v = IsNumber v.what.0
IsWithin mutations v = IsNumber v.what.1.lodger × IsNumber v.what.0
IsWithin names v = IsNumber v.what.mutation × IsNumber v.what.unit
IsWithin mandates v = IsNumber v.what.principal × IsNumber v.what.agent

-- facts of a row of a version
abbrev pub IsOf : (p : Place) → Version (What p) → Row → Type 0
IsOf p v r = Fits (shape p v) 0 r × IsWithin p v

abbrev pub Shows : Place → Type 0
Shows p = (r : Row) (v : Version (What p)) → (row_decoder p).said (columns_from 1 (row_decoder p).width r) ≡ Ok v → IsOf p v r

a_party : Shows parties
unfolding party_in
a_party r v e =
    let a = stepped (number_in (column r 1)) _ v e in
    let b = stepped (name_in (column r 2)) _ v a.rest in
    let c = stepped (party_kind_in (column r 3)) _ v b.rest in
    let d = stepped (moment_in (column r 4)) _ v c.rest in
    let f = stepped (end_in (column r 5)) _ v d.rest in
    let all = same_value _ v f.rest in
    let number = a.is ∙ ap (λ (w : Version (ℕ × PartyRecord)). Ok w.what.0) all in
    let since = d.is ∙ ap (λ (w : Version (ℕ × PartyRecord)). Ok w.since) all in
    let until = f.is ∙ ap (λ (w : Version (ℕ × PartyRecord)). Ok w.until) all in
    ((tt, (number_is (column r 1) v.what.0 number, (tt, (tt, (moment_is (column r 4) v.since since, (end_is (column r 5) v.until until, tt)))))), in_range (column r 1) v.what.0 number)

a_member : Shows members
unfolding member_in
a_member r v e =
    let a = stepped (number_in (column r 1)) _ v e in
    let b = stepped (number_in (column r 2)) _ v a.rest in
    let c = stepped (share_in (column r 3) (column r 4)) _ v b.rest in
    let d = stepped (moment_in (column r 5)) _ v c.rest in
    let f = stepped (end_in (column r 6)) _ v d.rest in
    let all = same_value _ v f.rest in
    let group = a.is ∙ ap (λ (w : Version GroupMember). Ok w.what.group) all in
    let party = b.is ∙ ap (λ (w : Version GroupMember). Ok w.what.member.party) all in
    let since = d.is ∙ ap (λ (w : Version GroupMember). Ok w.since) all in
    let until = f.is ∙ ap (λ (w : Version GroupMember). Ok w.until) all in (
      (tt, (number_is (column r 1) v.what.group group, (number_is (column r 2) v.what.member.party party, (tt, (tt, (moment_is (column r 5) v.since since, (end_is (column r 6) v.until until, tt))))))),
      (in_range (column r 2) v.what.member.party party, in_range (column r 1) v.what.group group),
    )

a_grant : Shows roles
unfolding role_grant_in
a_grant r v e =
    let a = stepped (number_in (column r 1)) _ v e in
    let b = stepped (role_in (column r 2)) _ v a.rest in
    let d = stepped (moment_in (column r 3)) _ v b.rest in
    let f = stepped (end_in (column r 4)) _ v d.rest in
    let all = same_value _ v f.rest in
    let party = a.is ∙ ap (λ (w : Version Grant). Ok w.what.party) all in
    let role = b.is ∙ ap (λ (w : Version Grant). Ok w.what.role) all in
    let since = d.is ∙ ap (λ (w : Version Grant). Ok w.since) all in
    let until = f.is ∙ ap (λ (w : Version Grant). Ok w.until) all in
    ((tt, (number_is (column r 1) v.what.party party, (role_cell (column r 2) v.what.role role, (moment_is (column r 3) v.since since, (end_is (column r 4) v.until until, tt))))), in_range (column r 1) v.what.party party)

a_unit : Shows units
unfolding unit_in
a_unit r v e =
    let a = stepped (number_in (column r 1)) _ v e in
    let b = stepped (name_in (column r 2)) _ v a.rest in
    let c = stepped (flag_in (column r 3)) _ v b.rest in
    let d = stepped (moment_in (column r 4)) _ v c.rest in
    let f = stepped (end_in (column r 5)) _ v d.rest in
    let all = same_value _ v f.rest in
    let number = a.is ∙ ap (λ (w : Version (ℕ × UnitRecord)). Ok w.what.0) all in
    let since = d.is ∙ ap (λ (w : Version (ℕ × UnitRecord)). Ok w.since) all in
    let until = f.is ∙ ap (λ (w : Version (ℕ × UnitRecord)). Ok w.until) all in
    ((tt, (number_is (column r 1) v.what.0 number, (tt, (tt, (moment_is (column r 4) v.since since, (end_is (column r 5) v.until until, tt)))))), in_range (column r 1) v.what.0 number)

a_parcel : Shows parcels
unfolding parcel_in
a_parcel r v e =
    let a = stepped (number_in (column r 1)) _ v e in
    let b = stepped (number_in (column r 2)) _ v a.rest in
    let c = stepped (label_in (column r 3)) _ v b.rest in
    let t = stepped (text_in (column r 4)) _ v c.rest in
    let o = stepped (outline_of t.given) _ v t.rest in
    let s = stepped (number_in (column r 5)) _ v o.rest in
    let d = stepped (moment_in (column r 6)) _ v s.rest in
    let f = stepped (end_in (column r 7)) _ v d.rest in
    let all = same_value _ v f.rest in
    let number = a.is ∙ ap (λ (w : Version (ℕ × ParcelRecord)). Ok w.what.0) all in
    let unit = b.is ∙ ap (λ (w : Version (ℕ × ParcelRecord)). Ok w.what.1.unit) all in
    let since = d.is ∙ ap (λ (w : Version (ℕ × ParcelRecord)). Ok w.since) all in
    let until = f.is ∙ ap (λ (w : Version (ℕ × ParcelRecord)). Ok w.until) all in
    ((tt, (number_is (column r 1) v.what.0 number, (number_is (column r 2) v.what.1.unit unit, (tt, (tt, (tt, (moment_is (column r 6) v.since since, (end_is (column r 7) v.until until, tt)))))))), (in_range (column r 1) v.what.0 number, in_range (column r 2) v.what.1.unit unit))

an_entry : Shows rrrs
unfolding rrr_in
an_entry r v e =
    let a = stepped (number_in (column r 1)) _ v e in
    let b = stepped (number_in (column r 2)) _ v a.rest in
    let c = stepped (number_in (column r 3)) _ v b.rest in
    let w = stepped (class_word_in (column r 4)) _ v c.rest in
    let k = stepped (class_by w.given (columns_from 1 13 r)) _ v w.rest in
    let s = stepped (number_in (column r 11)) _ v k.rest in
    let d = stepped (moment_in (column r 12)) _ v s.rest in
    let f = stepped (end_in (column r 13)) _ v d.rest in
    let all = same_value _ v f.rest in
    let number = a.is ∙ ap (λ (w : Version (ℕ × RrrRecord)). Ok w.what.0) all in
    let unit = b.is ∙ ap (λ (w : Version (ℕ × RrrRecord)). Ok w.what.1.unit) all in
    let party = c.is ∙ ap (λ (w : Version (ℕ × RrrRecord)). Ok w.what.1.party) all in
    let said = k.is ∙ ap (λ (w : Version (ℕ × RrrRecord)). Ok w.what.1.class) all in
    let since = d.is ∙ ap (λ (w : Version (ℕ × RrrRecord)). Ok w.since) all in
    let until = f.is ∙ ap (λ (w : Version (ℕ × RrrRecord)). Ok w.until) all in (
      (
        tt,
        (
          number_is (column r 1) v.what.0 number,
          (
            number_is (column r 2) v.what.1.unit unit,
            (
              number_is (column r 3) v.what.1.party party,
              (
                entry_cell (column r 4) w.given (columns_from 1 13 r) v.what.1.class w.is said,
                (tt, (tt, (tt, (tt, (tt, (tt, (tt, (moment_is (column r 12) v.since since, (end_is (column r 13) v.until until, tt))))))))),
              ),
            ),
          ),
        ),
      ),
      (in_range (column r 3) v.what.1.party party, in_range (column r 1) v.what.0 number, in_range (column r 2) v.what.1.unit unit),
    )

a_source : Shows sources
unfolding source_in
a_source r v e =
    let a = stepped (number_in (column r 1)) _ v e in
    let b = stepped (source_kind_in (column r 2)) _ v a.rest in
    let c = stepped (title_in (column r 3)) _ v b.rest in
    let d = stepped (moment_in (column r 4)) _ v c.rest in
    let f = stepped (end_in (column r 5)) _ v d.rest in
    let all = same_value _ v f.rest in
    let number = a.is ∙ ap (λ (w : Version (ℕ × SourceRecord)). Ok w.what.0) all in
    let since = d.is ∙ ap (λ (w : Version (ℕ × SourceRecord)). Ok w.since) all in
    let until = f.is ∙ ap (λ (w : Version (ℕ × SourceRecord)). Ok w.until) all in
    ((tt, (number_is (column r 1) v.what.0 number, (tt, (tt, (moment_is (column r 4) v.since since, (end_is (column r 5) v.until until, tt)))))), in_range (column r 1) v.what.0 number)

a_mutation : Shows mutations
unfolding mutation_in
a_mutation r v e =
    let a = stepped (number_in (column r 1)) _ v e in
    let b = stepped (number_in (column r 2)) _ v a.rest in
    let c = stepped (reference_in (column r 3)) _ v b.rest in
    let s = stepped (number_in (column r 4)) _ v c.rest in
    let l = stepped (moment_in (column r 5)) _ v s.rest in
    let w = stepped (text_in (column r 6)) _ v l.rest in
    let t = stepped (text_in (column r 7)) _ v w.rest in
    let k = stepped (content_in w.given t.given) _ v t.rest in
    let m = stepped (state_in (column r 8)) _ v k.rest in
    let d = stepped (moment_in (column r 9)) _ v m.rest in
    let f = stepped (end_in (column r 10)) _ v d.rest in
    let all = same_value _ v f.rest in
    let number = a.is ∙ ap (λ (w : Version (ℕ × MutationRecord)). Ok w.what.0) all in
    let lodger = b.is ∙ ap (λ (w : Version (ℕ × MutationRecord)). Ok w.what.1.lodger) all in
    let state = m.is ∙ ap (λ (w : Version (ℕ × MutationRecord)). Ok w.what.1.state) all in
    let since = d.is ∙ ap (λ (w : Version (ℕ × MutationRecord)). Ok w.since) all in
    let until = f.is ∙ ap (λ (w : Version (ℕ × MutationRecord)). Ok w.until) all in (
      (
        tt,
        (
          number_is (column r 1) v.what.0 number,
          (
            number_is (column r 2) v.what.1.lodger lodger,
            (
              tt,
              (
                tt,
                (
                  tt,
                  (
                    tt,
                    (
                      tt,
                      (state_cell (column r 8) v.what.1.state state, (moment_is (column r 9) v.since since, (end_is (column r 10) v.until until, tt))),
                    ),
                  ),
                ),
              ),
            ),
          ),
        ),
      ),
      (in_range (column r 2) v.what.1.lodger lodger, in_range (column r 1) v.what.0 number),
    )

a_naming : Shows names
unfolding naming_in
a_naming r v e =
    let a = stepped (number_in (column r 1)) _ v e in
    let b = stepped (number_in (column r 2)) _ v a.rest in
    let d = stepped (moment_in (column r 3)) _ v b.rest in
    let f = stepped (end_in (column r 4)) _ v d.rest in
    let all = same_value _ v f.rest in
    let mutation = a.is ∙ ap (λ (w : Version Naming). Ok w.what.mutation) all in
    let unit = b.is ∙ ap (λ (w : Version Naming). Ok w.what.unit) all in
    let since = d.is ∙ ap (λ (w : Version Naming). Ok w.since) all in
    let until = f.is ∙ ap (λ (w : Version Naming). Ok w.until) all in
    ((tt, (number_is (column r 1) v.what.mutation mutation, (number_is (column r 2) v.what.unit unit, (moment_is (column r 3) v.since since, (end_is (column r 4) v.until until, tt))))), (in_range (column r 1) v.what.mutation mutation, in_range (column r 2) v.what.unit unit))

a_mandate : Shows mandates
unfolding mandate_in
a_mandate r v e =
    let a = stepped (number_in (column r 1)) _ v e in
    let b = stepped (number_in (column r 2)) _ v a.rest in
    let d = stepped (moment_in (column r 3)) _ v b.rest in
    let f = stepped (end_in (column r 4)) _ v d.rest in
    let all = same_value _ v f.rest in
    let principal = a.is ∙ ap (λ (w : Version Mandate). Ok w.what.principal) all in
    let agent = b.is ∙ ap (λ (w : Version Mandate). Ok w.what.agent) all in
    let since = d.is ∙ ap (λ (w : Version Mandate). Ok w.since) all in
    let until = f.is ∙ ap (λ (w : Version Mandate). Ok w.until) all in
    ((tt, (number_is (column r 1) v.what.principal principal, (number_is (column r 2) v.what.agent agent, (moment_is (column r 3) v.since since, (end_is (column r 4) v.until until, tt))))), (in_range (column r 1) v.what.principal principal, in_range (column r 2) v.what.agent agent))

pub shows : (p : Place) → Shows p
shows parties = a_party
shows roles = a_grant
shows members = a_member
shows units = a_unit
shows parcels = a_parcel
shows rrrs = an_entry
shows sources = a_source
shows mutations = a_mutation
shows names = a_naming
shows mandates = a_mandate

-- ---- rows and versions

module _ {X : Type 0} (reading : Reading X) (db : Trees) (vs : List (Version X)) (keeps : Keeps reading db vs) where
  abbrev saying : Row → Result (Version X) WireFault
  saying r = reading.said (columns_from 1 reading.width r)

  abbrev fine : Version X → Result (Version X) WireFault
  fine v = Ok v

  said_by : (r : Row) → Has (db reading.table.tree) r → (v : Version X) × Has vs v × (saying r ≡ fine v)
  said_by r h =
      let rows = db reading.table.tree in
      has_mapped fine vs (saying r) (has_contained (map fine vs) (saying r)
      (Contains-permutation (map saying rows) (map fine vs) (saying r) keeps.said (contains_had (map saying rows) (saying r) (mapped_has saying rows r h))))

  says_it : (v : Version X) → Has vs v → (r : Row) × Has (db reading.table.tree) r × (saying r ≡ fine v)
  says_it v h =
      let rows = db reading.table.tree in
      let it = has_mapped saying rows (fine v) (has_contained (map saying rows) (fine v)
      (Contains-permutation (map fine vs) (map saying rows) (fine v) (IsPermutation-sym (map saying rows) (map fine vs) keeps.said) (contains_had (map fine vs) (fine v) (mapped_has fine vs v h)))) in
      (it.0, it.1, sym it.2)

module _ (db : Trees) (moments : List Moment) (h : History) (held : HoldsHistory db moments h) where
  -- each row decodes to a version
  pub version_of : (p : Place) (r : Row) → Has (db (tree p)) r → (v : Version (What p)) × Has (versions p h) v × IsOf p v r
  version_of p r has =
      let it = said_by (row_decoder p) db (versions p h) (keeps db moments h held p) r has in
      (it.0, it.1, shows p r it.0 it.2)

  pub read_of : (p : Place) (r : Row) → Has (db (tree p)) r → (v : Version (What p)) × Has (versions p h) v × ((row_decoder p).said (columns_from 1 (row_decoder p).width r) ≡ Ok v)
  read_of p r has = said_by (row_decoder p) db (versions p h) (keeps db moments h held p) r has

  -- and each version has a row
  pub read_back : (p : Place) (v : Version (What p)) → Has (versions p h) v → (r : Row) × Has (db (tree p)) r × ((row_decoder p).said (columns_from 1 (row_decoder p).width r) ≡ Ok v)
  read_back p v has = says_it (row_decoder p) db (versions p h) (keeps db moments h held p) v has

  pub row_of : (p : Place) (v : Version (What p)) → Has (versions p h) v → (r : Row) × Has (db (tree p)) r × IsOf p v r
  row_of p v has =
      let it = says_it (row_decoder p) db (versions p h) (keeps db moments h held p) v has in
      (it.0, it.1, shows p it.0 v it.2)
