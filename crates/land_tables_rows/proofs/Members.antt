-- A decoded member is the one that was written.
use Rattle.std.proofs.Common.{◌≡◌, ℕ, ℤ, [], ◌∷◌, ◌++◌, true, nat_eq, Ok, Result, refl, sym, ap, ◌∙◌}
use Rattle.std.proofs.lemmas.Bool.{and_parts}
use Rattle.land_core.specs.Numbers.{is_number}
use Rattle.land_fraction.specs.Ratio.{IsFraction}
use Rattle.land_tables_history.specs.declared.group_member.GroupMember.{GroupMember}
use Rattle.land_tables_history.specs.declared.version.Version.{Version}
use Rattle.land_tables_rows.proofs.Bounds.{bound, same_ok, three}
use Rattle.land_tables_rows.proofs.Lives.{IsReading, lived}
use Rattle.land_tables_rows.proofs.WrittenCells.{cons, end_cell, moment_cell, number_cell, number_reads, same_number, same_test, share_cells, share_reads}
use Rattle.land_tables_rows.specs.Member.Reading.{member_in}
use Rattle.land_tables_rows.specs.Member.Writing.{fits_member}
use Rattle.land_tables_rows.specs.Reading.Cells.{end_in, moment_in, number_in, share_in}
use Rattle.land_tables_schema.specs.Rows.Member.{MemberRow, is_row_of_group, member_cells}
use Rattle.land_tables_schema.specs.Rows.Versions as rows
use Rattle.land_tables_schema.specs.Rows.Versions.{flag, whole}
use Rattle.land_tables_schema.specs.Tables as table
use Rattle.land_wire_json.specs.Bodies.WireFaults.{◌>>=◌}
use Rattle.land_wire_json.specs.declared.bodies.wire_fault.WireFault.{WireFault}
use Rattle.sqlite_value.specs.Order.{column}
use Rattle.sqlite_value.specs.declared.value.Value.{Value}
use Rattle.sqlite_value.specs.declared.value.Value.TheVariants.{Int}

-- the values of a member's cells
abbrev pub what : MemberRow → Result GroupMember WireFault
what m =
    number_in (whole m.grp) >>= λ group. number_in (whole m.party) >>= λ party. share_in (whole m.num) (whole m.den)
    >>= λ share. Ok (record { group = group; member = record { party = party; share = share } })

reads : (m : MemberRow) (since until : ℤ) → member_in (member_cells m ++ Int since ∷ Int until ∷ []) ≡ (what m >>= λ it. lived it since until)
unfolding member_in
reads m since until =
    three (number_in (whole m.grp)) (number_in (whole m.party)) (share_in (whole m.num) (whole m.den)) (λ group party share. record { group = group; member = record { party = party; share = share } }) (λ it. lived it since until)

cells_are : (a b c d e f : Value) (v : Version GroupMember) → member_in (a ∷ b ∷ c ∷ d ∷ e ∷ f ∷ []) ≡ Ok v → (p : rows.Version MemberRow) × (member_cells p.what ++ Int p.since ∷ Int p.until ∷ [] ≡ a ∷ b ∷ c ∷ d ∷ e ∷ f ∷ [])
unfolding member_in
cells_are a b c d e f v h =
    let one = bound (number_in a) _ v h in
    let two = bound (number_in b) _ v one.2 in
    let three = bound (share_in c d) _ v two.2 in
    let four = bound (moment_in e) _ v three.2 in
    let five = bound (end_in f) _ v four.2 in
    let share = share_cells c d three.0 three.1 in (
      record { what = record { grp = one.0; party = two.0; num = share.0.0; den = share.0.1 }; since = four.0; until = five.0 },
      cons (sym (number_cell a one.0 one.1)) (cons (sym (number_cell b two.0 two.1)) (cons share.1 (cons share.2 (cons (sym (moment_cell e four.0 four.1)) (cons (sym (end_cell f five.0 five.1)) refl))))),
    )

pub is_reading : IsReading table.member 4 member_cells member_in what
is_reading = record { reads = reads; found = λ r v h. cells_are (column r 1) (column r 2) (column r 3) (column r 4) (column r 5) (column r 6) v h }

-- how a member is laid out in cells
abbrev pub row_of : GroupMember → MemberRow
row_of e = record { grp = e.group; party = e.member.party; num = e.member.share.numerator; den = e.member.share.denominator }

-- a member within its limits decodes to itself
pub what_is : (e : GroupMember) → fits_member e ≡ true → IsFraction e.member.share → what (row_of e) ≡ Ok e
what_is e fits share =
    let parts = and_parts (is_number e.group) (is_number e.member.party) fits in
    rw (number_reads e.group parts.0, number_reads e.member.party parts.1, share_reads e.member.share share) refl

-- the number of a group decodes to itself
pub agree : (n : ℕ) (c : MemberRow) (x : GroupMember) → what c ≡ Ok x → nat_eq x.group n ≡ is_row_of_group n c
agree n c x h =
    let one = bound (number_in (whole c.grp)) _ x h in
    let two = bound (number_in (whole c.party)) _ x one.2 in
    let three = bound (share_in (whole c.num) (whole c.den)) _ x two.2 in
    same_test c.grp x.group n (same_number c.grp one.0 one.1 ∙ ap (λ (e : GroupMember). e.group) (same_ok three.2))
