-- The rows of `member`.
use Rattle.std.specs.Prelude.{ℕ, Bool, ◌==◌, [], ◌∷◌}
use Rattle.land_tables_schema.specs.Rows.Forms.{Form}
use Rattle.land_tables_schema.specs.Rows.Versions.{Version, versions_in, whole}
use Rattle.land_tables_schema.specs.Tables.{member}
use Rattle.sqlite_value.specs.Order.{Row}

-- a member of a group: the number of the group, the number of the party, and the share as numerator and
-- denominator
pub record MemberRow : Type 0 where
  pub grp : ℕ
  pub party : ℕ
  pub num : ℕ
  pub den : ℕ

abbrev pub member_cells : MemberRow → Row
member_cells r = whole r.grp ∷ whole r.party ∷ whole r.num ∷ whole r.den ∷ []

abbrev pub member_form : Form (Version MemberRow)
member_form = versions_in member 4 member_cells

-- whether it is a member of this group
abbrev pub is_row_of_group : ℕ → MemberRow → Bool
is_row_of_group grp r = r.grp == grp
