use Rattle.std.proofs.Common.{rules, ◌≡◌, ◌∙◌, ap, sym, int_le, ℕ, ℤ, to_z, of_z, w64, List, Option}
use Rattle.std.specs.Option.{option_map_or}
use Rattle.land_tables_history.specs.Moments.{latest, next_number_at}
use Rattle.land_tables_history.specs.declared.moment.Moment.{Moment}
use Rattle.land_tables_history.proofs.moments.next_at.Goals as goal

-- the next number of the commit found, or 2 without one
abbrev next_of : Option Moment → ℕ
next_of found = option_map_or (λ m. m.next) found 2

shown : (o : Option Moment) (t s : ℤ) (moments : List Moment) → t ≡ s → o ≡ latest (λ m. int_le m.stamp t) moments → next_of o ≡ next_number_at moments s
shown o t s moments same found = ap next_of (found ∙ ap (λ (t : ℤ). latest (λ m. int_le m.stamp t) moments) same)

pub returns-in-Some : goal.returns-in-Some
returns-in-Some c =
    let same : to_z w64 (of_z w64 c.args.at) ≡ c.args.at = search rules in
    ap next_of (sym c.in-Some.is) ∙ shown c.latest_at.result (to_z w64 (of_z w64 c.args.at)) c.args.at c.args.moments.now same c.latest_at.ensures

pub returns-in-None : goal.returns-in-None
returns-in-None c =
    let same : to_z w64 (of_z w64 c.args.at) ≡ c.args.at = search rules in
    ap next_of (sym c.in-None.is) ∙ shown c.latest_at.result (to_z w64 (of_z w64 c.args.at)) c.args.at c.args.moments.now same c.latest_at.ensures
