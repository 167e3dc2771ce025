use Rattle.std.proofs.Common.{rules, ◌≡◌, ◌∙◌, ap, sym, int_le, ℤ, pos, to_z, of_z, w64, List, Option}
use Rattle.std.specs.Option.{option_map_or}
use Rattle.land_digest.specs.Stamps.{last_stamp_at}
use Rattle.land_tables_history.specs.Moments.{latest}
use Rattle.land_tables_history.specs.declared.moment.Moment.{Moment}
use Rattle.land_digest.proofs.digest.last_stamp_at.Goals as goal

-- the stamp of the moment found, or 0 without one
abbrev stamp_of : Option Moment → ℤ
stamp_of found = option_map_or (λ m. m.stamp) found (pos 0)

shown : (o : Option Moment) (t s : ℤ) (moments : List Moment) → t ≡ s → o ≡ latest (λ m. int_le m.stamp t) moments → stamp_of o ≡ last_stamp_at moments s
shown o t s moments same found = ap stamp_of (found ∙ ap (λ (t : ℤ). latest (λ m. int_le m.stamp t) moments) same)

pub returns-in-Some : goal.returns-in-Some
returns-in-Some c =
    let same : to_z w64 (of_z w64 c.args.at) ≡ c.args.at = search rules in
    let found : to_z w64 (of_z w64 c.in-Some.moment.stamp) ≡ c.in-Some.moment.stamp = search rules in
    found ∙ ap stamp_of (sym c.in-Some.is) ∙ shown c.latest_at.result (to_z w64 (of_z w64 c.args.at)) c.args.at c.args.moments.now same c.latest_at.ensures

pub returns-in-None : goal.returns-in-None
returns-in-None c =
    let same : to_z w64 (of_z w64 c.args.at) ≡ c.args.at = search rules in
    ap stamp_of (sym c.in-None.is) ∙ shown c.latest_at.result (to_z w64 (of_z w64 c.args.at)) c.args.at c.args.moments.now same c.latest_at.ensures
