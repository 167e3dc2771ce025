use Rattle.std.proofs.Common.{rules, ◌≡◌, false, int_lt, to_z, of_z, w64, subst, sym}
use Rattle.land_core.specs.Numbers.{last_moment}
use Rattle.land_core.specs.declared.kind.Kind.{Kind}
use Rattle.land_select_queries.proofs.Unended.{all_parcels, all_units}
use Rattle.land_select_queries.specs.Joins.Execution.{SelectsAll}
use Rattle.land_select_queries.specs.declared.sights.selection.Selection.TheVariants.{UnendedParcels, UnendedUnits}
use Rattle.land_select_queries.proofs.joins.running.selection_of_all.Goals as goal

pub returns-in-Unit : goal.returns-in-Unit
returns-in-Unit c =
    let when : to_z w64 (of_z w64 c.args.at) ≡ c.args.at = search rules in
    let late : int_lt c.args.at last_moment ≡ false = rw when at c.if-at-lt-LAST_MOMENT.false in
    λ db. subst (λ (k : Kind). SelectsAll UnendedUnits k c.args.at db) (sym c.in-Unit.is) (all_units c.args.at late db)

pub returns-in-Parcel : goal.returns-in-Parcel
returns-in-Parcel c =
    let when : to_z w64 (of_z w64 c.args.at) ≡ c.args.at = search rules in
    let late : int_lt c.args.at last_moment ≡ false = rw when at c.if-at-lt-LAST_MOMENT.false in
    λ db. subst (λ (k : Kind). SelectsAll UnendedParcels k c.args.at db) (sym c.in-Parcel.is) (all_parcels c.args.at late db)
