use Rattle.std.proofs.Common.{inl, inr, IsTrue, refl, sym, subst, arith}
use Rattle.land_tables_schema.proofs.Intervals.{whole, meant_by, one_left, one_right, untrue}
use Rattle.land_tables_schema.proofs.terms.is_interval.Goals as goal

pub returns-then-roots-ne1 : goal.returns-then-roots-ne1
returns-then-roots-ne1 c = (
  λ bad. absurd (untrue bad),
  λ is. let w = whole c.args.nodes.now c.args.roots.now c.args.since c.args.until is in
      elim c.then-roots-ne1.either [ inl few ↦ absurd (few w.one) | inr short ↦ absurd (omega (arith, w.two, short)) ],
)

pub returns-then-is_place : goal.returns-then-is_place
returns-then-is_place c =
    let top = c.in-Some.ensures.some in (
      λ yes. meant_by c.args.nodes.now c.args.roots.now c.args.since c.args.until
          (record {
            one = c.if-roots-ne1.false;
            two = c.if-nodes-lt2.false;
            interval =
                record { left = c.in-Some.a; right = c.in-Some.b; top = top; first = c.is_place.ensures.0 (subst IsTrue (sym c.if-is_place.true) refl); second = c.is_place-then-is_place.ensures.0 yes };
          }),
      λ is. let w = whole c.args.nodes.now c.args.roots.now c.args.since c.args.until is in
          c.is_place-then-is_place.ensures.1 (one_right c.args.nodes.now _ c.args.since c.args.until c.in-Some.a c.in-Some.b w.interval top),
    )

pub returns-else-is_place : goal.returns-else-is_place
returns-else-is_place c =
    let top = c.in-Some.ensures.some in (
      λ yes. absurd (untrue (subst IsTrue c.if-is_place.false yes)),
      λ is. let w = whole c.args.nodes.now c.args.roots.now c.args.since c.args.until is in
          c.is_place.ensures.1 (one_left c.args.nodes.now _ c.args.since c.args.until c.in-Some.a c.in-Some.b w.interval top),
    )

pub returns-in-None : goal.returns-in-None
returns-in-None c = (
  λ bad. absurd (untrue bad),
  λ is. let w = whole c.args.nodes.now c.args.roots.now c.args.since c.args.until is in
      absurd (c.in-None.ensures.none refl w.interval.left w.interval.right w.interval.top),
)
