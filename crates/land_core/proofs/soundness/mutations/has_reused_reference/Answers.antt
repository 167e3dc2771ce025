use Rattle.std.proofs.Common.{◌≡◌, ◌∷◌, false, sym, ap, ◌∙◌, refl}
use Rattle.std.specs.BTreeSet.{contains}
use Rattle.std.specs.FinMap as map
use Rattle.std.proofs.lemmas.Bool.{not-true}
use Rattle.land_core.proofs.References.{IsLodging, Lodging, is_reused_in, lodging_cmp, reused_begins, reused_later}
use Rattle.land_core.specs.Soundness.{has_reused_reference}
use Rattle.land_core.proofs.soundness.mutations.has_reused_reference.Goals as goal

pub loop-mutation-init : goal.loop-mutation-init
loop-mutation-init c =
    let all : c.into_iter-mutation-iterator.result ≡ map.entries c.args.register.now.mutations = cc in
    ap (is_reused_in c.new-met.result) all ∙ reused_begins c.args.register.now c.new-met.result c.new-met.ensures.empty

pub loop-mutation-preserved : goal.loop-mutation-preserved
loop-mutation-preserved c =
    let lodging : Lodging = (c.in-Some.mutation.now.lodger, c.as_str.result) in
    let is : IsLodging lodging c.in-Some.mutation.now = record { lodger = refl; reference = c.as_str.ensures } in
    let new : contains lodging_cmp c.loop-mutation.met lodging ≡ false = not-true _ (sym c.in_ok-insert.ensures.added ∙ c.if-not-branch.false) in
    let before : is_reused_in c.loop-mutation.met ((c.in-Some.field-0-0.now, c.in-Some.mutation.now) ∷ c.next.new.self) ≡ has_reused_reference c.args.register.now = rw c.in-Some.ensures.steps at c.loop-mutation.invariant in
    sym (reused_later c.loop-mutation.met c.insert.new.self lodging (c.in-Some.field-0-0.now, c.in-Some.mutation.now) c.next.new.self is new c.in_ok-insert.ensures.updates.0) ∙ before

pub returns : goal.returns
returns c = rw c.in-None.ensures.steps.0 at c.loop-mutation.invariant
