use Rattle.std.proofs.Common.{◌≡◌, ℕ, List, Result, Ok, Err, rules, subst, sym}
use Rattle.std.specs.Int.{w64}
use Rattle.std.specs.Prelude.{FitsSigned, IfOk}
use Rattle.std.proofs.lemmas.Int.{to_z-of_z}
use Rattle.land_core.specs.declared.caller.Caller.{Caller}
use Rattle.land_core.specs.declared.kind.Kind.{Kind}
use Rattle.land_core.specs.declared.register.Register.{Register}
use Rattle.land_keep.specs.Timeline.{register_at}
use Rattle.land_keep.specs.declared.store_fault.StoreFault.{StoreFault}
use Rattle.land_rules.specs.Rules.{seen_of}
use Rattle.land_sheet.proofs.Standing.{all_stand}
use Rattle.land_sheet.specs.Extracts.Seeing.{AllExist}
use Rattle.land_sheet.proofs.extracts.seen.visible_numbers.Goals as goal

seen_stand : (r : Register) (caller : Caller) (k : Kind) (result : Result (List ℕ) StoreFault) → IfOk result (λ it. it ≡ seen_of r caller k) → IfOk result (λ it. AllExist r k it)
seen_stand r caller k (Ok it) is = subst (λ (numbers : List ℕ). AllExist r k numbers) (sym is) (all_stand r caller k)
seen_stand r caller k (Err fault) is = tt

-- each number that is seen exists
pub returns-clause-stand : goal.returns-clause-stand
returns-clause-stand g c honest =
    let r = register_at (g.K.Keeper.timeline c.args.keeper.now) c.args.at in
    let fit : FitsSigned w64 c.args.at = search rules in
    seen_stand r c.args.caller c.args.kind c.sight.result (simp to_z-of_z at (c.sight.ensures.value honest))
