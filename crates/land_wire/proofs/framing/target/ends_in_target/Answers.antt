use Rattle.std.proofs.Common.{refl, sym, ◌∙◌}
use Rattle.std.proofs.lemmas.Bool.{false≢true}
use Rattle.land_wire.proofs.TargetLemmas.{place_is_target}
use Rattle.land_wire.proofs.framing.target.ends_in_target.Goals as goal

pub returns-in-Target : goal.returns-in-Target
returns-in-Target c = ((λ e. (place_is_target c.args.bytes.now).0 (sym c.scan_state_after.ensures ∙ c.in-Target.is)), (λ h. refl))

pub returns-in_default : goal.returns-in_default
returns-in_default c = ((λ e. absurd (false≢true e)), (λ h. absurd (c.in_default.not-Target (c.scan_state_after.ensures ∙ (place_is_target c.args.bytes.now).1 h))))
