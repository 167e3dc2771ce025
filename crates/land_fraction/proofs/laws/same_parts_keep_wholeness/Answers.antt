use Rattle.land_fraction.proofs.Moves.{wholeness-kept}
use Rattle.land_fraction.proofs.laws.same_parts_keep_wholeness.Goals as goal

pub returns : goal.returns
returns c = λ m shares others h k same. wholeness-kept shares others (record { parts = m; first = h; second = k; same = same })
