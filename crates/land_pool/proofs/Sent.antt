-- One connection, after a prefix of its output was written.
use Rattle.std.proofs.Common.{◌≡◌, ℕ, Bool, true, false, List, [], ◌++◌, take, drop, sym, ap, ◌∙◌, subst, append_assoc, append-nil, Option}
use Rattle.std.specs.Io.KnownBytes.{Appends}
use Rattle.std.proofs.KnownBytes.{Appends-trans}
use Rattle.std.proofs.lemmas.Bool.{false≢true}
use Rattle.std.proofs.lemmas.List.{take-append-drop}
use Rattle.land_desk.specs.Serving.{Exchange, all_sent}
use Rattle.land_pool.specs.Interleaving.{IsServed, SendsPrefix}
use Rattle.land_pool.specs.OpenConnections.{HasItems}

pub sent_more : (old mid new : Option (List ℕ)) (xs : List Exchange) (n : ℕ) (u v : List ℕ) → SendsPrefix old mid xs u → Appends mid new (take n u) → v ≡ drop n u
    → SendsPrefix old new xs v
sent_more old mid new xs n u v w out left =
    let whole : u ≡ take n u ++ v = sym (take-append-drop n u) ∙ ap (λ (l : List ℕ). take n u ++ l) (sym left) in (
      w.0 ++ take n u,
      Appends-trans old mid new w.0 (take n u) w.1 out,
      w.2 ∙ ap (λ (l : List ℕ). w.0 ++ l) whole ∙ sym (append_assoc w.0 (take n u) v),
    )

-- the last reply was written
pub sent_all : (finished : Bool) (bytes rest old new : Option (List ℕ)) (xs : List Exchange) (v : List ℕ) → finished ≡ true → v ≡ []
    → HasItems finished bytes rest xs → SendsPrefix old new xs v → IsServed true bytes old new xs
sent_all false bytes rest old new xs v is none so w = absurd (false≢true is)
sent_all true bytes rest old new xs v is none so w =
    let all : all_sent xs ≡ w.0 = w.2 ∙ ap (λ (l : List ℕ). w.0 ++ l) none ∙ append-nil w.0 in
    (so, subst (λ (l : List ℕ). Appends old new l) (sym all) w.1)
