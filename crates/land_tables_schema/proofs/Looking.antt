-- Reads of a store, in order.
use Rattle.std.proofs.Common.{◌≡◌, inl, inr, Ok, Err, Result, IfOk, IsErr, IsTrue, refl, ◌∙◌, arith}
use Rattle.land_tables_schema.specs.Rows.ReadQueries.{IsLeft, IsStoreRead}
use Rattle.sqlite.proofs.StateLemmas.{survives_then}
use Rattle.sqlite.specs.State.{HasCleanDisk, IsUnchanged, State, Survives}

-- a disk that is clean was clean before
pub was_clean : (a b : State) → Survives a b (λ _. ⊥) → HasCleanDisk b → HasCleanDisk a
was_clean a b s clean = omega (arith, s.clean)

-- unchanged twice is unchanged
pub unchanged_then : (a b c : State) → IsUnchanged a b → IsUnchanged b c → IsUnchanged a c
unchanged_then a b c h k = (
  record {
    was_open = h.0.was_open;
    is_open = k.0.is_open;
    now_is = k.0.now_is ∙ h.0.now_is;
    committed_is = k.0.committed_is ∙ h.0.committed_is;
    mode = k.0.mode ∙ h.0.mode;
  },
  record { changes = k.1.changes ∙ h.1.changes; last_rowid = k.1.last_rowid ∙ h.1.last_rowid },
  k.2 ∙ h.2,
)

-- an unchanged state is a possible state after a failed read
pub unchanged_left : (a b : State) → IsUnchanged a b → IsLeft a b
unchanged_left a b h = record { was_open = h.0.was_open; now = inl h.0.now_is; committed = h.0.committed_is }

left_then : (a b c : State) → IsUnchanged a b → IsLeft b c → IsLeft a c
left_then a b c h k = record {
  was_open = h.0.was_open;
  now = elim k.now [
    | inl same ↦ inl (same ∙ h.0.now_is)
    | inr undone ↦ inr (undone ∙ h.0.committed_is)
  ];
  committed = k.committed ∙ h.0.committed_is;
}

-- no read at all
pub no_look : {X E : Type 0} (x : X) (Given : X → Type 0) (a : State) → IsTrue a.is_open → (HasCleanDisk a → Given x) → IsStoreRead {X = X} {E = E} (Ok x) Given a a
no_look x Given a is_open given = record {
  given = given;
  same = λ _. (record { was_open = is_open; is_open = is_open; now_is = refl; committed_is = refl; mode = refl }, record { changes = refl; last_rowid = refl }, refl);
  left = λ _. tt;
  survives = record { clean = omega arith; shield = λ x. x; counts = omega arith; limit = refl; closes = λ _ t. inl t; crash = λ _ _ x. inl x };
}

-- a successful read, and a computation on its result without the store
pub look_told : {X Y E F : Type 0} {x : X} {P : X → Type 0} {Q : Y → Type 0} (a b : State) (r : Result Y F) → IsStoreRead {X = X} {E = E} (Ok x) P a b → (HasCleanDisk b → P x → IfOk r Q) → IsStoreRead r Q a b
look_told a b (Ok y) first told = record { given = λ clean. told clean (first.given clean); same = first.same; left = λ _. tt; survives = first.survives }
look_told a b (Err f) first told = record { given = λ _. tt; same = λ _. tt; left = λ clean _. unchanged_left a b (first.same clean); survives = first.survives }

-- after successful reads, an operation without the store may fail, for example if it is out of memory
pub look_lost : {X Y E F : Type 0} {x : X} {P : X → Type 0} {Q : Y → Type 0} (a b : State) (r : Result Y F) → IsErr r → IsStoreRead {X = X} {E = E} (Ok x) P a b → IsStoreRead r Q a b
look_lost a b (Err f) failed reads_only = look_told a b (Err f) reads_only (λ _ _. tt)
look_lost a b (Ok y) failed reads_only = absurd (let is = failed in cc)

-- a failed read, with another error
pub look_failed : {X Y E F : Type 0} {e : E} {P : X → Type 0} {Q : Y → Type 0} (a b : State) (r : Result Y F) → IsErr r → IsStoreRead {X = X} {E = E} (Err e) P a b → IsStoreRead r Q a b
look_failed a b (Err f) failed reads_only = record { given = λ _. tt; same = λ _. tt; left = reads_only.left; survives = reads_only.survives }
look_failed a b (Ok y) failed reads_only = absurd (let is = failed in cc)

-- a successful read after another read
pub look_then : {X Y Z E F G : Type 0} {x : X} {y : Y} {z : Z} {P : X → Type 0} {Q : Y → Type 0} {All : Z → Type 0} (a b c : State) → IsStoreRead {X = X} {E = E} (Ok x) P a b → IsStoreRead {X = Y} {E = F} (Ok y) Q b c
    → (HasCleanDisk c → b.now ≡ a.now → P x → Q y → All z) → IsStoreRead {X = Z} {E = G} (Ok z) All a c
look_then a b c first next all =
    let was = was_clean b c next.survives in
    record {
      given = λ clean. all clean (first.same (was clean)).0.now_is (first.given (was clean)) (next.given clean);
      same = λ clean. unchanged_then a b c (first.same (was clean)) (next.same clean);
      left = λ _. tt;
      survives = survives_then a b c (λ _. ⊥) (λ _. ⊥) (λ _. ⊥) (λ _ _ n. n) (λ _ _ n. n) first.survives next.survives;
    }

-- a failed read after another read
pub look_fails : {X Y Z E F G : Type 0} {x : X} {e : F} {P : X → Type 0} {Q : Y → Type 0} {All : Z → Type 0} (a b c : State) (r : Result Z G) → IsErr r → IsStoreRead {X = X} {E = E} (Ok x) P a b
    → IsStoreRead {X = Y} {E = F} (Err e) Q b c → IsStoreRead r All a c
look_fails a b c (Err f) failed first next =
    let was = was_clean b c next.survives in
    record {
      given = λ _. tt;
      same = λ _. tt;
      left = λ clean is_open. left_then a b c (first.same (was clean)) (next.left clean is_open);
      survives = survives_then a b c (λ _. ⊥) (λ _. ⊥) (λ _. ⊥) (λ _ _ n. n) (λ _ _ n. n) first.survives next.survives;
    }
look_fails a b c (Ok z) failed first next = absurd (let is = failed in cc)
