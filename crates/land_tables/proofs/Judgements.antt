-- A store that was only read, and is open, is unchanged.
use Rattle.std.proofs.Common.{◌≡◌, ◌≢◌, ◌⊎◌, inl, inr, Ok, Err, Result, IsTrue, sym, ap, ◌∙◌, subst}
use Rattle.land_tables.proofs.Editions.{keeps_edition}
use Rattle.land_tables.specs.Adopting.{IsValidation, IsRefused, IsRegisterTo}
use Rattle.land_tables.specs.Calls.{StaysOpenAndSame}
use Rattle.land_tables.specs.TablesState.{IsConsistentState}
use Rattle.land_tables.specs.Registers.{SchemaVersion, version_2}
use Rattle.land_tables.specs.declared.fault.AdoptFault.{AdoptFault}
use Rattle.land_tables.specs.declared.fault.AdoptFault.TheVariants.{Store}
use Rattle.land_tables_history.specs.declared.moment.Moment.{Moment}
use Rattle.land_tables_schema.proofs.Looking.{was_clean}
use Rattle.land_tables_schema.specs.Rows.ReadQueries.{IsLeft, IsStoreRead}
use Rattle.sqlite.proofs.StateLemmas.{survives_then}
use Rattle.sqlite.specs.State.{HasCleanDisk, IsUnchanged, State, Survives}

module _ (shapes : SchemaVersion) (a b : State) (settled : IsTrue a.is_open → a.now ≡ a.committed) where
  -- the state after a successful read
  pub judged_ok : (latest : Moment) → IsStoreRead {E = AdoptFault} (Ok latest) (IsRegisterTo shapes a.now) a b → IsValidation shapes (Ok latest) a b
  judged_ok latest reads_only = record {
    register = reads_only.given;
    refused = λ _. tt;
    same = λ clean _. still clean;
    kept = λ clean _. still clean;
    survives = reads_only.survives;
  }
    where
      still : HasCleanDisk b → StaysOpenAndSame a b
      still clean =
          let u = (reads_only.same clean).0 in
          record { is_open = u.is_open; now = u.now_is; committed = u.committed_is ∙ sym (settled u.was_open) ∙ sym u.now_is }

  -- and after a failed read whose fault was returned
  pub judged_err : {X : Type 0} {Given : X → Type 0} (c : State) (why told : AdoptFault) → IsStoreRead {X = X} (Err why) Given a b → (HasCleanDisk b → IsRefused shapes why a.now) → (told ≡ why) ⊎ (told ≡ Store)
      → (HasCleanDisk c → told ≢ Store → IsUnchanged b c) → (HasCleanDisk c → IsTrue c.is_open → IsLeft b c) → Survives b c (λ _. ⊥) → IsValidation shapes (Err told) a c
  judged_err c why told reads_only refused is same left survives = record {
    register = λ _. tt;
    refused = λ clean. elim is [
      | inl it ↦ subst (λ f. IsRefused shapes f a.now) (sym it) (refused (was_clean b c survives clean))
      | inr it ↦ subst (λ f. IsRefused shapes f a.now) (sym it) tt
    ];
    same = λ clean other. (
        let shows = (same clean (λ e. other (ap (λ (f : AdoptFault). let r : Result Moment AdoptFault = Err f in r) e))).0 in
        still clean shows.is_open);
    kept = still;
    survives = survives_then a b c (λ _. ⊥) (λ _. ⊥) (λ _. ⊥) (λ _ _ n. n) (λ _ _ n. n) reads_only.survives survives;
  }
    where
      still : HasCleanDisk c → IsTrue c.is_open → StaysOpenAndSame a c
      still clean is_open =
          let after = left clean is_open in
          let before = reads_only.left (was_clean b c survives clean) after.was_open in
          let settles = sym (settled before.was_open) in
          let shown : b.now ≡ a.now = elim before.now [ inl it ↦ it | inr it ↦ it ∙ settles ] in
          let kept : b.committed ≡ a.now = before.committed ∙ settles in
          let now : c.now ≡ a.now = elim after.now [ inl it ↦ it ∙ shown | inr it ↦ it ∙ kept ] in
          record { is_open = is_open; now = now; committed = after.committed ∙ kept ∙ sym now }

-- an open store with an unchanged register is consistent
pub same_office : (old new : State) (latest : Moment) → StaysOpenAndSame old new → IsRegisterTo version_2 old.now latest → IsConsistentState new latest.stamp latest.next
same_office old new latest same to =
    let it : IsRegisterTo version_2 new.now latest = subst (λ db. IsRegisterTo version_2 db latest) (sym same.now) to in
    record {
      register = record {
        is_open = same.is_open;
        committed = same.committed;
        has_tables = (it.register.intervals.made.ours.there it.register.intervals.made.version).has_tables;
        edition = keeps_edition version_2 new.now it.register.intervals.made;
        intervals = it.register.intervals.intervals;
        holds = it.register.holds;
        sound = it.register.sound;
      };
      last = it.last;
      next = it.next;
    }
