-- A slice, from the parts that are read for it.
use Rattle.std.proofs.Common.{◌≡◌, ◌≢◌, ℕ, Bool, true, false, ◌&&◌, ◌||◌, ◌++◌, List, [], ◌∷◌, inl, refl, sym, ap, ap₂, ◌∙◌, IsTrue, Ok, arith, Result, Err}
use Rattle.std.specs.Cmp.{nat_cmp_total}
use Rattle.std.specs.FinMap as map
use Rattle.std.specs.FinMap.{FinMap, nat_cmp-IsAntisymmetric}
use Rattle.std.specs.Ordering.{nat_cmp}
use Rattle.std.specs.Prelude.{nat_eq}
use Rattle.land_acts.specs.Slices.{includes_rrr, includes_unit, mutations_in_slice, names_rrr, slice_with}
use Rattle.land_acts.specs.declared.slice_parts.SliceParts.{SliceParts}
use Rattle.land_core.proofs.FiniteSets.{exact_grants, grants_total}
use Rattle.land_core.specs.Entries.{entries_where, some}
use Rattle.land_core.specs.Grants.{Grants}
use Rattle.land_core.specs.declared.act.Act.{Act}
use Rattle.land_core.specs.declared.act.Act.TheVariants as act
use Rattle.land_core.specs.declared.caller.Caller.{Caller}
use Rattle.land_core.specs.declared.register.Register.{Register}
use Rattle.land_core.specs.declared.rrr.RrrRecord.{RrrRecord}
use Rattle.land_core.specs.declared.source.SourceRecord.{SourceRecord}
use Rattle.land_select.proofs.Gathering.{both_kept}
use Rattle.land_select.proofs.Keeping.{none_kept, same_kept}
use Rattle.land_select.proofs.NamedObjects.{asked_with, included_asked}
use Rattle.land_select.specs.Slices.Gathered.{IsKnown, numbers_if, put_all, with_number, with_numbers}
use Rattle.land_select.specs.Slices.Named.{lists}
use Rattle.land_select.specs.declared.slices.slice.Known.{Known}
use Rattle.land_tables_schema.proofs.Looking.{look_told}
use Rattle.land_tables_schema.specs.Rows.ReadQueries.{IsStoreRead}
use Rattle.sqlite.specs.State.{HasCleanDisk, State}

-- no read of a store that is open if its disk is honest
pub no_look_needed : {X E : Type 0} (x : X) (Given : X → Type 0) (a : State) → (HasCleanDisk a → IsTrue a.is_open) → Given x → IsStoreRead {X = X} {E = E} (Ok x) Given a a
no_look_needed x Given a is_open given = record {
  given = λ _. given;
  same = λ clean. (record { was_open = is_open clean; is_open = is_open clean; now_is = refl; committed_is = refl; mode = refl }, record { changes = refl; last_rowid = refl }, refl);
  left = λ _. tt;
  survives = record { clean = omega arith; shield = λ x. x; counts = omega arith; limit = refl; closes = λ _ t. inl t; crash = λ _ _ x. inl x };
}

-- one more number at the end of a list
pub with_last : (ns : List ℕ) (n : ℕ) (asked : ℕ → Bool) → with_numbers (ns ++ n ∷ []) asked ≡ with_number n (with_numbers ns asked)
with_last [] n asked = refl
with_last (m ∷ ns) n asked = with_last ns n (with_number m asked)

-- ---- numbers to which an act does not refer

pub about_none : (r : Register) (caller : Caller) (a : Act) → ((it : _) → a ≢ act.Lodge it) → ((it : _) → a ≢ act.Approve it) → ((it : _) → a ≢ act.Refuse it) → map.empty ≡ mutations_in_slice r caller a
about_none r caller (act.Enrol it) l p q = none_kept nat_cmp_total nat_cmp-IsAntisymmetric r.mutations
about_none r caller (act.Group it) l p q = none_kept nat_cmp_total nat_cmp-IsAntisymmetric r.mutations
about_none r caller (act.Regroup it) l p q = none_kept nat_cmp_total nat_cmp-IsAntisymmetric r.mutations
about_none r caller (act.Grant it) l p q = none_kept nat_cmp_total nat_cmp-IsAntisymmetric r.mutations
about_none r caller (act.Revoke it) l p q = none_kept nat_cmp_total nat_cmp-IsAntisymmetric r.mutations
about_none r caller (act.Mandate it) l p q = none_kept nat_cmp_total nat_cmp-IsAntisymmetric r.mutations
about_none r caller (act.Withdraw it) l p q = none_kept nat_cmp_total nat_cmp-IsAntisymmetric r.mutations
about_none r caller (act.Register it) l p q = none_kept nat_cmp_total nat_cmp-IsAntisymmetric r.mutations
about_none r caller (act.Burden it) l p q = none_kept nat_cmp_total nat_cmp-IsAntisymmetric r.mutations
about_none r caller (act.Lift it) l p q = none_kept nat_cmp_total nat_cmp-IsAntisymmetric r.mutations
about_none r caller (act.Lodge it) l p q = absurd (l it refl)
about_none r caller (act.Approve it) l p q = absurd (p it refl)
about_none r caller (act.Refuse it) l p q = absurd (q it refl)

pub lifts_none : (r : Register) (a : Act) → ((it : _) → a ≢ act.Lift it) → map.empty ≡ entries_where (λ n e. names_rrr r a n) r.rrrs
lifts_none r (act.Enrol it) l = none_kept nat_cmp_total nat_cmp-IsAntisymmetric r.rrrs
lifts_none r (act.Group it) l = none_kept nat_cmp_total nat_cmp-IsAntisymmetric r.rrrs
lifts_none r (act.Regroup it) l = none_kept nat_cmp_total nat_cmp-IsAntisymmetric r.rrrs
lifts_none r (act.Grant it) l = none_kept nat_cmp_total nat_cmp-IsAntisymmetric r.rrrs
lifts_none r (act.Revoke it) l = none_kept nat_cmp_total nat_cmp-IsAntisymmetric r.rrrs
lifts_none r (act.Mandate it) l = none_kept nat_cmp_total nat_cmp-IsAntisymmetric r.rrrs
lifts_none r (act.Withdraw it) l = none_kept nat_cmp_total nat_cmp-IsAntisymmetric r.rrrs
lifts_none r (act.Register it) l = none_kept nat_cmp_total nat_cmp-IsAntisymmetric r.rrrs
lifts_none r (act.Burden it) l = none_kept nat_cmp_total nat_cmp-IsAntisymmetric r.rrrs
lifts_none r (act.Lodge it) l = none_kept nat_cmp_total nat_cmp-IsAntisymmetric r.rrrs
lifts_none r (act.Approve it) l = none_kept nat_cmp_total nat_cmp-IsAntisymmetric r.rrrs
lifts_none r (act.Refuse it) l = none_kept nat_cmp_total nat_cmp-IsAntisymmetric r.rrrs
lifts_none r (act.Lift it) l = absurd (l it refl)

-- ---- parts, starting with empty ones

-- records that are read for some numbers
module _ {V : Type 0} (all : FinMap nat_cmp V) (key : ℕ → V → ℕ) where
  pub all_gathered : (ns : List ℕ) (test : ℕ → Bool) (it : FinMap nat_cmp V) → ((n : ℕ) → lists ns n ≡ test n)
      → (map.empty ≡ entries_where (λ k v. false) all → it ≡ entries_where (λ k v. with_numbers ns (λ n. false) (key k v)) all) → it ≡ entries_where (λ k v. test (key k v)) all
  all_gathered ns test it listed grown =
      grown (none_kept nat_cmp_total nat_cmp-IsAntisymmetric all)
      ∙ same_kept nat_cmp_total nat_cmp-IsAntisymmetric _ (λ k v. test (key k v)) all (λ k v. asked_with ns (λ n. false) (key k v) ∙ listed (key k v))

  pub included_gathered : (b : Bool) (ns : List ℕ) (test : ℕ → Bool) (it : FinMap nat_cmp V) → ((n : ℕ) → lists ns n ≡ test n)
      → (map.empty ≡ entries_where (λ k v. false) all → it ≡ entries_where (λ k v. with_numbers (numbers_if b ns) (λ n. false) (key k v)) all) → it ≡ entries_where (λ k v. b && test (key k v)) all
  included_gathered b ns test it listed grown =
      grown (none_kept nat_cmp_total nat_cmp-IsAntisymmetric all)
      ∙ same_kept nat_cmp_total nat_cmp-IsAntisymmetric _ (λ k v. b && test (key k v)) all (λ k v. included_asked b ns (key k v) ∙ ap (λ c. b && c) (listed (key k v)))

-- roles that are read for some parties
pub roles_gathered : (all : Grants) (b : Bool) (ns : List ℕ) (test : ℕ → Bool) (it : Grants) → ((n : ℕ) → lists ns n ≡ test n)
    → (map.empty ≡ entries_where (λ k v. false) all → it ≡ entries_where (λ grant u. with_numbers (numbers_if b ns) (λ n. false) grant.party) all) → it ≡ entries_where (λ grant u. b && test grant.party) all
roles_gathered all b ns test it listed grown =
    grown (none_kept grants_total exact_grants all)
    ∙ same_kept grants_total exact_grants _ (λ grant u. b && test grant.party) all (λ grant u. included_asked b ns grant.party ∙ ap (λ c. b && c) (listed grant.party))

-- ---- the slice

-- the slice consists of its known parts, its sources, and its entries with the lifted one
pub sliced : (parts : SliceParts) (r : Register) (caller : Caller) (a : Act) (known : Known) (sources : FinMap nat_cmp SourceRecord) (lifted rrrs : FinMap nat_cmp RrrRecord) → IsKnown parts r caller a known
    → sources ≡ entries_where (λ n s. parts.sources && some (λ k m. nat_eq m.source n) known.mutations) r.sources → lifted ≡ entries_where (λ n e. names_rrr r a n) r.rrrs → rrrs ≡ put_all known.units_and_entries.rrrs lifted
    → ◌≡◌ {A = Register} (record {
      parties = known.parties_and_roles.parties;
      roles = known.parties_and_roles.roles;
      members = known.parties_and_roles.members;
      units = known.units_and_entries.units;
      parcels = known.units_and_entries.parcels;
      rrrs = rrrs;
      sources = sources;
      mutations = known.mutations;
      mandates = known.mandates;
      next = known.next;
    }) (slice_with parts r caller a)
sliced parts r caller a known sources lifted rrrs is gathered lifts puts =
    alike _ _ _ _ _ _ _ _ _ _ _ _ _ _ _ _ _ _ _ _ is.parties_and_roles.parties is.parties_and_roles.roles is.parties_and_roles.members is.units_and_entries.units is.units_and_entries.parcels entries of_mutations is.mutations is.mandates (sym is.next)
  where
    entries : rrrs ≡ entries_where (λ n e. includes_rrr parts r a n e) r.rrrs
    entries =
        puts ∙ ap₂ put_all is.units_and_entries.rrrs lifts ∙ both_kept nat_cmp_total nat_cmp-IsAntisymmetric r.rrrs (λ n e. includes_unit parts r a e.unit) (λ n e. names_rrr r a n)
        ∙ same_kept nat_cmp_total nat_cmp-IsAntisymmetric (λ n e. names_rrr r a n || includes_unit parts r a e.unit) (λ n e. includes_rrr parts r a n e) r.rrrs (λ n e. either_way (names_rrr r a n) (includes_unit parts r a e.unit))
      where
        either_way : (b c : Bool) → (b || c) ≡ (c || b)
        either_way true true = refl
        either_way true false = refl
        either_way false true = refl
        either_way false false = refl

    of_mutations : sources ≡ entries_where (λ n s. parts.sources && some (λ k m. nat_eq m.source n) (mutations_in_slice r caller a)) r.sources
    of_mutations = gathered ∙ ap (λ ms. entries_where (λ n s. parts.sources && some (λ k m. nat_eq m.source n) ms) r.sources) is.mutations

    alike : (p p' : _) (g g' : _) (m m' : _) (u u' : _) (l l' : _) (e e' : _) (s s' : _) (t t' : _) (d d' : _) (n n' : _) → p ≡ p' → g ≡ g' → m ≡ m' → u ≡ u' → l ≡ l' → e ≡ e' → s ≡ s' → t ≡ t' → d ≡ d' → n ≡ n'
        → ◌≡◌ {A = Register} (record { parties = p; roles = g; members = m; units = u; parcels = l; rrrs = e; sources = s; mutations = t; mandates = d; next = n })
        (record { parties = p'; roles = g'; members = m'; units = u'; parcels = l'; rrrs = e'; sources = s'; mutations = t'; mandates = d'; next = n' })
    alike p p' g g' m m' u u' l l' e e' s s' t t' d d' n n' a b c f h i j k o q = cc

-- the result of a read-only query in other words, for success and failure
pub look_so : {X E : Type 0} {P Q : X → Type 0} (a b : State) (r : Result X E) → IsStoreRead r P a b → ((x : X) → P x → Q x) → IsStoreRead r Q a b
look_so a b (Ok x) reads_only so = look_told a b (Ok x) reads_only (λ clean given. so x given)
look_so a b (Err e) reads_only so = record { given = λ _. tt; same = λ _. tt; left = reads_only.left; survives = reads_only.survives }
