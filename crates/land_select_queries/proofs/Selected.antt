-- The terms of each statement select what its selection selects.
use Rattle.std.proofs.Common.{◌≡◌, ◌↔◌, ◌⊎◌, inl, inr, ℕ, ℤ, List, [], ◌∷◌, filter, codes, bytes_eq, Bool, true, false, ◌||◌, cond, int_le, int_lt, refl, sym, subst}
use Rattle.std.proofs.lemmas.Bool.Decides.{Decides-at, Decides-or, not_from_Decides}
use Rattle.std.proofs.lemmas.Slice.Eq.{bytes_eq-Decides}
use Rattle.std.specs.Bool.{Decides}
use Rattle.std.proofs.lemmas.Bool.{and_from, and_parts}
use Rattle.land_core.specs.Mutations.{is_open}
use Rattle.land_core.specs.Units.{is_right_of}
use Rattle.land_core.specs.Words.{state_word}
use Rattle.land_core.specs.declared.kind.Kind.TheVariants as kind
use Rattle.land_core.specs.declared.mutation.MutationRecord.{MutationRecord}
use Rattle.land_core.specs.declared.mutation.MutationState.{MutationState}
use Rattle.land_core.specs.declared.mutation.MutationState.TheVariants as state
use Rattle.land_core.specs.declared.rrr.Class.{Class}
use Rattle.land_core.specs.declared.rrr.Class.TheVariants.{Right, Restriction, Responsibility, Mortgage}
use Rattle.land_core.specs.declared.rrr.RightType.TheVariants.{Ownership, Lease, Usufruct}
use Rattle.land_rules.specs.Relations.{is_mortgage_class, is_right}
use Rattle.land_select_queries.proofs.Joined.{IsJoin, Says, meaning}
use Rattle.land_select_queries.proofs.Known as known
use Rattle.land_select_queries.proofs.Places.{Place, parties, members, units, parcels, rrrs, sources, mutations, names}
use Rattle.land_select_queries.proofs.Words.{entry_word}
use Rattle.land_select_queries.specs.Joins.Meaning.{TextsSelect}
use Rattle.land_select_queries.specs.Joins.Texts.{selection_text}
use Rattle.land_select_queries.specs.Sights.Selections.{LodgedPending, Credits, Entry, HoldsItself, HoldsThrough, IsPendingEntry, IsVisibleEntry, IsVisibleToCreditor, IsVisibleToHolder, IsCurrent, IsCurrentUnder, selects}
use Rattle.land_select_queries.specs.declared.sights.selection.Selection.{Selection}
use Rattle.land_select_queries.specs.declared.sights.selection.Selection.TheVariants as selection
use Rattle.land_tables_history.specs.Standing.{is_current, current_values}
use Rattle.land_tables_history.specs.declared.group_member.GroupMember.{GroupMember}
use Rattle.land_tables_history.specs.declared.history.History.{History}
use Rattle.land_tables_history.specs.declared.naming.Naming.{Naming}
use Rattle.land_tables_history.specs.declared.version.Version.{Version}
use Rattle.sqlite_rules.proofs.ListLemmas.{has_contained, contains_had}
use Rattle.sqlite_rules.proofs.ProbeLemmas.{has_mapped, mapped_has}
use Rattle.sqlite_rules.specs.Lists.{Has}
use Rattle.sqlite_sql.specs.Term.{Term, col}

-- ---- current versions

kept : {X : Type 0} (p : X → Bool) (xs : List X) (x : X) → Has xs x → p x ≡ true → Has (filter p xs) x
kept p [] x h is = absurd h
kept p (y ∷ ys) x (inl same) is = let here : p y ≡ true = subst (λ z. p z ≡ true) same is in rw here (inl same)
kept p (y ∷ ys) x (inr more) is = go (p y) (kept p ys x more is)
  where
    go : (b : Bool) → Has (filter p ys) x → Has (cond b (y ∷ filter p ys) (filter p ys)) x
    go true rest = inr rest
    go false rest = rest

was_kept : {X : Type 0} (p : X → Bool) (xs : List X) (x : X) → Has (filter p xs) x → Has xs x × (p x ≡ true)
was_kept p [] x h = absurd h
was_kept p (y ∷ ys) x h = go (p y) refl h (was_kept p ys x)
  where
    go : (b : Bool) → p y ≡ b → Has (cond b (y ∷ filter p ys) (filter p ys)) x → (Has (filter p ys) x → Has ys x × (p x ≡ true)) → Has (y ∷ ys) x × (p x ≡ true)
    go true is (inl same) later = (inl same, subst (λ z. p z ≡ true) (sym same) is)
    go true is (inr rest) later = let it = later rest in (inr it.0, it.1)
    go false is rest later = let it = later rest in (inr it.0, it.1)

-- a version whose lifespan includes the time is current
pub stood : {X : Type 0} (t : ℤ) (vs : List (Version X)) (v : Version X) → Has vs v → int_le v.since t ≡ true → int_lt t v.until ≡ true → IsCurrent t vs v.what
stood t vs v has begun going =
    contains_had (current_values t vs) v.what (mapped_has (λ v. v.what) (filter (is_current t) vs) v (kept (is_current t) vs v has (and_from (int_le v.since t) (int_lt t v.until) begun going)))

-- and a current value has such a version
pub record IsVersion {X : Type 0} (t : ℤ) (vs : List (Version X)) (x : X) : Type 0 where
  pub since : ℤ
  pub until : ℤ
  pub has : Has vs (record { what = x; since = since; until = until })
  pub begun : int_le since t ≡ true
  pub going : int_lt t until ≡ true

pub version : {X : Type 0} (t : ℤ) (vs : List (Version X)) (x : X) → IsCurrent t vs x → IsVersion t vs x
version t vs x standing_there =
    let it = has_mapped (λ v. v.what) (filter (is_current t) vs) x (has_contained (current_values t vs) x standing_there) in
    let v = it.0 in
    let there = was_kept (is_current t) vs v it.1 in
    let lives = and_parts (int_le v.since t) (int_lt t v.until) there.1 in
    record {
      since = v.since;
      until = v.until;
      has = subst (λ y. Has vs (record { what = y; since = v.since; until = v.until })) (sym it.2) there.0;
      begun = lives.0;
      going = lives.1;
    }

-- the version itself
abbrev pub of : {X : Type 0} (x : X) → (since until : ℤ) → Version X
of x since until = record { what = x; since = since; until = until }

-- ---- words

ownership_test : (c : Class) → is_right_of Ownership c ≡ bytes_eq (entry_word c) (codes "ownership")
ownership_test (Right Ownership share) = refl
ownership_test (Right Lease share) = refl
ownership_test (Right Usufruct share) = refl
ownership_test (Restriction words) = refl
ownership_test (Responsibility words) = refl
ownership_test (Mortgage amount currency rank) = refl

right_test : (c : Class) → is_right c ≡ (bytes_eq (entry_word c) (codes "ownership") || (bytes_eq (entry_word c) (codes "lease") || bytes_eq (entry_word c) (codes "usufruct")))
right_test (Right Ownership share) = refl
right_test (Right Lease share) = refl
right_test (Right Usufruct share) = refl
right_test (Restriction words) = refl
right_test (Responsibility words) = refl
right_test (Mortgage amount currency rank) = refl

mortgage_test : (c : Class) → is_mortgage_class c ≡ bytes_eq (entry_word c) (codes "mortgage")
mortgage_test (Right Ownership share) = refl
mortgage_test (Right Lease share) = refl
mortgage_test (Right Usufruct share) = refl
mortgage_test (Restriction words) = refl
mortgage_test (Responsibility words) = refl
mortgage_test (Mortgage amount currency rank) = refl

lodged_test : (s : MutationState) → is_open s ≡ bytes_eq (state_word s) (codes "lodged")
lodged_test state.Lodged = refl
lodged_test state.Approved = refl
lodged_test state.Refused = refl

abbrev pub HasWord : Class → List ℕ → Type 0
HasWord c w = entry_word c ≡ w

abbrev pub IsRightWord : Class → Type 0
IsRightWord c = HasWord c (codes "ownership") ⊎ (HasWord c (codes "lease") ⊎ HasWord c (codes "usufruct"))

pub a_right : (c : Class) → Decides (is_right c) (IsRightWord c)
a_right c = Decides-at _ _ (right_test c) (Decides-or _ _ (bytes_eq-Decides (entry_word c) (codes "ownership")) (Decides-or _ _ (bytes_eq-Decides (entry_word c) (codes "lease")) (bytes_eq-Decides (entry_word c) (codes "usufruct"))))

pub an_ownership : (c : Class) → Decides (is_right_of Ownership c) (HasWord c (codes "ownership"))
an_ownership c = Decides-at _ _ (ownership_test c) (bytes_eq-Decides (entry_word c) (codes "ownership"))

pub a_mortgage : (c : Class) → Decides (is_mortgage_class c) (HasWord c (codes "mortgage"))
a_mortgage c = Decides-at _ _ (mortgage_test c) (bytes_eq-Decides (entry_word c) (codes "mortgage"))

pub undecided : (s : MutationState) → Decides (is_open s) (state_word s ≡ codes "lodged")
undecided s = Decides-at _ _ (lodged_test s) (bytes_eq-Decides (state_word s) (codes "lodged"))

is_false : {P : Type 0} (b : Bool) → Decides b P → ¬ P → b ≡ false
is_false true d none = absurd (none (d.0 refl))
is_false false d none = refl

-- an entry that is not a mortgage
no_mortgage : (c : Class) → ¬ HasWord c (codes "mortgage") → is_mortgage_class c ≡ false
no_mortgage c = is_false (is_mortgage_class c) (a_mortgage c)

other_word : (c : Class) → is_mortgage_class c ≡ false → ¬ HasWord c (codes "mortgage")
other_word c = not_from_Decides (is_mortgage_class c) (a_mortgage c)

abbrev pub SaysToHolder : (held seen : Class) → Type 0
SaysToHolder held seen = (¬ HasWord seen (codes "mortgage")) ⊎ HasWord held (codes "ownership")

pub to_holder : (held seen : Entry) → SaysToHolder held.1.class seen.1.class → IsVisibleToHolder held seen
to_holder held seen (inl other) = inl (no_mortgage seen.1.class other)
to_holder held seen (inr owner) = inr ((an_ownership held.1.class).1 owner)

pub by_holder : (held seen : Entry) → IsVisibleToHolder held seen → SaysToHolder held.1.class seen.1.class
by_holder held seen (inl other) = inl (other_word seen.1.class other)
by_holder held seen (inr owner) = inr ((an_ownership held.1.class).0 owner)

pub to_creditor : (caller : ℕ) (seen : Entry) → (¬ HasWord seen.1.class (codes "mortgage")) ⊎ (seen.1.party ≡ caller) → IsVisibleToCreditor caller seen
to_creditor caller seen (inl other) = inl (no_mortgage seen.1.class other)
to_creditor caller seen (inr own) = inr own

pub by_creditor : (caller : ℕ) (seen : Entry) → IsVisibleToCreditor caller seen → (¬ HasWord seen.1.class (codes "mortgage")) ⊎ (seen.1.party ≡ caller)
by_creditor caller seen (inl other) = inl (other_word seen.1.class other)
by_creditor caller seen (inr own) = inr own

-- ---- selections

module _ (h : History) (caller : ℕ) (t : ℤ) (number : ℕ) where
  -- all objects of a kind

  all_parties : Says (parties ∷ []) known.all_parties (col 1 1) h caller t number ↔ IsCurrentUnder t h.parties number
  all_parties = (
    (λ g. (g.0.what, stood t h.parties g.0 g.1 g.2.0.0 g.2.0.1.0, g.2.1)),
    (λ s. let v = version t h.parties s.0 s.1 in (of s.0 v.since v.until, v.has, ((v.begun, (v.going, tt)), s.2))),
  )

  all_units : Says (units ∷ []) known.all_units (col 1 1) h caller t number ↔ IsCurrentUnder t h.units number
  all_units = (
    (λ g. (g.0.what, stood t h.units g.0 g.1 g.2.0.0 g.2.0.1.0, g.2.1)),
    (λ s. let v = version t h.units s.0 s.1 in (of s.0 v.since v.until, v.has, ((v.begun, (v.going, tt)), s.2))),
  )

  all_parcels : Says (parcels ∷ []) known.all_parcels (col 1 1) h caller t number ↔ IsCurrentUnder t h.parcels number
  all_parcels = (
    (λ g. (g.0.what, stood t h.parcels g.0 g.1 g.2.0.0 g.2.0.1.0, g.2.1)),
    (λ s. let v = version t h.parcels s.0 s.1 in (of s.0 v.since v.until, v.has, ((v.begun, (v.going, tt)), s.2))),
  )

  all_rrrs : Says (rrrs ∷ []) known.all_rrrs (col 1 1) h caller t number ↔ IsCurrentUnder t h.rrrs number
  all_rrrs = (
    (λ g. (g.0.what, stood t h.rrrs g.0 g.1 g.2.0.0 g.2.0.1.0, g.2.1)),
    (λ s. let v = version t h.rrrs s.0 s.1 in (of s.0 v.since v.until, v.has, ((v.begun, (v.going, tt)), s.2))),
  )

  all_sources : Says (sources ∷ []) known.all_sources (col 1 1) h caller t number ↔ IsCurrentUnder t h.sources number
  all_sources = (
    (λ g. (g.0.what, stood t h.sources g.0 g.1 g.2.0.0 g.2.0.1.0, g.2.1)),
    (λ s. let v = version t h.sources s.0 s.1 in (of s.0 v.since v.until, v.has, ((v.begun, (v.going, tt)), s.2))),
  )

  all_mutations : Says (mutations ∷ []) known.all_mutations (col 1 1) h caller t number ↔ IsCurrentUnder t h.mutations number
  all_mutations = (
    (λ g. (g.0.what, stood t h.mutations g.0 g.1 g.2.0.0 g.2.0.1.0, g.2.1)),
    (λ s. let v = version t h.mutations s.0 s.1 in (of s.0 v.since v.until, v.has, ((v.begun, (v.going, tt)), s.2))),
  )

  -- objects of which a version has not ended

  unended_units : Says (units ∷ []) known.unended_units (col 1 1) h caller t number ↔ selects selection.UnendedUnits t h caller number
  unended_units = (
    (λ g. (g.0, contains_had h.units g.0 g.1, g.2.0.0, g.2.1)),
    (λ s. (s.0, has_contained h.units s.0 s.1, ((s.2, tt), s.3))),
  )

  unended_parcels : Says (parcels ∷ []) known.unended_parcels (col 1 1) h caller t number ↔ selects selection.UnendedParcels t h caller number
  unended_parcels = (
    (λ g. (g.0, contains_had h.parcels g.0 g.1, g.2.0.0, g.2.1)),
    (λ s. (s.0, has_contained h.parcels s.0 s.1, ((s.2, tt), s.3))),
  )

  -- the caller itself, its groups, its lodgings

  itself : Says (parties ∷ []) known.itself (col 1 1) h caller t number ↔ selects selection.Itself t h caller number
  itself = (
    (λ g. (g.0.what, stood t h.parties g.0 g.1 g.2.0.1.0 g.2.0.1.1.0, g.2.0.0, g.2.1)),
    (λ s. let v = version t h.parties s.0 s.1 in (of s.0 v.since v.until, v.has, ((s.2, (v.begun, (v.going, tt))), s.3))),
  )

  its_groups : Says (members ∷ []) known.its_groups (col 1 1) h caller t number ↔ selects selection.ItsGroups t h caller number
  its_groups = (
    (λ g. (g.0.what, stood t h.members g.0 g.1 g.2.0.1.0 g.2.0.1.1.0, g.2.0.0, g.2.1)),
    (λ s. let v = version t h.members s.0 s.1 in (of s.0 v.since v.until, v.has, ((s.2, (v.begun, (v.going, tt))), s.3))),
  )

  its_lodgings : Says (mutations ∷ []) known.its_lodgings (col 1 1) h caller t number ↔ selects selection.ItsLodgings t h caller number
  its_lodgings = (
    (λ g. (g.0.what, stood t h.mutations g.0 g.1 g.2.0.1.0 g.2.0.1.1.0, g.2.0.0, g.2.1)),
    (λ s. let v = version t h.mutations s.0 s.1 in (of s.0 v.since v.until, v.has, ((s.2, (v.begun, (v.going, tt))), s.3))),
  )

  -- units with a right or a mortgage of the caller

  held_units : Says (rrrs ∷ []) known.held_units (col 1 2) h caller t number ↔ selects selection.HeldUnits t h caller number
  held_units = (
    (λ g. (g.0.what, record { stands = stood t h.rrrs g.0 g.1 g.2.0.1.1.0 g.2.0.1.1.1.0; party = g.2.0.0; class = (a_right g.0.what.1.class).1 g.2.0.1.0 }, g.2.1)),
    (λ s. let v = version t h.rrrs s.0 s.1.stands in (of s.0 v.since v.until, v.has, ((s.1.party, ((a_right s.0.1.class).0 s.1.class, (v.begun, (v.going, tt)))), s.2))),
  )

  credit_units : Says (rrrs ∷ []) known.credit_units (col 1 2) h caller t number ↔ selects selection.CreditUnits t h caller number
  credit_units = (
    (λ g. (g.0.what, record { stands = stood t h.rrrs g.0 g.1 g.2.0.1.1.0 g.2.0.1.1.1.0; party = g.2.0.0; class = (a_mortgage g.0.what.1.class).1 g.2.0.1.0 }, g.2.1)),
    (λ s. let v = version t h.rrrs s.0 s.1.stands in (of s.0 v.since v.until, v.has, ((s.1.party, ((a_mortgage s.0.1.class).0 s.1.class, (v.begun, (v.going, tt)))), s.2))),
  )

  group_units : Says (members ∷ rrrs ∷ []) known.group_units (col 2 2) h caller t number ↔ selects selection.GroupUnits t h caller number
  group_units = (
    (λ g. let m = g.0 in let e = g.2.0 in let say = g.2.2.0 in (
      e.what,
      record {
        joined = m.what;
        joined_stands = stood t h.members m g.1 say.1.1.1.0 say.1.1.1.1.0;
        stands = stood t h.rrrs e g.2.1 say.1.1.1.1.1.0 say.1.1.1.1.1.1.0;
        group = say.0;
        member = say.1.0;
        class = (a_right e.what.1.class).1 say.1.1.0;
      },
      g.2.2.1,
    )),
    (λ s. let m = version t h.members s.1.joined s.1.joined_stands in let v = version t h.rrrs s.0 s.1.stands in (
      of s.1.joined m.since m.until,
      m.has,
      (
        of s.0 v.since v.until,
        v.has,
        ((s.1.group, (s.1.member, ((a_right s.0.1.class).0 s.1.class, (m.begun, (m.going, (v.begun, (v.going, tt))))))), s.2),
      ),
    )),
  )

  -- entries of units that the caller holds, and their parties

  abbrev IsHeldTold : Entry → Type 0
  IsHeldTold = IsVisibleEntry t h (HoldsItself t h caller) IsVisibleToHolder

  abbrev IsGroupTold : Entry → Type 0
  IsGroupTold = IsVisibleEntry t h (HoldsThrough t h caller) IsVisibleToHolder

  abbrev IsCreditTold : Entry → Type 0
  IsCreditTold = IsVisibleEntry t h (Credits t h caller) (λ held. IsVisibleToCreditor caller)

  -- two versions of entries with a property
  abbrev Two : (Version Entry → Version Entry → Type 0) → Type 0
  Two P = (e : Version Entry) × Has h.rrrs e × ((s : Version Entry) × Has h.rrrs s × P e s)

  -- the lifespan of a version includes the time
  abbrev Lasts : {X : Type 0} → Version X → Type 0 → Type 0
  Lasts v Rest = (int_le v.since t ≡ true) × ((int_lt t v.until ≡ true) × Rest)

  abbrev HeldSays : Version Entry → Version Entry → Type 0
  HeldSays e s =
      (s.what.1.unit ≡ e.what.1.unit) × ((e.what.1.party ≡ caller) × (IsRightWord e.what.1.class × (SaysToHolder e.what.1.class s.what.1.class
      × Lasts e (Lasts s (Unit {0})))))

  abbrev CreditSays : Version Entry → Version Entry → Type 0
  CreditSays e s =
      (s.what.1.unit ≡ e.what.1.unit) × ((e.what.1.party ≡ caller) × (HasWord e.what.1.class (codes "mortgage")
      × (((¬ HasWord s.what.1.class (codes "mortgage")) ⊎ (s.what.1.party ≡ caller)) × Lasts e (Lasts s (Unit {0})))))

  held_told : (e s : Version Entry) → Has h.rrrs e → Has h.rrrs s → HeldSays e s → IsHeldTold s.what
  held_told e s has there say = record {
    held = e.what;
    interest = record { stands = stood t h.rrrs e has say.1.1.1.1.0 say.1.1.1.1.1.0; party = say.1.0; class = (a_right e.what.1.class).1 say.1.1.0 };
    stands = stood t h.rrrs s there say.1.1.1.1.1.1.0 say.1.1.1.1.1.1.1.0;
    unit = say.0;
    yields = to_holder e.what s.what say.1.1.1.0;
  }

  credit_told : (e s : Version Entry) → Has h.rrrs e → Has h.rrrs s → CreditSays e s → IsCreditTold s.what
  credit_told e s has there say = record {
    held = e.what;
    interest = record { stands = stood t h.rrrs e has say.1.1.1.1.0 say.1.1.1.1.1.0; party = say.1.0; class = (a_mortgage e.what.1.class).1 say.1.1.0 };
    stands = stood t h.rrrs s there say.1.1.1.1.1.1.0 say.1.1.1.1.1.1.1.0;
    unit = say.0;
    yields = to_creditor caller s.what say.1.1.1.0;
  }

  held_back : (Shown : Entry → Type 0) (seen : Entry) → IsHeldTold seen → Shown seen → Two (λ e s. HeldSays e s × Shown s.what)
  held_back Shown seen told shown =
      let e = version t h.rrrs told.held told.interest.stands in
      let s = version t h.rrrs seen told.stands in (
        of told.held e.since e.until,
        e.has,
        (
          of seen s.since s.until,
          s.has,
          (
            (told.unit, (told.interest.party, ((a_right told.held.1.class).0 told.interest.class, (by_holder told.held seen told.yields, (e.begun, (e.going, (s.begun, (s.going, tt)))))))),
            shown,
          ),
        ),
      )

  credit_back : (Shown : Entry → Type 0) (seen : Entry) → IsCreditTold seen → Shown seen → Two (λ e s. CreditSays e s × Shown s.what)
  credit_back Shown seen told shown =
      let e = version t h.rrrs told.held told.interest.stands in
      let s = version t h.rrrs seen told.stands in (
        of told.held e.since e.until,
        e.has,
        (
          of seen s.since s.until,
          s.has,
          (
            (told.unit, (told.interest.party, ((a_mortgage told.held.1.class).0 told.interest.class, (by_creditor caller seen told.yields, (e.begun, (e.going, (s.begun, (s.going, tt)))))))),
            shown,
          ),
        ),
      )

  held_rrrs : Says (rrrs ∷ rrrs ∷ []) known.held_rrrs (col 2 1) h caller t number ↔ selects selection.HeldEntries t h caller number
  held_rrrs = (
    (λ g. (g.2.0.what, held_told g.0 g.2.0 g.1 g.2.1 g.2.2.0, g.2.2.1)),
    (λ s. held_back (λ e. e.0 ≡ number) s.0 s.1 s.2),
  )

  held_parties : Says (rrrs ∷ rrrs ∷ []) known.held_rrrs (col 2 3) h caller t number ↔ selects selection.HeldParties t h caller number
  held_parties = (
    (λ g. (g.2.0.what, held_told g.0 g.2.0 g.1 g.2.1 g.2.2.0, g.2.2.1)),
    (λ s. held_back (λ e. e.1.party ≡ number) s.0 s.1 s.2),
  )

  credit_rrrs : Says (rrrs ∷ rrrs ∷ []) known.credit_rrrs (col 2 1) h caller t number ↔ selects selection.CreditEntries t h caller number
  credit_rrrs = (
    (λ g. (g.2.0.what, credit_told g.0 g.2.0 g.1 g.2.1 g.2.2.0, g.2.2.1)),
    (λ s. credit_back (λ e. e.0 ≡ number) s.0 s.1 s.2),
  )

  credit_parties : Says (rrrs ∷ rrrs ∷ []) known.credit_rrrs (col 2 3) h caller t number ↔ selects selection.CreditParties t h caller number
  credit_parties = (
    (λ g. (g.2.0.what, credit_told g.0 g.2.0 g.1 g.2.1 g.2.2.0, g.2.2.1)),
    (λ s. credit_back (λ e. e.1.party ≡ number) s.0 s.1 s.2),
  )

  -- through groups

  abbrev GroupSays : Version GroupMember → Version Entry → Version Entry → Type 0
  GroupSays m e s =
      (e.what.1.party ≡ m.what.group) × ((s.what.1.unit ≡ e.what.1.unit) × ((m.what.member.party ≡ caller) × (IsRightWord e.what.1.class
      × (SaysToHolder e.what.1.class s.what.1.class × Lasts m (Lasts e (Lasts s (Unit {0})))))))

  abbrev Three : (Version GroupMember → Version Entry → Version Entry → Type 0) → Type 0
  Three P = (m : Version GroupMember) × Has h.members m × Two (P m)

  group_told : (m : Version GroupMember) (e s : Version Entry) → Has h.members m → Has h.rrrs e → Has h.rrrs s → GroupSays m e s → IsGroupTold s.what
  group_told m e s joined has there say = record {
    held = e.what;
    interest = record {
      joined = m.what;
      joined_stands = stood t h.members m joined say.1.1.1.1.1.0 say.1.1.1.1.1.1.0;
      stands = stood t h.rrrs e has say.1.1.1.1.1.1.1.0 say.1.1.1.1.1.1.1.1.0;
      group = say.0;
      member = say.1.1.0;
      class = (a_right e.what.1.class).1 say.1.1.1.0;
    };
    stands = stood t h.rrrs s there say.1.1.1.1.1.1.1.1.1.0 say.1.1.1.1.1.1.1.1.1.1.0;
    unit = say.1.0;
    yields = to_holder e.what s.what say.1.1.1.1.0;
  }

  group_back : (Shown : Entry → Type 0) (seen : Entry) → IsGroupTold seen → Shown seen → Three (λ m e s. GroupSays m e s × Shown s.what)
  group_back Shown seen told shown =
      let m = version t h.members told.interest.joined told.interest.joined_stands in
      let e = version t h.rrrs told.held told.interest.stands in
      let s = version t h.rrrs seen told.stands in (
        of told.interest.joined m.since m.until,
        m.has,
        (
          of told.held e.since e.until,
          e.has,
          (
            of seen s.since s.until,
            s.has,
            (
              (
                told.interest.group,
                (
                  told.unit,
                  (
                    told.interest.member,
                    (
                      (a_right told.held.1.class).0 told.interest.class,
                      (
                        by_holder told.held seen told.yields,
                        (m.begun, (m.going, (e.begun, (e.going, (s.begun, (s.going, tt)))))),
                      ),
                    ),
                  ),
                ),
              ),
              shown,
            ),
          ),
        ),
      )

  group_rrrs : Says (members ∷ rrrs ∷ rrrs ∷ []) known.group_rrrs (col 3 1) h caller t number ↔ selects selection.GroupEntries t h caller number
  group_rrrs = (
    (λ g. (g.2.2.0.what, group_told g.0 g.2.0 g.2.2.0 g.1 g.2.1 g.2.2.1 g.2.2.2.0, g.2.2.2.1)),
    (λ s. group_back (λ e. e.0 ≡ number) s.0 s.1 s.2),
  )

  group_parties : Says (members ∷ rrrs ∷ rrrs ∷ []) known.group_rrrs (col 3 3) h caller t number ↔ selects selection.GroupParties t h caller number
  group_parties = (
    (λ g. (g.2.2.0.what, group_told g.0 g.2.0 g.2.2.0 g.1 g.2.1 g.2.2.1 g.2.2.2.0, g.2.2.2.1)),
    (λ s. group_back (λ e. e.1.party ≡ number) s.0 s.1 s.2),
  )

  -- mutations that refer to units that the caller holds

  held_mutations : Says (rrrs ∷ names ∷ []) known.held_mutations (col 2 1) h caller t number ↔ selects selection.HeldMutations t h caller number
  held_mutations = (
    (λ g. let e = g.0 in let n = g.2.0 in let say = g.2.2.0 in (
      n.what,
      record {
        held = e.what;
        interest = record { stands = stood t h.rrrs e g.1 say.1.1.1.0 say.1.1.1.1.0; party = say.1.0; class = (a_right e.what.1.class).1 say.1.1.0 };
        stands = stood t h.namings n g.2.1 say.1.1.1.1.1.0 say.1.1.1.1.1.1.0;
        unit = say.0;
      },
      g.2.2.1,
    )),
    (λ s. let told = s.1 in let e = version t h.rrrs told.held told.interest.stands in let n = version t h.namings s.0 told.stands in (
      of told.held e.since e.until,
      e.has,
      (
        of s.0 n.since n.until,
        n.has,
        ((told.unit, (told.interest.party, ((a_right told.held.1.class).0 told.interest.class, (e.begun, (e.going, (n.begun, (n.going, tt))))))), s.2),
      ),
    )),
  )

  group_mutations : Says (members ∷ rrrs ∷ names ∷ []) known.group_mutations (col 3 1) h caller t number ↔ selects selection.GroupMutations t h caller number
  group_mutations = (
    (λ g. let m = g.0 in let e = g.2.0 in let n = g.2.2.0 in let say = g.2.2.2.0 in (
      n.what,
      record {
        held = e.what;
        interest = record {
          joined = m.what;
          joined_stands = stood t h.members m g.1 say.1.1.1.1.0 say.1.1.1.1.1.0;
          stands = stood t h.rrrs e g.2.1 say.1.1.1.1.1.1.0 say.1.1.1.1.1.1.1.0;
          group = say.0;
          member = say.1.1.0;
          class = (a_right e.what.1.class).1 say.1.1.1.0;
        };
        stands = stood t h.namings n g.2.2.1 say.1.1.1.1.1.1.1.1.0 say.1.1.1.1.1.1.1.1.1.0;
        unit = say.1.0;
      },
      g.2.2.2.1,
    )),
    (λ s. let told = s.1 in let m = version t h.members told.interest.joined told.interest.joined_stands in let e = version t h.rrrs told.held told.interest.stands in let n = version t h.namings s.0 told.stands in (
      of told.interest.joined m.since m.until,
      m.has,
      (
        of told.held e.since e.until,
        e.has,
        (
          of s.0 n.since n.until,
          n.has,
          ((told.interest.group, (told.unit, (told.interest.member, ((a_right told.held.1.class).0 told.interest.class, (m.begun, (m.going, (e.begun, (e.going, (n.begun, (n.going, tt)))))))))), s.2),
        ),
      ),
    )),
  )

  -- the targets of a pending mutation of the caller

  awaits : (unit : ℕ) (m : Version (ℕ × MutationRecord)) (n : Version Naming) → Has h.mutations m → Has h.namings n → n.what.mutation ≡ m.what.0 → m.what.1.lodger ≡ caller
      → state_word m.what.1.state ≡ codes "lodged" → int_le m.since t ≡ true → int_lt t m.until ≡ true → int_le n.since t ≡ true → int_lt t n.until ≡ true → unit ≡ n.what.unit → LodgedPending t h caller unit
  awaits unit m n has there by lodger lodged begun going named_begun named_going named = record {
    mutation = m.what;
    mutation_stands = stood t h.mutations m has begun going;
    naming = n.what;
    naming_stands = stood t h.namings n there named_begun named_going;
    named_by = by;
    lodger = lodger;
    undecided = (undecided m.what.1.state).1 lodged;
    named = sym named;
  }

  lodged_units : Says (mutations ∷ names ∷ units ∷ []) known.lodged_units (col 3 1) h caller t number ↔ selects selection.LodgedUnits t h caller number
  lodged_units = (
    (λ g. let m = g.0 in let n = g.2.0 in let u = g.2.2.0 in let say = g.2.2.2.0 in (
      u.what,
      stood t h.units u g.2.2.1 say.1.1.1.1.1.1.1.1.0 say.1.1.1.1.1.1.1.1.1.0,
      awaits u.what.0 m n g.1 g.2.1 say.0 say.1.1.0 say.1.1.1.0 say.1.1.1.1.0 say.1.1.1.1.1.0 say.1.1.1.1.1.1.0 say.1.1.1.1.1.1.1.0 say.1.0,
      g.2.2.2.1,
    )),
    (λ s. let a = s.2 in let m = version t h.mutations a.mutation a.mutation_stands in let n = version t h.namings a.naming a.naming_stands in let u = version t h.units s.0 s.1 in (
      of a.mutation m.since m.until,
      m.has,
      (
        of a.naming n.since n.until,
        n.has,
        (
          of s.0 u.since u.until,
          u.has,
          ((a.named_by, (sym a.named, (a.lodger, ((undecided a.mutation.1.state).0 a.undecided, (m.begun, (m.going, (n.begun, (n.going, (u.begun, (u.going, tt)))))))))), s.3),
        ),
      ),
    )),
  )

  abbrev LodgedSays : Version (ℕ × MutationRecord) → Version Naming → Version Entry → Type 0
  LodgedSays m n e =
      (n.what.mutation ≡ m.what.0) × ((e.what.1.unit ≡ n.what.unit) × ((m.what.1.lodger ≡ caller) × ((state_word m.what.1.state ≡ codes "lodged")
      × Lasts m (Lasts n (Lasts e (Unit {0}))))))

  awaited : (m : Version (ℕ × MutationRecord)) (n : Version Naming) (e : Version Entry) → Has h.mutations m → Has h.namings n → Has h.rrrs e → LodgedSays m n e → IsPendingEntry t h caller e.what
  awaited m n e has there seen say = record {
    awaits = awaits e.what.1.unit m n has there say.0 say.1.1.0 say.1.1.1.0 say.1.1.1.1.0 say.1.1.1.1.1.0 say.1.1.1.1.1.1.0 say.1.1.1.1.1.1.1.0 say.1.0;
    stands = stood t h.rrrs e seen say.1.1.1.1.1.1.1.1.0 say.1.1.1.1.1.1.1.1.1.0;
  }

  awaited_back : (Shown : Entry → Type 0) (seen : Entry) → IsPendingEntry t h caller seen → Shown seen
      → (m : Version (ℕ × MutationRecord)) × Has h.mutations m × ((n : Version Naming) × Has h.namings n × ((e : Version Entry) × Has h.rrrs e × (LodgedSays m n e × Shown e.what)))
  awaited_back Shown seen it shown =
      let a = it.awaits in
      let m = version t h.mutations a.mutation a.mutation_stands in
      let n = version t h.namings a.naming a.naming_stands in
      let e = version t h.rrrs seen it.stands in (
        of a.mutation m.since m.until,
        m.has,
        (
          of a.naming n.since n.until,
          n.has,
          (
            of seen e.since e.until,
            e.has,
            (
              (a.named_by, (sym a.named, (a.lodger, ((undecided a.mutation.1.state).0 a.undecided, (m.begun, (m.going, (n.begun, (n.going, (e.begun, (e.going, tt)))))))))),
              shown,
            ),
          ),
        ),
      )

  lodged_rrrs : Says (mutations ∷ names ∷ rrrs ∷ []) known.lodged_rrrs (col 3 1) h caller t number ↔ selects selection.LodgedEntries t h caller number
  lodged_rrrs = (
    (λ g. (g.2.2.0.what, awaited g.0 g.2.0 g.2.2.0 g.1 g.2.1 g.2.2.1 g.2.2.2.0, g.2.2.2.1)),
    (λ s. awaited_back (λ e. e.0 ≡ number) s.0 s.1 s.2),
  )

  lodged_parties : Says (mutations ∷ names ∷ rrrs ∷ []) known.lodged_rrrs (col 3 3) h caller t number ↔ selects selection.LodgedParties t h caller number
  lodged_parties = (
    (λ g. (g.2.2.0.what, awaited g.0 g.2.0 g.2.2.0 g.1 g.2.1 g.2.2.1 g.2.2.2.0, g.2.2.2.1)),
    (λ s. awaited_back (λ e. e.1.party ≡ number) s.0 s.1 s.2),
  )

-- ---- all of them

abbrev pub places_of : Selection → List Place
places_of (selection.All kind.Party) = parties ∷ []
places_of (selection.All kind.Unit) = units ∷ []
places_of (selection.All kind.Parcel) = parcels ∷ []
places_of (selection.All kind.Rrr) = rrrs ∷ []
places_of (selection.All kind.Source) = sources ∷ []
places_of (selection.All kind.Mutation) = mutations ∷ []
places_of selection.UnendedUnits = units ∷ []
places_of selection.UnendedParcels = parcels ∷ []
places_of selection.Itself = parties ∷ []
places_of selection.ItsGroups = members ∷ []
places_of selection.ItsLodgings = mutations ∷ []
places_of selection.HeldUnits = rrrs ∷ []
places_of selection.GroupUnits = members ∷ rrrs ∷ []
places_of selection.HeldEntries = rrrs ∷ rrrs ∷ []
places_of selection.GroupEntries = members ∷ rrrs ∷ rrrs ∷ []
places_of selection.HeldParties = rrrs ∷ rrrs ∷ []
places_of selection.GroupParties = members ∷ rrrs ∷ rrrs ∷ []
places_of selection.HeldMutations = rrrs ∷ names ∷ []
places_of selection.GroupMutations = members ∷ rrrs ∷ names ∷ []
places_of selection.CreditUnits = rrrs ∷ []
places_of selection.CreditEntries = rrrs ∷ rrrs ∷ []
places_of selection.CreditParties = rrrs ∷ rrrs ∷ []
places_of selection.LodgedUnits = mutations ∷ names ∷ units ∷ []
places_of selection.LodgedEntries = mutations ∷ names ∷ rrrs ∷ []
places_of selection.LodgedParties = mutations ∷ names ∷ rrrs ∷ []

abbrev pub filter_of : Selection → List Term
filter_of (selection.All kind.Party) = known.all_parties
filter_of (selection.All kind.Unit) = known.all_units
filter_of (selection.All kind.Parcel) = known.all_parcels
filter_of (selection.All kind.Rrr) = known.all_rrrs
filter_of (selection.All kind.Source) = known.all_sources
filter_of (selection.All kind.Mutation) = known.all_mutations
filter_of selection.UnendedUnits = known.unended_units
filter_of selection.UnendedParcels = known.unended_parcels
filter_of selection.Itself = known.itself
filter_of selection.ItsGroups = known.its_groups
filter_of selection.ItsLodgings = known.its_lodgings
filter_of selection.HeldUnits = known.held_units
filter_of selection.GroupUnits = known.group_units
filter_of selection.HeldEntries = known.held_rrrs
filter_of selection.GroupEntries = known.group_rrrs
filter_of selection.HeldParties = known.held_rrrs
filter_of selection.GroupParties = known.group_rrrs
filter_of selection.HeldMutations = known.held_mutations
filter_of selection.GroupMutations = known.group_mutations
filter_of selection.CreditUnits = known.credit_units
filter_of selection.CreditEntries = known.credit_rrrs
filter_of selection.CreditParties = known.credit_rrrs
filter_of selection.LodgedUnits = known.lodged_units
filter_of selection.LodgedEntries = known.lodged_rrrs
filter_of selection.LodgedParties = known.lodged_rrrs

abbrev pub shown_of : Selection → Term
shown_of (selection.All any) = col 1 1
shown_of selection.UnendedUnits = col 1 1
shown_of selection.UnendedParcels = col 1 1
shown_of selection.Itself = col 1 1
shown_of selection.ItsGroups = col 1 1
shown_of selection.ItsLodgings = col 1 1
shown_of selection.HeldUnits = col 1 2
shown_of selection.GroupUnits = col 2 2
shown_of selection.HeldEntries = col 2 1
shown_of selection.GroupEntries = col 3 1
shown_of selection.HeldParties = col 2 3
shown_of selection.GroupParties = col 3 3
shown_of selection.HeldMutations = col 2 1
shown_of selection.GroupMutations = col 3 1
shown_of selection.CreditUnits = col 1 2
shown_of selection.CreditEntries = col 2 1
shown_of selection.CreditParties = col 2 3
shown_of selection.LodgedUnits = col 3 1
shown_of selection.LodgedEntries = col 3 1
shown_of selection.LodgedParties = col 3 3

pub join_of : (s : Selection) → IsJoin (selection_text s) (places_of s) (filter_of s) (shown_of s)
join_of (selection.All kind.Party) = known.all_parties_join
join_of (selection.All kind.Unit) = known.all_units_join
join_of (selection.All kind.Parcel) = known.all_parcels_join
join_of (selection.All kind.Rrr) = known.all_rrrs_join
join_of (selection.All kind.Source) = known.all_sources_join
join_of (selection.All kind.Mutation) = known.all_mutations_join
join_of selection.UnendedUnits = known.unended_units_join
join_of selection.UnendedParcels = known.unended_parcels_join
join_of selection.Itself = known.itself_join
join_of selection.ItsGroups = known.its_groups_join
join_of selection.ItsLodgings = known.its_lodgings_join
join_of selection.HeldUnits = known.held_units_join
join_of selection.GroupUnits = known.group_units_join
join_of selection.HeldEntries = known.held_rrrs_join
join_of selection.GroupEntries = known.group_rrrs_join
join_of selection.HeldParties = known.held_parties_join
join_of selection.GroupParties = known.group_parties_join
join_of selection.HeldMutations = known.held_mutations_join
join_of selection.GroupMutations = known.group_mutations_join
join_of selection.CreditUnits = known.credit_units_join
join_of selection.CreditEntries = known.credit_rrrs_join
join_of selection.CreditParties = known.credit_parties_join
join_of selection.LodgedUnits = known.lodged_units_join
join_of selection.LodgedEntries = known.lodged_rrrs_join
join_of selection.LodgedParties = known.lodged_parties_join

-- the terms of a statement select what its selection selects
pub selected : (s : Selection) (h : History) (caller : ℕ) (t : ℤ) (number : ℕ) → Says (places_of s) (filter_of s) (shown_of s) h caller t number ↔ selects s t h caller number
selected (selection.All kind.Party) = all_parties
selected (selection.All kind.Unit) = all_units
selected (selection.All kind.Parcel) = all_parcels
selected (selection.All kind.Rrr) = all_rrrs
selected (selection.All kind.Source) = all_sources
selected (selection.All kind.Mutation) = all_mutations
selected selection.UnendedUnits = unended_units
selected selection.UnendedParcels = unended_parcels
selected selection.Itself = itself
selected selection.ItsGroups = its_groups
selected selection.ItsLodgings = its_lodgings
selected selection.HeldUnits = held_units
selected selection.GroupUnits = group_units
selected selection.HeldEntries = held_rrrs
selected selection.GroupEntries = group_rrrs
selected selection.HeldParties = held_parties
selected selection.GroupParties = group_parties
selected selection.HeldMutations = held_mutations
selected selection.GroupMutations = group_mutations
selected selection.CreditUnits = credit_units
selected selection.CreditEntries = credit_rrrs
selected selection.CreditParties = credit_parties
selected selection.LodgedUnits = lodged_units
selected selection.LodgedEntries = lodged_rrrs
selected selection.LodgedParties = lodged_parties

-- a statement returns what its selection selects
pub texts_select : TextsSelect
texts_select s indexes db moments h caller t held =
    meaning (places_of s) (filter_of s) (shown_of s) (selection_text s) (join_of s) indexes db moments h caller t (selects s t h caller) held (selected s h caller t)
