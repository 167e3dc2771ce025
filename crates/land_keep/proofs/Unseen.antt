-- Proof that replies reveal nothing unseen: the reply to a view, a list or a sheet depends only on the
-- objects in sight.
use Rattle.std.proofs.Common.{◌≡◌, ◌⊎◌, inl, inr, ℕ, Bool, true, false, ◌&&◌, not, cond, List, [], ◌∷◌, filter, Option, Some, None, is_some, refl, sym, ap, ◌∙◌, subst}
use Rattle.std.specs.Prelude.{ℤ, nat_eq, int_lt, int_le, fold, unwrap_or, map as map_list}
use Rattle.std.specs.Cmp.{nat_cmp_total}
use Rattle.std.specs.FinMap as map
use Rattle.std.specs.FinMap.{FinMap, nat_cmp-IsAntisymmetric}
use Rattle.std.specs.List.{AllByRecursion}
use Rattle.std.specs.Option.{option_map, option_map_or}
use Rattle.std.specs.Ordering.{nat_cmp}
use Rattle.std.proofs.lemmas.Bool.{false≢true}
use Rattle.land_core.proofs.Reflection.{each_there}
use Rattle.land_core.specs.Entries.{has}
use Rattle.land_core.specs.Register.{empty_register, object_at, parcel_at, party_at, unit_at}
use Rattle.land_core.specs.Soundness.{IsSound}
use Rattle.land_core.specs.declared.ask.Ask.{Ask}
use Rattle.land_core.specs.declared.ask.Ask.TheVariants as ask
use Rattle.land_core.specs.declared.caller.Caller.{Caller}
use Rattle.land_core.specs.declared.kind.Kind.{Kind}
use Rattle.land_core.specs.declared.kind.Kind.TheVariants as kind
use Rattle.land_core.specs.declared.object.Object.{Object}
use Rattle.land_core.specs.declared.object.Object.TheVariants as object
use Rattle.land_core.specs.declared.parcel.Parcel.{Parcel}
use Rattle.land_core.specs.declared.parcel.ParcelRecord.{ParcelRecord}
use Rattle.land_core.specs.declared.party.Party.{Party}
use Rattle.land_core.specs.declared.party.PartyRecord.{PartyRecord}
use Rattle.land_core.specs.declared.register.Register.{Register}
use Rattle.land_core.specs.declared.rrr.Rrr.{Rrr}
use Rattle.land_core.specs.declared.rrr.RrrRecord.{RrrRecord}
use Rattle.land_keep.proofs.Timelines.{sound_or_nothing}
use Rattle.land_keep.proofs.TwoRegisters.{by_verdict, shows, step_told, told}
use Rattle.land_keep.specs.Laws.{RepliesRevealNothingUnseen}
use Rattle.land_keep.specs.Machine.{asked_moment, now_of, sheet_reply, step, view_reply}
use Rattle.land_keep.specs.Sheets.{visible_entries, name_at, named_rrr, parcels_at, numbered_parcel, view_at}
use Rattle.land_keep.specs.Timeline.{Timeline, IsSoundTimeline, last_register, register_at}
use Rattle.land_keep.specs.declared.reply.Reply.{Reply}
use Rattle.land_keep.specs.declared.reply.Reply.TheVariants as reply
use Rattle.land_keep.specs.declared.timeline.Version.{Version}
use Rattle.land_keep.specs.declared.view.NamedRrr.{NamedRrr}
use Rattle.land_keep.specs.declared.view.View.{View}
use Rattle.land_rules.proofs.Alike.{flip, inside, parcel_in_sight, party_in_sight, same_objects, same_sight, same_verdicts}
use Rattle.land_rules.specs.Alike.{IsReadRequest, LookAlike, WorldsLookAlike, visible_objects}
use Rattle.land_rules.specs.Laws.{IsSoundOrNothing}
use Rattle.land_rules.specs.Rules.{first_denial, is_allowed, sees_only_present, seen_of, sees, verdict_of, view_rules}
use Rattle.land_rules.specs.declared.verdict.Verdict.{Verdict}
use Rattle.land_rules.specs.declared.verdict.Verdict.TheVariants.{Allowed, Denied}

-- ---- lists

module _ {X : Type 0} where
  -- a property of all items holds of those that pass a test, together with the test
  all_passing : (P : X → Type 0) (p : X → Bool) (xs : List X) → AllByRecursion P xs → AllByRecursion (λ x. P x × (p x ≡ true)) (filter p xs)
  all_passing P p [] h = tt
  all_passing P p (x ∷ xs) h =
      elim (p x) as (λ b. p x ≡ b → AllByRecursion (λ y. P y × (p y ≡ true)) (cond b (x ∷ filter p xs) (filter p xs))) [
        | true ↦ λ e. ((h.0, e), all_passing P p xs h.1)
        | false ↦ λ e. all_passing P p xs h.1
      ] refl

  all_more : (P Q : X → Type 0) → ((x : X) → P x → Q x) → (xs : List X) → AllByRecursion P xs → AllByRecursion Q xs
  all_more P Q f [] h = tt
  all_more P Q f (x ∷ xs) h = (f x h.0, all_more P Q f xs h.1)

  two_tests : (p q : X → Bool) (xs : List X) → filter (λ x. p x && q x) xs ≡ filter p (filter q xs)
  two_tests p q [] = refl
  two_tests p q (x ∷ xs) = go (p x) (q x) refl (two_tests p q xs)
    where
      go : (a b : Bool) → p x ≡ a → filter (λ y. p y && q y) xs ≡ filter p (filter q xs)
          → cond (a && b) (x ∷ filter (λ y. p y && q y) xs) (filter (λ y. p y && q y) xs) ≡ filter p (cond b (x ∷ filter q xs) (filter q xs))
      go true true e rest = ap (λ it. x ∷ it) rest ∙ ap (λ c. cond c (x ∷ filter p (filter q xs)) (filter p (filter q xs))) (sym e)
      go true false e rest = rest
      go false true e rest = rest ∙ ap (λ c. cond c (x ∷ filter p (filter q xs)) (filter p (filter q xs))) (sym e)
      go false false e rest = rest

head_is : {Y : Type 0} {a b : Y} {xs ys : List Y} → a ∷ xs ≡ b ∷ ys → a ≡ b
head_is e = cc

tail_is : {Y : Type 0} {a b : Y} {xs ys : List Y} → a ∷ xs ≡ b ∷ ys → xs ≡ ys
tail_is e = cc

empty_is_not : {Y : Type 0} {a : Y} {xs : List Y} → [] ≡ a ∷ xs → ⊥
empty_is_not e = cc

module _ {X Y : Type 0} where
  same_items : (f g : X → Y) (xs : List X) → AllByRecursion (λ x. f x ≡ g x) xs → map_list f xs ≡ map_list g xs
  same_items f g [] h = refl
  same_items f g (x ∷ xs) h = ap (λ it. it ∷ map_list f xs) h.0 ∙ ap (λ it. g x ∷ it) (same_items f g xs h.1)

  -- an injective map of lists is injective
  exact_items : (f : X → Y) → ((a b : X) → f a ≡ f b → a ≡ b) → (xs ys : List X) → map_list f xs ≡ map_list f ys → xs ≡ ys
  exact_items f exact [] [] e = refl
  exact_items f exact [] (y ∷ ys) e = absurd (empty_is_not e)
  exact_items f exact (x ∷ xs) [] e = absurd (empty_is_not (sym e))
  exact_items f exact (x ∷ xs) (y ∷ ys) e = ap (λ it. it ∷ xs) (exact x y (head_is e)) ∙ ap (λ it. y ∷ it) (exact_items f exact xs ys (tail_is e))

twice_mapped : {X Y Z : Type 0} (f : X → Y) (g : Y → Z) (xs : List X) → map_list g (map_list f xs) ≡ map_list (λ x. g (f x)) xs
twice_mapped f g [] = refl
twice_mapped f g (x ∷ xs) = ap (λ it. g (f x) ∷ it) (twice_mapped f g xs)

-- ---- records in replies

by_sight : {V : Type 0} (x y : Option V) → is_some x ≡ is_some y → (is_some x ≡ true → x ≡ y) → x ≡ y
by_sight None None e h = refl
by_sight None (Some v) e h = absurd (false≢true e)
by_sight (Some v) y e h = h refl

abbrev kept_parcel : Parcel → ParcelRecord
kept_parcel p = record { unit = p.unit; label = p.label; outline = p.outline; source = p.source }

abbrev shown_rrr : ℕ × RrrRecord → Rrr
shown_rrr e = record { number = e.0; unit = e.1.unit; party = e.1.party; class = e.1.class; source = e.1.source }

abbrev kept_rrr : Rrr → ℕ × RrrRecord
kept_rrr e = (e.number, record { unit = e.unit; party = e.party; class = e.class; source = e.source })

abbrev shown_entry : ℕ × RrrRecord → ℕ × Option Object
shown_entry e = (e.0, Some (object.Rrr (shown_rrr e)))

exact_rrr : (a b : Rrr) → Some (object.Rrr a) ≡ Some (object.Rrr b) → a ≡ b
exact_rrr a b e = cc

exact_entry : (a b : ℕ × RrrRecord) → shown_entry a ≡ shown_entry b → a ≡ b
exact_entry a b e = ap kept_rrr (exact_rrr (shown_rrr a) (shown_rrr b) (ap (λ it. it.1) e))

name_in : (o : Option PartyRecord) (n : ℕ) (r : Register) → option_map_or (λ p. p.name) o []
    ≡ option_map_or (λ (p : Party). p.name) (option_map (λ p. record { number = n; kind = p.kind; name = p.name; members = Rattle.land_core.specs.Register.members_of r n; roles = Rattle.land_core.specs.Register.roles_of r n }) o) []
name_in None n r = refl
name_in (Some p) n r = refl

module _ (at : Register) (caller : Caller) where
  -- the entries in sight
  abbrev in_sight : List (ℕ × RrrRecord)
  in_sight = filter (λ e. sees at caller kind.Rrr e.0) (map.entries at.rrrs)

  abbrev IsInSight : ℕ × RrrRecord → Type 0
  IsInSight e = (map.get at.rrrs e.0 ≡ Some e.1) × (sees at caller kind.Rrr e.0 ≡ true)

  all_in_sight : AllByRecursion IsInSight in_sight
  all_in_sight = all_passing (λ e. map.get at.rrrs e.0 ≡ Some e.1) (λ e. sees at caller kind.Rrr e.0) (map.entries at.rrrs) (each_there nat_cmp_total nat_cmp-IsAntisymmetric at.rrrs)

  shown_entries : visible_objects at caller kind.Rrr ≡ map_list shown_entry in_sight
  shown_entries =
      twice_mapped (λ (e : ℕ × RrrRecord). e.0) (λ n. let it : ℕ × Option Object = (n, object_at at kind.Rrr n) in it) in_sight
      ∙ same_items (λ (e : ℕ × RrrRecord). let it : ℕ × Option Object = (e.0, object_at at kind.Rrr e.0) in it) shown_entry in_sight
      (all_more IsInSight (λ e. (let it : ℕ × Option Object = (e.0, object_at at kind.Rrr e.0) in it) ≡ shown_entry e)
      (λ e is. ap (λ o. (e.0, option_map object.Rrr (option_map (λ (x : RrrRecord). shown_rrr (e.0, x)) o))) is.0) in_sight all_in_sight)

  seen_entries : (unit : ℕ) → visible_entries at caller unit ≡ map_list (λ e. named_rrr at e.0 e.1) (filter (λ e. nat_eq e.1.unit unit) in_sight)
  seen_entries unit = ap (map_list (λ e. named_rrr at e.0 e.1)) (two_tests (λ e. nat_eq e.1.unit unit) (λ e. sees at caller kind.Rrr e.0) (map.entries at.rrrs))

-- ---- a sheet depends only on the objects in sight

module _ (one other : Register) (caller : Caller) (sound : IsSoundOrNothing one) (alike : LookAlike one other caller) where
  same_name : (n : ℕ) → sees one caller kind.Party n ≡ true → name_at one n ≡ name_at other n
  same_name n h =
      name_in (map.get one.parties n) n one
      ∙ ap (λ o. option_map_or (λ (p : Party). p.name) o []) (inside object.Party (λ a b same. cc) (party_at one n) (party_at other n) (same_objects one other caller alike kind.Party n h))
      ∙ sym (name_in (map.get other.parties n) n other)

  same_parcel : (n : ℕ) → sees one caller kind.Parcel n ≡ true → map.get one.parcels n ≡ map.get other.parcels n
  same_parcel n h =
      inside (λ (p : ParcelRecord). numbered_parcel n p) (λ a b same. ap kept_parcel same) (map.get one.parcels n) (map.get other.parcels n)
      (inside object.Parcel (λ a b same. cc) (parcel_at one n) (parcel_at other n) (same_objects one other caller alike kind.Parcel n h))

  same_parcels : one.parcels ≡ other.parcels
  same_parcels = map.same_map nat_cmp_total nat_cmp-IsAntisymmetric one.parcels other.parcels (λ n.
      by_sight (map.get one.parcels n) (map.get other.parcels n)
      (sym (parcel_in_sight one caller n) ∙ same_sight one other caller alike kind.Parcel n ∙ parcel_in_sight other caller n)
      (λ h. same_parcel n (parcel_in_sight one caller n ∙ h)))

  same_in_sight : in_sight one caller ≡ in_sight other caller
  same_in_sight = exact_items shown_entry exact_entry (in_sight one caller) (in_sight other caller)
      (sym (shown_entries one caller) ∙ alike.shown kind.Rrr ∙ shown_entries other caller)

  same_entries : (unit : ℕ) → visible_entries one caller unit ≡ visible_entries other caller unit
  same_entries unit =
      let AreNamedAlike : ℕ × RrrRecord → Type 0 = λ e. named_rrr one e.0 e.1 ≡ named_rrr other e.0 e.1 in
      let named : AllByRecursion AreNamedAlike (in_sight one caller) = all_more (IsInSight one caller) AreNamedAlike
      (λ e is. ap (λ name. let it : NamedRrr = record { rrr = shown_rrr e; name = name } in it) (same_name e.1.party (party_in_sight one sound e.0 e.1 is.0 caller is.1)))
      (in_sight one caller) (all_in_sight one caller) in
      let of_unit = all_more (λ e. AreNamedAlike e × (nat_eq e.1.unit unit ≡ true)) AreNamedAlike (λ e is. is.0) (filter (λ e. nat_eq e.1.unit unit) (in_sight one caller))
      (all_passing AreNamedAlike (λ e. nat_eq e.1.unit unit) (in_sight one caller) named) in
      seen_entries one caller unit
      ∙ same_items (λ e. named_rrr one e.0 e.1) (λ e. named_rrr other e.0 e.1) (filter (λ e. nat_eq e.1.unit unit) (in_sight one caller)) of_unit
      ∙ ap (λ es. map_list (λ e. named_rrr other e.0 e.1) (filter (λ e. nat_eq e.1.unit unit) es)) same_in_sight
      ∙ sym (seen_entries other caller unit)

  same_unit : (unit : ℕ) → sees one caller kind.Unit unit ≡ true → unit_at one unit ≡ unit_at other unit
  same_unit unit h = inside object.Unit (λ a b same. cc) (unit_at one unit) (unit_at other unit) (same_objects one other caller alike kind.Unit unit h)

  same_sheet : (unit : ℕ) (moment : ℤ) → sees one caller kind.Unit unit ≡ true → view_at one caller unit moment ≡ view_at other caller unit moment
  same_sheet unit moment h =
      ap (option_map (λ u. let it : View = record { unit = u; parcels = parcels_at one unit; rrrs = visible_entries one caller unit; at = moment } in it)) (same_unit unit h)
      ∙ ap (λ ps. option_map (λ u. let it : View = record { unit = u; parcels = map_list (λ e. numbered_parcel e.0 e.1) (filter (λ e. nat_eq e.1.unit unit) (map.entries ps)); rrrs = visible_entries one caller unit; at = moment } in it) (unit_at other unit)) same_parcels
      ∙ ap (λ es. option_map (λ u. let it : View = record { unit = u; parcels = parcels_at other unit; rrrs = es; at = moment } in it) (unit_at other unit)) (same_entries unit)

-- ---- replies

-- two replies need to be equal only if the verdict allows them
same_reply : (v : Verdict) (r s : Reply) → (v ≡ Allowed → r ≡ s) → by_verdict v r ≡ by_verdict v s
same_reply Allowed r s h = h refl
same_reply (Denied k) r s h = refl

-- if no rule denies a view, its object is in sight
view_passes : (s h late : Bool) (v : Verdict) → cond (not s) (Denied 1) (cond (not h) (Denied 2) (cond late (Denied 3) v)) ≡ Allowed → is_allowed v ≡ true
view_passes true true true v e = absurd (let it : Denied 3 ≡ Allowed = e in cc)
view_passes true true false v e = ap is_allowed e
view_passes true false late v e = absurd (let it : Denied 2 ≡ Allowed = e in cc)
view_passes false h late v e = absurd (let it : Denied 1 ≡ Allowed = e in cc)

same_shown : (now : ℤ) (last other_last at other_at : Register) (caller : Caller) (a : Ask) (past : Bool) → WorldsLookAlike last other_last at other_at caller
    → IsReadRequest a → verdict_of last at caller a past ≡ Allowed → shows now at caller a ≡ shows now other_at caller a
same_shown now last other_last at other_at caller (ask.View k number moment) past alike read free =
    ap (λ o. Rattle.land_keep.specs.Machine.object_reply o) (same_objects at other_at caller alike.asked k number (view_passes _ _ (past && sees_only_present caller) (first_denial (view_rules at caller k number)) free))
same_shown now last other_last at other_at caller (ask.List k moment) past alike read free = ap reply.Numbers (Rattle.land_rules.proofs.Alike.same_numbers at other_at caller alike.asked k)
same_shown now last other_last at other_at caller (ask.Sheet unit moment) past alike read free =
    ap sheet_reply (same_sheet at other_at caller alike.one alike.asked unit (unwrap_or moment now)
    (view_passes _ _ (past && sees_only_present caller) (first_denial (view_rules at caller kind.Unit unit)) free))
same_shown now last other_last at other_at caller (ask.Do it) past alike read free = absurd read

same_told : (now : ℤ) (last other_last at other_at : Register) (caller : Caller) (a : Ask) → WorldsLookAlike last other_last at other_at caller
    → IsReadRequest a → told now last at caller a ≡ told now other_last other_at caller a
same_told now last other_last at other_at caller a alike read =
    let past = int_lt (asked_moment a now) now in
    ap (cond (int_lt now (asked_moment a now)) (reply.Fault 135))
    (same_reply (verdict_of last at caller a past) (shows now at caller a) (shows now other_at caller a) (same_shown now last other_last at other_at caller a past alike read)
    ∙ ap (λ v. by_verdict v (shows now other_at caller a)) (same_verdicts last other_last at other_at caller a past alike read))

pub replies_reveal_nothing_unseen : RepliesRevealNothingUnseen
replies_reveal_nothing_unseen clock other_clock request one other sound also read now last at =
    let a = request.ask in
    let t = asked_moment a (now_of clock one) in
    let same_moment : register_at other t ≡ register_at other (asked_moment a (now_of other_clock other)) = ap (λ n. register_at other (asked_moment a n)) now in
    step_told clock request.caller a one read
    ∙ same_told (now_of clock one) (last_register one) (last_register other) (register_at one t) (register_at other t) request.caller a
    (record { last = last; asked = at; one = sound_or_nothing one t sound; other = sound_or_nothing other t also }) read
    ∙ ap (λ (n : ℤ). told n (last_register other) (register_at other (asked_moment a n)) request.caller a) now
    ∙ sym (step_told other_clock request.caller a other read)
