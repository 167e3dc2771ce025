-- Values that were read are within the limits of their fields.
use Rattle.std.proofs.Common.{◌≡◌, ℕ, List, [], ◌∷◌, Bool, true, false, Option, Some, None, Result, Ok, Err, refl, ap, suc, length, nat_le, ◌&&◌, if◌then◌else◌, codes, bytes_eq, IfOk}
use Rattle.std.specs.List.{list_all}
use Rattle.std.proofs.lemmas.Bool.{and_parts}
use Rattle.land_core.specs.Acts.{have_owner, is_well_formed}
use Rattle.land_core.specs.Contents.{is_amount, is_currency, is_well_formed_content}
use Rattle.land_core.specs.Mergers.{all_above, are_ascending_numbers, lists_number, are_other_units}
use Rattle.land_core.specs.Numbers.{is_number}
use Rattle.land_core.specs.Register.{is_single}
use Rattle.land_core.specs.Subdivisions.{is_new_name, is_part}
use Rattle.land_core.specs.Texts.{is_name, is_title, is_label, is_reference, are_words}
use Rattle.land_core.specs.declared.act.Act.TheVariants as act
use Rattle.land_core.specs.declared.act.NewParcel.{NewParcel}
use Rattle.land_core.specs.declared.act.NewRight.{NewRight}
use Rattle.land_core.specs.declared.content.Content.{Content}
use Rattle.land_core.specs.declared.content.Content.TheVariants as content
use Rattle.land_core.specs.declared.kind.PartyKind.TheVariants as kind
use Rattle.land_core.specs.declared.member.Member.{Member}
use Rattle.land_wire_json.specs.Bodies.Fields.{text_value, field_at, object_with, text_at, bool_at, require_text, require_text_at, require_in_range, require_number, number_in, number_at, items_at, item_count, each_item}
use Rattle.land_wire_json.specs.Bodies.Laws.{BodiesAreWellFormed, ContentsAreWellFormed}
use Rattle.land_wire_json.specs.Bodies.Mutations.{content_fields, content_by, content_in, content_kind_of, content_of, decision_of, discharge_of, lodging_of, merger_of, mortgage_of, new_name_of, part_of, rest_of, increasing_at, subdivision_of, transfer_of, others_besides}
use Rattle.land_wire_json.specs.Bodies.Outlines.{outline_in}
use Rattle.land_wire_json.specs.Bodies.Parties.{enrol_of, group_of, grant_of, mandate_of, member_of, member_list_of, regroup_of, withdrawal_of}
use Rattle.land_wire_json.specs.Bodies.Shares.{share_at}
use Rattle.land_wire_json.specs.Bodies.Units.{burden_by, burden_fields, burden_of, lift_of, parcel_of, parcels_of, right_of, rights_of, unit_by, new_unit_fields, unit_of}
use Rattle.land_wire_json.specs.Bodies.WireFaults.{◌>>=◌, or_fault}
use Rattle.land_wire_json.specs.Bodies.Words.{class_in, kind_in, role_in, type_in}
use Rattle.land_wire_json.specs.declared.bodies.content_kind.ContentKind.{ContentKind}
use Rattle.land_wire_json.specs.declared.bodies.content_kind.ContentKind.TheVariants as which
use Rattle.land_wire_json.specs.declared.bodies.wire_fault.WireFault.{WireFault}
use Rattle.land_wire_json.specs.declared.bodies.wire_fault.WireFault.TheVariants as fault
use Rattle.serde_json.specs.Data.{Data, Num, unsigned, negative, float, Items, no_items, item}
use Rattle.serde_json.specs.Find.{get, as_array, as_number, as_str}

-- the result has the property, if reading succeeds
record Ensures {A : Type 0} (P : A → Type 0) (r : Result A WireFault) : Type 0 where
  if_ok : IfOk r P

-- a property of each next value is a property of the whole
bind : {A B : Type 0} {P : B → Type 0} (r : Result A WireFault) {next : A → Result B WireFault}
    → ((a : A) → Ensures P (next a)) → Ensures P (r >>= next)
bind (Ok a) h = h a
bind (Err e) h = record { if_ok = tt }

-- likewise, from a property of the value before
bind_with : {A B : Type 0} {Q : A → Type 0} {P : B → Type 0} (r : Result A WireFault) {next : A → Result B WireFault}
    → Ensures Q r → ((a : A) → Q a → Ensures P (next a)) → Ensures P (r >>= next)
bind_with (Ok a) q h = h a q.if_ok
bind_with (Err e) q h = record { if_ok = tt }

-- a value that passed a test has the property tested
abbrev allowed : {A : Type 0} → Bool → A → WireFault → Result A WireFault
allowed b a f = if b then Ok a else Err f

by_test : {A : Type 0} (P : A → Type 0) (b : Bool) (a : A) (f : WireFault) → (b ≡ true → P a) → Ensures P (allowed b a f)
by_test P true a f h = record { if_ok = h refl }
by_test P false a f h = record { if_ok = tt }

-- ---- fields

abbrev Passes : {A : Type 0} → (A → Bool) → A → Type 0
Passes p a = p a ≡ true

require_text-allowed : (p : List ℕ → Bool) (text : List ℕ) → Ensures (Passes p) (require_text p text)
require_text-allowed p text = by_test (Passes p) (p text) text fault.Text (λ h. h)

require_text_at-allowed : (p : List ℕ → Bool) (key : List ℕ) (value : Data) → Ensures (Passes p) (require_text_at p key value)
require_text_at-allowed p key value = bind (text_at key value) (require_text-allowed p)

require_in_range-allowed : (p : ℕ → Bool) (n : Num) → Ensures (Passes p) (require_in_range p n)
require_in_range-allowed p (unsigned n) = by_test (Passes p) (p n) n fault.Number (λ h. h)
require_in_range-allowed p (negative z) = record { if_ok = tt }
require_in_range-allowed p (float x) = record { if_ok = tt }

require_number-allowed : (p : ℕ → Bool) (value : Data) → Ensures (Passes p) (require_number p value)
require_number-allowed p value = bind (or_fault (as_number value) fault.Field) (require_in_range-allowed p)

number_in-number : (value : Data) → Ensures (Passes is_number) (number_in value)
unfolding number_in
number_in-number value = require_number-allowed is_number value

number_at-number : (key : List ℕ) (value : Data) → Ensures (Passes is_number) (number_at key value)
unfolding number_at
number_at-number key value = bind (field_at key value) number_in-number

-- ---- arrays

abbrev is_between : (least most : ℕ) → ℕ → Bool
is_between least most n = nat_le least n && nat_le n most

items_at-counted : (least most : ℕ) (key : List ℕ) (value : Data) → Ensures (λ items. is_between least most (item_count items) ≡ true) (items_at least most key value)
unfolding items_at
items_at-counted least most key value =
    bind (field_at key value) (λ found. bind (or_fault (as_array found) fault.Field) (λ items.
    by_test (λ items. is_between least most (item_count items) ≡ true) (is_between least most (item_count items)) items fault.Field (λ h. h)))

-- the count of items, each with the property
record AreRead {A : Type 0} (p : A → Bool) (count : ℕ) (xs : List A) : Type 0 where
  same_count : length xs ≡ count
  each : list_all p xs ≡ true

each_of-all : {A : Type 0} (p : A → Bool) (read : Data → Result A WireFault) → ((value : Data) → Ensures (Passes p) (read value))
    → (items : Items) → Ensures (AreRead p (item_count items)) (each_item read items)
each_of-all p read h no_items = record { if_ok = record { same_count = refl; each = refl } }
each_of-all p read h (item value items) =
    bind_with (read value) (h value) (λ first is.
    bind_with (each_item read items) (each_of-all p read h items) (λ rest are.
    record { if_ok = record { same_count = ap suc are.same_count; each = rw (is, are.each) refl } }))

-- a list whose length is between bounds, each item with the property
record AreBetween {A : Type 0} (p : A → Bool) (least most : ℕ) (xs : List A) : Type 0 where
  count : is_between least most (length xs) ≡ true
  each : list_all p xs ≡ true

counted_at : {A : Type 0} (p : A → Bool) (least most : ℕ) (key : List ℕ) (read : Data → Result A WireFault) → ((value : Data) → Ensures (Passes p) (read value))
    → (value : Data) → Ensures (AreBetween p least most) (items_at least most key value >>= each_item read)
counted_at p least most key read h value =
    bind_with (items_at least most key value) (items_at-counted least most key value) (λ items few.
    after (each_of-all p read h items) (λ xs are. record { count = rw are.same_count few; each = are.each }))
  where
    after : {A : Type 0} {P Q : A → Type 0} {r : Result A WireFault} → Ensures P r → ((a : A) → P a → Q a) → Ensures Q r
    after {r = Ok a} h imp = record { if_ok = imp a h.if_ok }
    after {r = Err e} h imp = record { if_ok = tt }

-- ---- parties

single_by : (a b : Bool) → Ensures (Passes is_single) (if a then Ok kind.NaturalPerson else (if b then Ok kind.NonNaturalPerson else Err fault.Text))
single_by true b = record { if_ok = refl }
single_by false true = record { if_ok = refl }
single_by false false = record { if_ok = tt }

kind_in-single : (value : Data) → Ensures (Passes is_single) (kind_in value)
unfolding kind_in
kind_in-single value =
    bind (text_at (codes "kind") value) (λ word. single_by (bytes_eq word (codes "naturalPerson")) (bytes_eq word (codes "nonNaturalPerson")))

enrol_of-well_formed : (value : Data) → Ensures (λ it. is_well_formed (act.Enrol it) ≡ true) (enrol_of value)
unfolding enrol_of
enrol_of-well_formed value =
    bind (object_with (codes "kind" ∷ codes "name" ∷ []) value) (λ whole.
    bind_with (kind_in value) (kind_in-single value) (λ k single.
    bind_with (require_text_at is_name (codes "name") value) (require_text_at-allowed is_name (codes "name") value) (λ name is.
    record { if_ok = rw (single, is) refl })))

abbrev is_of_number : Member → Bool
is_of_number member = is_number member.party

member_of-numbered : (value : Data) → Ensures (Passes is_of_number) (member_of value)
unfolding member_of
member_of-numbered value =
    bind (object_with (codes "party" ∷ codes "share" ∷ []) value) (λ whole.
    bind_with (number_at (codes "party") value) (number_at-number (codes "party") value) (λ party is.
    bind (share_at (codes "share") value) (λ share. record { if_ok = is })))

members_of-between : (value : Data) → Ensures (AreBetween is_of_number 2 64) (member_list_of value)
unfolding member_list_of
members_of-between value = counted_at is_of_number 2 64 (codes "members") member_of member_of-numbered value

group_of-well_formed : (value : Data) → Ensures (λ it. is_well_formed (act.Group it) ≡ true) (group_of value)
unfolding group_of
group_of-well_formed value =
    bind (object_with (codes "name" ∷ codes "members" ∷ []) value) (λ whole.
    bind_with (require_text_at is_name (codes "name") value) (require_text_at-allowed is_name (codes "name") value) (λ name is.
    bind_with (member_list_of value) (members_of-between value) (λ members are.
    record { if_ok = rw (is, are.count, are.each) refl })))

regroup_of-well_formed : (value : Data) → Ensures (λ it. is_well_formed (act.Regroup it) ≡ true) (regroup_of value)
unfolding regroup_of
regroup_of-well_formed value =
    bind (object_with (codes "group" ∷ codes "members" ∷ []) value) (λ whole.
    bind_with (number_at (codes "group") value) (number_at-number (codes "group") value) (λ group is.
    bind_with (member_list_of value) (members_of-between value) (λ members are.
    record { if_ok = rw (is, are.count, are.each) refl })))

grant_of-numbered : (value : Data) → Ensures (λ it. is_number it.party ≡ true) (grant_of value)
unfolding grant_of
grant_of-numbered value =
    bind (object_with (codes "party" ∷ codes "role" ∷ []) value) (λ whole.
    bind_with (number_at (codes "party") value) (number_at-number (codes "party") value) (λ party is.
    bind (role_in value) (λ role. record { if_ok = is })))

mandate_of-well_formed : (value : Data) → Ensures (λ it. is_well_formed (act.Mandate it) ≡ true) (mandate_of value)
unfolding mandate_of
mandate_of-well_formed value =
    bind (object_with (codes "agent" ∷ []) value) (λ whole.
    bind_with (number_at (codes "agent") value) (number_at-number (codes "agent") value) (λ agent is. record { if_ok = is }))

withdrawal_of-well_formed : (value : Data) → Ensures (λ it. is_well_formed (act.Withdraw it) ≡ true) (withdrawal_of value)
unfolding withdrawal_of
withdrawal_of-well_formed value =
    bind (object_with (codes "principal" ∷ codes "agent" ∷ []) value) (λ whole.
    bind_with (number_at (codes "principal") value) (number_at-number (codes "principal") value) (λ principal principal_is.
    bind_with (number_at (codes "agent") value) (number_at-number (codes "agent") value) (λ agent agent_is.
    record { if_ok = rw (principal_is, agent_is) refl })))

-- ---- units

abbrev has_label : NewParcel → Bool
has_label parcel = is_label parcel.label

parcel_of-labelled : (value : Data) → Ensures (Passes has_label) (parcel_of value)
unfolding parcel_of
parcel_of-labelled value =
    bind (object_with (codes "label" ∷ codes "outline" ∷ []) value) (λ whole.
    bind_with (require_text_at is_label (codes "label") value) (require_text_at-allowed is_label (codes "label") value) (λ label is.
    bind (outline_in value) (λ outline. record { if_ok = is })))

parcels_of-between : (value : Data) → Ensures (AreBetween has_label 1 64) (parcels_of value)
unfolding parcels_of
parcels_of-between value = counted_at has_label 1 64 (codes "parcels") parcel_of parcel_of-labelled value

abbrev is_of_party : NewRight → Bool
is_of_party right = is_number right.party

right_of-numbered : (value : Data) → Ensures (Passes is_of_party) (right_of value)
unfolding right_of
right_of-numbered value =
    bind (object_with (codes "party" ∷ codes "type" ∷ codes "share" ∷ []) value) (λ whole.
    bind_with (number_at (codes "party") value) (number_at-number (codes "party") value) (λ party is.
    bind (type_in value) (λ type. bind (share_at (codes "share") value) (λ share. record { if_ok = is }))))

-- rights that include an ownership
record AreOwned (rights : List NewRight) : Type 0 where
  between : AreBetween is_of_party 1 64 rights
  owner : have_owner rights ≡ true

rights_of-require_owner : (value : Data) → Ensures AreOwned (rights_of value)
unfolding rights_of
rights_of-require_owner value =
    bind_with (items_at 1 64 (codes "rights") value >>= each_item right_of) (counted_at is_of_party 1 64 (codes "rights") right_of right_of-numbered value) (λ rights are.
    by_test AreOwned (have_owner rights) rights fault.Field (λ owner. record { between = are; owner = owner }))

unit_of-well_formed : (value : Data) → Ensures (λ it. is_well_formed (act.Register it) ≡ true) (unit_of value)
unfolding unit_of unit_by
unit_of-well_formed value =
    bind (object_with new_unit_fields value) (λ whole.
    bind_with (require_text_at is_name (codes "name") value) (require_text_at-allowed is_name (codes "name") value) (λ name named.
    bind (bool_at (codes "checked") value) (λ checked.
    bind_with (require_text_at is_title (codes "document") value) (require_text_at-allowed is_title (codes "document") value) (λ document titled.
    bind_with (parcels_of value) (parcels_of-between value) (λ parcels are.
    bind_with (rights_of value) (rights_of-require_owner value) (λ rights hold.
    record { if_ok = rw (named, titled, are.count, are.each, hold.between.count, hold.between.each, hold.owner) refl }))))))

burden_of-well_formed : (value : Data) → Ensures (λ it. is_well_formed (act.Burden it) ≡ true) (burden_of value)
unfolding burden_of burden_by
burden_of-well_formed value =
    bind (object_with burden_fields value) (λ whole.
    bind_with (number_at (codes "unit") value) (number_at-number (codes "unit") value) (λ unit unit_is.
    bind_with (number_at (codes "party") value) (number_at-number (codes "party") value) (λ party party_is.
    bind (class_in value) (λ class.
    bind_with (require_text_at are_words (codes "words") value) (require_text_at-allowed are_words (codes "words") value) (λ words worded.
    bind_with (require_text_at is_title (codes "document") value) (require_text_at-allowed is_title (codes "document") value) (λ document titled.
    record { if_ok = rw (unit_is, party_is, worded, titled) refl }))))))

lift_of-well_formed : (value : Data) → Ensures (λ it. is_well_formed (act.Lift it) ≡ true) (lift_of value)
unfolding lift_of
lift_of-well_formed value =
    bind (object_with (codes "rrr" ∷ []) value) (λ whole.
    bind_with (number_at (codes "rrr") value) (number_at-number (codes "rrr") value) (λ rrr is. record { if_ok = is }))

-- ---- contents

abbrev IsWellFormed : Content → Type 0
IsWellFormed it = is_well_formed_content it ≡ true

transfer_of-well_formed : (value : Data) → Ensures (λ it. IsWellFormed (content.Transfer it)) (transfer_of value)
unfolding transfer_of
transfer_of-well_formed value =
    bind_with (number_at (codes "unit") value) (number_at-number (codes "unit") value) (λ unit unit_is.
    bind_with (number_at (codes "right") value) (number_at-number (codes "right") value) (λ right right_is.
    bind_with (number_at (codes "receiver") value) (number_at-number (codes "receiver") value) (λ receiver receiver_is.
    bind (share_at (codes "share") value) (λ share. record { if_ok = rw (unit_is, right_is, receiver_is) refl }))))

new_name_of-allowed : (value : Option Data) → Ensures (Passes is_new_name) (new_name_of value)
new_name_of-allowed None = record { if_ok = refl }
new_name_of-allowed (Some value) =
    bind_with (or_fault (as_str value) fault.Field >>= require_text is_name) (bind (or_fault (as_str value) fault.Field) (require_text-allowed is_name)) (λ name is.
    record { if_ok = is })

part_of-well_formed : (value : Data) → Ensures (Passes is_part) (part_of value)
unfolding part_of
part_of-well_formed value =
    bind (object_with (codes "label" ∷ codes "outline" ∷ codes "unit" ∷ []) value) (λ whole.
    bind_with (require_text_at is_label (codes "label") value) (require_text_at-allowed is_label (codes "label") value) (λ label labelled.
    bind (outline_in value) (λ outline.
    bind_with (new_name_of (get (codes "unit") value)) (new_name_of-allowed (get (codes "unit") value)) (λ unit named.
    record { if_ok = rw (labelled, named) refl }))))

rest_of-between : (value : Data) → Ensures (AreBetween is_part 1 15) (rest_of value)
unfolding rest_of
rest_of-between value = counted_at is_part 1 15 (codes "rest") part_of part_of-well_formed value

subdivision_of-well_formed : (value : Data) → Ensures (λ it. IsWellFormed (content.Subdivision it)) (subdivision_of value)
unfolding subdivision_of
subdivision_of-well_formed value =
    bind_with (number_at (codes "unit") value) (number_at-number (codes "unit") value) (λ unit unit_is.
    bind_with (number_at (codes "parcel") value) (number_at-number (codes "parcel") value) (λ parcel parcel_is.
    bind (field_at (codes "first") value) (λ found.
    bind_with (parcel_of found) (parcel_of-labelled found) (λ first labelled.
    bind_with (rest_of value) (rest_of-between value) (λ rest are.
    record { if_ok = rw (unit_is, parcel_is, labelled, are.count, are.each) refl })))))

-- increasing numbers of objects
record AreRising (least most : ℕ) (numbers : List ℕ) : Type 0 where
  count : is_between least most (length numbers) ≡ true
  rise : are_ascending_numbers numbers ≡ true

increasing_at-rising : (least most : ℕ) (key : List ℕ) (value : Data) → Ensures (AreRising least most) (increasing_at least most key value)
unfolding increasing_at
increasing_at-rising least most key value =
    bind_with (items_at least most key value >>= each_item number_in) (counted_at is_number least most key number_in number_in-number value) (λ numbers are.
    by_test (AreRising least most) (all_above 0 numbers) numbers fault.Field (λ above. record { count = are.count; rise = rw (above, are.each) refl }))

without-others : (unit : ℕ) (others : List ℕ) → AreRising 0 15 others → Ensures (λ them. are_other_units unit them ≡ true) (others_besides unit others)
without-others unit others are = by (lists_number others unit) refl
  where
    by : (b : Bool) → lists_number others unit ≡ b → Ensures (λ them. are_other_units unit them ≡ true) (if b then Err fault.Field else Ok others)
    by true e = record { if_ok = tt }
    by false e = record { if_ok = rw ((and_parts (nat_le 0 (length others)) (nat_le (length others) 15) are.count).1, are.rise, e) refl }

merger_of-well_formed : (value : Data) → Ensures (λ it. IsWellFormed (content.Merger it)) (merger_of value)
unfolding merger_of
merger_of-well_formed value =
    bind_with (number_at (codes "unit") value) (number_at-number (codes "unit") value) (λ unit unit_is.
    bind_with (increasing_at 0 15 (codes "others") value) (increasing_at-rising 0 15 (codes "others") value) (λ listed rising.
    bind_with (others_besides unit listed) (without-others unit listed rising) (λ others others_are.
    bind_with (increasing_at 2 16 (codes "parcels") value) (increasing_at-rising 2 16 (codes "parcels") value) (λ parcels are.
    bind_with (require_text_at is_label (codes "label") value) (require_text_at-allowed is_label (codes "label") value) (λ label labelled.
    bind (outline_in value) (λ outline. record { if_ok = rw (unit_is, others_are, are.count, are.rise, labelled) refl }))))))

mortgage_of-well_formed : (value : Data) → Ensures (λ it. IsWellFormed (content.Mortgage it)) (mortgage_of value)
unfolding mortgage_of
mortgage_of-well_formed value =
    bind_with (number_at (codes "unit") value) (number_at-number (codes "unit") value) (λ unit unit_is.
    bind_with (number_at (codes "creditor") value) (number_at-number (codes "creditor") value) (λ creditor creditor_is.
    bind (field_at (codes "amount") value) (λ found.
    bind_with (require_number is_amount found) (require_number-allowed is_amount found) (λ amount amount_is.
    bind_with (require_text_at is_currency (codes "currency") value) (require_text_at-allowed is_currency (codes "currency") value) (λ currency currency_is.
    record { if_ok = rw (unit_is, creditor_is, amount_is, currency_is) refl })))))

discharge_of-well_formed : (value : Data) → Ensures (λ it. IsWellFormed (content.Discharge it)) (discharge_of value)
unfolding discharge_of
discharge_of-well_formed value =
    bind_with (number_at (codes "unit") value) (number_at-number (codes "unit") value) (λ unit unit_is.
    bind_with (number_at (codes "mortgage") value) (number_at-number (codes "mortgage") value) (λ mortgage mortgage_is.
    record { if_ok = rw (unit_is, mortgage_is) refl }))

content_by-well_formed : (k : ContentKind) (value : Data) → Ensures IsWellFormed (content_by k value)
content_by-well_formed which.Transfer value = bind_with (transfer_of value) (transfer_of-well_formed value) (λ it h. record { if_ok = h })
content_by-well_formed which.Subdivision value = bind_with (subdivision_of value) (subdivision_of-well_formed value) (λ it h. record { if_ok = h })
content_by-well_formed which.Merger value = bind_with (merger_of value) (merger_of-well_formed value) (λ it h. record { if_ok = h })
content_by-well_formed which.Mortgage value = bind_with (mortgage_of value) (mortgage_of-well_formed value) (λ it h. record { if_ok = h })
content_by-well_formed which.Discharge value = bind_with (discharge_of value) (discharge_of-well_formed value) (λ it h. record { if_ok = h })

content_of-well_formed : (k : ContentKind) (value : Data) → Ensures IsWellFormed (content_of k value)
unfolding content_of
content_of-well_formed k value = bind (object_with (content_fields k) value) (λ whole. content_by-well_formed k value)

content_in-well_formed : (word text : List ℕ) → Ensures IsWellFormed (content_in word text)
unfolding content_in
content_in-well_formed word text = bind (content_kind_of word) (λ k. bind (text_value text) (content_of-well_formed k))

-- ---- lodgings and decisions

lodging_of-well_formed : (k : ContentKind) (value : Data) → Ensures (λ it. is_well_formed (act.Lodge it) ≡ true) (lodging_of k value)
unfolding lodging_of
lodging_of-well_formed k value =
    bind (object_with (codes "reference" ∷ codes "document" ∷ content_fields k) value) (λ whole.
    bind_with (require_text_at is_reference (codes "reference") value) (require_text_at-allowed is_reference (codes "reference") value) (λ reference referred.
    bind_with (require_text_at is_title (codes "document") value) (require_text_at-allowed is_title (codes "document") value) (λ document titled.
    bind_with (content_by k value) (content_by-well_formed k value) (λ it formed.
    record { if_ok = rw (referred, titled, formed) refl }))))

decision_of-numbered : (value : Data) → Ensures (λ it. is_number it.mutation ≡ true) (decision_of value)
unfolding decision_of
decision_of-numbered value =
    bind (object_with (codes "mutation" ∷ []) value) (λ whole.
    bind_with (number_at (codes "mutation") value) (number_at-number (codes "mutation") value) (λ mutation is. record { if_ok = is }))

-- ---- all of them

pub bodies : BodiesAreWellFormed
bodies = record {
  enrol = λ value. (enrol_of-well_formed value).if_ok;
  group = λ value. (group_of-well_formed value).if_ok;
  regroup = λ value. (regroup_of-well_formed value).if_ok;
  grant = λ value. (grant_of-numbered value).if_ok;
  revoke = λ value. (grant_of-numbered value).if_ok;
  mandate = λ value. (mandate_of-well_formed value).if_ok;
  withdraw = λ value. (withdrawal_of-well_formed value).if_ok;
  register = λ value. (unit_of-well_formed value).if_ok;
  burden = λ value. (burden_of-well_formed value).if_ok;
  lift = λ value. (lift_of-well_formed value).if_ok;
  lodge = λ k value. (lodging_of-well_formed k value).if_ok;
  approve = λ value. (decision_of-numbered value).if_ok;
  refuse = λ value. (decision_of-numbered value).if_ok;
}

pub contents : ContentsAreWellFormed
contents word text = (content_in-well_formed word text).if_ok
