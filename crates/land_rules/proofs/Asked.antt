-- Kinds of requests: acts of the office, and lodgings by content.
use Rattle.std.proofs.Common.{◌≡◌, inl, inr, ℕ, Bool, true, false, not, Option, Some, None, refl, sym, ap, ◌∙◌, subst}
use Rattle.std.specs.Prelude.{◌≢◌, ◌||◌}
use Rattle.std.specs.Option.{option_map_or}
use Rattle.std.specs.FinMap as map
use Rattle.std.proofs.lemmas.Bool.{false≢true, and_from, and_parts, eq-eqb, eqb-true, false_from_ne_true, not-true, or_from, or_parts}
use Rattle.land_core.specs.declared.act.Act.{Act}
use Rattle.land_core.specs.declared.act.Act.TheVariants as act
use Rattle.land_core.specs.declared.ask.Ask.{Ask}
use Rattle.land_core.specs.declared.ask.Ask.TheVariants as ask
use Rattle.land_core.specs.declared.content.Content.{Content}
use Rattle.land_core.specs.declared.content.Content.TheVariants as content
use Rattle.land_core.specs.declared.content.Discharge.{Discharge}
use Rattle.land_core.specs.declared.content.Mortgage.{Mortgage}
use Rattle.land_core.specs.declared.mandates.Mandate.{Mandate}
use Rattle.land_core.specs.declared.register.Register.{Register}
use Rattle.land_core.specs.declared.rrr.RrrRecord.{RrrRecord}
use Rattle.land_rules.specs.ActLaws.{approve_request, refuse_request}
use Rattle.land_rules.specs.Acts.{decides, is_discharge_of_another, is_mortgage_of, is_mortgage_of_another, changes_mortgages, is_mandate_act, changes_outlines, is_office_act, is_transfer_content, lodges, withdraws}
use Rattle.land_rules.specs.Relations.{has_lodged, is_rrr_where}
use Rattle.land_rules.specs.StandingLaws.{HasMortgage, IsOfficeRequest, Lodges, LodgesMortgageOrDischarge, LodgesSubdivisionOrMerger, LodgesTransfer, is_lodging_act}
use Rattle.land_rules.proofs.StandingTests.{not_both}

-- whether the request is an act that satisfies a condition
abbrev pub asks_for : (Act → Bool) → Ask → Bool
asks_for passes (ask.View k number at) = false
asks_for passes (ask.List k at) = false
asks_for passes (ask.Sheet unit at) = false
asks_for passes (ask.Do it) = passes it

-- an act that lodges a content which satisfies a condition
pub record IsLodging (passes : Content → Bool) (a : Ask) : Type 0 where
  pub content : Content
  pub lodged : Lodges content a
  pub meets : passes content ≡ true

lodging_of : (passes : Content → Bool) (a : Ask) → asks_for (lodges passes) a ≡ true → IsLodging passes a
lodging_of passes (ask.Do (act.Lodge it)) h = record {
  content = it.content;
  lodged = record { lodging = it; asked = refl; content = refl };
  meets = h;
}
lodging_of passes other h = absurd (false≢true h)

-- a lodged content satisfies a condition or not
pub lodges_it : (passes : Content → Bool) (a : Ask) (c : Content) → Lodges c a → (b : Bool) → passes c ≡ b → asks_for (lodges passes) a ≡ b
lodges_it passes a c it b h = subst (λ (x : Ask). asks_for (lodges passes) x ≡ b) (sym it.asked) (ap passes it.content ∙ h)

-- a lodged content satisfies no condition that no such content satisfies
pub lodges_no_other : (passes other : Content → Bool) → ((c : Content) → passes c ≡ true → other c ≡ false) → (a : Ask)
    → asks_for (lodges passes) a ≡ true → asks_for (lodges other) a ≡ false
lodges_no_other passes other apart a h =
    let it = lodging_of passes a h in
    lodges_it other a it.content it.lodged false (apart it.content it.meets)

-- a lodging is not an act of the office
pub lodges_as_no_office : (passes : Content → Bool) (a : Ask) → asks_for (lodges passes) a ≡ true → asks_for is_office_act a ≡ false
lodges_as_no_office passes a h =
    let it = lodging_of passes a h in
    subst (λ (x : Ask). asks_for is_office_act x ≡ false) (sym it.lodged.asked) refl

-- an act that is neither a lodging nor on a mandate is an act of the office, and lodges nothing
lodging_or_office : (it : Act) → is_office_act it ≡ not (is_lodging_act it || is_mandate_act it)
lodging_or_office (act.Lodge it) = refl
lodging_or_office (act.Mandate it) = refl
lodging_or_office (act.Withdraw it) = refl
lodging_or_office other = refl

pub office_lodges_nothing : (passes : Content → Bool) (it : Act) → is_lodging_act it ≡ false → lodges passes it ≡ false
office_lodges_nothing passes (act.Lodge it) h = absurd (false≢true (sym h))
office_lodges_nothing passes other h = refl

pub of_the_office : (a : Ask) → asks_for is_office_act a ≡ true → IsOfficeRequest a
of_the_office (ask.Do it) h =
    let parts = or_parts _ _ (not-true _ (sym (lodging_or_office it) ∙ h)) in
    record { act = it; asked = refl; no_lodging = parts.0; no_mandate = parts.1 }
of_the_office other h = absurd (false≢true h)

pub asks_the_office : (a : Ask) → IsOfficeRequest a → asks_for is_office_act a ≡ true
asks_the_office a it = subst (λ (x : Ask). asks_for is_office_act x ≡ true) (sym it.asked) (lodging_or_office it.act ∙ ap not (or_from _ _ it.no_lodging it.no_mandate))

-- an act that is not on a mandate withdraws none
pub withdraws_nothing : (passes : Mandate → Bool) (it : Act) → is_mandate_act it ≡ false → withdraws passes it ≡ false
withdraws_nothing passes (act.Withdraw it) h = absurd (false≢true (sym h))
withdraws_nothing passes other h = refl

-- a decision on a mutation that the party did not lodge
pub decides_for_others : (now : Register) (party : ℕ) (it : Act)
    → ((number : ℕ) → has_lodged now party number ≡ true → (ask.Do it ≢ approve_request number) × (ask.Do it ≢ refuse_request number))
    → decides (has_lodged now party) it ≡ false
decides_for_others now party (act.Approve it) others = false_from_ne_true _ (λ h. (others it.mutation h).0 refl)
decides_for_others now party (act.Refuse it) others = false_from_ne_true _ (λ h. (others it.mutation h).1 refl)
decides_for_others now party other others = refl

pub outlines_are_no_transfer : (c : Content) → changes_outlines c ≡ true → is_transfer_content c ≡ false
outlines_are_no_transfer (content.Transfer it) h = absurd (false≢true h)
outlines_are_no_transfer other h = refl

pub mortgages_are_no_transfer : (c : Content) → changes_mortgages c ≡ true → is_transfer_content c ≡ false
mortgages_are_no_transfer (content.Transfer it) h = absurd (false≢true h)
mortgages_are_no_transfer other h = refl

pub mortgages_are_no_outlines : (c : Content) → changes_mortgages c ≡ true → changes_outlines c ≡ false
mortgages_are_no_outlines (content.Subdivision it) h = absurd (false≢true h)
mortgages_are_no_outlines (content.Merger it) h = absurd (false≢true h)
mortgages_are_no_outlines other h = refl

pub transfer_of : (a : Ask) → asks_for (lodges is_transfer_content) a ≡ true → LodgesTransfer a
transfer_of a h = let it = lodging_of is_transfer_content a h in by_content it.content it.lodged it.meets
  where
    by_content : (c : Content) → Lodges c a → is_transfer_content c ≡ true → LodgesTransfer a
    by_content (content.Transfer it) lodged h = (it, lodged)
    by_content other lodged h = absurd (false≢true h)

pub lodges_transfer : (a : Ask) → LodgesTransfer a → asks_for (lodges is_transfer_content) a ≡ true
lodges_transfer a (it, lodged) = lodges_it is_transfer_content a (content.Transfer it) lodged true refl

pub outlines_of : (a : Ask) → asks_for (lodges changes_outlines) a ≡ true → LodgesSubdivisionOrMerger a
outlines_of a h = let it = lodging_of changes_outlines a h in by_content it.content it.lodged it.meets
  where
    by_content : (c : Content) → Lodges c a → changes_outlines c ≡ true → LodgesSubdivisionOrMerger a
    by_content (content.Subdivision it) lodged h = inl (it, lodged)
    by_content (content.Merger it) lodged h = inr (it, lodged)
    by_content other lodged h = absurd (false≢true h)

pub lodges_outline_change : (a : Ask) → LodgesSubdivisionOrMerger a → asks_for (lodges changes_outlines) a ≡ true
lodges_outline_change a (inl (it, lodged)) = lodges_it changes_outlines a (content.Subdivision it) lodged true refl
lodges_outline_change a (inr (it, lodged)) = lodges_it changes_outlines a (content.Merger it) lodged true refl

pub mortgage_or_discharge_of : (a : Ask) → asks_for (lodges changes_mortgages) a ≡ true → LodgesMortgageOrDischarge a
mortgage_or_discharge_of a h = let it = lodging_of changes_mortgages a h in by_content it.content it.lodged it.meets
  where
    by_content : (c : Content) → Lodges c a → changes_mortgages c ≡ true → LodgesMortgageOrDischarge a
    by_content (content.Mortgage it) lodged h = inl (it, lodged)
    by_content (content.Discharge it) lodged h = inr (it, lodged)
    by_content other lodged h = absurd (false≢true h)

pub lodges_mortgage_or_discharge : (a : Ask) → LodgesMortgageOrDischarge a → asks_for (lodges changes_mortgages) a ≡ true
lodges_mortgage_or_discharge a (inl (it, lodged)) = lodges_it changes_mortgages a (content.Mortgage it) lodged true refl
lodges_mortgage_or_discharge a (inr (it, lodged)) = lodges_it changes_mortgages a (content.Discharge it) lodged true refl

-- a mortgage of another creditor, and a discharge of a number at which the party has no mortgage
pub record LodgesForAnother (party : ℕ) (a : Ask) : Type 0 where
  pub mortgage : Mortgage
  pub lodged : Lodges (content.Mortgage mortgage) a
  pub other : mortgage.creditor ≢ party

pub mortgage_of_another : (party : ℕ) (a : Ask) → asks_for (lodges (is_mortgage_of_another party)) a ≡ true → LodgesForAnother party a
mortgage_of_another party a h = let it = lodging_of (is_mortgage_of_another party) a h in by_content it.content it.lodged it.meets
  where
    by_content : (c : Content) → Lodges c a → is_mortgage_of_another party c ≡ true → LodgesForAnother party a
    by_content (content.Mortgage it) lodged h = record {
      mortgage = it;
      lodged = lodged;
      other = λ same. not_both _ (eq-eqb it.creditor party same) (not-true _ h);
    }
    by_content other lodged h = absurd (false≢true h)

pub record EndsForAnother (now : Register) (party : ℕ) (a : Ask) : Type 0 where
  pub discharge : Discharge
  pub lodged : Lodges (content.Discharge discharge) a
  pub other : is_rrr_where (is_mortgage_of party) now discharge.mortgage ≡ false

pub discharge_of_another : (now : Register) (party : ℕ) (a : Ask)
    → asks_for (lodges (is_discharge_of_another now party)) a ≡ true → EndsForAnother now party a
discharge_of_another now party a h = let it = lodging_of (is_discharge_of_another now party) a h in by_content it.content it.lodged it.meets
  where
    by_content : (c : Content) → Lodges c a → is_discharge_of_another now party c ≡ true → EndsForAnother now party a
    by_content (content.Discharge it) lodged h = record { discharge = it; lodged = lodged; other = not-true _ h }
    by_content other lodged h = absurd (false≢true h)

-- a discharge refers to a mortgage of the party or it does not
mortgage_found : (now : Register) (party number : ℕ) → is_rrr_where (is_mortgage_of party) now number ≡ true → HasMortgage now party number
mortgage_found now party number h = found (map.get now.rrrs number) refl h
  where
    found : (o : Option RrrRecord) → map.get now.rrrs number ≡ o → option_map_or (is_mortgage_of party) o false ≡ true
        → HasMortgage now party number
    found None e h = absurd (false≢true h)
    found (Some entry) e h =
        let parts = and_parts _ _ h in
        record { entry = entry; there = e; class = parts.0; creditor = eqb-true entry.party party parts.1 }

pub mortgage_is_found : (now : Register) (party number : ℕ) → HasMortgage now party number
    → is_rrr_where (is_mortgage_of party) now number ≡ true
mortgage_is_found now party number h =
    ap (λ o. option_map_or (is_mortgage_of party) o false) h.there ∙ and_from _ _ h.class (eq-eqb h.entry.party party h.creditor)

pub no_mortgage_found : (now : Register) (party number : ℕ) → (HasMortgage now party number → ⊥)
    → is_rrr_where (is_mortgage_of party) now number ≡ false
no_mortgage_found now party number none = false_from_ne_true _ (λ h. none (mortgage_found now party number h))
