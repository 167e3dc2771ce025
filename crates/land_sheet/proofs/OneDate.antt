-- A day has exactly one date.
use Rattle.std.proofs.Common.{◌≡◌, ℕ, ℤ, List, pos, sym, arith, inl, inr}
use Rattle.std.proofs.lemmas.Bool.{cases_order}
use Rattle.std.proofs.lemmas.Int.{by_lt_z}
use Rattle.jiff_core.proofs.CalendarLemmas.{days_from_civil-day_count, day_count-lt_year, day_count-lt_month, day_count-day}
use Rattle.jiff_core.proofs.SignedLemmas.{signed_arith}
use Rattle.jiff_core.specs.Calendar.{IsCivilDate, days_from_civil, day_count}
use Rattle.land_sheet.specs.Dates.{CivilDate}
use Rattle.land_sheet.specs.Dates.{day_number}
use Rattle.land_sheet.specs.Laws.{DatesAreUnique, SheetsAreUnique}
use Rattle.land_sheet.specs.Sheets.{view_moment, sheet_text}

same_count : (y y₂ : ℤ) (m d m₂ d₂ n : ℕ) → days_from_civil y m d ≡ pos n → days_from_civil y₂ m₂ d₂ ≡ pos n → day_count y m d ≡ day_count y₂ m₂ d₂
same_count y y₂ m d m₂ d₂ n e f =
    omega (arith, rw e at (days_from_civil-day_count y m d), rw f at (days_from_civil-day_count y₂ m₂ d₂), signed_arith)

same_year : (y y₂ : ℤ) (m d m₂ d₂ : ℕ) → IsCivilDate y m d → IsCivilDate y₂ m₂ d₂ → day_count y m d ≡ day_count y₂ m₂ d₂ → y ≡ y₂
same_year y y₂ m d m₂ d₂ h k e =
    by_lt_z y y₂ (λ lt. absurd (omega (arith, day_count-lt_year y m d y₂ m₂ d₂ h k.2.0 lt)))
    (λ ge. by_lt_z y₂ y (λ lt. absurd (omega (arith, day_count-lt_year y₂ m₂ d₂ y m d k h.2.0 lt)))
    (λ le. omega (arith, signed_arith)))

same_month : (y : ℤ) (m d m₂ d₂ : ℕ) → IsCivilDate y m d → IsCivilDate y m₂ d₂ → day_count y m d ≡ day_count y m₂ d₂ → m ≡ m₂
same_month y m d m₂ d₂ h k e =
    elim (cases_order m m₂) [
      | inl same ↦ same
      | inr rest ↦ elim rest [
        | inl lt ↦ absurd (omega (arith, day_count-lt_month y m d m₂ d₂ h k.2.0 lt))
        | inr gt ↦ absurd (omega (arith, day_count-lt_month y m₂ d₂ m d k h.2.0 gt))
      ]
    ]

same_date : (y y₂ : ℤ) (m m₂ d d₂ : ℕ) → y ≡ y₂ → m ≡ m₂ → d ≡ d₂
    → (let a : CivilDate = record { year = y; month = m; day = d } in let b : CivilDate = record { year = y₂; month = m₂; day = d₂ } in a ≡ b)
same_date y y₂ m m₂ d d₂ e f g = cc

pub one_date : DatesAreUnique
one_date n a b h k =
    let count = same_count a.year b.year a.month a.day b.month b.day n h.number_is k.number_is in
    let year = same_year a.year b.year a.month a.day b.month b.day h.in_calendar k.in_calendar count in
    let in_calendar = rw (sym year) at k.in_calendar in
    let count₂ = rw (sym year) at count in
    let month = same_month a.year a.month a.day b.month b.day h.in_calendar in_calendar count₂ in
    let count₃ = rw (sym month) at count₂ in
    let day : a.day ≡ b.day = omega (arith, day_count-day a.year a.month a.day b.day h.in_calendar.2.0 k.in_calendar.2.0) in
    same_date a.year b.year a.month b.month a.day b.day year month day

same_value : (f : CivilDate → List ℕ) (a b : List ℕ) (d e : CivilDate) → d ≡ e → a ≡ f d → b ≡ f e → a ≡ b
same_value f a b d e same g h = cc

-- the date of a view's moment determines its sheet
pub one_sheet : SheetsAreUnique
one_sheet view a b h k =
    let same = one_date (day_number (view_moment view)) h.date k.date h.date_is k.date_is in
    same_value (λ date. sheet_text view date (view_moment view)) a b h.date k.date same h.text_is k.text_is
