-- The bytes of a holiday.
use Rattle.std.specs.Prelude.{◌≡◌, ℕ, true, List, slice_index}
use Rattle.std.proofs.Common.{ap, subst}
use Rattle.std.proofs.lemmas.Bool.{and_from}
use Rattle.calendar.specs.declared.month_day.MonthDay.{MonthDay}
use Rattle.calendar.specs.Days.{date_of_some_year}
use Rattle.calendar.proofs.Same.{same_month_day}
use Rattle.tables.specs.declared.entry.Entry.{Entry}
use Rattle.records.specs.declared.holiday.Holiday.{Holiday}
use Rattle.records.specs.Holidays.{holiday_number, holiday_bytes, holiday_ranges}

-- bytes that a day was read of
pub ranges_read : (bs : List ℕ) (day : MonthDay) → holiday_number (slice_index bs 0) ≡ true → (day.month ≡ slice_index bs 1) × (day.day ≡ slice_index bs 2) → holiday_ranges bs ≡ true
ranges_read bs day right is =
    and_from _ _ right (subst (λ m. date_of_some_year m (slice_index bs 2) ≡ true) is.0 (subst (λ d. date_of_some_year day.month d ≡ true) is.1 day.real))

pub ranges_right : (e : Entry Holiday) → holiday_number e.number ≡ true → holiday_ranges (holiday_bytes e) ≡ true
ranges_right e right = and_from _ _ right e.body.day.real

pub apart : (e f : Entry Holiday) → holiday_bytes e ≡ holiday_bytes f → e ≡ f
apart e f is =
    let day = same_month_day e.body.day f.body.day (ap (λ l. slice_index l 1) is) (ap (λ l. slice_index l 2) is) in
    λ i. record { number = slice_index (is i) 0; body = record { day = day i } }
