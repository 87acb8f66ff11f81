-- The derived orders are the order of time: of days, of the minutes of a day, and of minutes.
use Rattle.std.proofs.Common.{◌≡◌, nat_lt, nat_le, ℕ, suc, ◌+◌, ◌-◌, ◌*◌, ◌<◌, ◌≤◌, take, Some, sum, sym, ap, ◌∙◌, arith}
use Rattle.std.proofs.Math.Nat.{mul-le-mul_left}
use Rattle.std.proofs.lemmas.Bool.Decides.{nat_tests}
use Rattle.std.specs.Ordering.{nat_cmp, partial_ordering_then, partial_lt, partial_le, is_some_and, is_lt, is_le}
use Rattle.calendar.specs.declared.date.Date.{Date}
use Rattle.calendar.specs.declared.minute.Minute.{Minute}
use Rattle.calendar.specs.declared.time_of_day.TimeOfDay.{TimeOfDay}
use Rattle.calendar.specs.contracts.date.DatePartialOrd.TheImpl as date
use Rattle.calendar.specs.contracts.minute.MinutePartialOrd.TheImpl as minute
use Rattle.calendar.specs.contracts.time_of_day.TimeOfDayPartialOrd.TheImpl as time
use Rattle.calendar.specs.Days.{year_length, month_lengths, days_of_years, day_count, minute_of_day}
use Rattle.calendar.specs.Dates.{day_number, minute_number}
use Rattle.calendar.proofs.Counting.{years_counted, months_counted, sum_before}
use Rattle.calendar.proofs.Following.{Real, real_parts}

-- ---- a later date has more days before it

years_before : (y u : ℕ) → 2000 ≤ y → y < u → u ≤ 2099 → days_of_years (y - 2000) + year_length y ≤ days_of_years (u - 2000)
years_before y u from_2000 less to_2099 =
    let next = years_counted (suc (y - 2000)) (omega arith) in
    let there = years_counted (u - 2000) (omega arith) in
    let this_year : 2000 + (y - 2000) ≡ y = omega arith in
    omega (arith, ap year_length this_year)

module _ (y m d u v w : ℕ) (a : Real y m d) (b : Real u v w) where
  earlier_year : y < u → day_count y m d < day_count u v w
  unfolding day_count
  earlier_year less =
      omega (arith, a.from_first, sum_before (month_lengths y) (m - 1) 12 d (omega (arith, a.from_january, a.to_december)) (omega arith) a.to_last, months_counted y, years_before y u a.from_2000 less b.to_2099)

  earlier_month : y ≡ u → m < v → day_count y m d < day_count u v w
  unfolding day_count
  earlier_month same less =
      omega (arith, a.from_first, ap (λ k. days_of_years (k - 2000)) same, ap (λ k. sum (take (v - 1) (month_lengths k))) same, sum_before (month_lengths y) (m - 1) (v - 1) d (omega (arith, a.from_january, a.to_december)) (omega (arith, b.to_december)) a.to_last)

  earlier_day : y ≡ u → m ≡ v → d < w → day_count y m d < day_count u v w
  unfolding day_count
  earlier_day same also less =
      omega (arith, a.from_first, ap (λ k. days_of_years (k - 2000)) same, ap (λ k. sum (take (v - 1) (month_lengths k))) same, ap (λ k. sum (take (k - 1) (month_lengths y))) also)

by_parts : (y m d u v w s t : ℕ) → (y < u → s < t) → (u < y → t < s) → (y ≡ u → m < v → s < t) → (y ≡ u → v < m → t < s) → (y ≡ u → m ≡ v → d < w → s < t) → (y ≡ u → m ≡ v → w < d → t < s) → (y ≡ u → m ≡ v → d ≡ w → s ≡ t) → partial_ordering_then (Some (nat_cmp y u)) (partial_ordering_then (Some (nat_cmp m v)) (Some (nat_cmp d w))) ≡ Some (nat_cmp s t)
by_parts y m d u v w s t a b e f g h i = grind (arith, nat_tests)

pub date_order : (d e : Date) → (date.ghosts).partial_cmp d e ≡ Some (nat_cmp (day_number d) (day_number e))
date_order d e =
    let a = real_parts d.year d.month d.day d.real in
    let b = real_parts e.year e.month e.day e.real in
    by_parts d.year d.month d.day e.year e.month e.day (day_number d) (day_number e)
    (earlier_year _ _ _ _ _ _ a b) (earlier_year _ _ _ _ _ _ b a)
    (earlier_month _ _ _ _ _ _ a b) (λ same. earlier_month _ _ _ _ _ _ b a (sym same))
    (earlier_day _ _ _ _ _ _ a b) (λ same also. earlier_day _ _ _ _ _ _ b a (sym same) (sym also))
    (λ p q r i. day_count (p i) (q i) (r i))

-- ---- a time, and a minute of a date

-- a number of two places, the second below b, is compared place by place
by_places : (b x y u v : ℕ) → y < b → v < b → partial_ordering_then (Some (nat_cmp x u)) (Some (nat_cmp y v)) ≡ Some (nat_cmp (b * x + y) (b * u + v))
by_places b x y u v p q =
    let less : x < u → b * suc x ≤ b * u = λ l. mul-le-mul_left b l in
    let more : u < x → b * suc u ≤ b * x = λ l. mul-le-mul_left b l in
    let same : x ≡ u → b * x ≡ b * u = ap (λ k. b * k) in
    grind (arith, nat_tests)

pub time_order : (s t : TimeOfDay) → (time.ghosts).partial_cmp s t ≡ Some (nat_cmp (minute_of_day s.hour s.minute) (minute_of_day t.hour t.minute))
time_order s t = by_places 60 s.hour s.minute t.hour t.minute s.minutes t.minutes

pub minute_order : (x y : Minute) → (minute.ghosts).partial_cmp x y ≡ Some (nat_cmp (minute_number x) (minute_number y))
minute_order x y =
    (λ i. partial_ordering_then (date_order x.date y.date i) (time_order x.time y.time i))
    ∙ by_places 1440 (day_number x.date) (minute_of_day x.time.hour x.time.minute) (day_number y.date) (minute_of_day y.time.hour y.time.minute) (omega (arith, x.time.hours, x.time.minutes)) (omega (arith, y.time.hours, y.time.minutes))

-- `<` and `<=` of two minutes
pub minute_lt : (x y : Minute) → partial_lt (minute.ghosts).partial_cmp x y ≡ nat_lt (minute_number x) (minute_number y)
minute_lt x y = ap (is_some_and is_lt) (minute_order x y) ∙ grind (arith, nat_tests)

pub minute_le : (x y : Minute) → partial_le (minute.ghosts).partial_cmp x y ≡ nat_le (minute_number x) (minute_number y)
minute_le x y = ap (is_some_and is_le) (minute_order x y) ∙ grind (arith, nat_tests)
