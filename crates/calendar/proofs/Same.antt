-- Two dates or times with the same numbers are the same: an invariant has one proof.
use Rattle.std.proofs.Common.{◌≡◌, suc, ◌≤◌, true}
use mathlib.Core.Bool.{Bool-set}
use mathlib.Core.HLevel.{is_prop→PathP}
use native.Mathlib.Bridge.{le_prop}
use Rattle.calendar.specs.declared.date.Date.{Date}
use Rattle.calendar.specs.declared.minute.Minute.{Minute}
use Rattle.calendar.specs.declared.month_day.MonthDay.{MonthDay}
use Rattle.calendar.specs.declared.time_of_day.TimeOfDay.{TimeOfDay}
use Rattle.calendar.specs.Days.{real_date, date_of_some_year}

pub same_time : (s t : TimeOfDay) → s.hour ≡ t.hour → s.minute ≡ t.minute → s ≡ t
same_time s t p q =
    λ i. record {
      hour = p i;
      minute = q i;
      hours = is_prop→PathP (λ j. suc (p j) ≤ 24) (λ j. le_prop) s.hours t.hours i;
      minutes = is_prop→PathP (λ j. suc (q j) ≤ 60) (λ j. le_prop) s.minutes t.minutes i;
    }

pub same_date : (s t : Date) → s.year ≡ t.year → s.month ≡ t.month → s.day ≡ t.day → s ≡ t
same_date s t p q r =
    λ i. record {
      year = p i;
      month = q i;
      day = r i;
      real = is_prop→PathP (λ j. real_date (p j) (q j) (r j) ≡ true) (λ j. Bool-set (real_date (p j) (q j) (r j)) true) s.real t.real i;
    }

pub same_month_day : (s t : MonthDay) → s.month ≡ t.month → s.day ≡ t.day → s ≡ t
same_month_day s t p q =
    λ i. record {
      month = p i;
      day = q i;
      real = is_prop→PathP (λ j. date_of_some_year (p j) (q j) ≡ true) (λ j. Bool-set (date_of_some_year (p j) (q j)) true) s.real t.real i;
    }

pub same_minute : (s t : Minute) → s.date ≡ t.date → s.time ≡ t.time → s ≡ t
same_minute s t p q = λ i. record { date = p i; time = q i }
