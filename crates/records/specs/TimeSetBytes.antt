-- The bytes of a time set.
use Rattle.std.specs.Prelude.{◌≡◌, ℕ, ◌≤◌, true, List, slice_index}
use Rattle.std.proofs.Common.{ap, arith}
use mathlib.Core.HLevel.{is_prop→PathP}
use Rattle.std.proofs.Math.Bridge.{le_prop}
use Rattle.std.proofs.lemmas.Bool.{and_from, lt-ltb, le-leb}
use Rattle.calendar.specs.declared.time_of_day.TimeOfDay.{TimeOfDay}
use Rattle.calendar.specs.Days.{real_time, minute_of_day}
use Rattle.calendar.proofs.Same.{same_time}
use Rattle.tables.specs.declared.entry.Entry.{Entry}
use Rattle.records.specs.declared.time_set.TimeSet.{TimeSet}
use Rattle.records.specs.TimeSets.{time_set_number, time_set_bytes, time_set_ranges}

-- bytes that two times were read of
pub ranges_read : (bs : List ℕ) (start end : TimeOfDay) → time_set_number (slice_index bs 0) ≡ true → (start.hour ≡ slice_index bs 1) × (start.minute ≡ slice_index bs 2) → (end.hour ≡ slice_index bs 3) × (end.minute ≡ slice_index bs 4) → minute_of_day start.hour start.minute ≤ minute_of_day end.hour end.minute → time_set_ranges bs ≡ true
ranges_read bs start end right s e ordered =
    and_from _ _ right
    (and_from _ _ (and_from _ _ (lt-ltb (slice_index bs 1) 24 (omega (arith, start.hours))) (lt-ltb (slice_index bs 2) 60 (omega (arith, start.minutes))))
    (and_from _ _ (and_from _ _ (lt-ltb (slice_index bs 3) 24 (omega (arith, end.hours))) (lt-ltb (slice_index bs 4) 60 (omega (arith, end.minutes)))) (le-leb (minute_of_day (slice_index bs 1) (slice_index bs 2)) (minute_of_day (slice_index bs 3) (slice_index bs 4)) (omega arith))))

time_right : (t : TimeOfDay) → real_time t.hour t.minute ≡ true
time_right t = and_from _ _ (lt-ltb t.hour 24 t.hours) (lt-ltb t.minute 60 t.minutes)

pub ranges_right : (e : Entry TimeSet) → time_set_number e.number ≡ true → time_set_ranges (time_set_bytes e) ≡ true
ranges_right e right =
    let s = e.body in
    and_from _ _ right (and_from _ _ (time_right s.start) (and_from _ _ (time_right s.end) (le-leb _ _ s.ordered)))

same_set : (s t : TimeSet) → s.start ≡ t.start → s.end ≡ t.end → s ≡ t
same_set s t p q =
    λ i. record {
      start = p i;
      end = q i;
      ordered = is_prop→PathP (λ j. minute_of_day (p j).hour (p j).minute ≤ minute_of_day (q j).hour (q j).minute) (λ j. le_prop) s.ordered t.ordered i;
    }

pub apart : (e f : Entry TimeSet) → time_set_bytes e ≡ time_set_bytes f → e ≡ f
apart e f is =
    let body = same_set e.body f.body (same_time _ _ (ap (λ l. slice_index l 1) is) (ap (λ l. slice_index l 2) is)) (same_time _ _ (ap (λ l. slice_index l 3) is) (ap (λ l. slice_index l 4) is)) in
    λ i. record { number = slice_index (is i) 0; body = body i }
