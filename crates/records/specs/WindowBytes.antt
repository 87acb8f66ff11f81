-- The bytes of a window.
use Rattle.std.specs.Prelude.{◌≡◌, ℕ, ◌+◌, ◌-◌, ◌*◌, ◌≤◌, true, List, ◌∷◌, ◌++◌, length, drop, slice_index, refl}
use Rattle.std.proofs.Common.{sym, ap, subst, ◌∙◌, arith}
use mathlib.Core.HLevel.{is_prop→PathP}
use Rattle.std.proofs.Math.Bridge.{le_prop}
use Rattle.std.specs.List.{between}
use Rattle.std.proofs.lemmas.List.{drop_more, drop-drop, take-append-drop, take_all, length-drop}
use Rattle.std.proofs.lemmas.Bool.{and_from, or_left, or_right, lt-ltb, le-leb, eq-eqb}
use Rattle.calendar.specs.declared.date.Date.{Date}
use Rattle.calendar.specs.declared.minute.Minute.{Minute}
use Rattle.calendar.specs.Days.{real_date, day_count, minute_of_day}
use Rattle.calendar.specs.Dates.{minute_number}
use Rattle.calendar.proofs.Following.{real_parts}
use Rattle.calendar.proofs.Same.{same_date, same_time, same_minute}
use Rattle.records.specs.Bytes.{long_over}
use Rattle.records.specs.declared.window.Window.{Window}
use Rattle.records.specs.declared.window.Window.TheVariants.{Unused, Used}
use Rattle.records.specs.Windows.{minute_bytes, minute_ranges, minute_said, validity_ranges, window_bytes, window_ranges}

-- ---- five bytes of a minute

pub year_back : (d : Date) → 2000 + (d.year - 2000) ≡ d.year
year_back d = omega (arith, (real_parts d.year d.month d.day d.real).from_2000)

pub minute_in_range : (m : Minute) → minute_ranges (minute_bytes m) ≡ true
minute_in_range m =
    and_from _ _ (ap (λ y. real_date y m.date.month m.date.day) (year_back m.date) ∙ m.date.real) (and_from _ _ (lt-ltb _ _ m.time.hours) (lt-ltb _ _ m.time.minutes))

pub minute_is_said : (m : Minute) → minute_number m ≡ minute_said (minute_bytes m)
minute_is_said m = ap (λ y. 1440 * day_count y m.date.month m.date.day + minute_of_day m.time.hour m.time.minute) (sym (year_back m.date))

pub minute_read : (bs : List ℕ) (m : Minute) → minute_bytes m ≡ bs → (minute_ranges bs ≡ true) × (minute_number m ≡ minute_said bs)
minute_read bs m is = (ap minute_ranges (sym is) ∙ minute_in_range m, minute_is_said m ∙ ap minute_said is)

-- ---- eleven bytes

pub window_cut : (bs : List ℕ) → length bs ≡ 11 → slice_index bs 0 ∷ between 1 11 bs ≡ bs
window_cut bs eleven = ap (λ l. slice_index bs 0 ∷ l) (take_all 10 (drop 1 bs) (omega (arith, length_of_rest))) ∙ sym (drop_more bs 0 0 (omega arith))
  where
    length_of_rest : length (drop 1 bs) ≡ length bs - 1
    length_of_rest = length-drop 1 bs

pub validity_cut : (bs : List ℕ) → length bs ≡ 11 → slice_index bs 0 ∷ (between 1 6 bs ++ between 6 11 bs) ≡ bs
validity_cut bs eleven =
    let rest = length-drop 6 bs in
    let last : between 6 11 bs ≡ drop 5 (drop 1 bs) = take_all 5 (drop 6 bs) (omega arith) ∙ sym (drop-drop 5 1 bs) in
    ap (λ l. slice_index bs 0 ∷ (between 1 6 bs ++ l)) last ∙ ap (λ l. slice_index bs 0 ∷ l) (take-append-drop 5 (drop 1 bs)) ∙ sym (drop_more bs 0 0 (omega arith))

pub unused_in_range : (bs : List ℕ) → slice_index bs 0 ≡ 0 → window_ranges bs ≡ true
unused_in_range bs is = or_left _ _ (eq-eqb (slice_index bs 0) 0 is)

pub used_in_range : (bs : List ℕ) → slice_index bs 0 ≡ 1 → validity_ranges bs ≡ true → window_ranges bs ≡ true
used_in_range bs is right = or_right _ _ (and_from _ _ (eq-eqb (slice_index bs 0) 1 is) right)

-- ---- how many bytes a window has, and that no two have the same

pub window_sized : (w : Window) → length (window_bytes w) ≡ 11
window_sized (Unused k) = omega (arith, k.ten)
window_sized (Used v) = refl

same_minutes : (m n : Minute) → minute_bytes m ≡ minute_bytes n → m ≡ n
same_minutes m n is =
    let year : m.date.year ≡ n.date.year = sym (year_back m.date) ∙ ap (λ l. 2000 + slice_index l 0) is ∙ year_back n.date in
    same_minute m n (same_date _ _ year (ap (λ l. slice_index l 1) is) (ap (λ l. slice_index l 2) is)) (same_time _ _ (ap (λ l. slice_index l 3) is) (ap (λ l. slice_index l 4) is))

pub window_apart : (w v : Window) → window_bytes w ≡ window_bytes v → w ≡ v
window_apart (Unused k) (Unused l) is =
    let bytes = ap (drop 1) is in
    λ i. Unused (record { bytes = bytes i; ten = long_over 10 bytes k.ten l.ten i })
window_apart (Unused k) (Used v) is = absurd (omega (arith, ap (λ l. slice_index l 0) is))
window_apart (Used v) (Unused k) is = absurd (omega (arith, ap (λ l. slice_index l 0) is))
window_apart (Used v) (Used w) is =
    let start = same_minutes v.start w.start (ap (between 1 6) is) in
    let end = same_minutes v.end w.end (ap (between 6 11) is) in
    λ i. Used (record {
      start = start i;
      end = end i;
      ordered = is_prop→PathP (λ j. minute_number (start j) ≤ minute_number (end j)) (λ j. le_prop) v.ordered w.ordered i;
    })

pub window_right : (w : Window) → window_ranges (window_bytes w) ≡ true
window_right (Unused k) = refl
window_right (Used v) =
    used_in_range (window_bytes (Used v)) refl
    (and_from _ _ (minute_in_range v.start) (and_from _ _ (minute_in_range v.end) (le-leb _ _ (subst (λ n. n ≤ minute_said (minute_bytes v.end)) (minute_is_said v.start) (subst (λ n. minute_number v.start ≤ n) (minute_is_said v.end) v.ordered)))))
