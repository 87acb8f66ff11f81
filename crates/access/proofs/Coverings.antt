-- The tests of the definitions against what stands and covers.
use Rattle.std.proofs.Common.{◌≡◌, ℕ, zero, suc, ◌<◌, ◌≤◌, Bool, true, false, ◌&&◌, ◌⊎◌, List, [], ◌∷◌, length, get_or, Some, None, Decides, Option, sym, refl, ap, ◌∙◌, inl, inr, ⊎_elim, arith}
use Rattle.std.proofs.lemmas.Bool.{cases_eq, cases_Bool, cond-true, cond-false, cond_both, and_parts, and_from, or_cases, or_left, or_right, eqb-true, eq-eqb, leb-true, le-leb, true≢false, false≢true}
use Rattle.std.proofs.lemmas.Bool.Decides.{not_from_Decides}
use Rattle.calendar.specs.declared.date.Date.{Date}
use Rattle.calendar.specs.declared.minute.Minute.{Minute}
use Rattle.calendar.specs.Dates.{minute_number, weekday_of}
use Rattle.records.specs.declared.row.Row.{Row}
use Rattle.records.specs.declared.user.User.{User}
use Rattle.records.specs.declared.window.Window.{Window}
use Rattle.records.specs.declared.window.Window.TheVariants.{Unused, Used}
use Rattle.tables.specs.declared.entry.Entry.{Entry}
use Rattle.tables.specs.Maps.{Map}
use Rattle.access.specs.Standing.{Standing, Bounded, named, passes, meant}
use Rattle.access.specs.Covering.{some_of, times_include, set_covers, weekday_row, holiday_row, falls_on, is_holiday, row_of, sets_at, row_sets, zone_covers, opens, zone_for, group_opens, group_admits}
use Rattle.access.specs.Events.{in_date}
use Rattle.access.specs.Grounds.{TimesInclude, SetCovers, HolidayOn, RowOf, RowCovers, ZoneCovers, DoorOpened, GroupOpens, DoorAdmitted, GroupAdmits, OneGroup, InDate}
use Rattle.access.proofs.Lowest.{first_lowest, some_stands, lowest_there}
use Rattle.access.proofs.Meanings.{meant_always, meant_passes}

-- ---- a number is 1, or its record stands and passes

pub record Passing {B : Type 0} (f : Map B) (test : B → Bool) (n : ℕ) : Type 0 where
  pub entry : Entry B
  pub stands : named f n ≡ Some entry
  pub right : test entry.body ≡ true

module _ {B : Type 0} (f : Map B) (test : B → Bool) (n : ℕ) where
  passing : (o : Option (Entry B)) → named f n ≡ o → passes test o ≡ true → Passing f test n
  passing None is so = absurd (false≢true so)
  passing (Some e) is so = record { entry = e; stands = is; right = so }

  module _ {R : Type 0} (to : Passing f test n → R) (from : R → Passing f test n) where
    said : meant f test n ≡ true → (n ≡ 1) ⊎ R
    said so =
        ⊎_elim
        (λ (one : n ≡ 1). inl one)
        (λ (other : n ≡ 1 → ⊥). inr (to (passing (named f n) refl (sym (meant_passes f test n (named f n) other refl) ∙ so))))
        (cases_eq n 1)

    stood : (n ≡ 1) ⊎ R → meant f test n ≡ true
    stood (inl one) = meant_always f test n one
    stood (inr r) =
        let p = from r in
        ⊎_elim
        (λ (one : n ≡ 1). meant_always f test n one)
        (λ (other : n ≡ 1 → ⊥). meant_passes f test n (Some p.entry) other (sym p.stands) ∙ p.right)
        (cases_eq n 1)

    pub decides_meant : Decides (meant f test n) ((n ≡ 1) ⊎ R)
    decides_meant = (said, stood)

-- ---- one of several numbers, by its place

some_of_place : (p : ℕ → Bool) (ns : List ℕ) → some_of p ns ≡ true → (k : ℕ) × (k < length ns) × (p (get_or ns k 0) ≡ true)
some_of_place p [] so = absurd (false≢true so)
some_of_place p (n ∷ ns) so =
    elim (or_cases (p n) (some_of p ns) so) [ inl here ↦ (0, omega arith, here) | inr later ↦ (let r = some_of_place p ns later in (suc r.0, (let h = r.1 in omega arith), r.2)) ]

-- past the last of them stands 0, which never passes
place_some_of : (p : ℕ → Bool) → p 0 ≡ false → (ns : List ℕ) (k : ℕ) → p (get_or ns k 0) ≡ true → some_of p ns ≡ true
place_some_of p never [] k so = absurd (true≢false (sym so ∙ never))
place_some_of p never (n ∷ ns) zero so = or_left (p n) (some_of p ns) so
place_some_of p never (n ∷ ns) (suc k) so = or_right (p n) (some_of p ns) (place_some_of p never ns k so)

-- ---- time sets

module _ (s : Standing) (x : Minute) where
  pub decides_set : (n : ℕ) → Decides (set_covers s x n) (SetCovers s x n)
  decides_set n =
      decides_meant s.time_sets (times_include x) n {R = TimesInclude s x n}
      (λ p. let both = and_parts _ _ p.right in record { set = p.entry; stands = p.stands; begun = leb-true _ _ both.0; not_over = leb-true _ _ both.1 })
      (λ r. record { entry = r.set; stands = r.stands; right = and_from _ _ (le-leb _ _ r.begun) (le-leb _ _ r.not_over) })

-- ---- the row of a day

module _ (s : Standing) (bounded : Bounded s) (d : Date) where
  holiday_said : is_holiday s d ≡ true → HolidayOn s d
  holiday_said so =
      let there = some_stands _ so in
      let first = first_lowest s.holidays (falls_on d) s.holidays_end there.0 there.1 in
      let both = and_parts _ _ first.yes in
      record { number = first.number; holiday = there.0; stands = first.stands; month = eqb-true _ _ both.0; day = eqb-true _ _ both.1 }

  holiday_stood : HolidayOn s d → is_holiday s d ≡ true
  holiday_stood h =
      lowest_there s.holidays (falls_on d) s.holidays_end h.number h.holiday (bounded.holidays_below h.number h.holiday h.stands) h.stands (and_from _ _ (eq-eqb _ _ h.month) (eq-eqb _ _ h.day))

  decides_holiday : Decides (is_holiday s d) (HolidayOn s d)
  decides_holiday = (holiday_said, holiday_stood)

  row_right : RowOf s d (row_of s d)
  row_right =
      cond_both (is_holiday s d) holiday_row (weekday_row (weekday_of d)) (λ i. RowOf s d i)
      (λ so. inl (holiday_said so, refl))
      (λ fails. inr (not_from_Decides _ decides_holiday fails, refl))

  row_only : (i : ℕ) → RowOf s d i → i ≡ row_of s d
  row_only i (inl h) = h.1 ∙ sym (cond-true (is_holiday s d) holiday_row (weekday_row (weekday_of d)) (holiday_stood h.0))
  row_only i (inr h) =
      ⊎_elim
      (λ (so : is_holiday s d ≡ true). absurd (h.0 (holiday_said so)))
      (λ (fails : is_holiday s d ≡ false). h.1 ∙ sym (cond-false (is_holiday s d) holiday_row (weekday_row (weekday_of d)) fails))
      (cases_Bool (is_holiday s d))

three_at_most : (rows : List Row) (i : ℕ) → length (sets_at rows i) ≤ 3
three_at_most [] i = omega arith
three_at_most (r ∷ rows) zero = omega (arith, r.three)
three_at_most (r ∷ rows) (suc i) = three_at_most rows i

-- ---- zones and groups

module _ (s : Standing) (bounded : Bounded s) (x : Minute) where
  zone_said : (n : ℕ) → Passing s.zones (λ z. some_of (set_covers s x) (row_sets z (row_of s x.date))) n → RowCovers s x n
  zone_said n p =
      let row = row_of s x.date in
      let at = some_of_place (set_covers s x) (row_sets p.entry.body row) p.right in
      record {
        zone = p.entry;
        stands = p.stands;
        row = row;
        of_day = row_right s bounded x.date;
        place = at.0;
        one_of_three = omega (arith, at.1, three_at_most p.entry.body.rows row);
        covers = (decides_set s x _).0 at.2;
      }

  zone_stood : (n : ℕ) → RowCovers s x n → Passing s.zones (λ z. some_of (set_covers s x) (row_sets z (row_of s x.date))) n
  zone_stood n r =
      let here = place_some_of (set_covers s x) refl (row_sets r.zone.body r.row) r.place ((decides_set s x _).1 r.covers) in
      record {
        entry = r.zone;
        stands = r.stands;
        right = sym (ap (λ i. some_of (set_covers s x) (row_sets r.zone.body i)) (row_only s bounded x.date r.row r.of_day)) ∙ here;
      }

  pub decides_zone : (n : ℕ) → Decides (zone_covers s x n) (ZoneCovers s x n)
  decides_zone n = decides_meant s.zones _ n (zone_said n) (zone_stood n)

  module _ (door : ℕ) where
    pub decides_admits : (n : ℕ) → Decides (group_admits s door x n) (GroupAdmits s door x n)
    decides_admits n =
        decides_meant s.groups (λ g. opens door g && zone_covers s x (zone_for door g)) n {R = DoorAdmitted s door x n}
        (λ p. let both = and_parts _ _ p.right in record { group = p.entry; stands = p.stands; opened = both.0; covered = (decides_zone _).0 both.1 })
        (λ r. record { entry = r.group; stands = r.stands; right = and_from _ _ r.opened ((decides_zone _).1 r.covered) })

pub decides_opens : (s : Standing) (door n : ℕ) → Decides (group_opens s door n) (GroupOpens s door n)
decides_opens s door n =
    decides_meant s.groups (opens door) n {R = DoorOpened s door n}
    (λ p. record { group = p.entry; stands = p.stands; opened = p.right })
    (λ r. record { entry = r.group; stands = r.stands; right = r.opened })

-- ---- a user's groups and window

pub decides_groups : (u : User) (p : ℕ → Bool) (P : ℕ → Type 0) → p 0 ≡ false → ((n : ℕ) → Decides (p n) (P n)) → Decides (some_of p u.groups) (OneGroup u P)
decides_groups u p P never each = (
  (λ so. let at = some_of_place p u.groups so in record { place = at.0; one_of_four = omega (arith, at.1, u.four); so = (each _).0 at.2 }),
  (λ r. place_some_of p never u.groups r.place ((each _).1 r.so)),
)

pub decides_in_date : (w : Window) (x : Minute) → Decides (in_date w x) (InDate w x)
decides_in_date (Unused k) x = ((λ _. tt), (λ _. refl))
decides_in_date (Used v) x = (
  (λ so. let both = and_parts _ _ so in (leb-true (minute_number v.start) (minute_number x) both.0, leb-true (minute_number x) (minute_number v.end) both.1)),
  (λ in_it. and_from _ _ (le-leb _ _ in_it.0) (le-leb _ _ in_it.1)),
)
