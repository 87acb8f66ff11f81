-- A record is decoded from its bytes: each question is answered yes, and its proof is the one that the record has.
use Rattle.std.specs.Prelude.{◌≡◌, ℕ, ◌^◌, ◌<◌, ◌≤◌, Bool, true, false, T, List, [], ◌∷◌, length, Some, ◌==◌, nat_le, nat_lt, refl}
use Rattle.std.proofs.Common.{sym, ap, subst, ◌∙◌, arith, ltb→lt, leb→le, eqb→eq, lt→ltb, le→leb}
use Rattle.std.proofs.Math.Bool.{Bool-set}
use Rattle.std.proofs.lemmas.Bool.{false≢true}
use Rattle.std.proofs.Math.Bridge.{le_prop}
use Rattle.std.specs.Coded.{coded_ℕ}
use denote.Struct.Props.{≡_prop}
use Rattle.std.proofs.Math.Dec.{eqb_refl}
use Rattle.std.specs.Option.{option_map}
use Rattle.std.specs.List.{flat_map}
use Rattle.std.proofs.lemmas.List.{take_all, take_at, drop_at}
use Rattle.calendar.specs.declared.date.Date.{Date}
use Rattle.calendar.specs.declared.minute.Minute.{Minute}
use Rattle.calendar.specs.declared.month_day.MonthDay.{MonthDay}
use Rattle.calendar.specs.declared.time_of_day.TimeOfDay.{TimeOfDay}
use Rattle.calendar.specs.Days.{real_date, date_of_some_year, minute_of_day}
use Rattle.calendar.specs.Dates.{minute_number}
use Rattle.tables.specs.declared.entry.Entry.{Entry}
use Rattle.records.specs.declared.group.Group.{Group}
use Rattle.records.specs.declared.holiday.Holiday.{Holiday}
use Rattle.records.specs.declared.row.Row.{Row}
use Rattle.records.specs.declared.time_set.TimeSet.{TimeSet}
use Rattle.records.specs.declared.user.Status.{Status}
use Rattle.records.specs.declared.user.Status.TheVariants.{Off, Active}
use Rattle.records.specs.declared.user.User.{User}
use Rattle.records.specs.declared.window.Kept.{Kept}
use Rattle.records.specs.declared.window.Validity.{Validity}
use Rattle.records.specs.declared.window.Window.{Window}
use Rattle.records.specs.declared.window.Window.TheVariants.{Unused, Used}
use Rattle.records.specs.declared.zone.Zone.{Zone}
use Rattle.records.specs.Named.{zones_named}
use Rattle.records.specs.Groups.{group_bytes}
use Rattle.records.specs.Holidays.{holiday_bytes}
use Rattle.records.specs.TimeSets.{time_set_bytes}
use Rattle.records.specs.Users.{status_byte, four_bytes_hold, user_bytes}
use Rattle.records.specs.Windows.{minute_bytes, window_bytes}
use Rattle.records.specs.Zones.{sets_of, zone_bytes}
use Rattle.records.specs.Decoding.{passed, is_true, less, at_most, same, month_day_of, date_of, time_of, minute_of, holiday_of, time_set_of, group_of, row_of, rows_of, zone_of, kept_of, validity_of, window_of, status_of, user_of}
use Rattle.records.specs.GroupBytes.{zones_of, doors_of}
use Rattle.records.specs.UserBytes.{Fields, fields}
use Rattle.records.specs.WindowBytes.{year_back}

-- ---- a question whose answer is known

pub passed_yes : (b : Bool) (t : T b) → passed b ≡ Some t
passed_yes true t = refl
passed_yes false t = absurd t

pub is_true_yes : (b : Bool) (p : b ≡ true) → is_true b ≡ Some p
is_true_yes true p = ap Some (Bool-set true true refl p)
is_true_yes false p = absurd (false≢true p)

pub less_yes : (a b : ℕ) (p : a < b) → less a b ≡ Some p
less_yes a b p = ap (option_map (ltb→lt a b)) (passed_yes (nat_lt a b) (lt→ltb a b p)) ∙ ap Some (le_prop (ltb→lt a b (lt→ltb a b p)) p)

pub at_most_yes : (a b : ℕ) (p : a ≤ b) → at_most a b ≡ Some p
at_most_yes a b p = ap (option_map (leb→le a b)) (passed_yes (nat_le a b) (le→leb a b p)) ∙ ap Some (le_prop (leb→le a b (le→leb a b p)) p)

pub same_yes : (a b : ℕ) (p : a ≡ b) → same a b ≡ Some p
same_yes a b p = ap (option_map (eqb→eq a b)) (passed_yes (a == b) (subst (λ n. T (a == n)) p (eqb_refl a))) ∙ ap Some (≡_prop coded_ℕ a b _ p)

-- ---- days and times

time_yes : (t : TimeOfDay) → time_of t.hour t.minute ≡ Some t
time_yes t = rw (less_yes t.hour 24 t.hours, less_yes t.minute 60 t.minutes)

month_day_yes : (d : MonthDay) → month_day_of d.month d.day ≡ Some d
month_day_yes d = rw (is_true_yes (date_of_some_year d.month d.day) d.real)

date_yes : (d : Date) → date_of d.year d.month d.day ≡ Some d
date_yes d = rw (is_true_yes (real_date d.year d.month d.day) d.real)

minute_yes : (m : Minute) → minute_of (minute_bytes m) ≡ Some m
minute_yes m = rw (year_back m.date, date_yes m.date, time_yes m.time)

-- ---- holidays, time sets and groups

pub holiday_yes : (e : Entry Holiday) → holiday_of (holiday_bytes e) ≡ Some e
holiday_yes e = rw (month_day_yes e.body.day)

pub time_set_yes : (e : Entry TimeSet) → time_set_of (time_set_bytes e) ≡ Some e
time_set_yes e =
    let s = e.body in
    rw (time_yes s.start, time_yes s.end, at_most_yes (minute_of_day s.start.hour s.start.minute) (minute_of_day s.end.hour s.end.minute) s.ordered)

pub group_yes : (e : Entry Group) → group_of (group_bytes e) ≡ Some e
group_yes e =
    let g = e.body in
    rw (zones_of e, doors_of e, same_yes (length g.zones) 8 g.eight, is_true_yes (zones_named g.zones) g.named)

-- ---- zones

row_yes : (r : Row) → row_of r.sets ≡ Some r
row_yes r = rw (same_yes (length r.sets) 3 r.three)

rows_yes : (rows : List Row) → rows_of (length rows) (flat_map sets_of rows) ≡ Some rows
rows_yes [] = refl
rows_yes (r ∷ rows) = rw (take_at r.sets (flat_map sets_of rows) 3 r.three, drop_at r.sets (flat_map sets_of rows) 3 r.three, row_yes r, rows_yes rows)

pub zone_yes : (e : Entry Zone) → zone_of (zone_bytes e) ≡ Some e
zone_yes e =
    let rows = e.body.rows in
    let all : rows_of 8 (flat_map sets_of rows) ≡ Some rows = ap (λ n. rows_of n (flat_map sets_of rows)) (sym e.body.eight) ∙ rows_yes rows in
    rw (all, same_yes (length rows) 8 e.body.eight)

-- ---- windows

kept_yes : (k : Kept) → kept_of k.bytes ≡ Some k
kept_yes k = rw (same_yes (length k.bytes) 10 k.ten)

validity_yes : (v : Validity) → validity_of (minute_bytes v.start) (minute_bytes v.end) ≡ Some v
validity_yes v = rw (minute_yes v.start, minute_yes v.end, at_most_yes (minute_number v.start) (minute_number v.end) v.ordered)

window_yes : (w : Window) → window_of (window_bytes w) ≡ Some w
window_yes (Unused k) = rw (take_all 10 k.bytes (omega (arith, k.ten)), kept_yes k)
window_yes (Used v) = rw (validity_yes v)

-- ---- users

status_yes : (s : Status) → status_of (status_byte s) ≡ Some s
status_yes Off = refl
status_yes Active = refl

user_from : (bs : List ℕ) (e : Entry User) → Fields e bs → user_of bs ≡ Some e
user_from bs e f =
    let u = e.body in
    rw (f.card, f.name, f.window, f.status, f.kind, f.groups, f.bypass, f.password, f.reserved, f.number, less_yes u.card (2 ^ 64) u.eight, same_yes (length u.name) 31 u.named, window_yes u.window, status_yes u.status, at_most_yes u.kind 5 u.kinds, same_yes (length u.groups) 4 u.four, same_yes (length u.password) 8 u.secret, same_yes (length u.reserved) 15 u.rest)

pub user_yes : (e : Entry User) → four_bytes_hold e.number ≡ true → user_of (user_bytes e) ≡ Some e
user_yes e holds = user_from (user_bytes e) e (fields e holds)
