-- What each event means, in the words of the records: the grounds on which a card is let through or not.
use Rattle.std.specs.Prelude.{◌≡◌, ℕ, ◌<◌, ◌≤◌, true, ◌⊎◌, Some, slice_index}
use Rattle.calendar.specs.declared.date.Date.{Date}
use Rattle.calendar.specs.declared.minute.Minute.{Minute}
use Rattle.calendar.specs.Days.{minute_of_day}
use Rattle.calendar.specs.Dates.{minute_number, weekday_of}
use Rattle.doors.specs.declared.event.Event.{Event}
use Rattle.doors.specs.declared.event.Event.TheVariants.{Admitted, UnknownCard, UserOff, OutOfDate, DoorNotOpened, NotNow}
use Rattle.records.specs.declared.group.Group.{Group}
use Rattle.records.specs.declared.holiday.Holiday.{Holiday}
use Rattle.records.specs.declared.time_set.TimeSet.{TimeSet}
use Rattle.records.specs.declared.user.Status.TheVariants.{Off, Active}
use Rattle.records.specs.declared.user.User.{User}
use Rattle.records.specs.declared.window.Window.{Window}
use Rattle.records.specs.declared.window.Window.TheVariants.{Unused, Used}
use Rattle.records.specs.declared.zone.Zone.{Zone}
use Rattle.tables.specs.declared.entry.Entry.{Entry}
use Rattle.tables.specs.Maps.{Map}
use Rattle.access.specs.declared.answer.Answer.{Answer}
use Rattle.access.specs.Standing.{Standing, Bounded, named}
use Rattle.access.specs.Covering.{weekday_row, holiday_row, row_sets, opens, zone_for}
use Rattle.access.specs.Events.{cards_match, answered}

-- ---- what stands and covers

-- a time set stands under the number, and its times include the minute
pub record TimesInclude (s : Standing) (x : Minute) (n : ℕ) : Type 0 where
  pub set : Entry TimeSet
  pub stands : named s.time_sets n ≡ Some set
  pub begun : minute_of_day set.body.start.hour set.body.start.minute ≤ minute_of_day x.time.hour x.time.minute
  pub not_over : minute_of_day x.time.hour x.time.minute ≤ minute_of_day set.body.end.hour set.body.end.minute

abbrev pub SetCovers : Standing → Minute → ℕ → Type 0
SetCovers s x n = (n ≡ 1) ⊎ TimesInclude s x n

-- some holiday has the month and the date of the day
pub record HolidayOn (s : Standing) (d : Date) : Type 0 where
  pub number : ℕ
  pub holiday : Entry Holiday
  pub stands : s.holidays number ≡ Some holiday
  pub month : holiday.body.day.month ≡ d.month
  pub day : holiday.body.day.day ≡ d.day

-- row i is that of the day: the holiday row on a holiday, else that of the weekday
abbrev pub RowOf : Standing → Date → ℕ → Type 0
RowOf s d i = (HolidayOn s d × (i ≡ holiday_row)) ⊎ ((HolidayOn s d → ⊥) × (i ≡ weekday_row (weekday_of d)))

-- a zone stands under the number, and a time set of the day's row covers the minute
pub record RowCovers (s : Standing) (x : Minute) (n : ℕ) : Type 0 where
  pub zone : Entry Zone
  pub stands : named s.zones n ≡ Some zone
  pub row : ℕ
  pub of_day : RowOf s x.date row
  pub place : ℕ
  pub one_of_three : place < 3
  pub covers : SetCovers s x (slice_index (row_sets zone.body row) place)

abbrev pub ZoneCovers : Standing → Minute → ℕ → Type 0
ZoneCovers s x n = (n ≡ 1) ⊎ RowCovers s x n

-- a group stands under the number and opens the door
pub record DoorOpened (s : Standing) (door : ℕ) (n : ℕ) : Type 0 where
  pub group : Entry Group
  pub stands : named s.groups n ≡ Some group
  pub opened : opens door group.body ≡ true

abbrev pub GroupOpens : Standing → ℕ → ℕ → Type 0
GroupOpens s door n = (n ≡ 1) ⊎ DoorOpened s door n

-- a group stands under the number, opens the door, and names for it a zone that covers the minute
pub record DoorAdmitted (s : Standing) (door : ℕ) (x : Minute) (n : ℕ) : Type 0 where
  pub group : Entry Group
  pub stands : named s.groups n ≡ Some group
  pub opened : opens door group.body ≡ true
  pub covered : ZoneCovers s x (zone_for door group.body)

abbrev pub GroupAdmits : Standing → ℕ → Minute → ℕ → Type 0
GroupAdmits s door x n = (n ≡ 1) ⊎ DoorAdmitted s door x n

-- it is so of one of the user's four groups
pub record OneGroup (u : User) (P : ℕ → Type 0) : Type 0 where
  pub place : ℕ
  pub one_of_four : place < 4
  pub so : P (slice_index u.groups place)

abbrev pub InDate : Window → Minute → Type 0
InDate (Unused k) x = Unit {0}
InDate (Used v) x = (minute_number v.start ≤ minute_number x) × (minute_number x ≤ minute_number v.end)

-- there is a user under some number with that card, and the card is not 0
pub record CardOf (s : Standing) (card : ℕ) (P : ℕ → User → Type 0) : Type 0 where
  pub not_0 : card ≡ 0 → ⊥
  pub number : ℕ
  pub user : Entry User
  pub stands : s.users number ≡ Some user
  pub has : user.body.card ≡ card
  pub so : P number user.body

-- ---- the six grounds

abbrev pub Ground : Standing → ℕ → ℕ → Minute → Event → Type 0
Ground s card door x UnknownCard = CardOf s card (λ n u. Unit {0}) → ⊥
Ground s card door x UserOff = CardOf s card (λ n u. u.status ≡ Off)
Ground s card door x OutOfDate = CardOf s card (λ n u. (u.status ≡ Active) × (InDate u.window x → ⊥))
Ground s card door x DoorNotOpened =
    CardOf s card (λ n u. (u.status ≡ Active) × InDate u.window x × (OneGroup u (GroupOpens s door) → ⊥))
Ground s card door x NotNow =
    CardOf s card (λ n u. (u.status ≡ Active) × InDate u.window x × OneGroup u (GroupOpens s door) × (OneGroup u (GroupAdmits s door x) → ⊥))
Ground s card door x Admitted =
    CardOf s card (λ n u. (u.status ≡ Active) × InDate u.window x × OneGroup u (GroupAdmits s door x))

-- no two users share a card other than 0
abbrev pub UniqueCards : Map User → Type 0
UniqueCards users =
    (n k : ℕ) (u v : Entry User) → users n ≡ Some u → users k ≡ Some v → cards_match u.body.card v.body.card ≡ true → n ≡ k

-- every record of one set of tables stands in another under the same number
pub record Contained (s t : Standing) : Type 0 where
  pub users : (n : ℕ) (e : Entry User) → s.users n ≡ Some e → t.users n ≡ Some e
  pub time_sets : (n : ℕ) (e : Entry TimeSet) → s.time_sets n ≡ Some e → t.time_sets n ≡ Some e
  pub zones : (n : ℕ) (e : Entry Zone) → s.zones n ≡ Some e → t.zones n ≡ Some e
  pub groups : (n : ℕ) (e : Entry Group) → s.groups n ≡ Some e → t.groups n ≡ Some e
  pub holidays : (n : ℕ) (e : Entry Holiday) → s.holidays n ≡ Some e → t.holidays n ≡ Some e

abbrev pub SameHolidays : Standing → Standing → Type 0
SameHolidays s t = (d : Date) → (HolidayOn s d → HolidayOn t d) × (HolidayOn t d → HolidayOn s d)

-- what holds of every answer to a card
pub record AccessLaws (s : Standing) (card door : ℕ) (x : Minute) (a : Answer) : Type 0 where
  -- an event comes exactly on its ground
  pub on_its_ground : UniqueCards s.users → (e : Event) → (a.event ≡ e → Ground s card door x e) × (Ground s card door x e → a.event ≡ e)
  -- the user told is the one who has the card, and 0 where nobody has it
  pub whose : UniqueCards s.users → (n : ℕ) (u : Entry User) → s.users n ≡ Some u → cards_match card u.body.card ≡ true → a.user ≡ n
  pub nobody : a.event ≡ UnknownCard → a.user ≡ 0
  -- more records never shut a door
  pub more_records : UniqueCards s.users → a.event ≡ Admitted → (t : Standing) → Bounded t → UniqueCards t.users → Contained s t → SameHolidays s t → (answered t card door x).event ≡ Admitted
