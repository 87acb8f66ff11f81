-- What a card shown at a door gets for an answer: the questions in their order, the first that decides.
use Rattle.std.specs.Prelude.{ℕ, Bool, true, false, cond, not, ◌&&◌, List, Some, None, Option, ◌==◌, nat_le}
use Rattle.calendar.specs.declared.minute.Minute.{Minute}
use Rattle.calendar.specs.Dates.{minute_number}
use Rattle.doors.specs.declared.event.Event.{Event}
use Rattle.doors.specs.declared.event.Event.TheVariants.{Admitted, UnknownCard, UserOff, OutOfDate, DoorNotOpened, NotNow}
use Rattle.records.specs.declared.user.Status.{Status}
use Rattle.records.specs.declared.user.Status.TheVariants.{Off, Active}
use Rattle.records.specs.declared.user.User.{User}
use Rattle.records.specs.declared.window.Window.{Window}
use Rattle.records.specs.declared.window.Window.TheVariants.{Unused, Used}
use Rattle.tables.specs.declared.entry.Entry.{Entry}
use Rattle.access.specs.Standing.{Standing, lowest}
use Rattle.access.specs.Covering.{some_of, group_opens, group_admits}
use Rattle.access.specs.declared.answer.Answer.{Answer}

-- two cards match where they are equal and not 0, which is no card
abbrev pub cards_match : ℕ → ℕ → Bool
cards_match a b = not (a == 0) && a == b

abbrev pub has_card : ℕ → User → Bool
has_card card u = cards_match card u.card

-- the user who has the card, the one with the lowest number if there are more
abbrev pub holder : Standing → ℕ → Option (Entry User)
holder s card = lowest s.users (has_card card) s.users_end

abbrev pub active : Status → Bool
active Off = false
active Active = true

-- both ends belong to the window; seconds do not count
abbrev pub in_date : Window → Minute → Bool
in_date (Unused k) x = true
in_date (Used v) x = nat_le (minute_number v.start) (minute_number x) && nat_le (minute_number x) (minute_number v.end)

-- what the groups of a user come to
abbrev pub groups_event : Standing → List ℕ → ℕ → Minute → Event
groups_event s groups door x =
    cond (not (some_of (group_opens s door) groups)) DoorNotOpened
    (cond (not (some_of (group_admits s door x) groups)) NotNow
    Admitted)

abbrev pub user_event : Standing → User → ℕ → Minute → Event
user_event s u door x =
    cond (not (active u.status)) UserOff
    (cond (not (in_date u.window x)) OutOfDate
    (groups_event s u.groups door x))

-- an unknown card has user number 0
abbrev pub answered_by : Standing → Option (Entry User) → ℕ → Minute → Answer
answered_by s None door x = record { event = UnknownCard; user = 0 }
answered_by s (Some e) door x = record { event = user_event s e.body door x; user = e.number }

abbrev pub answered : Standing → ℕ → ℕ → Minute → Answer
answered s card door x = answered_by s (holder s card) door x
