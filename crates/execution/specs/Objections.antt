-- The questions that ask the tables, in their order: the refusal of the first that is answered no.
use Rattle.std.specs.Prelude.{ℕ, Bool, true, false, not, ◌||◌, is_some, Some, None, Ok, Err, Option, Result}
use Rattle.std.specs.List.{list_all}
use Rattle.tables.specs.Maps.{Map, removing}
use Rattle.records.specs.declared.user.User.{User}
use Rattle.access.specs.Standing.{Standing, lowest}
use Rattle.access.specs.Events.{has_card, holder}
use Rattle.orders.specs.declared.command.Command.{Command}
use Rattle.orders.specs.declared.command.Command.TheVariants.{DeleteUser, ClearUsers, QueryUser, CountUsers, QueryCard, ListUsers, RegisterUser, ReadUser, PutTimeSets, DeleteTimeSet, ClearTimeSets, ReadTimeSet, PutZones, DeleteZone, ClearZones, ReadZone, PutGroups, DeleteGroup, ClearGroups, ReadGroup, PutHolidays, DeleteHoliday, ClearHolidays, ReadHolidays, CountLog, ReadLog, ClearLog, ListTimeSets, ListZones, ListGroups}
use Rattle.orders.specs.declared.refusal.Refusal.{Refusal}
use Rattle.orders.specs.declared.refusal.Refusal.TheVariants.{NoUser, Registered, Range, NoTimeSetOrZone, NoZoneOrGroup, CardTaken}
use Rattle.orders.specs.Meanings.{takes, Content, Meaning}
use Rattle.execution.specs.Naming.{all_there, sets_named, zones_named, groups_named}

abbrev pub unless : Bool → Refusal → Option Refusal
unless true e = None
unless false e = Some e

abbrev pub first_refusal : Option Refusal → Option Refusal → Option Refusal
first_refusal (Some e) next = Some e
first_refusal None next = next

-- with the user of that number left out, somebody among the numbers below n has the card
abbrev pub another_among : Map User → ℕ → ℕ → ℕ → Bool
another_among users n number card = is_some (lowest (removing users number) (has_card card) n)

abbrev pub another_has : Standing → ℕ → ℕ → Bool
another_has s number card = another_among s.users s.users_end number card

abbrev pub objection : Standing → (c : Command) → Content (takes c) → Option Refusal
objection s DeleteUser n = unless (is_some (s.users n)) NoUser
objection s ClearUsers x = None
objection s QueryUser n = unless (is_some (s.users n)) NoUser
objection s CountUsers x = None
objection s QueryCard card = unless (is_some (holder s card)) NoUser
objection s ListUsers x = None
objection s RegisterUser x =
    first_refusal (unless (all_there s.groups (groups_named x.1.body)) NoZoneOrGroup)
    (first_refusal (unless (x.0 || not (is_some (s.users x.1.number))) Registered)
    (unless (not (another_has s x.1.number x.1.body.card)) CardTaken))
objection s ReadUser n = unless (is_some (s.users n)) NoUser
objection s PutTimeSets x = None
objection s DeleteTimeSet n = unless (is_some (s.time_sets n)) NoTimeSetOrZone
objection s ClearTimeSets x = None
objection s ReadTimeSet n = unless (is_some (s.time_sets n)) NoTimeSetOrZone
objection s PutZones es = unless (list_all (λ e. all_there s.time_sets (sets_named e.body)) es) NoTimeSetOrZone
objection s DeleteZone n = unless (is_some (s.zones n)) NoTimeSetOrZone
objection s ClearZones x = None
objection s ReadZone n = unless (is_some (s.zones n)) NoTimeSetOrZone
objection s PutGroups es = unless (list_all (λ e. all_there s.zones (zones_named e.body)) es) NoZoneOrGroup
objection s DeleteGroup n = unless (is_some (s.groups n)) NoZoneOrGroup
objection s ClearGroups x = None
objection s ReadGroup n = unless (is_some (s.groups n)) NoZoneOrGroup
objection s PutHolidays x = None
objection s DeleteHoliday n = unless (is_some (s.holidays n)) Range
objection s ClearHolidays x = None
objection s ReadHolidays x = None
objection s CountLog x = None
objection s ReadLog x = None
objection s ClearLog x = None
objection s ListTimeSets x = None
objection s ListZones x = None
objection s ListGroups x = None

-- an order is admitted, or refused
abbrev pub admitted_or : Option Refusal → Result (Unit {0}) Refusal
admitted_or None = Ok tt
admitted_or (Some e) = Err e

abbrev pub asked_tables : Standing → Meaning → Result (Unit {0}) Refusal
asked_tables s m = admitted_or (objection s m.0 m.1)
