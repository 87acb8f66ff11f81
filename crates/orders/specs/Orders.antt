-- What an order of the code means, with the bytes beside it in which its records lie.
use Rattle.std.specs.Prelude.{◌≡◌, ℕ, ◌+◌, ◌*◌, ◌<◌, ◌≤◌, Bool, true, false, List, ◌++◌, length, take, drop, Some, None, Option}
use Rattle.std.specs.List.{flat_map, AllByRecursion, slice_get}
use Rattle.tables.specs.declared.entry.Entry.{Entry}
use Rattle.records.specs.declared.group.Group.{Group}
use Rattle.records.specs.declared.holiday.Holiday.{Holiday}
use Rattle.records.specs.declared.time_set.TimeSet.{TimeSet}
use Rattle.records.specs.declared.user.User.{User}
use Rattle.records.specs.declared.zone.Zone.{Zone}
use Rattle.records.specs.Groups.{group_bytes}
use Rattle.records.specs.Holidays.{holiday_bytes}
use Rattle.records.specs.TimeSets.{time_set_bytes}
use Rattle.records.specs.Users.{four, user_bytes, user_ranges, user_may_have}
use Rattle.records.specs.Zones.{zone_bytes}
use Rattle.orders.specs.declared.command.Command.{Command}
use Rattle.orders.specs.declared.command.Command.TheVariants as command
use Rattle.orders.specs.declared.order.NewUser.{NewUser}
use Rattle.orders.specs.declared.order.Order.{Order}
use Rattle.orders.specs.declared.order.Order.TheVariants.{DeleteUser, ClearUsers, QueryUser, CountUsers, QueryCard, ListUsers, RegisterUser, ReadUser, PutTimeSets, DeleteTimeSet, ClearTimeSets, ReadTimeSet, PutZones, DeleteZone, ClearZones, ReadZone, PutGroups, DeleteGroup, ClearGroups, ReadGroup, PutHolidays, DeleteHoliday, ClearHolidays, ReadHolidays, CountLog, ReadLog, ClearLog, ListTimeSets, ListZones, ListGroups}
use Rattle.orders.specs.declared.order.Place.{Place}
use Rattle.orders.specs.Meanings.{Meaning}

abbrev pub order_command : Order → Command
order_command (DeleteUser x) = command.DeleteUser
order_command ClearUsers = command.ClearUsers
order_command (QueryUser x) = command.QueryUser
order_command CountUsers = command.CountUsers
order_command (QueryCard x) = command.QueryCard
order_command ListUsers = command.ListUsers
order_command (RegisterUser x) = command.RegisterUser
order_command (ReadUser x) = command.ReadUser
order_command (PutTimeSets x) = command.PutTimeSets
order_command (DeleteTimeSet x) = command.DeleteTimeSet
order_command ClearTimeSets = command.ClearTimeSets
order_command (ReadTimeSet x) = command.ReadTimeSet
order_command (PutZones x) = command.PutZones
order_command (DeleteZone x) = command.DeleteZone
order_command ClearZones = command.ClearZones
order_command (ReadZone x) = command.ReadZone
order_command (PutGroups x) = command.PutGroups
order_command (DeleteGroup x) = command.DeleteGroup
order_command ClearGroups = command.ClearGroups
order_command (ReadGroup x) = command.ReadGroup
order_command (PutHolidays x) = command.PutHolidays
order_command (DeleteHoliday x) = command.DeleteHoliday
order_command ClearHolidays = command.ClearHolidays
order_command ReadHolidays = command.ReadHolidays
order_command CountLog = command.CountLog
order_command ReadLog = command.ReadLog
order_command ClearLog = command.ClearLog
order_command ListTimeSets = command.ListTimeSets
order_command ListZones = command.ListZones
order_command ListGroups = command.ListGroups

-- the records lie at the place, one behind the other
abbrev pub Lies : {B : Type 0} → (Entry B → List ℕ) → ℕ → Place → List ℕ → List (Entry B) → Type 0
Lies encoded size p bs es = (length es ≡ p.count) × (flat_map encoded es ≡ take (size * p.count) (drop p.start bs))

-- the bytes of the record of a turn, the first being 0
abbrev pub record_bytes : ℕ → Place → List ℕ → ℕ → List ℕ
record_bytes size p bs k = take size (drop (p.start + size * k) bs)

-- the record of a turn: there is one where there are as many, its bytes are there and its fields are in range
abbrev pub Finds : {B : Type 0} → (Entry B → List ℕ) → ℕ → (List ℕ → Bool) → (ℕ → Bool) → Place → List ℕ → ℕ → Option (Entry B) → Type 0
Finds encoded size ranges numbers p bs k (Some e) = (k < p.count) × (encoded e ≡ record_bytes size p bs k) × (ranges (record_bytes size p bs k) ≡ true) × (numbers e.number ≡ true)
Finds encoded size ranges numbers p bs k None = k < p.count → p.start + size * k + size ≤ length bs → ranges (record_bytes size p bs k) ≡ false

-- where records lie at the place, each under a number that it may have, these are found
abbrev pub FindsAll : {B : Type 0} → (Entry B → List ℕ) → ℕ → (ℕ → Bool) → Place → List ℕ → ℕ → Option (Entry B) → Type 0
FindsAll {B} encoded size numbers p bs k r = (es : List (Entry B)) → Lies encoded size p bs es → AllByRecursion (λ e. numbers e.number ≡ true) es → r ≡ slice_get es k

-- the number is the order's own, and the bytes behind it lie at the place
abbrev pub LiesBehind : NewUser → List ℕ → Entry User → Type 0
LiesBehind u bs e = (e.number ≡ u.number) × (drop 4 (user_bytes e) ≡ take 80 (drop u.rest bs))

-- the user of an order, where its bytes are there and its fields are in range
abbrev pub FindsUser : ℕ → NewUser → List ℕ → Option (Entry User) → Type 0
FindsUser last u bs (Some e) = LiesBehind u bs e × (user_may_have last e.number ≡ true)
FindsUser last u bs None = u.rest + 80 ≤ length bs → user_ranges last (four u.number ++ take 80 (drop u.rest bs)) ≡ false

abbrev pub Brings : Order → List ℕ → Meaning → Type 0
Brings (DeleteUser n) bs m = m ≡ (command.DeleteUser, n)
Brings ClearUsers bs m = m ≡ (command.ClearUsers, tt)
Brings (QueryUser n) bs m = m ≡ (command.QueryUser, n)
Brings CountUsers bs m = m ≡ (command.CountUsers, tt)
Brings (QueryCard n) bs m = m ≡ (command.QueryCard, n)
Brings ListUsers bs m = m ≡ (command.ListUsers, tt)
Brings (RegisterUser u) bs m = (e : Entry User) × LiesBehind u bs e × (m ≡ (command.RegisterUser, (u.overwrite, e)))
Brings (ReadUser n) bs m = m ≡ (command.ReadUser, n)
Brings (PutTimeSets p) bs m = (es : List (Entry TimeSet)) × Lies time_set_bytes 5 p bs es × (m ≡ (command.PutTimeSets, es))
Brings (DeleteTimeSet n) bs m = m ≡ (command.DeleteTimeSet, n)
Brings ClearTimeSets bs m = m ≡ (command.ClearTimeSets, tt)
Brings (ReadTimeSet n) bs m = m ≡ (command.ReadTimeSet, n)
Brings (PutZones p) bs m = (es : List (Entry Zone)) × Lies zone_bytes 25 p bs es × (m ≡ (command.PutZones, es))
Brings (DeleteZone n) bs m = m ≡ (command.DeleteZone, n)
Brings ClearZones bs m = m ≡ (command.ClearZones, tt)
Brings (ReadZone n) bs m = m ≡ (command.ReadZone, n)
Brings (PutGroups p) bs m = (es : List (Entry Group)) × Lies group_bytes 10 p bs es × (m ≡ (command.PutGroups, es))
Brings (DeleteGroup n) bs m = m ≡ (command.DeleteGroup, n)
Brings ClearGroups bs m = m ≡ (command.ClearGroups, tt)
Brings (ReadGroup n) bs m = m ≡ (command.ReadGroup, n)
Brings (PutHolidays p) bs m = (es : List (Entry Holiday)) × Lies holiday_bytes 3 p bs es × (m ≡ (command.PutHolidays, es))
Brings (DeleteHoliday n) bs m = m ≡ (command.DeleteHoliday, n)
Brings ClearHolidays bs m = m ≡ (command.ClearHolidays, tt)
Brings ReadHolidays bs m = m ≡ (command.ReadHolidays, tt)
Brings CountLog bs m = m ≡ (command.CountLog, tt)
Brings ReadLog bs m = m ≡ (command.ReadLog, tt)
Brings ClearLog bs m = m ≡ (command.ClearLog, tt)
Brings ListTimeSets bs m = m ≡ (command.ListTimeSets, tt)
Brings ListZones bs m = m ≡ (command.ListZones, tt)
Brings ListGroups bs m = m ≡ (command.ListGroups, tt)
