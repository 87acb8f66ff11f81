use Rattle.std.proofs.Common.{refl, arith}
use Rattle.std.proofs.lemmas.Bool.{and_parts}
use Rattle.orders.proofs.Taking.{taken_by, plainly, numbered}
use Rattle.orders.proofs.protocol.reading.order_of.Goals as goal

pub returns-in_ok-user_number-in-DeleteUser : goal.returns-in_ok-user_number-in-DeleteUser
returns-in_ok-user_number-in-DeleteUser c =
    let read = c.in_ok-user_number-in-DeleteUser.ensures in
    taken_by c.in-DeleteUser.is (record { content = c.in_ok-user_number-in-DeleteUser.field-0; brings = refl; bytes = read; right = omega arith })

pub returns-in-ClearUsers : goal.returns-in-ClearUsers
returns-in-ClearUsers c = plainly refl refl c.in-ClearUsers.is c.requires (λ x. refl)

pub returns-in_ok-user_number-in-QueryUser : goal.returns-in_ok-user_number-in-QueryUser
returns-in_ok-user_number-in-QueryUser c =
    let read = c.in_ok-user_number-in-QueryUser.ensures in
    taken_by c.in-QueryUser.is (record { content = c.in_ok-user_number-in-QueryUser.field-0; brings = refl; bytes = read; right = omega arith })

pub returns-in-CountUsers : goal.returns-in-CountUsers
returns-in-CountUsers c = plainly refl refl c.in-CountUsers.is c.requires (λ x. refl)

pub returns-in_ok-card_number-in-QueryCard : goal.returns-in_ok-card_number-in-QueryCard
returns-in_ok-card_number-in-QueryCard c =
    let read = c.in_ok-card_number-in-QueryCard.ensures in
    taken_by c.in-QueryCard.is (record { content = c.in_ok-card_number-in-QueryCard.field-0; brings = refl; bytes = read.0; right = read.1 })

pub returns-in-ListUsers : goal.returns-in-ListUsers
returns-in-ListUsers c = plainly refl refl c.in-ListUsers.is c.requires (λ x. refl)

pub returns-in_ok-new_user-in-RegisterUser : goal.returns-in_ok-new_user-in-RegisterUser
returns-in_ok-new_user-in-RegisterUser c =
    let read = c.in_ok-new_user-in-RegisterUser.ensures in
    taken_by c.in-RegisterUser.is (record { content = (c.in_ok-new_user-in-RegisterUser.field-0.overwrite, read.entry); brings = (read.entry, read.lies, refl); bytes = read.bytes; right = read.right })

pub returns-in_ok-user_number-in-ReadUser : goal.returns-in_ok-user_number-in-ReadUser
returns-in_ok-user_number-in-ReadUser c =
    let read = c.in_ok-user_number-in-ReadUser.ensures in
    taken_by c.in-ReadUser.is (record { content = c.in_ok-user_number-in-ReadUser.field-0; brings = refl; bytes = read; right = omega arith })

pub returns-in_ok-counted_records-in-PutTimeSets : goal.returns-in_ok-counted_records-in-PutTimeSets
returns-in_ok-counted_records-in-PutTimeSets c =
    let read = c.in_ok-counted_records-in-PutTimeSets.ensures in
    taken_by c.in-PutTimeSets.is (record { content = read.entries; brings = (read.entries, read.lies, refl); bytes = read.bytes; right = (read.some, read.few, read.in_range) })

pub returns-in_ok-number_from-in-DeleteTimeSet : goal.returns-in_ok-number_from-in-DeleteTimeSet
returns-in_ok-number_from-in-DeleteTimeSet c =
    let read = c.in_ok-number_from-in-DeleteTimeSet.ensures in
    numbered c.in_ok-number_from-in-DeleteTimeSet.field-0 refl c.in-DeleteTimeSet.is c.requires read.0 (λ bytes. record { content = c.in_ok-number_from-in-DeleteTimeSet.field-0; brings = refl; bytes = bytes; right = read.1 })

pub returns-in-ClearTimeSets : goal.returns-in-ClearTimeSets
returns-in-ClearTimeSets c = plainly refl refl c.in-ClearTimeSets.is c.requires (λ x. refl)

pub returns-in_ok-number_from-in-ReadTimeSet : goal.returns-in_ok-number_from-in-ReadTimeSet
returns-in_ok-number_from-in-ReadTimeSet c =
    let read = c.in_ok-number_from-in-ReadTimeSet.ensures in
    numbered c.in_ok-number_from-in-ReadTimeSet.field-0 refl c.in-ReadTimeSet.is c.requires read.0 (λ bytes. record { content = c.in_ok-number_from-in-ReadTimeSet.field-0; brings = refl; bytes = bytes; right = read.1 })

pub returns-in_ok-counted_records-in-PutZones : goal.returns-in_ok-counted_records-in-PutZones
returns-in_ok-counted_records-in-PutZones c =
    let read = c.in_ok-counted_records-in-PutZones.ensures in
    taken_by c.in-PutZones.is (record { content = read.entries; brings = (read.entries, read.lies, refl); bytes = read.bytes; right = (read.some, read.few, read.in_range) })

pub returns-in_ok-number_from-in-DeleteZone : goal.returns-in_ok-number_from-in-DeleteZone
returns-in_ok-number_from-in-DeleteZone c =
    let read = c.in_ok-number_from-in-DeleteZone.ensures in
    numbered c.in_ok-number_from-in-DeleteZone.field-0 refl c.in-DeleteZone.is c.requires read.0 (λ bytes. record { content = c.in_ok-number_from-in-DeleteZone.field-0; brings = refl; bytes = bytes; right = read.1 })

pub returns-in-ClearZones : goal.returns-in-ClearZones
returns-in-ClearZones c = plainly refl refl c.in-ClearZones.is c.requires (λ x. refl)

pub returns-in_ok-number_from-in-ReadZone : goal.returns-in_ok-number_from-in-ReadZone
returns-in_ok-number_from-in-ReadZone c =
    let read = c.in_ok-number_from-in-ReadZone.ensures in
    numbered c.in_ok-number_from-in-ReadZone.field-0 refl c.in-ReadZone.is c.requires read.0 (λ bytes. record { content = c.in_ok-number_from-in-ReadZone.field-0; brings = refl; bytes = bytes; right = read.1 })

pub returns-in_ok-counted_records-in-PutGroups : goal.returns-in_ok-counted_records-in-PutGroups
returns-in_ok-counted_records-in-PutGroups c =
    let read = c.in_ok-counted_records-in-PutGroups.ensures in
    taken_by c.in-PutGroups.is (record { content = read.entries; brings = (read.entries, read.lies, refl); bytes = read.bytes; right = (read.some, read.few, read.in_range) })

pub returns-in_ok-number_from-in-DeleteGroup : goal.returns-in_ok-number_from-in-DeleteGroup
returns-in_ok-number_from-in-DeleteGroup c =
    let read = c.in_ok-number_from-in-DeleteGroup.ensures in
    numbered c.in_ok-number_from-in-DeleteGroup.field-0 refl c.in-DeleteGroup.is c.requires read.0 (λ bytes. record { content = c.in_ok-number_from-in-DeleteGroup.field-0; brings = refl; bytes = bytes; right = read.1 })

pub returns-in-ClearGroups : goal.returns-in-ClearGroups
returns-in-ClearGroups c = plainly refl refl c.in-ClearGroups.is c.requires (λ x. refl)

pub returns-in_ok-number_from-in-ReadGroup : goal.returns-in_ok-number_from-in-ReadGroup
returns-in_ok-number_from-in-ReadGroup c =
    let read = c.in_ok-number_from-in-ReadGroup.ensures in
    numbered c.in_ok-number_from-in-ReadGroup.field-0 refl c.in-ReadGroup.is c.requires read.0 (λ bytes. record { content = c.in_ok-number_from-in-ReadGroup.field-0; brings = refl; bytes = bytes; right = read.1 })

pub returns-in_ok-counted_records-in-PutHolidays : goal.returns-in_ok-counted_records-in-PutHolidays
returns-in_ok-counted_records-in-PutHolidays c =
    let read = c.in_ok-counted_records-in-PutHolidays.ensures in
    taken_by c.in-PutHolidays.is (record { content = read.entries; brings = (read.entries, read.lies, refl); bytes = read.bytes; right = (read.some, read.few, read.in_range) })

pub returns-in_ok-number_from-in-DeleteHoliday : goal.returns-in_ok-number_from-in-DeleteHoliday
returns-in_ok-number_from-in-DeleteHoliday c =
    let read = c.in_ok-number_from-in-DeleteHoliday.ensures in
    numbered c.in_ok-number_from-in-DeleteHoliday.field-0 refl c.in-DeleteHoliday.is c.requires read.0 (λ bytes. record { content = c.in_ok-number_from-in-DeleteHoliday.field-0; brings = refl; bytes = bytes; right = (and_parts _ _ read.1).1 })

pub returns-in-ClearHolidays : goal.returns-in-ClearHolidays
returns-in-ClearHolidays c = plainly refl refl c.in-ClearHolidays.is c.requires (λ x. refl)

pub returns-in-ReadHolidays : goal.returns-in-ReadHolidays
returns-in-ReadHolidays c = plainly refl refl c.in-ReadHolidays.is c.requires (λ x. refl)

pub returns-in-CountLog : goal.returns-in-CountLog
returns-in-CountLog c = plainly refl refl c.in-CountLog.is c.requires (λ x. refl)

pub returns-in-ReadLog : goal.returns-in-ReadLog
returns-in-ReadLog c = plainly refl refl c.in-ReadLog.is c.requires (λ x. refl)

pub returns-in-ClearLog : goal.returns-in-ClearLog
returns-in-ClearLog c = plainly refl refl c.in-ClearLog.is c.requires (λ x. refl)

pub returns-in-ListTimeSets : goal.returns-in-ListTimeSets
returns-in-ListTimeSets c = plainly refl refl c.in-ListTimeSets.is c.requires (λ x. refl)

pub returns-in-ListZones : goal.returns-in-ListZones
returns-in-ListZones c = plainly refl refl c.in-ListZones.is c.requires (λ x. refl)

pub returns-in-ListGroups : goal.returns-in-ListGroups
returns-in-ListGroups c = plainly refl refl c.in-ListGroups.is c.requires (λ x. refl)
