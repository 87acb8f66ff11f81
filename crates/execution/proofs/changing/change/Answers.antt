use Rattle.std.proofs.Common.{sym, refl, ap, subst, ◌∙◌}
use Rattle.tables.specs.declared.edit.Edit.TheVariants.{Put}
use Rattle.tables.specs.Replays.{edited, Agree}
use Rattle.records.specs.Users.{user_may_have}
use Rattle.orders.specs.declared.command.Command.TheVariants as command
use Rattle.orders.specs.declared.order.Order.TheVariants as order
use Rattle.tables.proofs.Replayed.{agree_self}
use Rattle.execution.proofs.Doing.{done_as, same_some, none_some}
use Rattle.execution.proofs.Objecting.{brings_as, right_as}
use Rattle.execution.proofs.changing.change.Goals as goal

pub returns-in-DeleteUser : goal.returns-in-DeleteUser
returns-in-DeleteUser g c = λ m brings right.
    let n = c.in-DeleteUser.number in
    let e = c.remove.ensures in
    done_as m (command.DeleteUser, n) (brings_as c.args.order.now (order.DeleteUser n) c.args.bytes.now m c.in-DeleteUser.is brings) (record { users = e; time_sets = agree_self _; zones = agree_self _; groups = agree_self _; holidays = agree_self _; log_is = refl })

pub returns-in-DeleteTimeSet : goal.returns-in-DeleteTimeSet
returns-in-DeleteTimeSet g c = λ m brings right.
    let n = c.in-DeleteTimeSet.number in
    let e = c.remove-in-DeleteTimeSet.ensures in
    done_as m (command.DeleteTimeSet, n) (brings_as c.args.order.now (order.DeleteTimeSet n) c.args.bytes.now m c.in-DeleteTimeSet.is brings) (record { users = agree_self _; time_sets = e; zones = agree_self _; groups = agree_self _; holidays = agree_self _; log_is = refl })

pub returns-in-DeleteZone : goal.returns-in-DeleteZone
returns-in-DeleteZone g c = λ m brings right.
    let n = c.in-DeleteZone.number in
    let e = c.remove-in-DeleteZone.ensures in
    done_as m (command.DeleteZone, n) (brings_as c.args.order.now (order.DeleteZone n) c.args.bytes.now m c.in-DeleteZone.is brings) (record { users = agree_self _; time_sets = agree_self _; zones = e; groups = agree_self _; holidays = agree_self _; log_is = refl })

pub returns-in-DeleteGroup : goal.returns-in-DeleteGroup
returns-in-DeleteGroup g c = λ m brings right.
    let n = c.in-DeleteGroup.number in
    let e = c.remove-in-DeleteGroup.ensures in
    done_as m (command.DeleteGroup, n) (brings_as c.args.order.now (order.DeleteGroup n) c.args.bytes.now m c.in-DeleteGroup.is brings) (record { users = agree_self _; time_sets = agree_self _; zones = agree_self _; groups = e; holidays = agree_self _; log_is = refl })

pub returns-in-DeleteHoliday : goal.returns-in-DeleteHoliday
returns-in-DeleteHoliday g c = λ m brings right.
    let n = c.in-DeleteHoliday.number in
    let e = c.remove-in-DeleteHoliday.ensures in
    done_as m (command.DeleteHoliday, n) (brings_as c.args.order.now (order.DeleteHoliday n) c.args.bytes.now m c.in-DeleteHoliday.is brings) (record { users = agree_self _; time_sets = agree_self _; zones = agree_self _; groups = agree_self _; holidays = e; log_is = refl })

pub returns-in-PutTimeSets : goal.returns-in-PutTimeSets
returns-in-PutTimeSets g c = λ m brings right.
    let p = c.in-PutTimeSets.place in
    let brought = brings_as c.args.order.now (order.PutTimeSets p) c.args.bytes.now m c.in-PutTimeSets.is brings in
    let es = brought.0 in
    let counted = right_as (g.M.Users.Table.view c.args.tables.now.users).high m (command.PutTimeSets, es) brought.2 right in
    let e = c.put_all.ensures in
    done_as m (command.PutTimeSets, es) brought.2 (record { users = agree_self _; time_sets = e.change es brought.1 counted.2; zones = agree_self _; groups = agree_self _; holidays = agree_self _; log_is = refl })

pub returns-in-PutZones : goal.returns-in-PutZones
returns-in-PutZones g c = λ m brings right.
    let p = c.in-PutZones.place in
    let brought = brings_as c.args.order.now (order.PutZones p) c.args.bytes.now m c.in-PutZones.is brings in
    let es = brought.0 in
    let counted = right_as (g.M.Users.Table.view c.args.tables.now.users).high m (command.PutZones, es) brought.2 right in
    let e = c.put_all-in-PutZones.ensures in
    done_as m (command.PutZones, es) brought.2 (record { users = agree_self _; time_sets = agree_self _; zones = e.change es brought.1 counted.2; groups = agree_self _; holidays = agree_self _; log_is = refl })

pub returns-in-PutGroups : goal.returns-in-PutGroups
returns-in-PutGroups g c = λ m brings right.
    let p = c.in-PutGroups.place in
    let brought = brings_as c.args.order.now (order.PutGroups p) c.args.bytes.now m c.in-PutGroups.is brings in
    let es = brought.0 in
    let counted = right_as (g.M.Users.Table.view c.args.tables.now.users).high m (command.PutGroups, es) brought.2 right in
    let e = c.put_all-in-PutGroups.ensures in
    done_as m (command.PutGroups, es) brought.2 (record { users = agree_self _; time_sets = agree_self _; zones = agree_self _; groups = e.change es brought.1 counted.2; holidays = agree_self _; log_is = refl })

pub returns-in-PutHolidays : goal.returns-in-PutHolidays
returns-in-PutHolidays g c = λ m brings right.
    let p = c.in-PutHolidays.place in
    let brought = brings_as c.args.order.now (order.PutHolidays p) c.args.bytes.now m c.in-PutHolidays.is brings in
    let es = brought.0 in
    let counted = right_as (g.M.Users.Table.view c.args.tables.now.users).high m (command.PutHolidays, es) brought.2 right in
    let e = c.put_all-in-PutHolidays.ensures in
    done_as m (command.PutHolidays, es) brought.2 (record { users = agree_self _; time_sets = agree_self _; zones = agree_self _; groups = agree_self _; holidays = e.change es brought.1 counted.2; log_is = refl })

pub returns-in-Some : goal.returns-in-Some
returns-in-Some g c = λ m brings right.
    let u = c.in-RegisterUser.new in
    let was = g.M.Users.Table.view c.args.tables.now.users in
    let brought = brings_as c.args.order.now (order.RegisterUser u) c.args.bytes.now m c.in-RegisterUser.is brings in
    let e = brought.0 in
    let may = right_as was.high m (command.RegisterUser, (u.overwrite, e)) brought.2 right in
    let found = c.user.ensures.all e brought.1 (ap (λ l. user_may_have l e.number) c.last-last_user.ensures ∙ may) in
    let same = same_some c.user.result c.in-Some.user e c.in-Some.is found in
    let put = subst (λ x. Agree (g.M.Users.Table.view c.put.new.self) (edited was (Put x))) same c.put.ensures.change in
    done_as m (command.RegisterUser, (u.overwrite, e)) brought.2 (record { users = put; time_sets = agree_self _; zones = agree_self _; groups = agree_self _; holidays = agree_self _; log_is = refl })

pub returns-in_default : goal.returns-in_default
returns-in_default g c = λ m brings right.
    let u = c.in-RegisterUser.new in
    let brought = brings_as c.args.order.now (order.RegisterUser u) c.args.bytes.now m c.in-RegisterUser.is brings in
    let e = brought.0 in
    let may = right_as (g.M.Users.Table.view c.args.tables.now.users).high m (command.RegisterUser, (u.overwrite, e)) brought.2 right in
    let found = c.user.ensures.all e brought.1 (ap (λ l. user_may_have l e.number) c.last-last_user.ensures ∙ may) in
    absurd (none_some e (sym c.in_default.is ∙ found))
