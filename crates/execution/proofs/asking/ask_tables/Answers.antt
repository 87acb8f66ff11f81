use Rattle.std.proofs.Common.{sym, refl, ap, ◌∙◌, ⊎_elim}
use Rattle.access.specs.Standing.{standing, views_by}
use Rattle.orders.specs.declared.command.Command.TheVariants as command
use Rattle.orders.specs.declared.order.Order.TheVariants as order
use Rattle.orders.specs.declared.refusal.Refusal.TheVariants.{NoUser, Range, NoTimeSetOrZone, NoZoneOrGroup}
use Rattle.execution.specs.Objections.{asked_tables}
use Rattle.execution.proofs.Objecting.{brings_as, right_as, some_there, told}
use Rattle.execution.proofs.asking.ask_tables.Goals as goal

pub returns-in-DeleteUser : goal.returns-in-DeleteUser
returns-in-DeleteUser g c = λ m brings right.
    let s = standing (views_by g.M.Users.Table.view g.M.TimeSets.Table.view g.M.Zones.Table.view g.M.Groups.Table.view g.M.Holidays.Table.view c.args.tables.now) in
    let n = c.in-DeleteUser.number in
    let same = c.is_some-in-DeleteUser.ensures ∙ some_there c.get-in-DeleteUser.result ((g.M.Users.Table.view c.args.tables.now.users).at n) c.get-in-DeleteUser.ensures in
    ⊎_elim (λ is. told s c.found-in-DeleteUser.result c.is_some-in-DeleteUser.result _ NoUser m (command.DeleteUser, n) c.found-in-DeleteUser.ensures same (brings_as c.args.order.now (order.DeleteUser n) c.args.bytes.now m is brings) refl) (⊎_elim (λ is. told s c.found-in-DeleteUser.result c.is_some-in-DeleteUser.result _ NoUser m (command.QueryUser, n) c.found-in-DeleteUser.ensures same (brings_as c.args.order.now (order.QueryUser n) c.args.bytes.now m is brings) refl) (λ is. told s c.found-in-DeleteUser.result c.is_some-in-DeleteUser.result _ NoUser m (command.ReadUser, n) c.found-in-DeleteUser.ensures same (brings_as c.args.order.now (order.ReadUser n) c.args.bytes.now m is brings) refl)) c.in-DeleteUser.is

pub returns-in-QueryCard : goal.returns-in-QueryCard
returns-in-QueryCard g c = λ m brings right.
    let s = standing (views_by g.M.Users.Table.view g.M.TimeSets.Table.view g.M.Zones.Table.view g.M.Groups.Table.view g.M.Holidays.Table.view c.args.tables.now) in
    let card = c.in-QueryCard.card in
    let same = c.is_some.ensures ∙ some_there c.holder.result _ c.holder.ensures in
    told s c.found.result c.is_some.result _ NoUser m (command.QueryCard, card) c.found.ensures same (brings_as c.args.order.now (order.QueryCard card) c.args.bytes.now m c.in-QueryCard.is brings) refl

pub returns-in-RegisterUser : goal.returns-in-RegisterUser
returns-in-RegisterUser g c = λ m brings right.
    let s = standing (views_by g.M.Users.Table.view g.M.TimeSets.Table.view g.M.Zones.Table.view g.M.Groups.Table.view g.M.Holidays.Table.view c.args.tables.now) in
    let u = c.in-RegisterUser.new in
    let brought = brings_as c.args.order.now (order.RegisterUser u) c.args.bytes.now m c.in-RegisterUser.is brings in
    let e = brought.0 in
    c.ask_user.ensures e brought.1 (right_as _ m (command.RegisterUser, (u.overwrite, e)) brought.2 right) ∙ ap (asked_tables s) (sym brought.2)

pub returns-in-DeleteTimeSet : goal.returns-in-DeleteTimeSet
returns-in-DeleteTimeSet g c = λ m brings right.
    let s = standing (views_by g.M.Users.Table.view g.M.TimeSets.Table.view g.M.Zones.Table.view g.M.Groups.Table.view g.M.Holidays.Table.view c.args.tables.now) in
    let n = c.in-DeleteTimeSet.number in
    let same = c.is_some-in-DeleteTimeSet.ensures ∙ some_there c.get-in-DeleteTimeSet.result ((g.M.TimeSets.Table.view c.args.tables.now.time_sets).at n) c.get-in-DeleteTimeSet.ensures in
    ⊎_elim (λ is. told s c.found-in-DeleteTimeSet.result c.is_some-in-DeleteTimeSet.result _ NoTimeSetOrZone m (command.DeleteTimeSet, n) c.found-in-DeleteTimeSet.ensures same (brings_as c.args.order.now (order.DeleteTimeSet n) c.args.bytes.now m is brings) refl) (λ is. told s c.found-in-DeleteTimeSet.result c.is_some-in-DeleteTimeSet.result _ NoTimeSetOrZone m (command.ReadTimeSet, n) c.found-in-DeleteTimeSet.ensures same (brings_as c.args.order.now (order.ReadTimeSet n) c.args.bytes.now m is brings) refl) c.in-DeleteTimeSet.is

pub returns-in-DeleteZone : goal.returns-in-DeleteZone
returns-in-DeleteZone g c = λ m brings right.
    let s = standing (views_by g.M.Users.Table.view g.M.TimeSets.Table.view g.M.Zones.Table.view g.M.Groups.Table.view g.M.Holidays.Table.view c.args.tables.now) in
    let n = c.in-DeleteZone.number in
    let same = c.is_some-in-DeleteZone.ensures ∙ some_there c.get-in-DeleteZone.result ((g.M.Zones.Table.view c.args.tables.now.zones).at n) c.get-in-DeleteZone.ensures in
    ⊎_elim (λ is. told s c.found-in-DeleteZone.result c.is_some-in-DeleteZone.result _ NoTimeSetOrZone m (command.DeleteZone, n) c.found-in-DeleteZone.ensures same (brings_as c.args.order.now (order.DeleteZone n) c.args.bytes.now m is brings) refl) (λ is. told s c.found-in-DeleteZone.result c.is_some-in-DeleteZone.result _ NoTimeSetOrZone m (command.ReadZone, n) c.found-in-DeleteZone.ensures same (brings_as c.args.order.now (order.ReadZone n) c.args.bytes.now m is brings) refl) c.in-DeleteZone.is

pub returns-in-DeleteGroup : goal.returns-in-DeleteGroup
returns-in-DeleteGroup g c = λ m brings right.
    let s = standing (views_by g.M.Users.Table.view g.M.TimeSets.Table.view g.M.Zones.Table.view g.M.Groups.Table.view g.M.Holidays.Table.view c.args.tables.now) in
    let n = c.in-DeleteGroup.number in
    let same = c.is_some-in-DeleteGroup.ensures ∙ some_there c.get-in-DeleteGroup.result ((g.M.Groups.Table.view c.args.tables.now.groups).at n) c.get-in-DeleteGroup.ensures in
    ⊎_elim (λ is. told s c.found-in-DeleteGroup.result c.is_some-in-DeleteGroup.result _ NoZoneOrGroup m (command.DeleteGroup, n) c.found-in-DeleteGroup.ensures same (brings_as c.args.order.now (order.DeleteGroup n) c.args.bytes.now m is brings) refl) (λ is. told s c.found-in-DeleteGroup.result c.is_some-in-DeleteGroup.result _ NoZoneOrGroup m (command.ReadGroup, n) c.found-in-DeleteGroup.ensures same (brings_as c.args.order.now (order.ReadGroup n) c.args.bytes.now m is brings) refl) c.in-DeleteGroup.is

pub returns-in-DeleteHoliday : goal.returns-in-DeleteHoliday
returns-in-DeleteHoliday g c = λ m brings right.
    let s = standing (views_by g.M.Users.Table.view g.M.TimeSets.Table.view g.M.Zones.Table.view g.M.Groups.Table.view g.M.Holidays.Table.view c.args.tables.now) in
    let n = c.in-DeleteHoliday.number in
    let same = c.is_some-in-DeleteHoliday.ensures ∙ some_there c.get.result ((g.M.Holidays.Table.view c.args.tables.now.holidays).at n) c.get.ensures in
    told s c.found-in-DeleteHoliday.result c.is_some-in-DeleteHoliday.result _ Range m (command.DeleteHoliday, n) c.found-in-DeleteHoliday.ensures same (brings_as c.args.order.now (order.DeleteHoliday n) c.args.bytes.now m c.in-DeleteHoliday.is brings) refl

pub returns-in-PutZones : goal.returns-in-PutZones
returns-in-PutZones g c = λ m brings right.
    let s = standing (views_by g.M.Users.Table.view g.M.TimeSets.Table.view g.M.Zones.Table.view g.M.Groups.Table.view g.M.Holidays.Table.view c.args.tables.now) in
    let p = c.in-PutZones.place in
    let brought = brings_as c.args.order.now (order.PutZones p) c.args.bytes.now m c.in-PutZones.is brings in
    let es = brought.0 in
    let counted = right_as (g.M.Users.Table.view c.args.tables.now.users).high m (command.PutZones, es) brought.2 right in
    told s c.found-in-PutZones.result c.all_named.result _ NoTimeSetOrZone m (command.PutZones, es) c.found-in-PutZones.ensures (c.all_named.ensures es brought.1 counted.2) brought.2 refl

pub returns-in-PutGroups : goal.returns-in-PutGroups
returns-in-PutGroups g c = λ m brings right.
    let s = standing (views_by g.M.Users.Table.view g.M.TimeSets.Table.view g.M.Zones.Table.view g.M.Groups.Table.view g.M.Holidays.Table.view c.args.tables.now) in
    let p = c.in-PutGroups.place in
    let brought = brings_as c.args.order.now (order.PutGroups p) c.args.bytes.now m c.in-PutGroups.is brings in
    let es = brought.0 in
    let counted = right_as (g.M.Users.Table.view c.args.tables.now.users).high m (command.PutGroups, es) brought.2 right in
    told s c.found-in-PutGroups.result c.all_named-in-PutGroups.result _ NoZoneOrGroup m (command.PutGroups, es) c.found-in-PutGroups.ensures (c.all_named-in-PutGroups.ensures es brought.1 counted.2) brought.2 refl
