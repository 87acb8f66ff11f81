use Rattle.std.proofs.Common.{rules, tests, ◌∙◌}
use Rattle.std.proofs.lemmas.Iterator.Search.{any_from_yields_List}
use Rattle.tables.proofs.Walked.{walk_meets}
use Rattle.access.specs.Covering.{falls_on}
use Rattle.access.proofs.Searching.{any_lowest}
use Rattle.access.proofs.days.is_holiday.Goals as goal

pub returns : goal.returns
returns g c =
    let view = g.T.Table.view in
    let holidays = c.args.holidays.now in
    any_from_yields_List (λ e. falls_on c.args.date.now e.body) c.any.new.self _ c.any.result c.any.ensures.ran (walk_meets view c.iter.result holidays c.iter.ensures.table c.iter.ensures.above) (λ x b q k. search (rules, tests))
    ∙ any_lowest (falls_on c.args.date.now) (view holidays)
