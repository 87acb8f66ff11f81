use Rattle.std.proofs.Common.{rules, tests, ◌∙◌}
use Rattle.std.proofs.lemmas.Iterator.Search.{any_from_yields_List}
use Rattle.tables.proofs.Walked.{walk_meets}
use Rattle.execution.proofs.Another.{is_other, another_met}
use Rattle.execution.proofs.cards.another_has.Goals as goal

pub returns : goal.returns
returns g c =
    let view = g.T.Table.view in
    let users = c.args.users.now in
    any_from_yields_List (is_other c.args.number c.args.card) c.any.new.self _ c.any.result c.any.ensures.ran (walk_meets view c.iter.result users c.iter.ensures.table c.iter.ensures.above) (λ x b q k. search (rules, tests))
    ∙ another_met (view users) c.args.number c.args.card (g.met.T.Table.named users)
