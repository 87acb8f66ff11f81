use Rattle.std.proofs.Common.{◌<◌, length, sym, ap, ◌∙◌, arith}
use Rattle.std.proofs.lemmas.List.{drop_all}
use Rattle.tables.specs.declared.entry.Entry.{Entry}
use Rattle.std.specs.List.{list_all}
use Rattle.execution.specs.Naming.{all_there}
use Rattle.execution.proofs.Every.{all_more, all_fail, nth_is, nth_there}
use Rattle.execution.proofs.asking.all_named.Goals as goal

pub returns-in_default : goal.returns-in_default
returns-in_default g c = λ es lies right.
    absurd (nth_there es c.loop-turn.turn (omega (arith, lies.0, c.loop-turn-test.true)) (sym (c.record.ensures.all es lies right) ∙ c.in_default.is))

pub returns-then-not-names_there : goal.returns-then-not-names_there
returns-then-not-names_there g c = λ es lies right.
    let test = λ (e : Entry g.row.R.Denot). all_there (g.T.Table.view c.args.table.now).at (g.R.Naming.names e.body) in
    let within : c.loop-turn.turn < length es = omega (arith, lies.0, c.loop-turn-test.true) in
    let item = nth_is es c.loop-turn.turn c.in-Some.item within (sym (c.record.ensures.all es lies right) ∙ c.in-Some.is) in
    sym (all_fail test es c.loop-turn.turn c.in-Some.item within (ap test item ∙ sym c.names_there.ensures ∙ c.if-not-names_there.true)) ∙ c.loop-turn.invariant es lies right

pub loop-turn-preserved : goal.loop-turn-preserved
loop-turn-preserved g c = λ es lies right.
    let test = λ (e : Entry g.row.R.Denot). all_there (g.T.Table.view c.args.table.now).at (g.R.Naming.names e.body) in
    let within : c.loop-turn.turn < length es = omega (arith, lies.0, c.loop-turn-test.true) in
    let item = nth_is es c.loop-turn.turn c.in-Some.item within (sym (c.record.ensures.all es lies right) ∙ c.in-Some.is) in
    sym (all_more test es c.loop-turn.turn c.in-Some.item within (ap test item ∙ sym c.names_there.ensures ∙ c.if-not-names_there.false)) ∙ c.loop-turn.invariant es lies right

pub returns : goal.returns
returns g c = λ es lies right.
    sym (ap (list_all (λ e. all_there (g.T.Table.view c.args.table.now).at (g.R.Naming.names e.body))) (drop_all c.loop-turn.turn es (omega (arith, lies.0, c.loop-turn-test.false)))) ∙ c.loop-turn.invariant es lies right
