use Rattle.std.proofs.Common.{suc, sym, arith}
use Rattle.tables.specs.Maps.{start}
use Rattle.tables.specs.Counts.{many_least, many_none, many_zero, many_le}
use Rattle.tables.proofs.uses.walked.Goals as goal

pub loop-number-init : goal.loop-number-init
loop-number-init g c = (sym (many_zero (g.T.Table.view c.args.table.now).at), omega arith)

pub overflow_add-met : goal.overflow_add-met
overflow_add-met g c =
    let t = c.args.table.now in
    omega (arith, many_le (g.T.Table.view t).at (start c.loop-number.reached), g.met.T.Table.bounded t)

pub loop-number-preserved : goal.loop-number-preserved
loop-number-preserved g c =
    let t = c.args.table.now in
    let least = c.in-Some.ensures in
    let within = g.met.T.Table.within t c.in-Some.number least.there in
    (omega (arith, many_least (g.T.Table.view t).at (start c.loop-number.reached) c.in-Some.number least), omega (arith, within.1))

pub loop-number-smaller : goal.loop-number-smaller
loop-number-smaller g c =
    let t = c.args.table.now in
    let least = c.in-Some.ensures in
    let within = g.met.T.Table.within t c.in-Some.number least.there in
    omega (arith, least.from, within.1)

pub returns : goal.returns
returns g c =
    let v = g.T.Table.view c.args.table.now in
    let none = c.in_default.ensures in
    omega (arith, many_none v.at (start c.loop-number.reached) (suc v.high) c.loop-number.invariant.1 (λ m from _. none m from))
