use Rattle.tables.specs.Maps.{start}
use Rattle.tables.proofs.Walked.{none_left, walk_on, goes_on}
use Rattle.tables.proofs.walk.WalkIterator.next.Goals as goal

pub returns-in_err-number-clause-steps : goal.returns-in_err-number-clause-steps
returns-in_err-number-clause-steps g c =
    let self = c.args.self.now in
    let view = g.T.Table.view self.table.now in
    let nothing = none_left view.at (start self.above) _ c.in_err-number.ensures in
    rw c.from_residual.ensures (nothing, nothing)

pub returns-clause-steps : goal.returns-clause-steps
returns-clause-steps g c =
    let self = c.args.self.now in
    let view = g.T.Table.view self.table.now in
    let least = c.in_ok-number.ensures in
    let within = g.met.T.Table.within self.table.now c.in_ok-number.number least.there in
    walk_on view (start self.above) c.in_ok-number.number c.get.result least within.1 c.get.ensures

pub returns-clause-goes : goal.returns-clause-goes
returns-clause-goes g c =
    let self = c.args.self.now in
    let view = g.T.Table.view self.table.now in
    let least = c.in_ok-number.ensures in
    let within = g.met.T.Table.within self.table.now c.in_ok-number.number least.there in
    goes_on _ _ self _ c.get.result (walk_on view (start self.above) c.in_ok-number.number c.get.result least within.1 c.get.ensures)
