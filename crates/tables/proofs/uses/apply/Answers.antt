use Rattle.std.proofs.Common.{take_all}
use Rattle.tables.proofs.Replayed.{agree_self, replay_step}
use Rattle.tables.proofs.uses.apply.Goals as goal

pub loop-edit-init : goal.loop-edit-init
loop-edit-init g c = agree_self (g.T.Table.view c.args.table.now)

pub loop-edit-preserved : goal.loop-edit-preserved
loop-edit-preserved g c =
    let view = g.T.Table.view in
    replay_step (view c.args.table.now) (view c.loop-edit.table) (view c.apply_one.new.table) c.args.edits.now c.loop-edit.edit-index c.edit-item.result c.loop-edit-test.true c.edit-item.is c.loop-edit.invariant c.apply_one.ensures

pub returns : goal.returns
returns g c = let all = take_all _ _ c.loop-edit-test.false in rw all at c.loop-edit.invariant
