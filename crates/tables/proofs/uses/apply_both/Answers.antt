use Rattle.tables.proofs.Replayed.{alike_from_replays}
use Rattle.tables.proofs.uses.apply_both.Goals as goal

pub returns : goal.returns
returns g c =
    let l = g.L.Table.view in
    let r = g.R.Table.view in
    record {
      left = c.apply.ensures;
      right = c.apply-2.ensures;
      alike = alike_from_replays (l c.args.left.now) (r c.args.right.now) (l c.apply.new.table) (r c.apply-2.new.table) c.args.edits.now c.apply.ensures c.apply-2.ensures;
    }
