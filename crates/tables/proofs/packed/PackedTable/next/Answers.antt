use Rattle.std.proofs.Common.{◌<◌, ◌≤◌, length, vec_items, sym}
use Rattle.std.proofs.lemmas.Bool.{ltb-true, ltb-false}
use Rattle.tables.specs.Maps.{start}
use Rattle.tables.specs.Packings.{next_some, next_none}
use Rattle.tables.proofs.packed.PackedTable.next.Goals as goal

pub returns-in_err-first : goal.returns-in_err-first
returns-in_err-first g c =
    let self = c.args.self.now in
    let xs = vec_items self.records in
    let finds = rw c.deref.ensures.value at c.in_err-first.ensures.lookup in
    let past : length xs ≤ c.above.result = ltb-false _ _ (sym finds.0) in
    rw c.from_residual.ensures (next_none xs self.ascends (start c.args.above) c.above.result c.above.ensures past)

pub returns : goal.returns
returns g c =
    let self = c.args.self.now in
    let xs = vec_items self.records in
    let finds = rw c.deref.ensures.value at c.in_ok-first.ensures.lookup in
    let less : c.above.result < length xs = ltb-true _ _ (sym finds.0) in
    rw finds.1 (next_some xs self.ascends (start c.args.above) c.above.result c.in_ok-first.first.now c.above.ensures less)
