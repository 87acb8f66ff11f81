use Rattle.std.proofs.Common.{vec_items, sym}
use Rattle.tables.specs.Packings.{find_read, find_err}
use Rattle.tables.proofs.packed.PackedTable.get.Goals as goal

pub returns-in-Ok : goal.returns-in-Ok
returns-in-Ok g c =
    let self = c.args.self.now in
    find_read (vec_items self.records) self.ascends c.args.number c.in-Ok.at c.index.result.now c.in-Ok.ensures c.index.ensures

pub returns-in-Err : goal.returns-in-Err
returns-in-Err g c =
    let self = c.args.self.now in
    sym (find_err (vec_items self.records) self.ascends c.args.number _ c.in-Err.ensures)
