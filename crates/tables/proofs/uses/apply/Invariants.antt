use Rattle.std.proofs.Common.{take}
use Rattle.tables.specs.Replays.{replay, Agree}
use Rattle.tables.proofs.uses.apply.Given as goal

abbrev pub invariant-loop-edit : goal.invariant-loop-edit
invariant-loop-edit g l = Agree (g.T.Table.view l.table) (replay (g.T.Table.view l.initial.table) (take l.edit-index l.edits))
