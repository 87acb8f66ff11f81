use Rattle.std.proofs.Common.{◌≡◌, vec_items, vec_len, refl, arith}
use Rattle.std.specs.List.{remove}
use Rattle.std.proofs.lemmas.Bool.{lt-ltb}
use Rattle.tables.specs.Edited.{remove_from}
use Rattle.tables.specs.Packings.{chosen, ascends_removed, within_removed, find_removed, find_err}
use Rattle.tables.specs.Packing.{find}
use Rattle.tables.proofs.packed.PackedTable.remove.Goals as goal

pub invariant_of-self : goal.invariant_of-self
invariant_of-self g c =
    let self = c.args.self.now in
    let xs = vec_items self.records in
    let located = c.in-Ok.ensures in
    let items : vec_items c.remove.new.records ≡ remove xs c.in-Ok.at = chosen _ (remove xs c.in-Ok.at) xs (vec_items c.remove.new.records) c.remove.ensures.items (lt-ltb c.in-Ok.at (vec_len self.records) (omega (arith, located.0))) in
    record {
      ascends = rw items (ascends_removed self.range.first self.range.last xs self.ascends self.within c.in-Ok.at located.0);
      within = rw items (within_removed self.range.first self.range.last xs self.ascends self.within c.in-Ok.at located.0);
      room = omega arith;
    }

pub returns-in-Ok : goal.returns-in-Ok
returns-in-Ok g c =
    let self = c.args.self.now in
    let xs = vec_items self.records in
    let located = c.in-Ok.ensures in
    let items : vec_items c.remove.new.records ≡ remove xs c.in-Ok.at = chosen _ (remove xs c.in-Ok.at) xs (vec_items c.remove.new.records) c.remove.ensures.items (lt-ltb c.in-Ok.at (vec_len self.records) (omega (arith, located.0))) in
    record {
      low_same = refl;
      high_same = refl;
      map_same = λ n. simp items (find_removed self.range.first self.range.last xs self.ascends self.within c.in-Ok.at located.0 c.args.number located.1 n);
    }

pub returns-in_default : goal.returns-in_default
returns-in_default g c =
    let xs = vec_items c.args.self.now.records in
    record {
      low_same = refl;
      high_same = refl;
      map_same = remove_from (find xs) c.args.number (find xs) (find_err xs c.args.self.now.ascends c.args.number _ c.in_default.ensures) (λ m other. refl);
    }
