use Rattle.std.proofs.Common.{◌≡◌, true, vec_items, vec_len, vec_capacity, refl, sym, ◌∙◌, arith}
use Rattle.std.specs.List.{insert}
use Rattle.std.proofs.lemmas.Bool.{cond-true, and_from, le-leb, lt-ltb}
use Rattle.tables.specs.Order.{insertable}
use Rattle.tables.specs.Packings.{chosen, room_left, find_replaced, find_inserted}
use Rattle.tables.proofs.packed.PackedTable.put.Goals as goal

pub returns-in-Ok-clause-change : goal.returns-in-Ok-clause-change
returns-in-Ok-clause-change g c =
    let self = c.args.self.now in
    let within = sym c.holds.ensures ∙ c.if-not-holds.false in
    record {
      low_same = refl;
      high_same = refl;
      map_same = find_replaced self.range.first self.range.last (vec_items self.records) self.ascends self.within c.in-Ok.at c.args.item c.in-Ok.ensures within;
    }

pub returns-in-Err-clause-answer : goal.returns-in-Err-clause-answer
returns-in-Err-clause-answer g c =
    let self = c.args.self.now in
    let xs = vec_items self.records in
    let within = sym c.holds.ensures ∙ c.if-not-holds.false in
    let left = room_left self.range.first self.range.last xs self.ascends self.within c.in-Err.at c.args.item c.in-Err.ensures within in
    let room : insertable c.in-Err.at (vec_len self.records) (vec_capacity self.records) ≡ true = and_from _ _ (le-leb c.in-Err.at (vec_len self.records) (omega (arith, c.in-Err.ensures.0))) (lt-ltb (vec_len self.records) (vec_capacity self.records) (omega arith)) in
    c.insert.ensures.answer ∙ (cond-true _ _ _ room ∙ sym (cond-true _ _ _ within))

pub returns-in-Err-clause-change : goal.returns-in-Err-clause-change
returns-in-Err-clause-change g c =
    let self = c.args.self.now in
    let xs = vec_items self.records in
    let within = sym c.holds.ensures ∙ c.if-not-holds.false in
    let left = room_left self.range.first self.range.last xs self.ascends self.within c.in-Err.at c.args.item c.in-Err.ensures within in
    let room : insertable c.in-Err.at (vec_len self.records) (vec_capacity self.records) ≡ true = and_from _ _ (le-leb c.in-Err.at (vec_len self.records) (omega (arith, c.in-Err.ensures.0))) (lt-ltb (vec_len self.records) (vec_capacity self.records) (omega arith)) in
    let items : vec_items c.insert.new.records ≡ insert xs c.in-Err.at c.args.item = chosen _ (insert xs c.in-Err.at c.args.item) xs (vec_items c.insert.new.records) c.insert.ensures.items room in
    record {
      low_same = refl;
      high_same = refl;
      map_same = λ n. simp items (find_inserted self.range.first self.range.last xs self.ascends self.within c.in-Err.at c.args.item c.in-Err.ensures within n);
    }
