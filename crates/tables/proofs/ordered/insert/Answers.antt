use Rattle.std.proofs.Common.{◌≤◌, vec_items, vec_len, sym, ◌∙◌, arith}
use Rattle.std.proofs.lemmas.List.{with_items_is}
use Rattle.std.proofs.lemmas.Bool.{cond-true, and_parts, leb-true}
use Rattle.tables.specs.Packings.{inserted_from_sunk}
use Rattle.tables.proofs.ordered.insert.Goals as goal

pub returns-clause-items : goal.returns-clause-items
returns-clause-items g c =
    let v = c.args.records.now in
    let ys = c.sink.new.records in
    let room = sym c.has_room.ensures ∙ c.if-not-has_room.false in
    let within : c.args.at ≤ vec_len v = leb-true _ _ (and_parts _ _ room).0 in
    let sunk = rw (c.deref_mut.ensures.value, c.push_reserved.ensures.items) at c.sink.ensures in
    with_items_is c.push_reserved.new.self ys (omega arith) ∙ (inserted_from_sunk (vec_items v) ys c.args.item c.args.at (omega arith) (omega arith) sunk ∙ sym (cond-true _ _ _ room))
