use Rattle.std.proofs.Common.{◌≡◌, ◌-◌, ◌<◌, length, take, vec_items, vec_len, sym, ap, ◌∙◌, arith}
use Rattle.std.proofs.lemmas.List.{with_items_is}
use Rattle.std.proofs.lemmas.Bool.{cond-true, lt-ltb}
use Rattle.tables.specs.Packings.{removed_from_raised}
use Rattle.tables.proofs.ordered.remove.Goals as goal

pub returns-clause-items : goal.returns-clause-items
returns-clause-items g c =
    let v = c.args.records.now in
    let xs = vec_items v in
    let ys = c.raise.new.records in
    let less : c.args.at < vec_len v = omega arith in
    let raised = rw c.deref_mut.ensures.value at c.raise.ensures in
    let is = with_items_is v ys (omega arith) in
    let long : vec_len v - 1 ≡ length xs - 1 = omega arith in
    c.pop.ensures.rest ∙ (ap (take (vec_len v - 1)) is ∙ (ap (λ n. take n ys) long ∙ (removed_from_raised xs ys c.args.at (omega arith) (omega arith) raised ∙ sym (cond-true _ _ _ (lt-ltb c.args.at (vec_len v) less)))))
