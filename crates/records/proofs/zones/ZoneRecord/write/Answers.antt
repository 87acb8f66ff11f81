use Rattle.std.proofs.Common.{rules, ◌∙◌, arith}
use Rattle.records.proofs.Rows.{of_rows}
use Rattle.records.proofs.zones.ZoneRecord.write.Goals as goal

pub returns : goal.returns
returns c =
    let rows = c.args.item.now.body.rows in
    let joined = c.copy_from_slice.ensures.after ∙ c.as_flattened.ensures.value ∙ of_rows _ _ rows c.map-sets.result (omega arith) c.map-sets.ensures.items (λ p r s q called. called.met) in
    search rules
