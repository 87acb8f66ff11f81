use Rattle.std.proofs.Common.{get_or, drop, ◌∙◌, arith}
use Rattle.std.proofs.lemmas.Result.{err_from_is_err_and}
use Rattle.orders.proofs.Counting.{one_read, one_wrong, none_left, misfit_told, counted_wrong, counted_done}
use Rattle.orders.proofs.protocol.fields.counted_records.Goals as goal

pub returns-in_err-from_bytes : goal.returns-in_err-from_bytes
returns-in_err-from_bytes g c =
    let long = g.R.Record.long in
    let ranges = g.R.Record.ranges c.args.last_user in
    let steps = c.in-Some.ensures.steps in
    let whole = steps.1.1 ∙ c.loop-bytes.invariant.0 in
    let e = err_from_is_err_and c.from_residual.result c.from_residual.ensures.1 in
    let told = misfit_told long g.R.Record.encoded ranges _ c.in_err-from_bytes.field-0.0 c.in_err-from_bytes.ensures.read whole in
    rw (e.1, e.2) (told.0, counted_wrong ranges long c.args.body.now (one_wrong g.R.Record.encoded long ranges (g.R.Record.numbers c.args.last_user) (get_or c.args.body.now 0 0) (drop 1 c.args.body.now) _ _ _ g.met.R.Record.some_bytes steps.1.0 whole told.1 c.loop-bytes.invariant.1))

pub loop-bytes-preserved : goal.loop-bytes-preserved
loop-bytes-preserved g c =
    let steps = c.in-Some.ensures.steps in
    let read = c.in_ok-from_bytes.ensures.read in
    (steps.0 ∙ c.loop-bytes.invariant.0, one_read g.R.Record.encoded g.R.Record.long (g.R.Record.ranges c.args.last_user) (g.R.Record.numbers c.args.last_user) (get_or c.args.body.now 0 0) (drop 1 c.args.body.now) _ _ _ c.in_ok-from_bytes.field-0 g.met.R.Record.some_bytes steps.1.0 (steps.1.1 ∙ c.loop-bytes.invariant.0) read.0 read.1 c.in_ok-from_bytes.ensures.number c.loop-bytes.invariant.1)

pub returns : goal.returns
returns g c =
    let read = none_left g.R.Record.encoded g.R.Record.long (g.R.Record.ranges c.args.last_user) (g.R.Record.numbers c.args.last_user) (get_or c.args.body.now 0 0) (drop 1 c.args.body.now) _ (omega (arith, c.in-None.ensures.steps, c.loop-bytes.invariant.0)) c.loop-bytes.invariant.1 in
    rw c.from.ensures (counted_done g.R.Record.encoded (g.R.Record.numbers c.args.last_user) g.R.Record.long c.args.body.now c.requires (omega arith) (omega (arith, c.type_inv.body 0)) read)
