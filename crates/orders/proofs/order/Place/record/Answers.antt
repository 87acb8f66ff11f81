use Rattle.std.proofs.Common.{arith}
use Rattle.std.proofs.lemmas.Grind.{common_steps}
use Rattle.orders.specs.Orders.{Finds}
use Rattle.orders.proofs.Places.{finds_all}
use Rattle.orders.proofs.order.Place.record.Goals as goal

pub returns-in_err-part-clause-all : goal.returns-in_err-part-clause-all
returns-in_err-part-clause-all g c =
    let last = c.args.last_user in
    let r = g.R.Record in
    let laws = g.met.R.Record in
    let found : Finds r.encoded r.long (r.ranges last) (r.numbers last) c.args.self.now c.args.bytes.now c.args.turn c.from_residual.result = grind (arith, common_steps) in
    finds_all r.encoded r.long (r.ranges last) (r.numbers last) laws.sized c.args.self.now c.args.bytes.now c.args.turn c.from_residual.result laws.some_bytes (laws.reads_back last) (λ e f right right' is. laws.apart e f (laws.fits last e.number right) (laws.fits last f.number right') is) found

pub returns-clause-all : goal.returns-clause-all
returns-clause-all g c =
    let last = c.args.last_user in
    let r = g.R.Record in
    let laws = g.met.R.Record in
    let found : Finds r.encoded r.long (r.ranges last) (r.numbers last) c.args.self.now c.args.bytes.now c.args.turn c.ok.result = grind (arith, common_steps) in
    finds_all r.encoded r.long (r.ranges last) (r.numbers last) laws.sized c.args.self.now c.args.bytes.now c.args.turn c.ok.result laws.some_bytes (laws.reads_back last) (λ e f right right' is. laws.apart e f (laws.fits last e.number right) (laws.fits last f.number right') is) found
