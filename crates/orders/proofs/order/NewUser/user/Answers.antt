use Rattle.std.proofs.Common.{◌≡◌, ◌-◌, take, drop, ap, ◌∙◌, arith}
use Rattle.std.proofs.lemmas.Grind.{common_steps}
use Rattle.orders.specs.Orders.{FindsUser}
use Rattle.orders.proofs.NewUsers.{user_at, user_all}
use Rattle.orders.proofs.order.NewUser.user.Goals as goal

pub returns-in_err-rest-clause-all : goal.returns-in_err-rest-clause-all
returns-in_err-rest-clause-all c =
    let found : FindsUser c.args.last_user c.args.self.now c.args.bytes.now c.from_residual-in_err-rest.result = grind (arith, common_steps) in
    user_all c.args.last_user c.args.self.now c.args.bytes.now c.from_residual-in_err-rest.result found

pub returns : goal.returns
returns c =
    let u = c.args.self.now in
    let bs = c.args.bytes.now in
    let lookup = c.in_ok-rest.ensures.lookup.0 in
    let whole : c.in_ok-end.end - u.rest ≡ 80 = omega (arith, c.in_ok-end.ensures) in
    let found = user_at c.args.last_user u bs c.in_ok-rest.rest.now c.with_number.result (lookup.2 ∙ ap (λ n. take n (drop u.rest bs)) whole) (omega (arith, lookup.3, c.in_ok-end.ensures)) c.with_number.ensures.read c.with_number.ensures.number c.with_number.ensures.may_have in
    rw c.ok.ensures.value (record { value = found; all = user_all c.args.last_user u bs _ found })
