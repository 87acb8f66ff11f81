use Rattle.std.proofs.Common.{rules, ◌≡◌, ◌≤◌, length, take, drop, subst, arith}
use Rattle.records.specs.Codec.{Reads}
use Rattle.records.specs.Users.{user_bytes, user_ranges}
use Rattle.records.proofs.UserRest.{number_and_rest}
use Rattle.records.proofs.users.UserRecord.from_bytes.Goals as goal

pub returns-clause-read : goal.returns-clause-read
returns-clause-read c =
    let bs = c.args.bytes.now in
    let long : 4 ≤ length bs = search rules in
    let front : c.in_ok-number.number.now ≡ take 4 bs = search rules in
    let back : c.in_ok-number.rest.now ≡ drop 4 bs = search rules in
    let whole = number_and_rest bs _ _ _ long (λ i. omega (arith, c.type_inv.bytes i)) front back c.from_be_bytes.ensures in
    subst (λ l. Reads 84 user_bytes (user_ranges c.args.last_user) l c.with_number.result) whole c.with_number.ensures.read
