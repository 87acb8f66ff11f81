use Rattle.std.proofs.Common.{rules, tests, ◌≡◌, true, None, Some, is_some}
use Rattle.std.proofs.lemmas.Iterator.{IsFirst-from_position, YieldsList-from_slice}
use Rattle.tables.specs.Slotted.{next_place}
use Rattle.tables.proofs.slots.first_full.Goals as goal

pub returns-in_err-ahead : goal.returns-in_err-ahead
returns-in_err-ahead g c =
    let cut = c.in_ok-rest.ensures.lookup in
    let first = IsFirst-from_position _ _ c.position.result (λ o. is_some o ≡ true) (λ o. o ≡ None) c.position.ensures.ran (YieldsList-from_slice c.in_ok-rest.rest.now (search rules)) (λ x q k. search (rules, tests)) (λ x q k. search (rules, tests)) in
    rw c.from_residual-in_err-ahead.ensures (next_place c.args.places.now c.args.from c.in_ok-rest.rest.now None cut.0.2 cut.0.3 (rw c.in_err-ahead.was at first))

pub returns : goal.returns
returns g c =
    let cut = c.in_ok-rest.ensures.lookup in
    let first = IsFirst-from_position _ _ c.position.result (λ o. is_some o ≡ true) (λ o. o ≡ None) c.position.ensures.ran (YieldsList-from_slice c.in_ok-rest.rest.now (search rules)) (λ x q k. search (rules, tests)) (λ x q k. search (rules, tests)) in
    next_place c.args.places.now c.args.from c.in_ok-rest.rest.now (Some c.in_ok-ahead.ahead) cut.0.2 cut.0.3 (rw c.in_ok-ahead.was at first)
