use Rattle.std.proofs.Common.{◌<◌, length, refl, sym, ◌∙◌, arith, take_all}
use Rattle.tables.proofs.Replayed.{agree_self}
use Rattle.execution.proofs.Every.{nth_is, nth_there}
use Rattle.execution.proofs.Puts.{put_more}
use Rattle.execution.proofs.putting.put_all.Goals as goal

pub loop-turn-init : goal.loop-turn-init
loop-turn-init g c = (λ es lies right. agree_self (g.T.Table.view c.args.table.now), (refl, refl))

pub returns-in_default : goal.returns-in_default
returns-in_default g c =
    let inv = c.loop-turn.invariant in
    record {
      change = λ es lies right. absurd (nth_there es c.loop-turn.turn (omega (arith, lies.0, c.loop-turn-test.true)) (sym (c.record.ensures.all es lies right) ∙ c.in_default.is));
      range = inv.1;
    }

pub loop-turn-preserved : goal.loop-turn-preserved
loop-turn-preserved g c =
    let view = g.T.Table.view in
    let item = c.in-Some.item in
    let i = c.loop-turn.turn in
    let inv = c.loop-turn.invariant in
    let put = c.put.ensures.change in (
      λ es lies right.
          let within : i < length es = omega (arith, lies.0, c.loop-turn-test.true) in
          let is = nth_is es i item within (sym (c.record.ensures.all es lies right) ∙ c.in-Some.is) in
          put_more (view c.args.table.now) (view c.loop-turn.table) (view c.put.new.self) es i item within is (inv.0 es lies right) put,
      (put.low_same ∙ inv.1.0, put.high_same ∙ inv.1.1),
    )

pub returns : goal.returns
returns g c =
    let inv = c.loop-turn.invariant in
    record {
      change = λ es lies right.
          let all = take_all c.loop-turn.turn es (omega (arith, lies.0, c.loop-turn-test.false)) in
          rw all at (inv.0 es lies right);
      range = inv.1;
    }
