use Rattle.std.proofs.Common.{sym, ◌∙◌}
use Rattle.line.proofs.Hearing.{order_ready}
use Rattle.line.proofs.Laws.{line_laws}
use Rattle.line.proofs.feeding.Line+Listening.feed.Goals as goal

pub returns-then-hear-clause-rule : goal.returns-then-hear-clause-rule
returns-then-hear-clause-rule c = sym (order_ready c.args.self.tid _ _ c.args.piece.now c.loop-i.i c.loop-i-test.true c.if-hear.ensures.0) ∙ c.loop-i.invariant.rule

pub returns-then-hear-clause-laws : goal.returns-then-hear-clause-laws
returns-then-hear-clause-laws c = line_laws c.args.self.tid

pub returns-clause-laws : goal.returns-clause-laws
returns-clause-laws c = line_laws c.args.self.tid
