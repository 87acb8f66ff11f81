use Rattle.std.proofs.Common.{◌≡◌, ◌<◌, vec_len}
use Rattle.line.specs.Frame.{longest}
use Rattle.line.specs.Rule.{hears}
use Rattle.line.proofs.Hearing.{heard_from}
use Rattle.line.proofs.feeding.Line+Listening.feed.Given as goal

abbrev pub invariant-loop-i : goal.invariant-loop-i
invariant-loop-i l = record { short : vec_len l.kept.bytes < longest; rule : heard_from l.tid l.kept.bytes.items l.piece l.i ≡ hears l.tid l.initial.kept.bytes.items l.piece }
