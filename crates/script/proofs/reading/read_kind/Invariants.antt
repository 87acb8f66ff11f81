use Rattle.std.proofs.Common.{◌≡◌, drop}
use Rattle.script.specs.Reading.{kind_among, read_kind}
use Rattle.script.proofs.reading.read_kind.Given as goal

abbrev pub invariant-loop-kind : goal.invariant-loop-kind
invariant-loop-kind l = kind_among (drop l.kind-index l.kind-items) l.text ≡ read_kind l.text
