use Rattle.std.proofs.Common.{◌≡◌, length}
use Rattle.script.specs.Fields.{skip}
use Rattle.script.proofs.fields.skip_spaces.Given as goal

abbrev pub invariant-loop-rest : goal.invariant-loop-rest
invariant-loop-rest l = skip l.rest ≡ skip l.text

abbrev pub decreases-loop-rest : goal.decreases-loop-rest
decreases-loop-rest l = length l.rest
