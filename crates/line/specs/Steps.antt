-- What the inner functions of feeding say.
use Rattle.std.specs.Prelude.{◌≡◌, ℕ, ◌<◌, ◌≤◌, List, [], length, Bool, true, false}
use Rattle.line.specs.declared.feeding.Verdict.{Verdict}
use Rattle.line.specs.declared.feeding.Verdict.TheVariants.{Unfinished, Dropped, Whole}
use Rattle.line.specs.Frame.{shortest, longest}
use Rattle.line.specs.Rule.{State, listening, holding}

-- what is said of the bytes v, against what the rule makes of them
abbrev pub Judges : State → List ℕ → Verdict → Type 0
Judges s v Unfinished = (s ≡ listening v) × (length v < longest)
Judges s v Dropped = s ≡ listening []
Judges s v Whole = (s ≡ holding v) × (shortest ≤ length v)

-- the bytes v that are kept are those of the state s, and it is told whether that is a ready order
abbrev pub Keeps : State → List ℕ → Bool → Type 0
Keeps s v false = (s ≡ listening v) × (length v < longest)
Keeps s v true = (s ≡ holding v) × (shortest ≤ length v) × (length v ≤ longest)
