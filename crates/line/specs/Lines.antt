-- What a line of the code has, as the line rule speaks of it.
use Rattle.std.specs.Prelude.{◌≡◌, ℕ, ◌<◌, ◌≤◌, List, length}
use Rattle.line.specs.declared.state.Line.{Line}
use Rattle.line.specs.declared.state.Listening.{Listening}
use Rattle.line.specs.declared.state.Holding.{Holding}
use Rattle.line.specs.declared.state.Fed.{Fed}
use Rattle.line.specs.declared.state.Fed.TheVariants.{Waiting, Ready}
use Rattle.line.specs.Rule.{Heard, listening, holding}

abbrev pub unfinished : Line Listening → List ℕ
unfinished l = l.state.kept.bytes.items

abbrev pub ready_frame : Line Holding → List ℕ
ready_frame l = l.state.frame.bytes.items

abbrev pub heard : Fed → Heard
heard (Waiting l n) = record { taken = n; state = listening (unfinished l) }
heard (Ready l p n) = record { taken = n; state = holding (ready_frame l) }

abbrev pub fed_tid : Fed → ℕ
fed_tid (Waiting l n) = l.tid
fed_tid (Ready l p n) = l.tid

-- no order is ready only where all of the piece is taken; an order is ready at the last byte taken
abbrev pub Taken : List ℕ → Fed → Type 0
Taken piece (Waiting l n) = n ≡ length piece
Taken piece (Ready l p n) = (0 < n) × (n ≤ length piece)
