-- The line rule, over lists of bytes.
use Rattle.std.specs.Prelude.{ℕ, ◌+◌, Bool, cond, ◌&&◌, List, [], ◌∷◌, ◌++◌, length, ◌==◌, nat_le, nat_lt}
use Rattle.line.specs.Frame.{shortest, longest, frame_length, frame_tid}

-- what a line has: the bytes of an unfinished frame, or a whole frame for its controller, which is a ready order
pub data State : Type 0 where
  listening : List ℕ → State
  holding : List ℕ → State

-- the bytes that are kept of a frame's beginning u and one byte more: 07 begins a frame, and 03 must follow
abbrev pub kept : List ℕ → ℕ → List ℕ
kept [] b = cond (b == 7) (b ∷ []) []
kept (a ∷ []) b = cond (b == 7) (b ∷ []) (cond (b == 3) (a ∷ b ∷ []) [])
kept (a ∷ c ∷ u) b = a ∷ c ∷ (u ++ b ∷ [])

abbrev pub length_in_range : List ℕ → Bool
length_in_range v = nat_le shortest (frame_length v) && nat_le (frame_length v) longest

-- what the bytes kept are: too few to know LENGTH, dropped for their LENGTH, too few for it, or a whole frame, for this controller or another
abbrev pub judged : ℕ → List ℕ → State
judged tid v =
    cond (nat_lt (length v) 6) (listening v)
    (cond (length_in_range v)
    (cond (nat_lt (length v) (frame_length v)) (listening v)
    (cond (frame_tid v == tid) (holding v) (listening [])))
    (listening []))

abbrev pub after_byte : ℕ → List ℕ → ℕ → State
after_byte tid u b = judged tid (kept u b)

-- what feeding a piece comes to
pub record Heard : Type 0 where
  pub taken : ℕ
  pub state : State

abbrev pub one_more : Heard → Heard
one_more h = record { taken = h.taken + 1; state = h.state }

-- the byte that makes an order ready is the last one taken
abbrev pub goes_on : State → (List ℕ → Heard) → Heard
goes_on (listening v) rest = one_more (rest v)
goes_on (holding f) rest = record { taken = 1; state = holding f }

-- feeding a piece to the line of the controller tid that has the bytes u of an unfinished frame
unfoldable pub hears : ℕ → List ℕ → List ℕ → Heard
hears tid u [] = record { taken = 0; state = listening u }
hears tid u (b ∷ bs) = goes_on (after_byte tid u b) (λ v. hears tid v bs)
