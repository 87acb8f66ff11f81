-- What the line rule means, whatever the pieces are in which bytes come.
use Rattle.std.specs.Prelude.{◌≡◌, ℕ, ◌+◌, ◌<◌, ◌≤◌, List, [], ◌∷◌, ◌++◌, length, take, ◌≢◌, slice_index}
use Rattle.std.specs.List.{flat_map, AllByRecursion}
use Rattle.line.specs.Frame.{Whole, shortest, longest, frame_length}
use Rattle.line.specs.Rule.{State, listening, holding, Heard, hears}

-- what a line has heard once it is fed a further piece, if no order was ready
abbrev pub heard_on : ℕ → ℕ → State → List ℕ → Heard
heard_on tid n (listening v) q = record { taken = n + (hears tid v q).taken; state = (hears tid v q).state }
heard_on tid n (holding f) q = record { taken = n; state = holding f }

-- what a line has after pieces, none of which is fed once an order is ready
abbrev pub hears_all : ℕ → State → List (List ℕ) → State
hears_all tid s [] = s
hears_all tid s (p ∷ ps) = hears_all tid (heard_on tid 0 s p).state ps

abbrev pub all_bytes : List (List ℕ) → List ℕ
all_bytes pieces = flat_map (λ p. p) pieces

-- pieces do not matter
abbrev pub PiecesJoin : ℕ → Type 0
PiecesJoin tid = (u p q : List ℕ) → hears tid u (p ++ q) ≡ heard_on tid (hears tid u p).taken (hears tid u p).state q

-- "no order" is said of a piece only when all of it is read
abbrev pub AllRead : ℕ → Type 0
AllRead tid = (u p v : List ℕ) → (hears tid u p).state ≡ listening v → (hears tid u p).taken ≡ length p

-- a frame for this controller, cut anyhow, is ready exactly at its last byte, and what comes behind it is left
pub record ReadyAtLastByte (tid : ℕ) (f : List ℕ) : Type 0 where
  pub not_before : (pieces : List (List ℕ)) (q : List ℕ) → all_bytes pieces ++ q ≡ f → 0 < length q → hears_all tid (listening []) pieces ≡ listening (all_bytes pieces)
  pub at_last : (p q behind : List ℕ) → p ++ q ≡ f → 0 < length q → hears tid p (q ++ behind) ≡ record { taken = length q; state = holding f }

-- a piece that leaves a line with no unfinished frame as it was
abbrev pub PassedOver : ℕ → List ℕ → Type 0
PassedOver tid p = hears tid [] p ≡ record { taken = length p; state = listening [] }

-- the beginning of a frame that is not whole yet
pub record Begun (u : List ℕ) : Type 0 where
  pub first : 0 < length u → slice_index u 0 ≡ 7
  pub second : 1 < length u → slice_index u 1 ≡ 3
  pub long_enough : 6 ≤ length u → shortest ≤ frame_length u
  pub short_enough : 6 ≤ length u → frame_length u ≤ longest
  pub unfinished : 6 ≤ length u → length u < frame_length u

-- what is ready is a whole frame for this controller, and its bytes are the last ones that came
pub record FrameHeard (tid : ℕ) (u p f : List ℕ) : Type 0 where
  pub whole : Whole tid f
  pub before : List ℕ
  pub last_bytes : before ++ f ≡ u ++ take (hears tid u p).taken p

pub record LineLaws (tid : ℕ) : Type 0 where
  pub pieces_join : PiecesJoin tid
  pub all_read : AllRead tid
  pub ready_at_last_byte : (f : List ℕ) → Whole tid f → ReadyAtLastByte tid f
  pub other_passed_over : (other : ℕ) (f : List ℕ) → (other ≢ tid) → Whole other f → PassedOver tid f
  pub noise_passed_over : (p : List ℕ) → AllByRecursion (λ b. b ≢ 7) p → PassedOver tid p
  pub still_begun : (u p v : List ℕ) → Begun u → (hears tid u p).state ≡ listening v → Begun v
  pub only_frames : (u p f : List ℕ) → Begun u → (hears tid u p).state ≡ holding f → FrameHeard tid u p f
