-- A frame's bytes: 07, 03, LENGTH (four), TID (two), COMMAND, the body, a checksum and 04.
use Rattle.std.specs.Prelude.{◌≡◌, ℕ, ◌-◌, ◌%◌, ◌≤◌, Bool, ◌&&◌, List, length, take, sum, ◌==◌, nat_le, slice_index, slice_index_or}
use Rattle.std.specs.Int.Digits.{number_from_digits}
use Rattle.std.specs.List.{between}

-- the shortest frame has no body; a longer one than the longest is none
abbrev pub shortest : ℕ
shortest = 11

abbrev pub longest : ℕ
longest = 4096

-- a number has its highest byte first
abbrev pub frame_length : List ℕ → ℕ
frame_length f = number_from_digits 256 (between 2 6 f)

abbrev pub frame_tid : List ℕ → ℕ
frame_tid f = number_from_digits 256 (between 6 8 f)

-- a whole frame for the controller tid, right or wrong in itself
pub record Whole (tid : ℕ) (f : List ℕ) : Type 0 where
  pub first : slice_index_or f 0 0 ≡ 7
  pub second : slice_index_or f 1 0 ≡ 3
  pub long_enough : shortest ≤ length f
  pub short_enough : length f ≤ longest
  pub right_length : frame_length f ≡ length f
  pub right_tid : frame_tid f ≡ tid

-- is the last byte 04?
abbrev pub ends_right : List ℕ → Bool
ends_right f = nat_le 1 (length f) && slice_index f (length f - 1) == 4

-- is the byte before the last the checksum of all before it?
abbrev pub sums_right : List ℕ → Bool
sums_right f = nat_le 2 (length f) && slice_index f (length f - 2) == sum (take (length f - 2) f) % 256
