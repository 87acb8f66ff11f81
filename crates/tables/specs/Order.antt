-- Records that ascend strictly, by the rank of their keys, and where a key stands among them.
use Rattle.std.specs.Prelude.{◌≡◌, ℕ, ◌+◌, ◌-◌, ◌<◌, ◌≤◌, Bool, ◌&&◌, List, length, Ok, Err, Result, nat_le, nat_lt, slice_index_or}

module _ {R : Type 0} (rank : R → ℕ) where
  abbrev pub Climbs : List R → Type 0
  Climbs xs = (k : ℕ) (d : R) → k + 1 < length xs → rank (slice_index_or xs k d) < rank (slice_index_or xs (k + 1) d)

  -- the rank k at the place, or the place at which it would stand
  abbrev pub Located : ℕ → List R → Result ℕ ℕ → Type 0
  Located k xs (Ok i) = (i < length xs) × ((d : R) → rank (slice_index_or xs i d) ≡ k)
  Located k xs (Err i) = (i ≤ length xs) × ((j : ℕ) (d : R) → j < i → rank (slice_index_or xs j d) < k) × ((j : ℕ) (d : R) → i ≤ j → j < length xs → k < rank (slice_index_or xs j d))

-- a place within the list or at its end, and a reserved place for one more
abbrev pub insertable : ℕ → ℕ → ℕ → Bool
insertable at len cap = nat_le at len && nat_lt len cap

module _ {R : Type 0} where
  -- the last record stands at the place `to`, and those from there on one higher
  pub record Sunk (xs : List R) (to : ℕ) (ys : List R) : Type 0 where
    pub here : (d : R) → to < length xs → slice_index_or ys to d ≡ slice_index_or xs (length xs - 1) d
    pub below : (k : ℕ) (d : R) → k < to → slice_index_or ys k d ≡ slice_index_or xs k d
    pub above : (k : ℕ) (d : R) → to < k → k < length xs → slice_index_or ys k d ≡ slice_index_or xs (k - 1) d

  -- the record of the place `from` stands last, and those above it one lower
  pub record Raised (xs : List R) (from : ℕ) (ys : List R) : Type 0 where
    pub here : (d : R) → from < length xs → slice_index_or ys (length xs - 1) d ≡ slice_index_or xs from d
    pub below : (k : ℕ) (d : R) → k < from → slice_index_or ys k d ≡ slice_index_or xs k d
    pub above : (k : ℕ) (d : R) → from ≤ k → k + 1 < length xs → slice_index_or ys k d ≡ slice_index_or xs (k + 1) d
