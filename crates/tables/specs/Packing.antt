-- Records packed in ascending numbers.
use Rattle.std.specs.Prelude.{ℕ, ◌<◌, ◌≤◌, cond, List, [], ◌∷◌, length, Some, None, ◌==◌, slice_index_or}
use Rattle.tables.specs.declared.entry.Entry.{Entry}
use Rattle.tables.specs.declared.range.Range.{Range}
use Rattle.tables.specs.Maps.{Map, View}
use Rattle.tables.specs.Order.{Climbs}

module _ {B : Type 0} where
  abbrev pub number_of : Entry B → ℕ
  number_of e = e.number

  -- the map that the records mean
  abbrev pub find : List (Entry B) → Map B
  find [] n = None
  find (e ∷ es) n = cond (e.number == n) (Some e) (find es n)

  abbrev pub packed_view : Range → List (Entry B) → View B
  packed_view r es = record { low = r.first; high = r.last; at = find es }

  abbrev pub Ascends : List (Entry B) → Type 0
  Ascends xs = Climbs number_of xs

  abbrev pub Within : ℕ → ℕ → List (Entry B) → Type 0
  Within low high xs = (k : ℕ) (d : Entry B) → k < length xs → (low ≤ (slice_index_or xs k d).number) × ((slice_index_or xs k d).number ≤ high)

  -- the records below the place i have numbers below a, and the others have not
  pub record Split (a : ℕ) (xs : List (Entry B)) (i : ℕ) : Type 0 where
    pub within : i ≤ length xs
    pub before : (j : ℕ) (d : Entry B) → j < i → (slice_index_or xs j d).number < a
    pub behind : (j : ℕ) (d : Entry B) → i ≤ j → j < length xs → a ≤ (slice_index_or xs j d).number
