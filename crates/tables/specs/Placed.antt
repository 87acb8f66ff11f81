-- A place for each number from `low` on.
use Rattle.std.specs.Prelude.{◌≡◌, ℕ, ◌+◌, ◌-◌, cond, List, Some, None, Option, nat_lt, slice_index_or}
use Rattle.tables.specs.declared.entry.Entry.{Entry}
use Rattle.tables.specs.declared.range.Range.{Range}
use Rattle.tables.specs.Maps.{Map, View}

module _ {B : Type 0} where
  -- the map that the places mean
  abbrev pub slot : ℕ → List (Option (Entry B)) → Map B
  slot low xs n = cond (nat_lt n low) None (slice_index_or xs (n - low) None)

  abbrev pub slots_view : Range → List (Option (Entry B)) → View B
  slots_view r xs = record { low = r.first; high = r.last; at = slot r.first xs }

  -- each place has the record of its own number
  abbrev pub Named : ℕ → List (Option (Entry B)) → Type 0
  Named low xs = (k : ℕ) (e : Entry B) → slice_index_or xs k None ≡ Some e → e.number ≡ low + k
