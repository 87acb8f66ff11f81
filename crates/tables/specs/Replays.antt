-- What a list of changes makes of a table, and when two tables are the same to a user.
use Rattle.std.specs.Prelude.{◌≡◌, ℕ, List, [], ◌∷◌, None, Option}
use Rattle.tables.specs.declared.edit.Edit.{Edit}
use Rattle.tables.specs.declared.edit.Edit.TheVariants.{Put, Remove, Clear}
use Rattle.tables.specs.Maps.{Map, View, putting, removing, count_of, start, Next}

module _ {B : Type 0} where
  abbrev pub edited_at : View B → Edit B → Map B
  edited_at v (Put e) = putting v.low v.high v.at e
  edited_at v (Remove k) = removing v.at k
  edited_at v Clear = λ n. None

  -- the range stays
  abbrev pub edited : View B → Edit B → View B
  edited v e = record { low = v.low; high = v.high; at = edited_at v e }

  abbrev pub replay_at : View B → List (Edit B) → Map B
  replay_at v [] = v.at
  replay_at v (e ∷ es) = replay_at (edited v e) es

  abbrev pub replay : View B → List (Edit B) → View B
  replay v es = record { low = v.low; high = v.high; at = replay_at v es }

  abbrev pub SameRange : View B → View B → Type 0
  SameRange v w = (v.low ≡ w.low) × (v.high ≡ w.high)

  -- the same range and the same map
  pub record Agree (v w : View B) : Type 0 where
    pub low_same : v.low ≡ w.low
    pub high_same : v.high ≡ w.high
    pub map_same : (n : ℕ) → v.at n ≡ w.at n

  -- and the same count, and the same answer of `next` at every start
  pub record Alike (v w : View B) : Type 0 where
    pub agree : Agree v w
    pub count_same : count_of v ≡ count_of w
    pub walk_same : (above r s : Option ℕ) → Next v.at (start above) r → Next w.at (start above) s → r ≡ s
