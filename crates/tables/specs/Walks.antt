-- The records of a table in ascending numbers.
use Rattle.std.specs.Prelude.{ℕ, zero, suc, ◌-◌, List, [], ◌++◌}
use Rattle.std.specs.Option.{option_to_list}
use Rattle.tables.specs.declared.entry.Entry.{Entry}
use Rattle.tables.specs.Maps.{Map, View}

module _ {B : Type 0} where
  -- those of n numbers from a on
  unfoldable pub records_from : Map B → ℕ → ℕ → List (Entry B)
  records_from f a zero = []
  records_from f a (suc n) = option_to_list (f a) ++ records_from f (suc a) n

  -- those from the number a on
  abbrev pub records_left : View B → ℕ → List (Entry B)
  records_left v a = records_from v.at a (suc v.high - a)

  abbrev pub records_of : View B → List (Entry B)
  records_of v = records_left v 0
