-- What a number comes to, by the case of the answer.
use Rattle.std.specs.Prelude.{◌≡◌, ℕ, Some, None, ◌≢◌}
use Rattle.std.specs.Borrow.{Bor}
use Rattle.tables.specs.declared.entry.Entry.{Entry}
use Rattle.tables.specs.Maps.{Map}
use Rattle.access.specs.Standing.{named}
use Rattle.access.specs.declared.covers.Meant.{Meant}
use Rattle.access.specs.declared.covers.Meant.TheVariants.{Never, Always, As}

abbrev pub Means : {B : Type 0} → Map B → ℕ → Meant (Bor (Entry B)) → Type 0
Means f n Never = (n ≢ 1) × (named f n ≡ None)
Means f n Always = n ≡ 1
Means f n (As e) = (n ≢ 1) × (named f n ≡ Some e.now)
