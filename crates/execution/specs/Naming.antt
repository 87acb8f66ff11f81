-- Numbers by which a record names others.
use Rattle.std.specs.Prelude.{ℕ, Bool, ◌||◌, List, is_some, nat_lt}
use Rattle.std.specs.List.{flat_map, list_all}
use Rattle.tables.specs.Maps.{Map}
use Rattle.records.specs.declared.group.Group.{Group}
use Rattle.records.specs.declared.user.User.{User}
use Rattle.records.specs.declared.zone.Zone.{Zone}
use Rattle.records.specs.Zones.{sets_of}

-- the built-in numbers 0 and 1 are always there
abbrev pub there : {B : Type 0} → Map B → ℕ → Bool
there f n = nat_lt n 2 || is_some (f n)

abbrev pub all_there : {B : Type 0} → Map B → List ℕ → Bool
all_there f ns = list_all (there f) ns

abbrev pub sets_named : Zone → List ℕ
sets_named z = flat_map sets_of z.rows

abbrev pub zones_named : Group → List ℕ
zones_named g = g.zones

abbrev pub groups_named : User → List ℕ
groups_named u = u.groups
