-- A group: number, eight zone numbers for doors 1 to 8, and a byte of doors.
use Rattle.std.specs.Prelude.{ℕ, Bool, ◌&&◌, List, [], ◌∷◌, ◌++◌, nat_le, slice_index}
use Rattle.std.specs.List.{between}
use Rattle.tables.specs.declared.entry.Entry.{Entry}
use Rattle.records.specs.declared.group.Group.{Group}
use Rattle.records.specs.Named.{zones_named}

abbrev pub group_number : ℕ → Bool
group_number n = nat_le 2 n && nat_le n 255

abbrev pub group_bytes : Entry Group → List ℕ
group_bytes e = e.number ∷ (e.body.zones ++ (e.body.doors ∷ []))

abbrev pub group_ranges : List ℕ → Bool
group_ranges bs = group_number (slice_index bs 0) && zones_named (between 1 9 bs)
