-- A zone: number, then eight rows (Monday to Sunday, holiday) of three time set numbers.
use Rattle.std.specs.Prelude.{ℕ, Bool, ◌&&◌, List, ◌∷◌, nat_le, slice_index}
use Rattle.std.specs.List.{flat_map}
use Rattle.tables.specs.declared.entry.Entry.{Entry}
use Rattle.records.specs.declared.row.Row.{Row}
use Rattle.records.specs.declared.zone.Zone.{Zone}

abbrev pub zone_number : ℕ → Bool
zone_number n = nat_le 2 n && nat_le n 120

abbrev pub sets_of : Row → List ℕ
sets_of r = r.sets

abbrev pub zone_bytes : Entry Zone → List ℕ
zone_bytes e = e.number ∷ flat_map sets_of e.body.rows

abbrev pub zone_ranges : List ℕ → Bool
zone_ranges bs = zone_number (slice_index bs 0)
