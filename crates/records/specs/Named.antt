-- The numbers by which a record names others.
use Rattle.std.specs.Prelude.{ℕ, Bool, cond, List, ◌==◌, nat_le}
use Rattle.std.specs.List.{list_all}
use Rattle.records.specs.declared.named.Named.{Named}
use Rattle.records.specs.declared.named.Named.TheVariants.{Never, Always, Record}

-- what the number of a time set, a zone or a group names
abbrev pub named_by : ℕ → Named
named_by n = cond (n == 0) Never (cond (n == 1) Always (Record n))

-- a zone, or one of the built-in numbers 0 and 1
abbrev pub zones_named : List ℕ → Bool
zones_named zones = list_all (λ z. nat_le z 120) zones
