-- The records that stand in five tables, and what a number names among them.
use Rattle.std.specs.Prelude.{◌≡◌, ℕ, zero, suc, ◌<◌, Bool, true, false, cond, Some, None, Option, ◌==◌, nat_lt}
use Rattle.tables.specs.declared.entry.Entry.{Entry}
use Rattle.tables.specs.Maps.{Map, View}
use Rattle.records.specs.declared.group.Group.{Group}
use Rattle.records.specs.declared.holiday.Holiday.{Holiday}
use Rattle.records.specs.declared.time_set.TimeSet.{TimeSet}
use Rattle.records.specs.declared.user.User.{User}
use Rattle.records.specs.declared.zone.Zone.{Zone}
use Rattle.access.specs.declared.makes.Tables.{Tables}

-- every user's number is below users_end, every holiday's below holidays_end
pub record Standing : Type 0 where
  pub users : Map User
  pub users_end : ℕ
  pub time_sets : Map TimeSet
  pub zones : Map Zone
  pub groups : Map Group
  pub holidays : Map Holiday
  pub holidays_end : ℕ

pub record Bounded (s : Standing) : Type 0 where
  pub users_below : (n : ℕ) (e : Entry User) → s.users n ≡ Some e → n < s.users_end
  pub holidays_below : (n : ℕ) (e : Entry Holiday) → s.holidays n ≡ Some e → n < s.holidays_end

module _ {B : Type 0} where
  -- the record that a number names; 0 and 1 are built in and name none
  abbrev pub named : Map B → ℕ → Option (Entry B)
  named f n = cond (nat_lt n 2) None (f n)

  abbrev pub passes : (B → Bool) → Option (Entry B) → Bool
  passes test None = false
  passes test (Some e) = test e.body

  -- what a number comes to: 0 never, 1 always, another what its record says, and never where none stands
  abbrev pub meant : Map B → (B → Bool) → ℕ → Bool
  meant f test n = cond (n == 1) true (passes test (named f n))

  abbrev pub kept_if : (B → Bool) → Option (Entry B) → Option (Entry B)
  kept_if test o = cond (passes test o) o None

  abbrev pub or_else : Option (Entry B) → Option (Entry B) → Option (Entry B)
  or_else (Some e) o = Some e
  or_else None o = o

  -- the record with the lowest number below n that passes the test
  unfoldable pub lowest : Map B → (B → Bool) → ℕ → Option (Entry B)
  lowest f test zero = None
  lowest f test (suc n) = or_else (lowest f test n) (kept_if test (f n))

-- five tables, by what each means
pub record Views : Type 0 where
  pub users : View User
  pub time_sets : View TimeSet
  pub zones : View Zone
  pub groups : View Group
  pub holidays : View Holiday

abbrev pub standing : Views → Standing
standing v = record {
  users = v.users.at;
  users_end = suc v.users.high;
  time_sets = v.time_sets.at;
  zones = v.zones.at;
  groups = v.groups.at;
  holidays = v.holidays.at;
  holidays_end = suc v.holidays.high;
}

-- the five tables of the code, whose makes say what each means
module _ {Mk U T Z G H : Type 0} where
  abbrev pub views_by : (U → View User) → (T → View TimeSet) → (Z → View Zone) → (G → View Group) → (H → View Holiday) → Tables Mk U T Z G H → Views
  views_by users time_sets zones groups holidays t = record {
    users = users t.users;
    time_sets = time_sets t.time_sets;
    zones = zones t.zones;
    groups = groups t.groups;
    holidays = holidays t.holidays;
  }
