-- The thirty commands, each with its byte.
use Rattle.std.specs.Prelude.{◌≡◌, ℕ, cond, List, [], ◌∷◌, Some, None, Option, ◌==◌}
use Rattle.orders.specs.declared.command.Command.{Command}
use Rattle.orders.specs.declared.command.Command.TheVariants.{DeleteUser, ClearUsers, QueryUser, CountUsers, QueryCard, ListUsers, RegisterUser, ReadUser, PutTimeSets, DeleteTimeSet, ClearTimeSets, ReadTimeSet, PutZones, DeleteZone, ClearZones, ReadZone, PutGroups, DeleteGroup, ClearGroups, ReadGroup, PutHolidays, DeleteHoliday, ClearHolidays, ReadHolidays, CountLog, ReadLog, ClearLog, ListTimeSets, ListZones, ListGroups}

abbrev pub command_byte : Command → ℕ
command_byte DeleteUser = 0x01
command_byte ClearUsers = 0x02
command_byte QueryUser = 0x03
command_byte CountUsers = 0x04
command_byte QueryCard = 0x05
command_byte ListUsers = 0x06
command_byte RegisterUser = 0x07
command_byte ReadUser = 0x08
command_byte PutTimeSets = 0x20
command_byte DeleteTimeSet = 0x21
command_byte ClearTimeSets = 0x22
command_byte ReadTimeSet = 0x23
command_byte PutZones = 0x24
command_byte DeleteZone = 0x25
command_byte ClearZones = 0x26
command_byte ReadZone = 0x27
command_byte PutGroups = 0x28
command_byte DeleteGroup = 0x29
command_byte ClearGroups = 0x2A
command_byte ReadGroup = 0x2B
command_byte PutHolidays = 0x2C
command_byte DeleteHoliday = 0x2D
command_byte ClearHolidays = 0x2E
command_byte ReadHolidays = 0x2F
command_byte CountLog = 0x40
command_byte ReadLog = 0x41
command_byte ClearLog = 0x42
command_byte ListTimeSets = 0x48
command_byte ListZones = 0x49
command_byte ListGroups = 0x4A

abbrev pub commands : List Command
commands = DeleteUser ∷ ClearUsers ∷ QueryUser ∷ CountUsers ∷ QueryCard ∷ ListUsers ∷ RegisterUser ∷ ReadUser ∷ PutTimeSets ∷ DeleteTimeSet ∷ ClearTimeSets ∷ ReadTimeSet ∷ PutZones ∷ DeleteZone ∷ ClearZones ∷ ReadZone ∷ PutGroups ∷ DeleteGroup ∷ ClearGroups ∷ ReadGroup ∷ PutHolidays ∷ DeleteHoliday ∷ ClearHolidays ∷ ReadHolidays ∷ CountLog ∷ ReadLog ∷ ClearLog ∷ ListTimeSets ∷ ListZones ∷ ListGroups ∷ []

-- the first of the commands with that byte
abbrev pub first_with : ℕ → List Command → Option Command
first_with b [] = None
first_with b (c ∷ cs) = cond (b == command_byte c) (Some c) (first_with b cs)

abbrev pub command_of : ℕ → Option Command
command_of b = first_with b commands

-- a byte is a command's exactly where the command is read of it
pub record CommandsLaw : Type 0 where
  pub read_back : (c : Command) → command_of (command_byte c) ≡ Some c
  pub only_one : (b : ℕ) (c : Command) → command_of b ≡ Some c → b ≡ command_byte c
