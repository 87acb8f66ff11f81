-- Each command is read of its own byte and of no other.
use Rattle.std.proofs.Common.{◌≡◌, ℕ, cond, eqb, List, [], ◌∷◌, Some, sym, refl, ap, ◌∙◌, ⊎_elim}
use Rattle.std.proofs.lemmas.Bool.{eqb-true, cases_Bool}
use Rattle.orders.specs.declared.command.Command.{Command}
use Rattle.orders.specs.declared.command.Command.TheVariants.{DeleteUser, ClearUsers, QueryUser, CountUsers, QueryCard, ListUsers, RegisterUser, ReadUser, PutTimeSets, DeleteTimeSet, ClearTimeSets, ReadTimeSet, PutZones, DeleteZone, ClearZones, ReadZone, PutGroups, DeleteGroup, ClearGroups, ReadGroup, PutHolidays, DeleteHoliday, ClearHolidays, ReadHolidays, CountLog, ReadLog, ClearLog, ListTimeSets, ListZones, ListGroups}
use Rattle.orders.specs.Commands.{command_byte, commands, first_with, command_of, CommandsLaw}

read_back : (c : Command) → command_of (command_byte c) ≡ Some c
read_back DeleteUser = refl
read_back ClearUsers = refl
read_back QueryUser = refl
read_back CountUsers = refl
read_back QueryCard = refl
read_back ListUsers = refl
read_back RegisterUser = refl
read_back ReadUser = refl
read_back PutTimeSets = refl
read_back DeleteTimeSet = refl
read_back ClearTimeSets = refl
read_back ReadTimeSet = refl
read_back PutZones = refl
read_back DeleteZone = refl
read_back ClearZones = refl
read_back ReadZone = refl
read_back PutGroups = refl
read_back DeleteGroup = refl
read_back ClearGroups = refl
read_back ReadGroup = refl
read_back PutHolidays = refl
read_back DeleteHoliday = refl
read_back ClearHolidays = refl
read_back ReadHolidays = refl
read_back CountLog = refl
read_back ReadLog = refl
read_back ClearLog = refl
read_back ListTimeSets = refl
read_back ListZones = refl
read_back ListGroups = refl

only_one : (b : ℕ) (c : Command) (cs : List Command) → first_with b cs ≡ Some c → b ≡ command_byte c
only_one b c [] is = cc
only_one b c (d ∷ cs) is =
    ⊎_elim (λ same. let found : Some d ≡ Some c = ap (λ t. cond t (Some d) (first_with b cs)) (sym same) ∙ is in let one : d ≡ c = cc in eqb-true b (command_byte d) same ∙ ap command_byte one)
    (λ other. only_one b c cs (ap (λ t. cond t (Some d) (first_with b cs)) (sym other) ∙ is)) (cases_Bool (eqb b (command_byte d)))

pub commands_law : CommandsLaw
commands_law = record { read_back = read_back; only_one = λ b c is. only_one b c commands is }
