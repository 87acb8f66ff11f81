-- What a command asks to do, and why a frame or a call is refused, in words.
use Rattle.std.specs.Prelude.{ℕ, List, codes}
use Rattle.orders.specs.declared.command.Command.{Command}
use Rattle.orders.specs.declared.command.Command.TheVariants.{DeleteUser, ClearUsers, QueryUser, CountUsers, QueryCard, ListUsers, RegisterUser, ReadUser, PutTimeSets, DeleteTimeSet, ClearTimeSets, ReadTimeSet, PutZones, DeleteZone, ClearZones, ReadZone, PutGroups, DeleteGroup, ClearGroups, ReadGroup, PutHolidays, DeleteHoliday, ClearHolidays, ReadHolidays, CountLog, ReadLog, ClearLog, ListTimeSets, ListZones, ListGroups}
use Rattle.orders.specs.declared.refusal.AnswerRefusal.{AnswerRefusal}
use Rattle.orders.specs.declared.refusal.AnswerRefusal.TheVariants.{Buffer}
use Rattle.orders.specs.declared.refusal.Refusal.{Refusal}
use Rattle.orders.specs.declared.refusal.Refusal.TheVariants as refusal
use Rattle.orders.specs.declared.refusal.SetUpRefusal.{SetUpRefusal}
use Rattle.orders.specs.declared.refusal.SetUpRefusal.TheVariants.{Users, Ranges, NotEmpty}
use Rattle.orders.specs.declared.refusal.ShowRefusal.{ShowRefusal}
use Rattle.orders.specs.declared.refusal.ShowRefusal.TheVariants.{Door, Moment, Direction}

abbrev pub command_words : Command → List ℕ
command_words DeleteUser = codes "delete a user"
command_words ClearUsers = codes "clear users"
command_words QueryUser = codes "query a user"
command_words CountUsers = codes "count users"
command_words QueryCard = codes "query a card"
command_words ListUsers = codes "list users"
command_words RegisterUser = codes "register a user"
command_words ReadUser = codes "read a user"
command_words PutTimeSets = codes "put time sets"
command_words DeleteTimeSet = codes "delete a time set"
command_words ClearTimeSets = codes "clear time sets"
command_words ReadTimeSet = codes "read a time set"
command_words PutZones = codes "put zones"
command_words DeleteZone = codes "delete a zone"
command_words ClearZones = codes "clear zones"
command_words ReadZone = codes "read a zone"
command_words PutGroups = codes "put groups"
command_words DeleteGroup = codes "delete a group"
command_words ClearGroups = codes "clear groups"
command_words ReadGroup = codes "read a group"
command_words PutHolidays = codes "put holidays"
command_words DeleteHoliday = codes "delete a holiday"
command_words ClearHolidays = codes "clear holidays"
command_words ReadHolidays = codes "read all holidays"
command_words CountLog = codes "count the log"
command_words ReadLog = codes "read the log"
command_words ClearLog = codes "clear the log"
command_words ListTimeSets = codes "list time sets"
command_words ListZones = codes "list zones"
command_words ListGroups = codes "list groups"

abbrev pub refusal_words : Refusal → List ℕ
refusal_words refusal.NoUser = codes "the user or the card is not there"
refusal_words refusal.Checksum = codes "the checksum is wrong"
refusal_words refusal.Length = codes "the last byte is not 04, or the body has not the length of its command"
refusal_words refusal.Registered = codes "the number is registered"
refusal_words refusal.Command = codes "the command is not in"
refusal_words refusal.Range = codes "a field is out of its range"
refusal_words refusal.NoTimeSetOrZone = codes "a time set or a zone that is named is not there"
refusal_words refusal.NoZoneOrGroup = codes "a zone or a group that is named is not there"
refusal_words refusal.CardTaken = codes "another user has the card"

abbrev pub set_up_words : SetUpRefusal → List ℕ
set_up_words Users = codes "the user table does not run from 1 to a last number of 1 to 1,000"
set_up_words Ranges = codes "a table has not its range"
set_up_words NotEmpty = codes "a table is not empty"

abbrev pub answer_words : AnswerRefusal → List ℕ
answer_words Buffer = codes "the reply buffer is too short for the longest reply"

abbrev pub show_words : ShowRefusal → List ℕ
show_words Door = codes "there is no such door"
show_words Moment = codes "the moment is no real date and time of the years 2000 to 2099"
show_words Direction = codes "there is no such direction"
