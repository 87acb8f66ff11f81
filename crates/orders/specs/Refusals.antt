-- The number of each refusal.
use Rattle.std.specs.Prelude.{ℕ}
use Rattle.records.specs.declared.record.Misfit.{Misfit}
use Rattle.records.specs.declared.record.Misfit.TheVariants.{Size}
use Rattle.records.specs.declared.record.Misfit.TheVariants as misfit
use Rattle.orders.specs.declared.refusal.AnswerRefusal.{AnswerRefusal}
use Rattle.orders.specs.declared.refusal.AnswerRefusal.TheVariants.{Buffer}
use Rattle.orders.specs.declared.refusal.Refusal.{Refusal}
use Rattle.orders.specs.declared.refusal.Refusal.TheVariants.{NoUser, Checksum, Length, Registered, Command, Range, NoTimeSetOrZone, NoZoneOrGroup, CardTaken}
use Rattle.orders.specs.declared.refusal.SetUpRefusal.{SetUpRefusal}
use Rattle.orders.specs.declared.refusal.SetUpRefusal.TheVariants.{Users, Ranges, NotEmpty}
use Rattle.orders.specs.declared.refusal.ShowRefusal.{ShowRefusal}
use Rattle.orders.specs.declared.refusal.ShowRefusal.TheVariants.{Door, Moment, Direction}

abbrev pub result_byte : Refusal → ℕ
result_byte NoUser = 0x03
result_byte Checksum = 0x04
result_byte Length = 0x05
result_byte Registered = 0x06
result_byte Command = 0x08
result_byte Range = 0x09
result_byte NoTimeSetOrZone = 0x12
result_byte NoZoneOrGroup = 0x13
result_byte CardTaken = 0x40

-- what a frame is refused with whose bytes are no record
abbrev pub refused_as : Misfit → Refusal
refused_as Size = Length
refused_as misfit.Range = Range

abbrev pub set_up_number : SetUpRefusal → ℕ
set_up_number Users = 0x60
set_up_number Ranges = 0x61
set_up_number NotEmpty = 0x62

abbrev pub answer_number : AnswerRefusal → ℕ
answer_number Buffer = 0x63

abbrev pub show_number : ShowRefusal → ℕ
show_number Door = 0x64
show_number Moment = 0x65
show_number Direction = 0x66
