-- The laws between reading and printing.
use Rattle.std.specs.Prelude.{◌≡◌, ℕ, ◌^◌, ◌<◌, List, length, Some, Ok}
use Rattle.std.specs.List.{AllByRecursion}
use Rattle.script.specs.declared.entries.Setup.{Setup}
use Rattle.script.specs.declared.entries.Showing.{Showing}
use Rattle.script.specs.Entries.{Said, setup, send, withdraw, reply, show, event, refused}
use Rattle.script.specs.Printing.{print_said}
use Rattle.script.specs.Reading.{read_line}

abbrev pub Bytes : List ℕ → Type 0
Bytes bs = AllByRecursion (λ b. b < 256) bs

pub record SetupFits (s : Setup) : Type 0 where
  pub tid : s.tid < 2 ^ 16
  pub mac : Bytes s.mac
  pub mac_len : length s.mac ≡ 6
  pub last_user : s.last_user < 2 ^ 32

-- a year has four digits, and each other part of the day and the time two
pub record ShowingFits (s : Showing) : Type 0 where
  pub card : Bytes s.card
  pub card_len : length s.card ≡ 8
  pub door : s.door < 256
  pub year : s.year < 10000
  pub month : s.month < 100
  pub date : s.date < 100
  pub hour : s.hour < 100
  pub minute : s.minute < 100
  pub second : s.second < 100
  pub direction : s.direction < 256

-- the numbers of an entry have the form in which a line writes them
abbrev pub Fits : Said → Type 0
Fits (setup s) = SetupFits s
Fits (send bs) = Bytes bs
Fits (withdraw bs) = Bytes bs
Fits (reply bs) = Bytes bs
Fits (show s) = ShowingFits s
Fits (event n) = n < 256
Fits (refused n) = n < 256

-- what is printed of an entry is read back
abbrev pub ReadsBack : Type 0
ReadsBack = (s : Said) → Fits s → read_line (print_said s) ≡ Ok (Some s)

-- what a line says, printed, is read as the same
abbrev pub ReadsAgain : Type 0
ReadsAgain = (t : List ℕ) (s : Said) → read_line t ≡ Ok (Some s) → read_line (print_said s) ≡ Ok (Some s)
