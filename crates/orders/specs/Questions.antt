-- The questions to a frame alone, in their order.
use Rattle.std.specs.Prelude.{ℕ, ◌-◌, cond, ◌&&◌, List, length, Some, None, Ok, Err, Option, Result, nat_le, slice_index}
use Rattle.std.specs.Borrow.{Bor}
use Rattle.std.specs.List.{between}
use Rattle.line.specs.Frame.{shortest, ends_right, sums_right}
use Rattle.orders.specs.declared.command.Command.{Command}
use Rattle.orders.specs.declared.refusal.Refusal.{Refusal}
use Rattle.orders.specs.declared.refusal.Refusal.TheVariants as refusal
use Rattle.orders.specs.Bodies.{size_of, long_right}
use Rattle.orders.specs.Commands.{command_of}
use Rattle.orders.specs.Fields.{fields_right}

-- the bytes between COMMAND and the checksum
abbrev pub body_of : List ℕ → List ℕ
body_of f = between 9 (length f - 2) f

-- has the body the length of its command?
abbrev pub with_body : Command → List ℕ → Result (Command × List ℕ) Refusal
with_body c body = cond (long_right (size_of c) body) (Ok (c, body)) (Err refusal.Length)

-- is the command in?
abbrev pub with_command : Option Command → List ℕ → Result (Command × List ℕ) Refusal
with_command None body = Err refusal.Command
with_command (Some c) body = with_body c body

-- is the last byte 04, and is the checksum right?
abbrev pub opened : List ℕ → Result (Command × List ℕ) Refusal
opened f =
    cond (nat_le shortest (length f) && ends_right f) (cond (sums_right f) (with_command (command_of (slice_index f 8)) (body_of f)) (Err refusal.Checksum)) (Err refusal.Length)

-- is every field in its range?
abbrev pub with_fields : ℕ → Result (Command × List ℕ) Refusal → Result (Command × List ℕ) Refusal
with_fields last (Ok p) = cond (fields_right last p.0 p.1) (Ok p) (Err refusal.Range)
with_fields last (Err e) = Err e

-- all questions to a frame alone; last is the last number of the user table
abbrev pub asked : ℕ → List ℕ → Result (Command × List ℕ) Refusal
asked last f = with_fields last (opened f)

-- what the code hands out, with the body's bytes in place of the slice
abbrev pub told : Result (Command × Bor (List ℕ)) Refusal → Result (Command × List ℕ) Refusal
told (Ok p) = Ok (p.0, p.1.now)
told (Err e) = Err e
