-- What an entry says, with lists in place of vectors, and the words that entries begin with.
use Rattle.std.specs.Prelude.{ℕ, List, codes, vec_items}
use Rattle.script.specs.declared.entries.Entry.{Entry}
use Rattle.script.specs.declared.entries.Entry.TheVariants as entry
use Rattle.script.specs.declared.entries.Kind.{Kind}
use Rattle.script.specs.declared.entries.Kind.TheVariants as kind
use Rattle.script.specs.declared.entries.Setup.{Setup}
use Rattle.script.specs.declared.entries.Showing.{Showing}

pub data Said : Type 0 where
  setup : Setup → Said
  send : List ℕ → Said
  withdraw : List ℕ → Said
  reply : List ℕ → Said
  show : Showing → Said
  event : ℕ → Said
  refused : ℕ → Said

abbrev pub said : Entry → Said
said (entry.Setup s) = setup s
said (entry.Send v) = send (vec_items v)
said (entry.Withdraw v) = withdraw (vec_items v)
said (entry.Reply v) = reply (vec_items v)
said (entry.Show s) = show s
said (entry.Event n) = event n
said (entry.Refused n) = refused n

abbrev pub kind_of : Said → Kind
kind_of (setup s) = kind.Setup
kind_of (send bs) = kind.Send
kind_of (withdraw bs) = kind.Withdraw
kind_of (reply bs) = kind.Reply
kind_of (show s) = kind.Show
kind_of (event n) = kind.Event
kind_of (refused n) = kind.Refused

abbrev pub word_of : Kind → List ℕ
word_of kind.Setup = codes "setup"
word_of kind.Send = codes "send"
word_of kind.Withdraw = codes "withdraw"
word_of kind.Reply = codes "reply"
word_of kind.Show = codes "show"
word_of kind.Event = codes "event"
word_of kind.Refused = codes "refused"
