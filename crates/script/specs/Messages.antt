-- The words in which a fault is told.
use Rattle.std.specs.Prelude.{ℕ, List, codes}
use Rattle.script.specs.declared.entries.Fault.{Fault}
use Rattle.script.specs.declared.entries.Fault.TheVariants.{Word, Tid, Mac, LastUser, NotHex, HalfByte, Card, Door, Day, Time, Direction, Code, After, Memory}

abbrev pub words_of : Fault → List ℕ
words_of Word = codes "the first word names no entry"
words_of Tid = codes "the TID is not two bytes in hexadecimal"
words_of Mac = codes "the MAC is not six bytes in hexadecimal"
words_of LastUser = codes "MU is not a number up to 4294967295"
words_of NotHex = codes "a character is not a hexadecimal digit"
words_of HalfByte = codes "a byte has one hexadecimal digit only"
words_of Card = codes "the card is not eight bytes in hexadecimal"
words_of Door = codes "the door is not a number up to 255"
words_of Day = codes "the day is not of the form YYYY-MM-DD"
words_of Time = codes "the time is not of the form hh:mm:ss"
words_of Direction = codes "the direction is not in, out or one byte in hexadecimal"
words_of Code = codes "the code is not one byte in hexadecimal"
words_of After = codes "something stands after the end of the entry"
words_of Memory = codes "there is not enough memory"
