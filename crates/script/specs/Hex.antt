-- Bytes as text: two hexadecimal digits a byte.
use Rattle.std.specs.Prelude.{◌≡◌, ℕ, ◌+◌, ◌-◌, ◌*◌, ◌/◌, ◌%◌, ◌<◌, Bool, cond, not, List, [], ◌∷◌, map, Some, None, Ok, Err, filter, Option, Result, ◌==◌, nat_lt}
use Rattle.std.specs.Int.{is_in_range}
use Rattle.std.specs.Char.{to_ascii_uppercase}
use Rattle.std.specs.List.{AllByRecursion}
use Rattle.script.specs.declared.hex.HexFault.{HexFault}
use Rattle.script.specs.declared.hex.HexFault.TheVariants.{NotHex, HalfByte}

-- the value of a digit, upper or lower case
abbrev pub digit_of : ℕ → Option ℕ
digit_of c =
    cond (is_in_range 48 57 c) (Some (c - 48)) (cond (is_in_range 65 70 c) (Some (c - 55)) (cond (is_in_range 97 102 c) (Some (c - 87)) None))

-- the upper case digit of a value below 16
abbrev pub figure_of : ℕ → ℕ
figure_of n = cond (nat_lt n 10) (48 + n) (55 + n)

abbrev pub onto : ℕ → Result (List ℕ) HexFault → Result (List ℕ) HexFault
onto b (Ok bs) = Ok (b ∷ bs)
onto b (Err e) = Err e

-- what a character does after a first digit, or between bytes: it is a digit or not, and a space or not
abbrev pub turn : Option ℕ → Option ℕ → Bool → (Option ℕ → Result (List ℕ) HexFault) → Result (List ℕ) HexFault
turn None (Some d) space rest = rest (Some d)
turn None None space rest = cond space (rest None) (Err NotHex)
turn (Some high) (Some d) space rest = onto (16 * high + d) (rest None)
turn (Some high) None space rest = Err (cond space HalfByte NotHex)

abbrev pub ended : Option ℕ → Result (List ℕ) HexFault
ended None = Ok []
ended (Some high) = Err HalfByte

-- the bytes of a text that follows a first digit, or none
abbrev pub hex_from : Option ℕ → List ℕ → Result (List ℕ) HexFault
hex_from first [] = ended first
hex_from first (c ∷ cs) = turn first (digit_of c) (c == 32) (λ next. hex_from next cs)

abbrev pub hex_bytes : List ℕ → Result (List ℕ) HexFault
hex_bytes t = hex_from None t

abbrev pub hex_text : List ℕ → List ℕ
hex_text [] = []
hex_text (b ∷ bs) = figure_of (b / 16) ∷ figure_of (b % 16) ∷ hex_text bs

-- a text without its spaces, in upper case
abbrev pub normal : List ℕ → List ℕ
normal t = map to_ascii_uppercase (filter (λ c. not (c == 32)) t)

-- what is printed is read back
abbrev pub ReadsPrinted : Type 0
ReadsPrinted = (bs : List ℕ) → AllByRecursion (λ b. b < 256) bs → hex_bytes (hex_text bs) ≡ Ok bs

-- what is read prints as the text in its normal form
abbrev pub PrintsNormal : Type 0
PrintsNormal = (t bs : List ℕ) → hex_bytes t ≡ Ok bs → hex_text bs ≡ normal t

-- what is read are bytes
abbrev pub ReadsBytes : Type 0
ReadsBytes = (t bs : List ℕ) → hex_bytes t ≡ Ok bs → AllByRecursion (λ b. b < 256) bs
