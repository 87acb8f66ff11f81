-- A reply: 09, 03, LENGTH (four), TID (two), RESULT, COMMAND, MAC (six), data, a checksum over all before it, and 04.
use Rattle.std.specs.Prelude.{◌≡◌, ℕ, ◌+◌, ◌/◌, ◌%◌, ◌^◌, ◌<◌, ◌≤◌, ◌⊎◌, List, [], ◌∷◌, ◌++◌, length, take, drop, Some, None, sum, Option}
use Rattle.records.specs.Users.{four}
use Rattle.orders.specs.declared.heading.Heading.{Heading}

abbrev pub two : ℕ → List ℕ
two n = n / 256 % 256 ∷ n % 256 ∷ []

-- the sixteen bytes in front of n bytes of data
abbrev pub header : Heading → ℕ → List ℕ
header h n = 9 ∷ 3 ∷ (four (18 + n) ++ (two h.tid ++ (h.result ∷ h.command ∷ h.mac)))

-- bytes with their checksum and 04 behind them
abbrev pub closed : List ℕ → List ℕ
closed bs = bs ++ (sum bs % 256 ∷ 4 ∷ [])

abbrev pub reply_bytes : Heading → List ℕ → List ℕ
reply_bytes h bs = closed (header h (length bs) ++ bs)

-- data that stands behind the place of the header becomes the reply at the start of the buffer; a buffer with no room for
-- it, or data too long for LENGTH, is left alone
abbrev pub Encloses : Heading → ℕ → List ℕ → List ℕ → Option ℕ → Type 0
Encloses h n before after (Some size) = (size ≡ 18 + n) × (after ≡ reply_bytes h (take n (drop 16 before)) ++ drop (18 + n) before)
Encloses h n before after None = ((length before < 18 + n) ⊎ (2 ^ 32 ≤ 18 + n)) × (after ≡ before)
