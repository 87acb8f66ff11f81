-- What reading and writing a record comes to.
use Rattle.std.specs.Prelude.{◌≡◌, ℕ, ◌<◌, Bool, true, false, List, ◌++◌, length, drop, Ok, Err, Result, MatchResult, nat_lt}
use Rattle.records.specs.declared.record.Misfit.{Misfit}
use Rattle.records.specs.declared.record.Misfit.TheVariants.{Size, Range}

-- the record is read exactly where the size is right and every field is in range, and its bytes are those
abbrev pub Reads : {E : Type 0} → ℕ → (E → List ℕ) → (List ℕ → Bool) → List ℕ → Result E Misfit → Type 0
Reads size encoded ranges bytes (Ok e) = (encoded e ≡ bytes) × (ranges bytes ≡ true)
Reads size encoded ranges bytes (Err Size) = length bytes ≡ size → ⊥
Reads size encoded ranges bytes (Err Range) = (length bytes ≡ size) × (ranges bytes ≡ false)

-- the bytes stand at the start of the buffer, and the rest is as it was; a number that its field cannot hold or a buffer
-- that is too small leaves all as it was
abbrev pub Writes : ℕ → Bool → List ℕ → List ℕ → List ℕ → Result ℕ Misfit → Type 0
Writes size holds bytes before after (Ok n) = (n ≡ size) × (after ≡ bytes ++ drop size before) × (holds ≡ true)
Writes size holds bytes before after (Err Size) = (length before < size) × (after ≡ before) × (holds ≡ true)
Writes size holds bytes before after (Err Range) = (holds ≡ false) × (after ≡ before)

-- the number of most records has one byte
abbrev pub one_byte : ℕ → Bool
one_byte n = nat_lt n 256

-- of a value `told` says what holds; an error is `wrong`, and comes only where `right` is false
abbrev pub InRange : {A E : Type 0} → E → (A → Type 0) → Bool → Result A E → Type 0
InRange wrong told right result = MatchResult result told (λ e. (e ≡ wrong) × (right ≡ false))
