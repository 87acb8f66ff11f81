-- The fields of a line, each read from the front of a text: its value and the text after it.
use Rattle.std.specs.Prelude.{ℕ, zero, suc, ◌+◌, ◌-◌, ◌*◌, Bool, true, cond, ◌&&◌, List, [], ◌∷◌, Some, None, Option, ◌==◌, nat_le}
use Rattle.std.specs.Borrow.{Bor}
use Rattle.std.specs.Option.{option_and_then, option_map}
use Rattle.std.specs.Int.{is_in_range}
use Rattle.script.specs.Hex.{digit_of}

-- what a function of the code found, with the rest of the text in place of the slice
abbrev pub seen : {A : Type 0} → Option (A × Bor (List ℕ)) → Option (A × List ℕ)
seen {A} r = option_map (λ (p : A × Bor (List ℕ)). (p.0, p.1.now)) r

-- `and_then`, with the first step in front
abbrev pub then : {A B : Type 0} → Option A → (A → Option B) → Option B
then r next = option_and_then next r

-- the text without the spaces at its front
abbrev pub skip : List ℕ → List ℕ
skip [] = []
skip (c ∷ cs) = cond (c == 32) (skip cs) (c ∷ cs)

-- a word ends where this text begins
abbrev pub ends : List ℕ → Bool
ends [] = true
ends (c ∷ cs) = c == 32

abbrev pub after_mark : ℕ → List ℕ → Option (List ℕ)
after_mark mark [] = None
after_mark mark (c ∷ cs) = cond (c == mark) (Some cs) None

-- the text after a given word
abbrev pub after_word : List ℕ → List ℕ → Option (List ℕ)
after_word [] t = cond (ends t) (Some t) None
after_word (w ∷ ws) t = then (after_mark w t) (λ rest. after_word ws rest)

abbrev pub hex_byte : List ℕ → Option (ℕ × List ℕ)
hex_byte [] = None
hex_byte (a ∷ []) = None
hex_byte (a ∷ b ∷ rest) = then (digit_of a) (λ high. then (digit_of b) (λ low. Some (16 * high + low, rest)))

-- as many bytes, with spaces before each or none
abbrev pub hex_run : ℕ → List ℕ → Option (List ℕ × List ℕ)
hex_run zero t = Some ([], t)
hex_run (suc n) t = then (hex_byte (skip t)) (λ p. then (hex_run n p.1) (λ q. Some (p.0 ∷ q.0, q.1)))

-- as many bytes and the end of the word
abbrev pub hex_word : ℕ → List ℕ → Option (List ℕ × List ℕ)
hex_word n t = then (hex_run n t) (λ p. cond (ends p.1) (Some p) None)

-- the number that digits write after n, up to the end of the word; None past the limit
abbrev pub number_from : ℕ → ℕ → List ℕ → Option (ℕ × List ℕ)
number_from limit n [] = Some (n, [])
number_from limit n (c ∷ cs) =
    cond (c == 32) (Some (n, c ∷ cs)) (cond (is_in_range 48 57 c && nat_le (10 * n + (c - 48)) limit) (number_from limit (10 * n + (c - 48)) cs) None)

abbrev pub number_here : ℕ → List ℕ → Option (ℕ × List ℕ)
number_here limit [] = None
number_here limit (c ∷ cs) = number_from limit 0 (c ∷ cs)

-- a number up to the limit, of one digit or more
abbrev pub number_word : ℕ → List ℕ → Option (ℕ × List ℕ)
number_word limit t = number_here limit (skip t)

abbrev pub two_digits : List ℕ → Option (ℕ × List ℕ)
two_digits [] = None
two_digits (a ∷ []) = None
two_digits (a ∷ b ∷ rest) = cond (is_in_range 48 57 a && is_in_range 48 57 b) (Some (10 * (a - 48) + (b - 48), rest)) None

-- three numbers of two digits with a mark between them, and the end of the word
abbrev pub three_pairs : ℕ → List ℕ → Option ((ℕ × ℕ × ℕ) × List ℕ)
three_pairs mark t =
    then (two_digits t) (λ a.
    then (after_mark mark a.1) (λ t.
    then (two_digits t) (λ b.
    then (after_mark mark b.1) (λ t.
    then (two_digits t) (λ c. cond (ends c.1) (Some ((a.0, b.0, c.0), c.1)) None)))))
