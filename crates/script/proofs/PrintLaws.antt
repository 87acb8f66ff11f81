-- What a number with a width prints.
use Rattle.std.proofs.Common.{◌≡◌, ℕ, suc, ◌+◌, ◌-◌, ◌/◌, ◌%◌, ◌^◌, ◌<◌, false, List, [], ◌∷◌, ◌++◌, length, replicate, codes, decimal, sym, ap, ◌∙◌, ⊎_elim, append_assoc, append-nil, arith}
use Rattle.std.specs.Fmt.{padded_integral, char_count, format_spec}
use Rattle.std.proofs.lemmas.Fmt.{decimal_digit, decimal_step, decimal_nonempty}
use Rattle.std.proofs.lemmas.List.{replicate_more, length_push}
use Rattle.std.proofs.lemmas.Bool.{cases_lt}
use Rattle.script.specs.declared.entries.Showing.{Showing}
use Rattle.script.specs.Hex.{hex_text}
use Rattle.script.specs.Printing.{padded, print_direction, show_fields}

-- with zeros up to the width
abbrev places : ℕ → ℕ → List ℕ
places width n = replicate (width - length (decimal n)) 48 ++ decimal n

zeros : (width n : ℕ) → padded_integral (format_spec 32 0 4 width (2 ^ 64 - 1)) false [] (decimal n) ≡ places width n
unfolding padded_integral char_count
zeros width n =
    let none : width - length (decimal n) - 0 - 0 ≡ width - length (decimal n) = omega arith in
    rw (none, append-nil)

-- the last digit is that of the number, and the others are those of its tenth
last_place : (v n : ℕ) → n < 2 ^ 64 → places (suc (suc v)) n ≡ places (suc v) (n / 10) ++ decimal (n % 10)
last_place v n h =
    ⊎_elim
    (λ small.
    let tenth : n / 10 ≡ 0 = omega arith in
    let last : n % 10 ≡ n = omega arith in
    let zero : decimal 0 ≡ 48 ∷ [] = decimal_digit 0 (omega arith) in
    let left : suc (suc v) - 1 ≡ v + 1 = omega arith in
    let right : suc v - 1 ≡ v = omega arith in
    rw (tenth, last, decimal_digit n small, zero, left, right, replicate_more {X = ℕ} v 48))
    (λ large.
    let digits = decimal_step n large h in
    let longer : length (decimal n) ≡ length (decimal (n / 10)) + 1 = ap length digits ∙ length_push (decimal (n / 10)) (48 + n % 10) in
    let same : suc (suc v) - length (decimal n) ≡ suc v - length (decimal (n / 10)) = omega arith in
    rw (same, digits, decimal_digit (n % 10) (omega arith), append_assoc))
    (cases_lt n 10)

one_place : (n : ℕ) → n < 2 ^ 64 → places 1 n ≡ decimal n
one_place n h =
    let none : 1 - length (decimal n) ≡ 0 = omega (arith, decimal_nonempty n h) in
    rw none

pub two_places : (n : ℕ) → n < 2 ^ 64 → padded_integral (format_spec 32 0 4 2 (2 ^ 64 - 1)) false [] (decimal n) ≡ padded n
two_places n h = zeros 2 n ∙ last_place 0 n h ∙ ap (λ t. t ++ decimal (n % 10)) (one_place (n / 10) (omega arith))

pub four_places : (n : ℕ) → n < 2 ^ 64 → padded_integral (format_spec 32 0 4 4 (2 ^ 64 - 1)) false [] (decimal n) ≡ padded (n / 100) ++ padded (n % 100)
four_places n h =
    let hundreds : n / 10 / 10 ≡ n / 100 = omega arith in
    let tens : n / 10 % 10 ≡ n % 100 / 10 = omega arith in
    let ones : n % 10 ≡ n % 100 % 10 = omega arith in
    let three = last_place 1 (n / 10) (omega arith) ∙ ap (λ t. t ++ decimal (n / 10 % 10)) (sym (zeros 2 (n / 10 / 10)) ∙ two_places (n / 10 / 10) (omega arith)) in
    zeros 4 n ∙ last_place 2 n h ∙ ap (λ t. t ++ decimal (n % 10)) three ∙ rw (hundreds, tens, ones, append_assoc (padded (n / 100)) (decimal (n % 100 / 10)) (decimal (n % 100 % 10)))

-- what one `write!` of the parts of a showing writes
pub shown : (s : Showing) → (hex_text s.card ++ (codes " " ++ (decimal s.door ++ (codes " " ++ ((padded (s.year / 100) ++ padded (s.year % 100)) ++ (codes "-" ++ (padded s.month ++ (codes "-" ++ (padded s.date ++ (codes " " ++ (padded s.hour ++ codes ":"))))))))))) ++ (padded s.minute ++ (codes ":" ++ (padded s.second ++ (codes " " ++ print_direction s.direction)))) ≡ show_fields s
shown s = simp append_assoc
