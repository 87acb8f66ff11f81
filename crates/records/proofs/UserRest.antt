-- A user's number, and the bytes behind it.
use Rattle.std.proofs.Common.{◌≡◌, ℕ, ◌<◌, ◌≤◌, false, nat_le, List, ◌++◌, length, get_or, take, drop, ap, ◌∙◌, arith}
use Rattle.std.specs.Int.{w32, from_be_bytes}
use Rattle.std.specs.List.{between}
use Rattle.std.proofs.lemmas.Bool.{and_left, and_right}
use Rattle.std.proofs.lemmas.List.{get_or-take, get_or_past, length-take, length-take-le, take-append-drop}
use Rattle.std.proofs.lemmas.Nat.{be_bytes_4}
use Rattle.records.specs.Users.{four, rest_ranges}
use Rattle.records.specs.Windows.{window_ranges}

taken_byte : (bs : List ℕ) (n i : ℕ) → get_or bs i 0 < 256 → get_or (take n bs) i 0 < 256
taken_byte bs n i byte = grind (arith, get_or-take, get_or_past, length-take)

-- bytes are the four of the number that was read of them, and the rest
pub number_and_rest : (bs front back : List ℕ) (n : ℕ) → 4 ≤ length bs → ((i : ℕ) → get_or bs i 0 < 256) → front ≡ take 4 bs → back ≡ drop 4 bs → n ≡ from_be_bytes w32 front → four n ++ back ≡ bs
number_and_rest bs front back n long bytes front_is back_is read =
    let number = be_bytes_4 (take 4 bs) n (length-take-le 4 bs long) (λ i. taken_byte bs 4 i (bytes i)) (read ∙ ap (from_be_bytes w32) front_is) in
    (λ i. number i ++ back_is i) ∙ take-append-drop 4 bs

-- ---- a field that is out of its range

pub window_wrong : (rest : List ℕ) → window_ranges (between 39 50 rest) ≡ false → rest_ranges rest ≡ false
window_wrong rest wrong = and_left _ _ wrong

pub status_wrong : (rest : List ℕ) → nat_le (get_or rest 50 0) 1 ≡ false → rest_ranges rest ≡ false
status_wrong rest wrong = and_right (window_ranges (between 39 50 rest)) _ (and_left _ _ wrong)

pub kind_wrong : (rest : List ℕ) → nat_le (get_or rest 51 0) 5 ≡ false → rest_ranges rest ≡ false
kind_wrong rest wrong = and_right (window_ranges (between 39 50 rest)) _ (and_right (nat_le (get_or rest 50 0) 1) _ wrong)
