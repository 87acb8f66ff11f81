-- The line of an entry in its normal form, without a newline.
use Rattle.std.specs.Prelude.{ℕ, ◌/◌, ◌%◌, cond, List, [], ◌∷◌, ◌++◌, codes, decimal, ◌==◌}
use Rattle.script.specs.declared.entries.Setup.{Setup}
use Rattle.script.specs.declared.entries.Showing.{Showing}
use Rattle.script.specs.Entries.{Said, kind_of, word_of, setup, send, withdraw, reply, show, event, refused}
use Rattle.script.specs.Hex.{hex_text}

-- a number in two digits, or more where it has more
abbrev pub padded : ℕ → List ℕ
padded n = decimal (n / 10) ++ decimal (n % 10)

abbrev pub print_day : Showing → List ℕ
print_day s = padded (s.year / 100) ++ (padded (s.year % 100) ++ (codes "-" ++ (padded s.month ++ (codes "-" ++ padded s.date))))

abbrev pub print_time : Showing → List ℕ
print_time s = padded s.hour ++ (codes ":" ++ (padded s.minute ++ (codes ":" ++ padded s.second)))

abbrev pub print_direction : ℕ → List ℕ
print_direction n = cond (n == 1) (codes "in") (cond (n == 2) (codes "out") (hex_text (n ∷ [])))

-- two bytes, the high one first
abbrev pub print_tid : ℕ → List ℕ
print_tid tid = hex_text (tid / 256 % 256 ∷ tid % 256 ∷ [])

-- what stands behind the word `setup`
abbrev pub setup_fields : Setup → List ℕ
setup_fields s = print_tid s.tid ++ (codes " " ++ (hex_text s.mac ++ (codes " " ++ decimal s.last_user)))

-- what stands behind the word `show`
abbrev pub show_fields : Showing → List ℕ
show_fields s =
    hex_text s.card ++ (codes " " ++ (decimal s.door ++ (codes " " ++ (print_day s ++ (codes " " ++ (print_time s ++ (codes " " ++ print_direction s.direction)))))))

-- a space and the bytes, or nothing where there are none
abbrev pub bytes_field : List ℕ → List ℕ
bytes_field [] = []
bytes_field (b ∷ bs) = codes " " ++ hex_text (b ∷ bs)

-- what stands behind the first word
abbrev pub print_fields : Said → List ℕ
print_fields (setup s) = codes " " ++ setup_fields s
print_fields (send bs) = bytes_field bs
print_fields (withdraw bs) = bytes_field bs
print_fields (reply bs) = bytes_field bs
print_fields (show s) = codes " " ++ show_fields s
print_fields (event n) = bytes_field (n ∷ [])
print_fields (refused n) = bytes_field (n ∷ [])

abbrev pub print_said : Said → List ℕ
print_said s = word_of (kind_of s) ++ print_fields s
