-- What is printed of an entry is read back.
use Rattle.std.proofs.Common.{◌≡◌, ℕ, ◌+◌, ◌-◌, ◌*◌, ◌/◌, ◌%◌, ◌^◌, ◌<◌, ◌≤◌, true, false, eqb, ◌⊎◌, List, [], ◌∷◌, ◌++◌, length, get_or, Some, Ok, decimal, Option, Result, refl, ap, ◌∙◌, subst, inl, inr, append_assoc, append-nil, arith, rules}
use Rattle.std.specs.Result.{result_map_both}
use Rattle.std.specs.Str.{all_ascii_digits}
use Rattle.std.proofs.lemmas.Fmt.{decimal_digit, decimal_nonempty, digits_decimal, digits_value-decimal}
use Rattle.std.proofs.lemmas.Str.Parse.{IsNumeralModel, numerals_by_fold}
use Rattle.std.proofs.lemmas.Bool.Decides.{nat_tests}
use Rattle.script.specs.declared.entries.Fault.{Fault}
use Rattle.script.specs.declared.entries.Fault.TheVariants as fault
use Rattle.script.specs.declared.entries.Setup.{Setup}
use Rattle.script.specs.declared.entries.Showing.{Showing}
use Rattle.script.specs.Back.{Bytes, SetupFits, ShowingFits, ReadsBack}
use Rattle.script.specs.Entries.{Said, setup, send, withdraw, reply, show, event, refused}
use Rattle.script.specs.Fields.{then, skip, ends, hex_run, hex_word, number_from, number_word, two_digits, three_pairs}
use Rattle.script.specs.Hex.{figure_of, hex_text}
use Rattle.script.specs.Printing.{padded, print_day, print_time, print_direction, print_said}
use Rattle.script.specs.Reading.{fault_of, ask, blank, finished, one_byte, read_day, read_direction, read_setup, read_show, read_code, read_line}
use Rattle.script.proofs.HexLaws.{figure_reads, reads_printed, whole}

abbrev some_said : Result Said Fault → Result (Option Said) Fault
some_said r = result_map_both (λ s. Some s) (λ e. e) r

-- a figure is none of the characters below 0 or above F
figure_plain : (n c : ℕ) → n < 16 → (c < 48) ⊎ (70 < c) → eqb (figure_of n) c ≡ false
figure_plain n c h p = grind (arith, nat_tests)

run_back : (bs rest : List ℕ) → Bytes bs → hex_run (length bs) (hex_text bs ++ rest) ≡ Some (bs, rest)
run_back [] rest h = refl
run_back (b ∷ bs) rest h =
    rw (figure_plain (b / 16) 32 (omega arith) (inl (omega arith)), figure_reads (b / 16) (omega arith), figure_reads (b % 16) (omega arith), run_back bs rest h.1, whole b)

-- bytes of which there are some, after a space
word_back : (n : ℕ) (bs rest : List ℕ) → 0 < n → length bs ≡ n → Bytes bs → ends rest ≡ true → hex_word n (32 ∷ (hex_text bs ++ rest)) ≡ Some (bs, rest)
word_back n [] rest some l h e = absurd (omega arith)
word_back n (b ∷ bs) rest some l h e = subst (λ k. hex_word k (32 ∷ (hex_text (b ∷ bs) ++ rest)) ≡ Some (b ∷ bs, rest)) l (rw (run_back (b ∷ bs) rest h, e))

-- the number that digits write after n
abbrev read_on : ℕ → List ℕ → ℕ
read_on n [] = n
read_on n (c ∷ cs) = read_on (10 * n + (c - 48)) cs

own : IsNumeralModel (λ ds. all_ascii_digits ds ≡ true) (read_on 0)
own = numerals_by_fold _ (search rules) read_on (search rules)

read_on_ge : (n : ℕ) (ds : List ℕ) → n ≤ read_on n ds
read_on_ge n [] = omega arith
read_on_ge n (c ∷ cs) = omega (arith, read_on_ge (10 * n + (c - 48)) cs)

ended : (limit n : ℕ) (rest : List ℕ) → ends rest ≡ true → number_from limit n rest ≡ Some (n, rest)
ended limit n [] e = refl
ended limit n (c ∷ cs) e = rw e

digits_back : (limit n : ℕ) (ds rest : List ℕ) → all_ascii_digits ds ≡ true → read_on n ds ≤ limit → ends rest ≡ true → number_from limit n (ds ++ rest) ≡ Some (read_on n ds, rest)
digits_back limit n [] rest d small e = ended limit n rest e
digits_back limit n (c ∷ cs) rest d small e = grind (arith, nat_tests, read_on_ge (10 * n + (c - 48)) cs, digits_back limit (10 * n + (c - 48)) cs rest)

number_start : (limit : ℕ) (ds rest : List ℕ) → all_ascii_digits ds ≡ true → 0 < length ds → number_word limit (32 ∷ (ds ++ rest)) ≡ number_from limit 0 (ds ++ rest)
number_start limit [] rest d some = absurd (omega arith)
number_start limit (c ∷ cs) rest d some = grind (arith, nat_tests)

number_back : (limit n : ℕ) (rest : List ℕ) → n ≤ limit → n < 2 ^ 64 → ends rest ≡ true → number_word limit (32 ∷ (decimal n ++ rest)) ≡ Some (n, rest)
number_back limit n rest small fits e =
    let d = digits_decimal own n fits in
    let v = digits_value-decimal own n fits in
    number_start limit (decimal n) rest d (decimal_nonempty n fits) ∙ digits_back limit 0 (decimal n) rest d (omega arith) e ∙ ap (λ x. Some (x, rest)) v

two_back : (n : ℕ) (rest : List ℕ) → n < 100 → two_digits (padded n ++ rest) ≡ Some (n, rest)
two_back n rest small = grind (arith, nat_tests, decimal_digit (n / 10), decimal_digit (n % 10))

-- digits are no spaces
skip_padded : (n : ℕ) (rest : List ℕ) → n < 100 → skip (padded n ++ rest) ≡ padded n ++ rest
skip_padded n rest small = grind (arith, nat_tests, decimal_digit (n / 10))

three_back : (mark a b c : ℕ) (rest : List ℕ) → a < 100 → b < 100 → c < 100 → ends rest ≡ true → three_pairs mark (padded a ++ (mark ∷ (padded b ++ (mark ∷ (padded c ++ rest))))) ≡ Some ((a, b, c), rest)
three_back mark a b c rest pa pb pc e = grind (arith, nat_tests, two_back)

byte_back : (n : ℕ) (rest : List ℕ) → n < 256 → ends rest ≡ true → one_byte (32 ∷ (hex_text (n ∷ []) ++ rest)) ≡ Some (n, rest)
byte_back n rest small e = ap (λ r. then r (λ (p : List ℕ × List ℕ). Some (get_or p.0 0 0, p.1))) (word_back 1 (n ∷ []) rest (omega arith) refl (small, tt) e)

direction_other : (n : ℕ) → n < 256 → read_direction (skip (hex_text (n ∷ []))) ≡ Some (n, [])
direction_other n small =
    let high : n / 16 < 16 = omega arith in
    let plain : skip (hex_text (n ∷ [])) ≡ hex_text (n ∷ []) = rw (figure_plain (n / 16) 32 high (inl (omega arith))) in
    let word : read_direction (hex_text (n ∷ [])) ≡ one_byte (hex_text (n ∷ [])) =
    rw (figure_plain (n / 16) 105 high (inr (omega arith)), figure_plain (n / 16) 111 high (inr (omega arith))) in
    ap read_direction plain ∙ word ∙ byte_back n [] small refl

direction_back : (n : ℕ) → n < 256 → read_direction (skip (32 ∷ print_direction n)) ≡ Some (n, [])
direction_back n small = grind (arith, nat_tests, direction_other n small)

day_back : (y m d : ℕ) (rest : List ℕ) → y < 10000 → m < 100 → d < 100 → ends rest ≡ true → read_day (padded (y / 100) ++ (padded (y % 100) ++ (45 ∷ (padded m ++ (45 ∷ (padded d ++ rest)))))) ≡ Some ((y, m, d), rest)
day_back y m d rest py pm pd e = grind (arith, two_back, three_back)

setup_steps : (t after_tid after_mac after_user tid mac : List ℕ) (user : ℕ) → hex_word 2 t ≡ Some (tid, after_tid) → hex_word 6 after_tid ≡ Some (mac, after_mac) → number_word 4294967295 after_mac ≡ Some (user, after_user) → blank after_user ≡ true → read_setup t ≡ Ok (record { tid = get_or tid 0 0 * 256 + get_or tid 1 0; mac = mac; last_user = user })
setup_steps t after_tid after_mac after_user tid mac user p q r e = rw (p, q, r, e)

number_last : (limit n : ℕ) → n ≤ limit → n < 2 ^ 64 → number_word limit (32 ∷ decimal n) ≡ Some (n, [])
number_last limit n small fits =
    subst (λ t. number_word limit (32 ∷ t) ≡ Some (n, [])) (append-nil (decimal n)) (number_back limit n [] small fits refl)

setup_back : (s : Setup) → SetupFits s → read_line (print_said (setup s)) ≡ Ok (Some (setup s))
setup_back s h =
    let tid : List ℕ = s.tid / 256 % 256 ∷ s.tid % 256 ∷ [] in
    let last : List ℕ = 32 ∷ decimal s.last_user in
    let middle : List ℕ = 32 ∷ (hex_text s.mac ++ last) in
    let value : s.tid / 256 % 256 * 256 + s.tid % 256 ≡ s.tid = omega arith in
    let first = word_back 2 tid middle (omega arith) refl (omega arith, (omega arith, tt)) refl in
    let second = word_back 6 s.mac last (omega arith) h.mac_len h.mac refl in
    let third = number_last 4294967295 s.last_user (omega arith) (omega arith) in
    let all = setup_steps (32 ∷ (hex_text tid ++ middle)) middle last [] tid s.mac s.last_user first second third refl in
    let with_tid : ℕ → Result Setup Fault = λ n. Ok (record { tid = n; mac = s.mac; last_user = s.last_user }) in
    ap (λ r. some_said (result_map_both (λ s. setup s) (λ e. e) r)) (all ∙ ap with_tid value)

show_steps : (t t1 t2 t3 t4 t5 card : List ℕ) (door : ℕ) (day time : ℕ × ℕ × ℕ) (direction : ℕ) → hex_word 8 t ≡ Some (card, t1) → number_word 255 t1 ≡ Some (door, t2) → read_day (skip t2) ≡ Some (day, t3) → three_pairs 58 (skip t3) ≡ Some (time, t4) → read_direction (skip t4) ≡ Some (direction, t5) → blank t5 ≡ true → read_show t ≡ Ok (record { card = card; door = door; year = day.0; month = day.1; date = day.2; hour = time.0; minute = time.1; second = time.2; direction = direction })
show_steps t t1 t2 t3 t4 t5 card door day time direction p q r u v e = rw (p, q, r, u, v, e)

show_back : (s : Showing) → ShowingFits s → read_line (print_said (show s)) ≡ Ok (Some (show s))
show_back s h =
    let t4 : List ℕ = 32 ∷ print_direction s.direction in
    let t3 : List ℕ = 32 ∷ (print_time s ++ t4) in
    let t2 : List ℕ = 32 ∷ (print_day s ++ t3) in
    let t1 : List ℕ = 32 ∷ (decimal s.door ++ t2) in
    let day_parts : List ℕ = padded (s.year % 100) ++ (45 ∷ (padded s.month ++ (45 ∷ (padded s.date ++ t3)))) in
    let time_parts : List ℕ = 58 ∷ (padded s.minute ++ (58 ∷ (padded s.second ++ t4))) in
    let day_is : print_day s ++ t3 ≡ padded (s.year / 100) ++ day_parts = simp append_assoc in
    let time_is : print_time s ++ t4 ≡ padded s.hour ++ time_parts = simp append_assoc in
    let card = word_back 8 s.card t1 (omega arith) h.card_len h.card refl in
    let door = number_back 255 s.door t2 (omega arith) (omega arith) refl in
    let day = ap (λ t. read_day (skip t)) day_is ∙ ap read_day (skip_padded (s.year / 100) day_parts (omega arith)) ∙ day_back s.year s.month s.date t3 h.year h.month h.date refl in
    let time = ap (λ t. three_pairs 58 (skip t)) time_is ∙ ap (three_pairs 58) (skip_padded s.hour time_parts (omega arith)) ∙ three_back 58 s.hour s.minute s.second t4 h.hour h.minute h.second refl in
    let direction = direction_back s.direction h.direction in
    ap (λ r. some_said (result_map_both (λ s. show s) (λ e. e) r))
    (show_steps (32 ∷ (hex_text s.card ++ t1)) t1 t2 t3 t4 [] s.card s.door (s.year, s.month, s.date) (s.hour, s.minute, s.second) s.direction card door day time direction refl)

code_back : (n : ℕ) → n < 256 → read_code (32 ∷ hex_text (n ∷ [])) ≡ Ok n
code_back n small = ap (λ r. ask fault.Code r (λ code t. finished code t)) (byte_back n [] small refl)

pub reads_back : ReadsBack
reads_back (setup s) h = setup_back s h
reads_back (send []) h = refl
reads_back (send (b ∷ bs)) h = ap (λ r. some_said (result_map_both (λ bs. send bs) fault_of r)) (reads_printed (b ∷ bs) h)
reads_back (withdraw []) h = refl
reads_back (withdraw (b ∷ bs)) h = ap (λ r. some_said (result_map_both (λ bs. withdraw bs) fault_of r)) (reads_printed (b ∷ bs) h)
reads_back (reply []) h = refl
reads_back (reply (b ∷ bs)) h = ap (λ r. some_said (result_map_both (λ bs. reply bs) fault_of r)) (reads_printed (b ∷ bs) h)
reads_back (show s) h = show_back s h
reads_back (event n) h = ap (λ r. some_said (result_map_both (λ n. event n) (λ e. e) r)) (code_back n h)
reads_back (refused n) h = ap (λ r. some_said (result_map_both (λ n. refused n) (λ e. e) r)) (code_back n h)
