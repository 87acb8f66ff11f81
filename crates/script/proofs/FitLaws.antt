-- What is read of a line fits the form in which a line writes it.
use Rattle.std.proofs.Common.{◌≡◌, ℕ, zero, suc, ◌+◌, ◌-◌, ◌*◌, ◌<◌, ◌≤◌, Bool, true, false, cond, eqb, List, [], ◌∷◌, length, get_or, Some, None, Ok, Err, Option, Result, refl, ap, subst, arith}
use Rattle.std.specs.Result.{result_map_both}
use Rattle.std.proofs.lemmas.Bool.Decides.{nat_tests}
use Rattle.std.proofs.lemmas.Option.{cond_some}
use Rattle.script.specs.declared.entries.Fault.{Fault}
use Rattle.script.specs.declared.entries.Fault.TheVariants as fault
use Rattle.script.specs.declared.entries.Kind.{Kind}
use Rattle.script.specs.declared.entries.Kind.TheVariants as kind
use Rattle.script.specs.declared.entries.Setup.{Setup}
use Rattle.script.specs.declared.entries.Showing.{Showing}
use Rattle.script.specs.Back.{Bytes, SetupFits, ShowingFits, Fits, ReadsAgain}
use Rattle.script.specs.Entries.{Said, show}
use Rattle.script.specs.Fields.{then, skip, ends, hex_byte, hex_run, hex_word, number_from, number_here, number_word, two_digits, three_pairs}
use Rattle.script.specs.Reading.{ask, blank, one_byte, read_day, read_direction, read_setup, read_show, read_code, read_kind, read_entry, read_text, read_line}
use Rattle.script.proofs.BackLaws.{reads_back}
use Rattle.script.proofs.HexLaws.{reads_bytes}

-- what stands behind each answer that is no refusal
then_some : {A B : Type 0} (r : Option A) (next : A → Option B) (y : B) → then r next ≡ Some y → (x : A) × (r ≡ Some x) × (next x ≡ Some y)
then_some None next y e = cc
then_some (Some x) next y e = (x, refl, e)

ask_ok : {A B : Type 0} (f : Fault) (r : Option (A × List ℕ)) (next : A → List ℕ → Result B Fault) (y : B) → ask f r next ≡ Ok y → (p : A × List ℕ) × (r ≡ Some p) × (next p.0 p.1 ≡ Ok y)
ask_ok f None next y e = cc
ask_ok f (Some p) next y e = (p, refl, e)

mapped_ok : {A B E D : Type 0} (f : A → B) (g : E → D) (r : Result A E) (y : B) → result_map_both f g r ≡ Ok y → (x : A) × (r ≡ Ok x) × (f x ≡ y)
mapped_ok f g (Ok x) y e = (x, refl, cc)
mapped_ok f g (Err d) y e = cc

cond_ok : {A : Type 0} (b : Bool) (f : Fault) (x y : A) → cond b (Ok x) (Err f) ≡ Ok y → x ≡ y
cond_ok true f x y e = cc
cond_ok false f x y e = cc

byte_fits : (t : List ℕ) (p : ℕ × List ℕ) → hex_byte t ≡ Some p → p.0 < 256
byte_fits [] p e = cc
byte_fits (a ∷ []) p e = cc
byte_fits (a ∷ b ∷ rest) p e = grind (arith, nat_tests)

run_fits : (n : ℕ) (t : List ℕ) (p : List ℕ × List ℕ) → hex_run n t ≡ Some p → Bytes p.0 × (length p.0 ≡ n)
run_fits zero t p e = let is : ([], t) ≡ p = cc in subst (λ (q : List ℕ × List ℕ). Bytes q.0 × (length q.0 ≡ 0)) is (tt, refl)
run_fits (suc n) t p e =
    let one = then_some (hex_byte (skip t)) _ p e in
    let more = then_some (hex_run n one.0.1) _ p one.2 in
    let rest = run_fits n one.0.1 more.0 more.1 in
    let is : (one.0.0 ∷ more.0.0, more.0.1) ≡ p = cc more.2 in
    subst (λ (q : List ℕ × List ℕ). Bytes q.0 × (length q.0 ≡ suc n)) is ((byte_fits (skip t) one.0 one.1, rest.0), ap suc rest.1)

word_fits : (n : ℕ) (t : List ℕ) (p : List ℕ × List ℕ) → hex_word n t ≡ Some p → Bytes p.0 × (length p.0 ≡ n)
word_fits n t p e =
    let run = then_some (hex_run n t) _ p e in
    let is = (cond_some (ends run.0.1) run.0 p run.2).1 in
    subst (λ (q : List ℕ × List ℕ). Bytes q.0 × (length q.0 ≡ n)) is (run_fits n t run.0 run.1)

digits_fit : (limit n : ℕ) (t : List ℕ) (p : ℕ × List ℕ) → n ≤ limit → number_from limit n t ≡ Some p → p.0 ≤ limit
digits_fit limit n [] p h e = grind arith
digits_fit limit n (c ∷ cs) p h e = grind (arith, nat_tests, digits_fit limit (10 * n + (c - 48)) cs p)

here_fits : (limit : ℕ) (t : List ℕ) (p : ℕ × List ℕ) → number_here limit t ≡ Some p → p.0 ≤ limit
here_fits limit [] p e = cc
here_fits limit (c ∷ cs) p e = digits_fit limit 0 (c ∷ cs) p (omega arith) e

two_fit : (t : List ℕ) (p : ℕ × List ℕ) → two_digits t ≡ Some p → p.0 < 100
two_fit [] p e = cc
two_fit (a ∷ []) p e = cc
two_fit (a ∷ b ∷ rest) p e = grind (arith, nat_tests)

abbrev Pairs : ℕ × ℕ × ℕ → Type 0
Pairs x = (x.0 < 100) × (x.1 < 100) × (x.2 < 100)

three_fit : (mark : ℕ) (t : List ℕ) (p : (ℕ × ℕ × ℕ) × List ℕ) → three_pairs mark t ≡ Some p → Pairs p.0
three_fit mark t p e = grind (arith, nat_tests, two_fit)

abbrev Day : ℕ × ℕ × ℕ → Type 0
Day x = (x.0 < 10000) × (x.1 < 100) × (x.2 < 100)

day_fits : (t : List ℕ) (p : (ℕ × ℕ × ℕ) × List ℕ) → read_day t ≡ Some p → Day p.0
day_fits t p e =
    let century = then_some (two_digits t) _ p e in
    let parts = then_some (three_pairs 45 century.0.1) _ p century.2 in
    let high = two_fit t century.0 century.1 in
    let low = three_fit 45 century.0.1 parts.0 parts.1 in
    let is : ((100 * century.0.0 + parts.0.0.0, parts.0.0.1, parts.0.0.2), parts.0.1) ≡ p = cc parts.2 in
    subst (λ (q : (ℕ × ℕ × ℕ) × List ℕ). Day q.0) is (omega arith, low.1, low.2)

get_or_fits : (bs : List ℕ) → Bytes bs → (get_or bs 0 0 < 256) × (get_or bs 1 0 < 256)
get_or_fits [] h = (omega arith, omega arith)
get_or_fits (a ∷ []) h = (h.0, omega arith)
get_or_fits (a ∷ b ∷ bs) h = (h.0, h.1.0)

one_byte_fits : (t : List ℕ) (p : ℕ × List ℕ) → one_byte t ≡ Some p → p.0 < 256
one_byte_fits t p e = grind (arith, nat_tests, word_fits 1 t, get_or_fits)

direction_fits : (t : List ℕ) (p : ℕ × List ℕ) → read_direction t ≡ Some p → p.0 < 256
direction_fits t p e = grind (arith, nat_tests, one_byte_fits t)

setup_fits : (t : List ℕ) (s : Setup) → read_setup t ≡ Ok s → SetupFits s
setup_fits t s e =
    let tid = ask_ok fault.Tid (hex_word 2 t) _ s e in
    let mac = ask_ok fault.Mac (hex_word 6 tid.0.1) _ s tid.2 in
    let user = ask_ok fault.LastUser (number_word 4294967295 mac.0.1) _ s mac.2 in
    let is = cond_ok (blank user.0.1) fault.After _ s user.2 in
    let id = get_or_fits tid.0.0 (word_fits 2 t tid.0 tid.1).0 in
    let bytes = word_fits 6 tid.0.1 mac.0 mac.1 in
    let number = here_fits 4294967295 (skip mac.0.1) user.0 user.1 in
    subst SetupFits is (record { tid = omega arith; mac = bytes.0; mac_len = bytes.1; last_user = omega arith })

show_fits : (t : List ℕ) (s : Showing) → read_show t ≡ Ok s → ShowingFits s
show_fits t s e =
    let card = ask_ok fault.Card (hex_word 8 t) _ s e in
    let door = ask_ok fault.Door (number_word 255 card.0.1) _ s card.2 in
    let day = ask_ok fault.Day (read_day (skip door.0.1)) _ s door.2 in
    let time = ask_ok fault.Time (three_pairs 58 (skip day.0.1)) _ s day.2 in
    let direction = ask_ok fault.Direction (read_direction (skip time.0.1)) _ s time.2 in
    let is = cond_ok (blank direction.0.1) fault.After _ s direction.2 in
    let bytes = word_fits 8 t card.0 card.1 in
    let number = here_fits 255 (skip card.0.1) door.0 door.1 in
    let dates = day_fits (skip door.0.1) day.0 day.1 in
    let times = three_fit 58 (skip day.0.1) time.0 time.1 in
    subst ShowingFits is (record {
      card = bytes.0;
      card_len = bytes.1;
      door = omega arith;
      year = dates.0;
      month = dates.1;
      date = dates.2;
      hour = times.0;
      minute = times.1;
      second = times.2;
      direction = direction_fits (skip time.0.1) direction.0 direction.1;
    })

code_fits : (t : List ℕ) (n : ℕ) → read_code t ≡ Ok n → n < 256
code_fits t n e = grind (arith, nat_tests, one_byte_fits t)

entry_fits : (k : Kind) (t : List ℕ) (s : Said) → read_entry k t ≡ Ok s → Fits s
entry_fits kind.Setup t s e = grind (arith, setup_fits t)
entry_fits kind.Send t s e = grind (arith, reads_bytes t)
entry_fits kind.Withdraw t s e = grind (arith, reads_bytes t)
entry_fits kind.Reply t s e = grind (arith, reads_bytes t)
entry_fits kind.Show t s e = let m = mapped_ok (λ s. show s) (λ e. e) (read_show t) s e in subst Fits m.2 (show_fits t m.0 m.1)
entry_fits kind.Event t s e = grind (arith, code_fits t)
entry_fits kind.Refused t s e = grind (arith, code_fits t)

kind_fits : (t : List ℕ) (s : Said) (remark : Bool) → cond remark (Ok None) (ask fault.Word (read_kind t) (λ k t. result_map_both (λ s. Some s) (λ e. e) (read_entry k t))) ≡ Ok (Some s) → Fits s
kind_fits t s true e = cc
kind_fits t s false e =
    let word = ask_ok fault.Word (read_kind t) _ (Some s) e in
    let m = mapped_ok (λ s. Some s) (λ e. e) (read_entry word.0.0 word.0.1) (Some s) word.2 in
    let same : m.0 ≡ s = cc m.2 in
    subst Fits same (entry_fits word.0.0 word.0.1 m.0 m.1)

text_fits : (t : List ℕ) (s : Said) → read_text t ≡ Ok (Some s) → Fits s
text_fits [] s e = cc
text_fits (c ∷ cs) s e = kind_fits (c ∷ cs) s (eqb c 35) e

line_fits : (t : List ℕ) (s : Said) → read_line t ≡ Ok (Some s) → Fits s
line_fits t s e = text_fits (skip t) s e

pub reads_again : ReadsAgain
reads_again t s e = reads_back s (line_fits t s e)
