-- What a line says: its fields are asked from left to right, and the first fault decides.
use Rattle.std.specs.Prelude.{ℕ, ◌+◌, ◌-◌, ◌*◌, Bool, cond, ◌&&◌, List, [], ◌∷◌, length, take, Some, None, Ok, Err, codes, Option, Result, ◌==◌, nat_le, slice_index}
use Rattle.std.specs.Result.{result_map_both}
use Rattle.script.specs.declared.hex.HexFault.{HexFault}
use Rattle.script.specs.declared.hex.HexFault.TheVariants as hex
use Rattle.script.specs.declared.entries.Fault.{Fault}
use Rattle.script.specs.declared.entries.Fault.TheVariants as fault
use Rattle.script.specs.declared.entries.Kind.{Kind}
use Rattle.script.specs.declared.entries.Kind.TheVariants as kind
use Rattle.script.specs.declared.entries.Setup.{Setup}
use Rattle.script.specs.declared.entries.Showing.{Showing}
use Rattle.script.specs.Entries.{Said, word_of, setup, send, withdraw, reply, show, event, refused}
use Rattle.script.specs.Fields.{then, skip, after_word, hex_word, number_word, two_digits, three_pairs}
use Rattle.script.specs.Hex.{hex_bytes}

abbrev pub fault_of : HexFault → Fault
fault_of hex.NotHex = fault.NotHex
fault_of hex.HalfByte = fault.HalfByte
fault_of hex.Memory = fault.Memory

-- a field, and what comes after it; without the field, its fault
abbrev pub ask : {A B : Type 0} → Fault → Option (A × List ℕ) → (A → List ℕ → Result B Fault) → Result B Fault
ask fault None next = Err fault
ask fault (Some p) next = next p.0 p.1

-- a value for a given word, or else what the others give
abbrev pub worded : {A : Type 0} → Option (List ℕ) → A → Option (A × List ℕ) → Option (A × List ℕ)
worded (Some rest) x others = Some (x, rest)
worded None x others = others

abbrev pub blank : List ℕ → Bool
blank t = length (skip t) == 0

-- an entry has nothing after its last field
abbrev pub finished : {A : Type 0} → A → List ℕ → Result A Fault
finished x t = cond (blank t) (Ok x) (Err fault.After)

abbrev pub one_byte : List ℕ → Option (ℕ × List ℕ)
one_byte t = then (hex_word 1 t) (λ p. Some (slice_index p.0 0, p.1))

-- the year, the month and the date, with 45, the hyphen, between them
abbrev pub read_day : List ℕ → Option ((ℕ × ℕ × ℕ) × List ℕ)
read_day t =
    then (two_digits t) (λ century. then (three_pairs 45 century.1) (λ p. Some ((100 * century.0 + p.0.0, p.0.1, p.0.2), p.1)))

abbrev pub read_direction : List ℕ → Option (ℕ × List ℕ)
read_direction t = worded (after_word (codes "in") t) 1 (worded (after_word (codes "out") t) 2 (one_byte t))

abbrev pub read_setup : List ℕ → Result Setup Fault
read_setup t =
    ask fault.Tid (hex_word 2 t) (λ tid t.
    ask fault.Mac (hex_word 6 t) (λ mac t.
    ask fault.LastUser (number_word 4294967295 t) (λ user t.
    finished (record { tid = slice_index tid 0 * 256 + slice_index tid 1; mac = mac; last_user = user }) t)))

-- 58, the colon, stands between the parts of the time
abbrev pub read_show : List ℕ → Result Showing Fault
read_show t =
    ask fault.Card (hex_word 8 t) (λ card t.
    ask fault.Door (number_word 255 t) (λ door t.
    ask fault.Day (read_day (skip t)) (λ day t.
    ask fault.Time (three_pairs 58 (skip t)) (λ time t.
    ask fault.Direction (read_direction (skip t)) (λ direction t.
    finished (record {
      card = card;
      door = door;
      year = day.0;
      month = day.1;
      date = day.2;
      hour = time.0;
      minute = time.1;
      second = time.2;
      direction = direction;
    }) t)))))

abbrev pub read_code : List ℕ → Result ℕ Fault
read_code t = ask fault.Code (one_byte t) (λ code t. finished code t)

-- the first kind whose word the text begins with
abbrev pub kind_among : List Kind → List ℕ → Option (Kind × List ℕ)
kind_among [] t = None
kind_among (k ∷ ks) t = worded (after_word (word_of k) t) k (kind_among ks t)

abbrev pub read_kind : List ℕ → Option (Kind × List ℕ)
read_kind t =
    kind_among (kind.Setup ∷ kind.Send ∷ kind.Withdraw ∷ kind.Reply ∷ kind.Show ∷ kind.Event ∷ kind.Refused ∷ []) t

-- what follows the first word
abbrev pub read_entry : Kind → List ℕ → Result Said Fault
read_entry kind.Setup t = result_map_both (λ s. setup s) (λ e. e) (read_setup t)
read_entry kind.Send t = result_map_both (λ bs. send bs) fault_of (hex_bytes t)
read_entry kind.Withdraw t = result_map_both (λ bs. withdraw bs) fault_of (hex_bytes t)
read_entry kind.Reply t = result_map_both (λ bs. reply bs) fault_of (hex_bytes t)
read_entry kind.Show t = result_map_both (λ s. show s) (λ e. e) (read_show t)
read_entry kind.Event t = result_map_both (λ n. event n) (λ e. e) (read_code t)
read_entry kind.Refused t = result_map_both (λ n. refused n) (λ e. e) (read_code t)

-- a line without the spaces at its front; 35, the number sign, begins a remark
abbrev pub read_text : List ℕ → Result (Option Said) Fault
read_text [] = Ok None
read_text (c ∷ cs) =
    cond (c == 35) (Ok None) (ask fault.Word (read_kind (c ∷ cs)) (λ k t. result_map_both (λ s. Some s) (λ e. e) (read_entry k t)))

abbrev pub read_line : List ℕ → Result (Option Said) Fault
read_line t = read_text (skip t)

-- 13, the carriage return, may stand before the end of a line
abbrev pub without_return : List ℕ → List ℕ
without_return l = cond (nat_le 1 (length l) && slice_index l (length l - 1) == 13) (take (length l - 1) l) l
