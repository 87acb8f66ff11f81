-- A frame asks for an order exactly when its bytes are that order's frame.
use Rattle.std.proofs.Common.{◌≡◌, ℕ, suc, ◌+◌, ◌-◌, ◌%◌, ◌<◌, Bool, true, false, cond, ◌&&◌, leb, List, [], ◌∷◌, ◌++◌, length, get_or, take, drop, Some, None, Ok, Err, sum, Option, Result, sym, refl, ap, ◌∙◌, subst, arith}
use Rattle.std.specs.Int.Digits.{number_from_digits}
use Rattle.std.proofs.lemmas.List.{length-append, length-take-le, take_at}
use Rattle.std.proofs.lemmas.Grind.{common_steps}
use Rattle.std.proofs.lemmas.Bool.{le-leb, and_from, and_parts}
use Rattle.line.specs.Frame.{shortest, ends_right, sums_right, Whole}
use Rattle.records.specs.Users.{four}
use Rattle.records.specs.UserBytes.{four_back}
use Rattle.orders.specs.declared.command.Command.{Command}
use Rattle.orders.specs.declared.order.Order.{Order}
use Rattle.orders.specs.declared.refusal.Refusal.{Refusal}
use Rattle.orders.specs.declared.refusal.Refusal.TheVariants as refusal
use Rattle.orders.specs.Bodies.{size_of, long_right}
use Rattle.orders.specs.Commands.{command_byte, command_of}
use Rattle.orders.specs.Fields.{fields_right}
use Rattle.orders.specs.Frames.{content_bytes, body_bytes, frame_bytes, ContentRight, Right}
use Rattle.orders.specs.Meanings.{takes, Content, Meaning}
use Rattle.orders.specs.Questions.{body_of, with_command, opened, with_fields, asked}
use Rattle.orders.specs.Readings.{Taken, FrameLaws}
use Rattle.orders.specs.Replies.{two, closed}
use Rattle.orders.proofs.Contents.{content_long, content_in_range, content_apart}
use Rattle.orders.proofs.Decoding.{computed}
use Rattle.orders.proofs.Naming.{commands_law}

-- ---- bytes with their checksum and 04 behind them

closed_long : (h : List ℕ) → length (closed h) ≡ length h + 2
closed_long h = length-append h (sum h % 256 ∷ 4 ∷ [])

closed_ends : (h : List ℕ) → ends_right (closed h) ≡ true
closed_ends h = grind (arith, common_steps)

closed_sums : (h : List ℕ) → sums_right (closed h) ≡ true
closed_sums h = grind (arith, common_steps)

closed_back : (f : List ℕ) → ends_right f ≡ true → sums_right f ≡ true → closed (take (length f - 2) f) ≡ f
closed_back f ends sums = grind (arith, common_steps)

-- ---- from an order to its frame, and what is asked of it

asked_of : (last tid : ℕ) (m : Meaning) → Right last m → asked last (frame_bytes tid m) ≡ Ok (m.0, body_bytes m)
asked_of last tid m right =
    let c = m.0 in
    let b = body_bytes m in
    let h = 7 ∷ 3 ∷ (four (11 + length b) ++ (two tid ++ (command_byte c ∷ b))) in
    let f = frame_bytes tid m in
    let long = closed_long h in
    let e1 = and_from _ _ (le-leb shortest (length f) (omega arith)) (closed_ends h) in
    let e2 = closed_sums h in
    let e3 = commands_law.read_back c in
    let e4 : body_of f ≡ b = take_at b (sum h % 256 ∷ 4 ∷ []) (length f - 2 - 9) (omega arith) in
    let is_opened : opened f ≡ Ok (c, b) = ap (λ t. cond t (cond (sums_right f) (with_command (command_of (get_or f 8 0)) (body_of f)) (Err refusal.Checksum)) (Err refusal.Length)) e1 ∙ ap (λ t. cond t (with_command (command_of (get_or f 8 0)) (body_of f)) (Err refusal.Checksum)) e2 ∙ (λ i. with_command (e3 i) (e4 i)) ∙ ap (λ t. cond t (Ok (c, b)) (Err refusal.Length)) (content_long last (takes c) m.1 right) in
    ap (with_fields last) is_opened ∙ ap (λ t. cond t (Ok (c, b)) (Err refusal.Range)) (content_in_range last (takes c) m.1 right)

-- ---- from a frame to the order that it asks for

cond_ok : {A : Type 0} (t : Bool) (r : Result A Refusal) (e : Refusal) (x : A) → cond t r (Err e) ≡ Ok x → (t ≡ true) × (r ≡ Ok x)
cond_ok true r e x is = (refl, is)
cond_ok false r e x is = cc

fields_ok : (last : ℕ) (r : Result (Command × List ℕ) Refusal) (p : Command × List ℕ) → with_fields last r ≡ Ok p → r ≡ Ok p
fields_ok last (Ok q) p is = (cond_ok (fields_right last q.0 q.1) (Ok q) refusal.Range p is).1
fields_ok last (Err e) p is = cc

command_ok : (o : Option Command) (b : List ℕ) (c : Command) (b' : List ℕ) → with_command o b ≡ Ok (c, b') → (o ≡ Some c) × (b ≡ b')
command_ok None b c b' is = cc
command_ok (Some d) b c b' is =
    let same = (cond_ok (long_right (size_of d) b) (Ok (d, b)) refusal.Length (c, b') is).1 in
    let both : ◌≡◌ {A = Command × List ℕ} (d, b) (c, b') = cc in
    (ap (λ p. Some p.0) both, ap (λ p. p.1) both)

two_back : (a b tid : ℕ) → a < 256 → b < 256 → number_from_digits 256 (a ∷ b ∷ []) ≡ tid → a ∷ b ∷ [] ≡ two tid
two_back a b tid small small' is = grind (arith, common_steps)

four_small : (a b c d : ℕ) → a < 256 → b < 256 → c < 256 → d < 256 → (i : ℕ) → get_or (a ∷ b ∷ c ∷ d ∷ []) i 0 < 256
four_small a b c d pa pb pc pd i = grind (arith, common_steps)

its_frame : (last tid : ℕ) (f : List ℕ) (m : Meaning) → ((i : ℕ) → get_or f i 0 < 256) → Whole tid f → asked last f ≡ Ok (m.0, body_bytes m) → f ≡ frame_bytes tid m
its_frame last tid ([]) m bytes w asks = absurd (omega (arith, w.long_enough))
its_frame last tid (b0 ∷ []) m bytes w asks = absurd (omega (arith, w.long_enough))
its_frame last tid (b0 ∷ b1 ∷ []) m bytes w asks = absurd (omega (arith, w.long_enough))
its_frame last tid (b0 ∷ b1 ∷ b2 ∷ []) m bytes w asks = absurd (omega (arith, w.long_enough))
its_frame last tid (b0 ∷ b1 ∷ b2 ∷ b3 ∷ []) m bytes w asks = absurd (omega (arith, w.long_enough))
its_frame last tid (b0 ∷ b1 ∷ b2 ∷ b3 ∷ b4 ∷ []) m bytes w asks = absurd (omega (arith, w.long_enough))
its_frame last tid (b0 ∷ b1 ∷ b2 ∷ b3 ∷ b4 ∷ b5 ∷ []) m bytes w asks = absurd (omega (arith, w.long_enough))
its_frame last tid (b0 ∷ b1 ∷ b2 ∷ b3 ∷ b4 ∷ b5 ∷ b6 ∷ []) m bytes w asks = absurd (omega (arith, w.long_enough))
its_frame last tid (b0 ∷ b1 ∷ b2 ∷ b3 ∷ b4 ∷ b5 ∷ b6 ∷ b7 ∷ []) m bytes w asks = absurd (omega (arith, w.long_enough))
its_frame last tid (b0 ∷ b1 ∷ b2 ∷ b3 ∷ b4 ∷ b5 ∷ b6 ∷ b7 ∷ b8 ∷ rest) m bytes w asks =
    let f = b0 ∷ b1 ∷ b2 ∷ b3 ∷ b4 ∷ b5 ∷ b6 ∷ b7 ∷ b8 ∷ rest in
    let c = m.0 in
    let is_opened = fields_ok last (opened f) (c, body_bytes m) asks in
    let ended = cond_ok (leb shortest (length f) && ends_right f) (cond (sums_right f) (with_command (command_of b8) (body_of f)) (Err refusal.Checksum)) refusal.Length (c, body_bytes m) is_opened in
    let summed = cond_ok (sums_right f) (with_command (command_of b8) (body_of f)) refusal.Checksum (c, body_bytes m) ended.1 in
    let named = command_ok (command_of b8) (body_of f) c (body_bytes m) summed.1 in
    let long = w.long_enough in
    let k = length rest - 2 in
    let front : length f - 2 ≡ suc (suc (suc (suc (suc (suc (suc (suc (suc k)))))))) = omega arith in
    let inner : length f - 2 - 9 ≡ k = omega arith in
    let body : take k rest ≡ body_bytes m = ap (λ n. take n rest) (sym inner) ∙ named.1 in
    let inner_long : length (take k rest) ≡ k = length-take-le k rest (omega arith) in
    let body_long : length (body_bytes m) ≡ k = ap length (sym body) ∙ inner_long in
    let whole_long : length f ≡ 11 + length (body_bytes m) = omega arith in
    let size : b2 ∷ b3 ∷ b4 ∷ b5 ∷ [] ≡ four (11 + length (body_bytes m)) = sym (four_back (b2 ∷ b3 ∷ b4 ∷ b5 ∷ []) refl (four_small b2 b3 b4 b5 (bytes 2) (bytes 3) (bytes 4) (bytes 5))) ∙ ap four (w.right_length ∙ whole_long) in
    let name = two_back b6 b7 tid (bytes 6) (bytes 7) w.right_tid in
    let command = commands_law.only_one b8 c named.0 in
    sym (closed_back f (and_parts _ _ ended.0).1 summed.0) ∙ ap (λ n. closed (take n f)) front ∙ (λ i. closed (w.first i ∷ w.second i ∷ (size i ++ (name i ++ (command i ∷ body i)))))

-- ---- no two orders have the same frame

heads_same : (h g : List ℕ) → closed h ≡ closed g → h ≡ g
heads_same h g is =
    let long = sym (closed_long h) ∙ ap length is ∙ closed_long g in
    sym (take_at h (sum h % 256 ∷ 4 ∷ []) (length h) refl) ∙ ap (take (length h)) is ∙ take_at g (sum g % 256 ∷ 4 ∷ []) (length h) (omega arith)

commands_same : (c d : Command) → command_byte c ≡ command_byte d → c ≡ d
commands_same c d is =
    let both : Some c ≡ Some d = sym (commands_law.read_back c) ∙ ap command_of is ∙ commands_law.read_back d in
    cc

meanings_same : (last : ℕ) (c d : Command) (x : Content (takes c)) (y : Content (takes d)) → c ≡ d → ContentRight last (takes c) x → ContentRight last (takes d) y → content_bytes (takes c) x ≡ content_bytes (takes d) y → ◌≡◌ {A = Meaning} (c, x) (d, y)
meanings_same last c d x y is right right' same =
    subst (λ e. (z : Content (takes e)) → ContentRight last (takes e) z → content_bytes (takes c) x ≡ content_bytes (takes e) z → ◌≡◌ {A = Meaning} (c, x) (e, z)) is
    (λ z right'' bytes. ap (λ w. (c, w)) (content_apart last (takes c) x z right right'' bytes)) y right' same

only_one : (last tid : ℕ) (m n : Meaning) → Right last m → Right last n → frame_bytes tid m ≡ frame_bytes tid n → m ≡ n
only_one last tid m n right right' is =
    let h = 7 ∷ 3 ∷ (four (11 + length (body_bytes m)) ++ (two tid ++ (command_byte m.0 ∷ body_bytes m))) in
    let g = 7 ∷ 3 ∷ (four (11 + length (body_bytes n)) ++ (two tid ++ (command_byte n.0 ∷ body_bytes n))) in
    let same = heads_same h g is in
    meanings_same last m.0 n.0 m.1 n.1 (commands_same m.0 n.0 (ap (λ l. get_or l 8 0) same)) right right' (ap (drop 9) same)

-- ---- what the reader of a frame found

pub taken_right : (last : ℕ) (c : Command) (body : List ℕ) (o : Order) → Taken last c body o → fields_right last c body ≡ true
taken_right last c body o t = sym (ap (fields_right last c) t.bytes) ∙ content_in_range last (takes c) t.content t.right

pub asks_taken : (last : ℕ) (f : List ℕ) (c : Command) (body : List ℕ) (o : Order) → Ok (c, body) ≡ opened f → Taken last c body o → asked last f ≡ Ok (c, body)
asks_taken last f c body o is t =
    ap (with_fields last) (sym is) ∙ ap (λ b. cond b (Ok (c, body)) (Err refusal.Range)) (taken_right last c body o t)

pub frame_laws : (last : ℕ) (f : List ℕ) → ((i : ℕ) → get_or f i 0 < 256) → FrameLaws last f
frame_laws last f bytes =
    record {
      its_frame = λ tid m w asks. its_frame last tid f m bytes w asks.0;
      asks_it = λ tid m w right is. (ap (asked last) is ∙ asked_of last tid m right, right);
      computed = λ r asks. computed last f r asks;
      only_one = λ tid m n right right' is. only_one last tid m n right right' is;
    }
