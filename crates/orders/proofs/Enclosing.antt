-- A reply around its data.
use Rattle.std.proofs.Common.{◌≡◌, ℕ, ◌+◌, ◌%◌, ◌<◌, ◌≤◌, List, [], ◌∷◌, ◌++◌, length, take, drop, set, sum, sym, ap, ◌∙◌, arith}
use Rattle.std.proofs.lemmas.Grind.{elements}
use Rattle.std.proofs.lemmas.List.{append_assoc, length-append, length-drop, length-take-le, take-append-drop, drop-drop, drop_at, take_at}
use Rattle.orders.specs.declared.heading.Heading.{Heading}
use Rattle.orders.specs.Replies.{header, closed, reply_bytes}

pub header_sized : (h : Heading) (n : ℕ) → length (header h n) ≡ 16
header_sized h n = omega (arith, h.six)

-- two bytes written one behind the other
pub two_set : (xs : List ℕ) (e a b : ℕ) → e + 1 < length xs → set (set xs e a) (e + 1) b ≡ take e xs ++ (a ∷ b ∷ drop (e + 2) xs)
two_set xs e a b within = grind (arith, elements)

-- the bytes behind the data and the two that close the reply
behind_data : (h : Heading) (n : ℕ) (before out : List ℕ) → out ≡ header h n ++ drop 16 before → drop (16 + n + 2) out ≡ drop (18 + n) before
behind_data h n before out is =
    let to : 16 + n + 2 ≡ 16 + (n + 2) = omega arith in
    let from : 16 + (n + 2) ≡ 18 + n = omega arith in
    ap (λ k. drop k out) to ∙ sym (drop-drop (n + 2) 16 out) ∙ ap (λ l. drop (n + 2) (drop 16 l)) is ∙ ap (drop (n + 2)) (drop_at (header h n) (drop 16 before) 16 (header_sized h n)) ∙ drop-drop (n + 2) 16 before ∙ ap (λ k. drop k before) from

-- the buffer after the header, the checksum and 04 are written
pub enclosed : (h : Heading) (n : ℕ) (before out : List ℕ) (s : ℕ) → 18 + n ≤ length before → out ≡ header h n ++ drop 16 before → s ≡ sum (take (16 + n) out) % 256 → set (set out (16 + n) s) (16 + n + 1) 4 ≡ reply_bytes h (take n (drop 16 before)) ++ drop (18 + n) before
enclosed h n before out s room is sums =
    let inner = take n (drop 16 before) in
    let rest = drop n (drop 16 before) in
    let bytes = header h n ++ inner in
    let left = length-drop 16 before in
    let inner_long : length inner ≡ n = length-take-le n (drop 16 before) (omega arith) in
    let long : length bytes ≡ 16 + n = omega (arith, length-append (header h n) inner, header_sized h n) in
    let cut : out ≡ bytes ++ rest = is ∙ ap (λ l. header h n ++ l) (sym (take-append-drop n (drop 16 before))) ∙ sym (append_assoc (header h n) inner rest) in
    let front : take (16 + n) out ≡ bytes = ap (take (16 + n)) cut ∙ take_at bytes rest (16 + n) long in
    let whole : length out ≡ length before = omega (arith, ap length is, length-append (header h n) (drop 16 before), header_sized h n) in
    let behind : drop (16 + n + 2) out ≡ drop (18 + n) before = behind_data h n before out is in
    let sum_is : s ≡ sum bytes % 256 = sums ∙ ap (λ l. sum l % 256) front in
    two_set out (16 + n) s 4 (omega arith) ∙ (λ i. front i ++ (sum_is i ∷ 4 ∷ behind i)) ∙ sym (append_assoc bytes (sum bytes % 256 ∷ 4 ∷ []) (drop (18 + n) before)) ∙ ap (λ k. closed (header h k ++ inner) ++ drop (18 + n) before) (sym inner_long)
