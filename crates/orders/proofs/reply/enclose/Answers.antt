use Rattle.std.proofs.Common.{◌≡◌, ◌+◌, ◌%◌, ◌++◌, take, drop, sum, ap, ◌∙◌, arith}
use native.Mathlib.Nat.{sub-zero}
use Rattle.std.proofs.lemmas.Grind.{common_steps}
use Rattle.orders.proofs.Enclosing.{enclosed}
use Rattle.orders.proofs.reply.enclose.Goals as goal

pub returns : goal.returns
returns c =
    let h = c.args.heading.now in
    let n = c.args.«data» in
    let before = c.args.out.now in
    let size = c.in_ok-size.ensures in
    let whole : c.in_ok-length.length ≡ 18 + n = grind (arith, common_steps) in
    let front = c.copy_from_slice.ensures.after ∙ c.header_array.ensures n whole in
    let out = c.copy_from_slice.new.self ++ drop 16 before in
    let sums : c.checksum.result ≡ sum (take (16 + n) out) % 256 = c.checksum.ensures ∙ ap (λ k. sum (take k out) % 256) (sub-zero (16 + n)) in
    (omega arith, enclosed h n before out c.checksum.result (omega arith) (ap (λ l. l ++ drop 16 before) front) sums)
