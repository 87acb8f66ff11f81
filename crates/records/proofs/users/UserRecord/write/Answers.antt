use Rattle.std.proofs.Common.{◌++◌, length, replicate, ap, ◌∙◌}
use Rattle.std.proofs.lemmas.List.{append-nil}
use Rattle.records.specs.Users.{four_bytes_hold, user_bytes}
use Rattle.records.specs.Bytes.{placed_as}
use Rattle.records.specs.UserBytes.{sized}
use Rattle.records.proofs.Parts.{put_next}
use Rattle.records.proofs.users.UserRecord.write.Goals as goal

pub returns : goal.returns
returns c =
    let e = c.args.item.now in
    let number = c.copy_from_slice.ensures.after ∙ c.number_array.ensures.bytes in
    let rest = c.copy_from_slice-2.ensures.after ∙ c.from.ensures in
    let joined = put_next c.copy_from_slice.new.self (replicate 80 0) c.copy_from_slice-2.new.self 4 80 c.copy_from_slice.ensures.len ∙ append-nil _ in
    let whole = joined ∙ (λ i. number i ++ rest i) in
    placed_as _ 84 (four_bytes_hold e.number) _ (user_bytes e) c.args.out.now c.place.new.out c.place.result c.place.ensures whole (ap length whole ∙ sized e) c.number_array.ensures.holds
