use Rattle.std.proofs.Common.{◌/◌, ◌%◌, ◌^◌, eqb, ap, ◌∙◌}
use Rattle.std.proofs.lemmas.Nat.{and_mask}
use Rattle.access.proofs.groups.opens.Goals as goal

pub returns : goal.returns
returns c =
    ap (λ b. eqb b 1) (and_mask (c.doors.result / 2 ^ c.place_of.result) 1)
    ∙ ap (λ d. eqb (d / 2 ^ c.place_of.result % 2) 1) c.doors.ensures
    ∙ ap (λ k. eqb (c.args.group.now.doors / 2 ^ k % 2) 1) c.place_of.ensures.place
