use Rattle.std.proofs.Common.{◌∷◌, ◌++◌, length, ap, ◌∙◌}
use Rattle.records.specs.UserBytes.{card_is}
use Rattle.records.specs.WindowBytes.{window_sized}
use Rattle.records.proofs.Parts.{room_for_groups, room_for_password, room_for_reserved, written}
use Rattle.records.proofs.users.ArrayU8RESTSIZEFromRefUser.from.Goals as goal

pub slice_bounds-rest-end-4 : goal.slice_bounds-rest-end-4
slice_bounds-rest-end-4 c =
    let u = c.args.user.now in
    room_for_groups _ _ _ u.groups u.password _ _ u.bypass c.copy_from_slice.ensures.len (ap length c.copy_from_slice-2.ensures.after ∙ u.named) (ap length (c.copy_from_slice-3.ensures.after ∙ c.from.ensures) ∙ window_sized u.window) u.four u.secret

pub slice_bounds-rest-end-5 : goal.slice_bounds-rest-end-5
slice_bounds-rest-end-5 c =
    let u = c.args.user.now in
    room_for_password _ _ _ _ u.password _ _ _ c.copy_from_slice.ensures.len (ap length c.copy_from_slice-2.ensures.after ∙ u.named) (ap length (c.copy_from_slice-3.ensures.after ∙ c.from.ensures) ∙ window_sized u.window) (ap length c.copy_from_slice-4.ensures.after ∙ u.four) u.secret

pub slice_bounds-rest-end-6 : goal.slice_bounds-rest-end-6
slice_bounds-rest-end-6 c =
    let u = c.args.user.now in
    room_for_reserved _ _ _ _ _ _ _ _ c.copy_from_slice.ensures.len (ap length c.copy_from_slice-2.ensures.after ∙ u.named) (ap length (c.copy_from_slice-3.ensures.after ∙ c.from.ensures) ∙ window_sized u.window) (ap length c.copy_from_slice-4.ensures.after ∙ u.four) (ap length c.copy_from_slice-5.ensures.after ∙ u.secret)

pub returns : goal.returns
returns c =
    let u = c.args.user.now in
    let card = c.copy_from_slice.ensures.after ∙ c.to_be_bytes.ensures ∙ card_is u.card in
    let name = c.copy_from_slice-2.ensures.after in
    let window = c.copy_from_slice-3.ensures.after ∙ c.from.ensures in
    let groups = c.copy_from_slice-4.ensures.after in
    let password = c.copy_from_slice-5.ensures.after in
    let reserved = c.copy_from_slice-6.ensures.after in
    written _ _ _ _ _ _ _ _ c.copy_from_slice.ensures.len (ap length name ∙ u.named) (ap length window ∙ window_sized u.window) (ap length groups ∙ u.four) (ap length password ∙ u.secret) _
    ∙ (λ i. card i ++ (name i ++ (window i ++ (c.from-2.ensures i ∷ u.kind ∷ (groups i ++ (u.bypass ∷ (password i ++ reserved i)))))))
