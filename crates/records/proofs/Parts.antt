-- The bytes behind a user's number, written one part behind the other.
use Rattle.std.proofs.Common.{◌≡◌, ℕ, ◌+◌, ◌≤◌, List, [], ◌∷◌, ◌++◌, length, set, drop, replicate, refl, sym, ap, ◌∙◌, arith, length-append, append_assoc}
use borrow.Rule.Slice.PartMut.{put_mid}
use Rattle.std.proofs.lemmas.List.{take_at, drop_at, set_at, append-nil}

pub put_next : (front back ys : List ℕ) (at k : ℕ) → length front ≡ at → put_mid at k (front ++ back) ys ≡ (front ++ ys) ++ drop k back
put_next front back ys at k long =
    (λ i. take_at front back at long i ++ (ys ++ drop k (drop_at front back at long i))) ∙ sym (append_assoc front ys (drop k back))

set_next : (front back : List ℕ) (b x at : ℕ) → length front ≡ at → set (front ++ b ∷ back) at x ≡ (front ++ x ∷ []) ++ back
set_next front back b x at long = set_at front b back x at long ∙ sym (append_assoc front (x ∷ []) back)

grown : (front part : List ℕ) (at k next : ℕ) → length front ≡ at → length part ≡ k → at + k ≡ next → length (front ++ part) ≡ next
grown front part at k next long part_long sum = omega (arith, length-append front part)

module _ (card name window groups password : List ℕ) (status kind bypass : ℕ) where
  abbrev to_kind : List ℕ
  to_kind = set (set (put_mid 39 11 (put_mid 8 31 (card ++ replicate 72 0) name) window) 50 status) 51 kind

  abbrev to_bypass : List ℕ
  to_bypass = set (put_mid 52 4 to_kind groups) 56 bypass

  abbrev to_password : List ℕ
  to_password = put_mid 57 8 to_bypass password

module _ (card name window groups password : List ℕ) (status kind bypass : ℕ) (c : length card ≡ 8) (n : length name ≡ 31) (w : length window ≡ 11) (g : length groups ≡ 4) (p : length password ≡ 8) where
  kinds : List ℕ
  kinds = (((card ++ name) ++ window) ++ status ∷ []) ++ kind ∷ []

  kinds_long : length kinds ≡ 52
  unfolding kinds
  kinds_long = grown _ (kind ∷ []) 51 1 52 (grown _ (status ∷ []) 50 1 51 (grown _ window 39 11 50 (grown card name 8 31 39 c n refl) w refl) refl refl) refl refl

  kinds_written : to_kind card name window groups password status kind bypass ≡ kinds ++ replicate 28 0
  unfolding kinds
  kinds_written =
      let name_long = grown card name 8 31 39 c n refl in
      let window_long = grown _ window 39 11 50 name_long w refl in
      let status_long = grown _ (status ∷ []) 50 1 51 window_long refl refl in
      ap (λ l. set (set (put_mid 39 11 l window) 50 status) 51 kind) (put_next card (replicate 72 0) name 8 31 c)
      ∙ ap (λ l. set (set l 50 status) 51 kind) (put_next (card ++ name) (replicate 41 0) window 39 11 name_long)
      ∙ ap (λ l. set l 51 kind) (set_next ((card ++ name) ++ window) (replicate 29 0) 0 status 50 window_long)
      ∙ set_next (((card ++ name) ++ window) ++ status ∷ []) (replicate 28 0) 0 kind 51 status_long

  pub room_for_groups : 56 ≤ length (to_kind card name window groups password status kind bypass)
  room_for_groups = omega (arith, ap length kinds_written, length-append kinds (replicate 28 0), kinds_long)

  bypass_written : to_bypass card name window groups password status kind bypass ≡ ((kinds ++ groups) ++ bypass ∷ []) ++ replicate 23 0
  bypass_written =
      ap (λ l. set (put_mid 52 4 l groups) 56 bypass) kinds_written
      ∙ ap (λ l. set l 56 bypass) (put_next kinds (replicate 28 0) groups 52 4 kinds_long)
      ∙ set_next (kinds ++ groups) (replicate 23 0) 0 bypass 56 (grown kinds groups 52 4 56 kinds_long g refl)

  bypass_long : length ((kinds ++ groups) ++ bypass ∷ []) ≡ 57
  bypass_long = grown _ (bypass ∷ []) 56 1 57 (grown kinds groups 52 4 56 kinds_long g refl) refl refl

  pub room_for_password : 65 ≤ length (to_bypass card name window groups password status kind bypass)
  room_for_password = omega (arith, ap length bypass_written, length-append ((kinds ++ groups) ++ bypass ∷ []) (replicate 23 0), bypass_long)

  password_written : to_password card name window groups password status kind bypass ≡ (((kinds ++ groups) ++ bypass ∷ []) ++ password) ++ replicate 15 0
  password_written = ap (λ l. put_mid 57 8 l password) bypass_written ∙ put_next _ (replicate 23 0) password 57 8 bypass_long

  password_long : length (((kinds ++ groups) ++ bypass ∷ []) ++ password) ≡ 65
  password_long = grown _ password 57 8 65 bypass_long p refl

  pub room_for_reserved : 80 ≤ length (to_password card name window groups password status kind bypass)
  room_for_reserved = omega (arith, ap length password_written, length-append (((kinds ++ groups) ++ bypass ∷ []) ++ password) (replicate 15 0), password_long)

  pub written : (reserved : List ℕ) → put_mid 65 15 (to_password card name window groups password status kind bypass) reserved ≡ card ++ (name ++ (window ++ (status ∷ kind ∷ (groups ++ (bypass ∷ (password ++ reserved))))))
  unfolding kinds
  written reserved =
      ap (λ l. put_mid 65 15 l reserved) password_written
      ∙ put_next _ (replicate 15 0) reserved 65 15 password_long
      ∙ simp (append_assoc, append-nil) refl
