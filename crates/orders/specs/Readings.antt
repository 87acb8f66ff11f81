-- What a frame asks.
use Rattle.std.specs.Prelude.{◌≡◌, ℕ, ◌≤◌, Bool, true, List, ◌∷◌, length, Ok, Err, Result}
use Rattle.std.specs.Borrow.{Bor}
use Rattle.std.specs.List.{flat_map, AllByRecursion}
use Rattle.line.specs.Frame.{Whole}
use Rattle.tables.specs.declared.entry.Entry.{Entry}
use Rattle.records.specs.declared.user.User.{User}
use Rattle.orders.specs.declared.command.Command.{Command}
use Rattle.orders.specs.declared.order.NewUser.{NewUser}
use Rattle.orders.specs.declared.order.Order.{Order}
use Rattle.orders.specs.declared.order.Place.{Place}
use Rattle.orders.specs.declared.refusal.Refusal.{Refusal}
use Rattle.orders.specs.Decoding.{meaning_of}
use Rattle.orders.specs.Frames.{content_bytes, body_bytes, frame_bytes, ContentRight, Right}
use Rattle.orders.specs.Meanings.{a_user, takes, Content, Meaning}
use Rattle.orders.specs.Orders.{Lies, LiesBehind, Brings}
use Rattle.orders.specs.Questions.{asked}

-- the meaning, in range, whose command and body come through all questions; or the refusal of the first answered no
abbrev pub Asks : ℕ → List ℕ → Result Meaning Refusal → Type 0
Asks last f (Ok m) = (asked last f ≡ Ok (m.0, body_bytes m)) × Right last m
Asks last f (Err e) = asked last f ≡ Err e

-- the order and the bytes beside it bring what the frame asks
abbrev pub ReadsFrame : ℕ → List ℕ → Result (Order × Bor (List ℕ)) Refusal → Type 0
ReadsFrame last f (Ok p) = (m : Meaning) × Brings p.0 p.1.now m × Asks last f (Ok m)
ReadsFrame last f (Err e) = Asks last f (Err e)

-- a counted body with its records
pub record CountedRead {B : Type 0} (encoded : Entry B → List ℕ) (size : ℕ) (numbers : ℕ → Bool) (body : List ℕ) (p : Place) : Type 0 where
  pub entries : List (Entry B)
  pub lies : Lies encoded size p body entries
  pub bytes : length entries ∷ flat_map encoded entries ≡ body
  pub some : 1 ≤ length entries
  pub few : length entries ≤ 255
  pub in_range : AllByRecursion (λ e. numbers e.number ≡ true) entries

-- a user that was read, with OVERWRITE behind the number
pub record UserRead (last : ℕ) (body : List ℕ) (u : NewUser) : Type 0 where
  pub entry : Entry User
  pub lies : LiesBehind u body entry
  pub bytes : content_bytes a_user (u.overwrite, entry) ≡ body
  pub right : ContentRight last a_user (u.overwrite, entry)

-- what a body was read as
pub record Taken (last : ℕ) (c : Command) (body : List ℕ) (o : Order) : Type 0 where
  pub content : Content (takes c)
  pub brings : Brings o body (c, content)
  pub bytes : content_bytes (takes c) content ≡ body
  pub right : ContentRight last (takes c) content

-- a frame asks for an order exactly when its bytes are that order's frame, and no two orders have the same frame
pub record FrameLaws (last : ℕ) (f : List ℕ) : Type 0 where
  pub its_frame : (tid : ℕ) (m : Meaning) → Whole tid f → Asks last f (Ok m) → f ≡ frame_bytes tid m
  pub asks_it : (tid : ℕ) (m : Meaning) → Whole tid f → Right last m → f ≡ frame_bytes tid m → Asks last f (Ok m)
  -- what a frame asks can be computed
  pub computed : (r : Result Meaning Refusal) → Asks last f r → meaning_of last f ≡ r
  pub only_one : (tid : ℕ) (m n : Meaning) → Right last m → Right last n → frame_bytes tid m ≡ frame_bytes tid n → m ≡ n
