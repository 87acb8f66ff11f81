-- What a frame asks, computed from its bytes.
use Rattle.std.specs.Prelude.{ℕ, zero, suc, List, [], ◌∷◌, take, drop, Some, None, Ok, Err, Option, Result, ◌==◌, slice_index}
use Rattle.std.specs.Option.{option_map}
use Rattle.std.specs.Int.Digits.{number_from_digits}
use Rattle.tables.specs.declared.entry.Entry.{Entry}
use Rattle.records.specs.Decoding as records
use Rattle.records.specs.Decoding.{and_then}
use Rattle.orders.specs.declared.command.Command.{Command}
use Rattle.orders.specs.declared.refusal.Refusal.{Refusal}
use Rattle.orders.specs.declared.refusal.Refusal.TheVariants as refusal
use Rattle.orders.specs.Fields.{user_of}
use Rattle.orders.specs.Meanings.{Takes, nothing, a_user_number, a_card, a_user, a_time_set_number, a_zone_number, a_group_number, a_holiday_number, time_sets, zones, groups, holidays, takes, Content, Meaning}
use Rattle.orders.specs.Questions.{asked}

-- so many records of that size, one behind the other
abbrev pub records_of : {B : Type 0} → (List ℕ → Option (Entry B)) → ℕ → ℕ → List ℕ → Option (List (Entry B))
records_of decoded size zero bs = Some []
records_of decoded size (suc more) bs =
    and_then (decoded (take size bs)) (λ e.
    and_then (records_of decoded size more (drop size bs)) (λ es.
    Some (e ∷ es)))

abbrev pub counted_of : {B : Type 0} → (List ℕ → Option (Entry B)) → ℕ → List ℕ → Option (List (Entry B))
counted_of decoded size body = records_of decoded size (slice_index body 0) (drop 1 body)

-- what a command takes, of a body
abbrev pub content_of : (t : Takes) → List ℕ → Option (Content t)
content_of nothing body = Some tt
content_of a_user_number body = Some (number_from_digits 256 body)
content_of a_card body = Some (number_from_digits 256 body)
content_of a_user body = option_map (λ e. ((slice_index body 4 == 1), e)) (records.user_of (user_of body))
content_of a_time_set_number body = Some (slice_index body 0)
content_of a_zone_number body = Some (slice_index body 0)
content_of a_group_number body = Some (slice_index body 0)
content_of a_holiday_number body = Some (slice_index body 0)
content_of time_sets body = counted_of records.time_set_of 5 body
content_of zones body = counted_of records.zone_of 25 body
content_of groups body = counted_of records.group_of 10 body
content_of holidays body = counted_of records.holiday_of 3 body

abbrev pub with_content : (c : Command) → Option (Content (takes c)) → Result Meaning Refusal
with_content c (Some x) = Ok (c, x)
with_content c None = Err refusal.Range

abbrev pub meaning_of_asked : Result (Command × List ℕ) Refusal → Result Meaning Refusal
meaning_of_asked (Ok p) = with_content p.0 (content_of (takes p.0) p.1)
meaning_of_asked (Err e) = Err e

-- the meaning of a frame that comes through all questions to it alone, or the refusal of the first answered no
abbrev pub meaning_of : ℕ → List ℕ → Result Meaning Refusal
meaning_of last f = meaning_of_asked (asked last f)
