-- Records read one behind the other, with what was read.
use Rattle.std.proofs.Common.{◌≡◌, ℕ, zero, suc, ◌*◌, ◌<◌, ◌≤◌, Bool, true, false, ◌&&◌, List, [], ◌∷◌, ◌++◌, length, get_or, drop, Err, sym, refl, ap, ◌∙◌, mul-zero, mul-suc, arith}
use Rattle.std.specs.List.{flat_map, AllByRecursion}
use Rattle.std.proofs.lemmas.List.{length-append, take_all, take_at, drop_at}
use Rattle.std.proofs.lemmas.Bool.{false≢true, eqb-true}
use Rattle.tables.specs.declared.entry.Entry.{Entry}
use Rattle.records.specs.Codec.{Reads}
use Rattle.records.specs.declared.record.Misfit.{Misfit}
use Rattle.records.specs.declared.record.Misfit.TheVariants.{Size, Range}
use Rattle.orders.specs.declared.refusal.Refusal.TheVariants as refusal
use Rattle.orders.specs.Refusals.{refused_as}
use Rattle.orders.specs.Readings.{CountedRead}
use Rattle.orders.specs.declared.size.BodySize.TheVariants.{Counted}
use Rattle.orders.specs.Bodies.{long_right}
use Rattle.orders.specs.Fields.{every_record, counted}

-- records that were read one behind the other, each under a number that it may have
pub record EntriesRead {B : Type 0} (encoded : Entry B → List ℕ) (numbers : ℕ → Bool) (n : ℕ) (bs : List ℕ) : Type 0 where
  pub entries : List (Entry B)
  pub many : length entries ≡ n
  pub bytes : flat_map encoded entries ≡ bs
  pub in_range : AllByRecursion (λ e. numbers e.number ≡ true) entries

module _ {B : Type 0} (encoded : Entry B → List ℕ) (size : ℕ) (ranges : List ℕ → Bool) (numbers : ℕ → Bool) (count : ℕ) (records : List ℕ) where
  -- so many records are left in the rest; where these are read, all are
  pub record Left (rest : List ℕ) : Type 0 where
    pub many : ℕ
    pub room : length rest ≡ size * many
    pub right : every_record ranges size many rest ≡ every_record ranges size count records
    pub read : EntriesRead encoded numbers many rest → EntriesRead encoded numbers count records

  -- where a record comes off the front, there was one left
  one_off : (many : ℕ) (rest first after : List ℕ) → 0 < size → length rest ≡ size * many → rest ≡ first ++ after → length first ≡ size → (m : ℕ) × (many ≡ suc m) × (length after ≡ size * m)
  one_off zero rest first after some room is long =
      absurd (omega (arith, mul-zero size, ap length is, length-append first after))
  one_off (suc m) rest first after some room is long =
      (m, refl, omega (arith, mul-suc size m, ap length is, length-append first after))

  asked_on : (m : ℕ) (rest first after : List ℕ) → rest ≡ first ++ after → length first ≡ size → every_record ranges size (suc m) rest ≡ (ranges first && every_record ranges size m after)
  asked_on m rest first after is long =
      ap (every_record ranges size (suc m)) is ∙ (λ i. ranges (take_at first after size long i) && every_record ranges size m (drop_at first after size long i))

  pub one_read : (rest first after : List ℕ) (e : Entry B) → 0 < size → rest ≡ first ++ after → length first ≡ size → encoded e ≡ first → ranges first ≡ true → numbers e.number ≡ true → Left rest → Left after
  one_read rest first after e some is long bytes right named left =
      let off = one_off left.many rest first after some left.room is long in
      let on = asked_on off.0 rest first after is long in
      record {
        many = off.0;
        room = off.2;
        right = sym (ap (λ t. t && every_record ranges size off.0 after) right) ∙ sym on ∙ ap (λ k. every_record ranges size k rest) (sym off.1) ∙ left.right;
        read = λ r. left.read (record {
          entries = e ∷ r.entries;
          many = ap (λ n. suc n) r.many ∙ sym off.1;
          bytes = (λ i. bytes i ++ r.bytes i) ∙ sym is;
          in_range = (named, r.in_range);
        });
      }

  pub one_wrong : (rest first after : List ℕ) → 0 < size → rest ≡ first ++ after → length first ≡ size → ranges first ≡ false → Left rest → every_record ranges size count records ≡ false
  one_wrong rest first after some is long wrong left =
      let off = one_off left.many rest first after some left.room is long in
      sym left.right ∙ ap (λ k. every_record ranges size k rest) off.1 ∙ asked_on off.0 rest first after is long ∙ ap (λ t. t && every_record ranges size off.0 after) wrong

  pub none_left : (rest : List ℕ) → length rest < size → Left rest → EntriesRead encoded numbers count records
  none_left rest few left = left.read (nothing left.many rest few left.room)
    where
      nothing : (many : ℕ) (rest : List ℕ) → length rest < size → length rest ≡ size * many → EntriesRead encoded numbers many rest
      nothing zero [] few room = record { entries = []; many = refl; bytes = refl; in_range = tt }
      nothing zero (x ∷ xs) few room = absurd (omega (arith, mul-zero size))
      nothing (suc m) xs few room = absurd (omega (arith, mul-suc size m))

-- ---- what bytes of the right size are refused for

pub misfit_told : {E : Type 0} (size : ℕ) (encoded : E → List ℕ) (ranges : List ℕ → Bool) (bytes : List ℕ) (m : Misfit) → Reads size encoded ranges bytes (Err m) → length bytes ≡ size → (refused_as m ≡ refusal.Range) × (ranges bytes ≡ false)
misfit_told size encoded ranges bytes Size told long = absurd (told long)
misfit_told size encoded ranges bytes Range told long = (refl, told.1)

-- ---- a counted body

pub counted_wrong : (ranges : List ℕ → Bool) (size : ℕ) (body : List ℕ) → every_record ranges size (get_or body 0 0) (drop 1 body) ≡ false → counted ranges size body ≡ false
counted_wrong ranges size body wrong = grind arith

pub counted_done : {B : Type 0} (encoded : Entry B → List ℕ) (numbers : ℕ → Bool) (size : ℕ) (body : List ℕ) → long_right (Counted size) body ≡ true → 1 ≤ get_or body 0 0 → get_or body 0 0 ≤ 255 → EntriesRead encoded numbers (get_or body 0 0) (drop 1 body) → CountedRead encoded size numbers body (record { start = 1; count = get_or body 0 0 })
counted_done encoded numbers size [] long some few read = absurd (false≢true long)
counted_done encoded numbers size (n ∷ records) long some few read =
    let room = eqb-true (length records) (size * n) long in
    record {
      entries = read.entries;
      lies = (read.many, read.bytes ∙ sym (take_all (size * n) records (omega arith)));
      bytes = λ i. read.many i ∷ read.bytes i;
      some = omega (arith, read.many);
      few = omega (arith, read.many);
      in_range = read.in_range;
    }
