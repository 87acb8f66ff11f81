use Rattle.std.proofs.Common.{◌≡◌, drop}
use Rattle.std.specs.Slice.Iter.{chunks_exact_rest, chunks_exact_size}
use Rattle.orders.proofs.Counting.{Left}
use Rattle.orders.proofs.protocol.fields.counted_records.Given as goal

abbrev pub invariant-loop-bytes : goal.invariant-loop-bytes
invariant-loop-bytes g l =
    (chunks_exact_size l.bytes-iterator ≡ g.R.Record.long) × Left g.R.Record.encoded g.R.Record.long (g.R.Record.ranges l.last_user) (g.R.Record.numbers l.last_user) l.count (drop 1 l.body) (chunks_exact_rest l.bytes-iterator)
