use Rattle.std.proofs.Common.{◌≡◌, ℕ, ◌+◌, ◌*◌, ◌<◌, ◌≤◌, true, length, get_or, drop}
use Rattle.std.specs.Slice.Iter.{chunks_exact_rest, chunks_exact_size}
use Rattle.rule.specs.Conditions.{blank}
use Rattle.rule.specs.Books.{place, kind_ok}
use Rattle.rule.proofs.decode.read_records.Given as goal

abbrev pub invariant-loop-k : goal.invariant-loop-k
invariant-loop-k l =
    (chunks_exact_size l.k-iterator.iter ≡ 24)
    × (chunks_exact_rest l.k-iterator.iter ≡ drop (24 * l.k-iterator.count) l.fn.book)
    × (l.k-iterator.count ≤ l.fn.last + 1)
    × (length l.records ≡ 64)
    × ((j : ℕ) → j < 64 → get_or l.records j blank ≡ place l.fn.book l.k-iterator.count j)
    × ((j : ℕ) → j < l.k-iterator.count → kind_ok l.fn.book j ≡ true)
