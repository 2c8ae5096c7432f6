use Rattle.std.proofs.Common.{◌≡◌, ◌*◌, ◌++◌, drop}
use Rattle.rule.specs.Books.{written_below}
use Rattle.rule.proofs.encode.write_records.Given as goal

abbrev pub invariant-loop-k : goal.invariant-loop-k
invariant-loop-k l = l.buf ≡ written_below l.records l.k ++ drop (24 * l.k) l.initial.buf
