use Rattle.std.proofs.Common.{◌≡◌, ℕ, ◌+◌, ◌*◌, ◌≤◌, List, ◌++◌, length, take, drop, ap, ◌∙◌, arith}
use Rattle.std.proofs.lemmas.List.{length-take-le}
use Rattle.rule.specs.Books.{written_below}
use Rattle.rule.proofs.Written.{written_front}
use Rattle.rule.proofs.Whole.{says_again}
use Rattle.rule.proofs.rules.Rule.write.Goals as goal

pub returns-then-buf-n-clause-loads_back : goal.returns-then-buf-n-clause-loads_back
returns-then-buf-n-clause-loads_back c = let s = c.args.self.now in says_again _ _ s.sized.0 s.sized.1 s.full s.lawful s.bare

pub returns-clause-writes : goal.returns-clause-writes
returns-clause-writes c =
    let s = c.args.self.now in
    let within : s.last + 1 ≤ length s.records = omega (arith, s.sized.1, s.full) in
    let n : length (take (s.last + 1) s.records) ≡ s.last + 1 = length-take-le (s.last + 1) s.records within in
    c.write_records.ensures
    ∙ ap (λ (n : ℕ). written_below (take (s.last + 1) s.records) n ++ drop (24 * n) c.args.buf.now) n
    ∙ ap (λ (bs : List ℕ). bs ++ drop (24 * (s.last + 1)) c.args.buf.now) (written_front s.records (s.last + 1) (s.last + 1) (omega arith) within)

pub returns-clause-loads_back : goal.returns-clause-loads_back
returns-clause-loads_back c = let s = c.args.self.now in says_again _ _ s.sized.0 s.sized.1 s.full s.lawful s.bare
