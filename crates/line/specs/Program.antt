-- The program's line, by the contents of its two files.
use Rattle.std.specs.Prelude.{ℕ, List, [], IfOk, Result}
use Rattle.gauge.specs.Rack.{rack_meaning}
use Rattle.rule.specs.declared.faults.Layer.TheVariants.{Book}
use Rattle.rule.specs.declared.kinds.Record.{Record}
use Rattle.rule.specs.Books.{Refused, Says}
use Rattle.rule.specs.Formulas.{formula_of}
use Rattle.trace.specs.declared.faults.Followed.{Followed}
use Rattle.trace.specs.declared.faults.FollowFault.{FollowFault}
use Rattle.trace.specs.Following.{extended, Follows, FinalAfter}
use Rattle.line.specs.Lines.{refusal_line, follow_line}

-- a book that is refused gives the line of its refusal; a book that says a rule gives the line of what comes of following the
-- trace on a run of which nothing was seen, with sums on clocks 0 to 3, peaks on 4 and 5 and channels on 6 and 7; a verdict is
-- then final
pub data ProgramLine (book trace : List ℕ) : List ℕ → Type 0 where
  by_book : {n k : ℕ} → Refused book n k
      → ProgramLine book trace (refusal_line (record { number = n; layer = Book; «record» = k }))
  by_trace : {rs : List Record} {last : ℕ} (found : Result Followed FollowFault) → Says book rs last
      → Follows rack_meaning (formula_of rs last) [] trace found
      → IfOk found (λ x. FinalAfter rack_meaning (formula_of rs last) (extended [] trace x.records) x.verdict)
      → ProgramLine book trace (follow_line found)
