use Rattle.std.proofs.Common.{ℕ, List, sym, subst}
use Rattle.rule.specs.declared.faults.BookFault.{BookFault}
use Rattle.rule.specs.declared.faults.BookFault.TheVariants.{Length, Broken}
use Rattle.rule.specs.Books.{Says}
use Rattle.rule.specs.Faults.{book_refusal, RefusedAs}
use Rattle.line.specs.Lines.{refusal_line, follow_line}
use Rattle.line.specs.Program.{ProgramLine, by_book, by_trace}
use Rattle.line.proofs.program.run_line.Goals as goal

-- a book's refusal gives its line
refused_line : (book trace : List ℕ) (w : BookFault) → RefusedAs book w → ProgramLine book trace (refusal_line (book_refusal w))
refused_line book trace Length r = by_book r
refused_line book trace (Broken c k) r = by_book r

pub returns-in-Ok-clause-writes : goal.returns-in-Ok-clause-writes
returns-in-Ok-clause-writes c =
    let found = c.follow_on_rack.result in
    let e = c.in-Ok.ensures in
    let says = subst (Says c.args.book.now c.load.new.self.records) (sym e.last) e.loads in
    (follow_line found, by_trace found says c.follow_on_rack.ensures.follows c.follow_on_rack.ensures.lasts, c.follow_line.ensures.writes)

pub returns-in-Err-clause-writes : goal.returns-in-Err-clause-writes
returns-in-Err-clause-writes c =
    let fault = c.in-Err.fault in (
      refusal_line (book_refusal fault),
      refused_line c.args.book.now c.args.trace.now fault c.in-Err.ensures.loads,
      rw c.refusal.ensures at c.refusal_line.ensures.writes,
    )
