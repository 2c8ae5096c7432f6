use Rattle.std.proofs.Common.{◌≡◌, length, Some, sym, ◌∙◌}
use Rattle.std.proofs.lemmas.Result.{err_from_is_err_and}
use Rattle.rule.specs.declared.faults.Condition.TheVariants.{Kinds}
use Rattle.rule.specs.Books.{last_of}
use Rattle.rule.proofs.Refusing.{none_before, no_last, refused}
use Rattle.rule.proofs.draft.Draft.read.Goals as goal

pub returns-in_err-last : goal.returns-in_err-last
returns-in_err-last c =
    let p = err_from_is_err_and c.from_residual.result c.from_residual.ensures.1 in
    rw (p.1, p.2) (no_last _ _ c.last_of.result c.in_err-last.ensures.value (λ e. sym c.last_of.ensures.value ∙ e))

pub returns-in_err-records : goal.returns-in_err-records
returns-in_err-records c =
    let p = err_from_is_err_and c.from_residual-in_err-records.result c.from_residual-in_err-records.ensures.1 in
    let sized : last_of (length c.args.book.now) ≡ Some c.in_ok-last.last = sym c.last_of.ensures.value ∙ c.in_ok-last.ensures.ok_part in
    rw (p.1, p.2) (refused _ _ sized Kinds (none_before _ _) _ c.in_err-records.ensures)
