use Rattle.std.proofs.Common.{ℕ, ◌<◌, List, get_or, sym, ap, ◌∙◌, subst, arith}
use Rattle.std.proofs.lemmas.Result.{err_from_is_err_and}
use Rattle.rule.specs.declared.kinds.Record.{Record}
use Rattle.rule.specs.Conditions.{Bare}
use Rattle.rule.specs.Books.{written}
use Rattle.rule.proofs.Refusing.{kept_under, countable, lawful, refused_by, accepted}
use Rattle.rule.proofs.Places.{bare_records}
use Rattle.rule.proofs.Whole.{written_again}
use Rattle.rule.proofs.rules.Rule.read.Goals as goal

pub ask-requires : goal.ask-requires
ask-requires c =
    let d = c.in_ok-draft.draft in
    countable d.records d.last _ (kept_under d.records d.last c.loop-condition.condition-index (omega arith) c.loop-condition.invariant.2)

pub returns-in_err-ask : goal.returns-in_err-ask
returns-in_err-ask c =
    let p = err_from_is_err_and c.from_residual-in_err-ask.result c.from_residual-in_err-ask.ensures.1 in
    let d = c.in_ok-draft.ensures in
    rw (p.1, p.2) (record {
      says =
          refused_by _ _ d.sized _ d.holds d.known c.loop-condition.condition-index (omega arith) c.loop-condition.invariant.2 _
          c.in_err-ask.ensures;
      again = tt;
    })

pub invariant_of-result : goal.invariant_of-result
invariant_of-result c =
    let d = c.in_ok-draft.draft in
    let book : List ℕ = c.args.book.now in
    record {
      sized = d.sized;
      full = d.full;
      lawful = lawful d.records d.last c.loop-condition.condition-index (omega arith) c.loop-condition.invariant.2;
      bare = subst (λ (rs : List Record). Bare rs d.last) (sym c.in_ok-draft.ensures.holds) (bare_records book d.last);
    }

pub returns : goal.returns
returns c =
    let book : List ℕ = c.args.book.now in
    let d = c.in_ok-draft.draft in
    let e = c.in_ok-draft.ensures in
    let fit : (i : ℕ) → get_or book i 0 < 256 = λ i. omega (arith, c.type_inv.book i) in
    let ok = lawful d.records d.last c.loop-condition.condition-index (omega arith) c.loop-condition.invariant.2 in
    record {
      says = record { accepted = accepted book d.last e.sized _ e.holds e.known ok; holds = sym e.holds };
      again = ap (λ (rs : List Record). written rs d.last) e.holds ∙ written_again book d.last d.sized.1 e.long fit e.known;
    }
