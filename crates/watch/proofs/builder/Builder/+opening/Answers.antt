use Rattle.std.proofs.Common.{◌≡◌, ℕ, Bool, cond, ◌∷◌, Some, None, Option, sym, ap, ◌∙◌, subst, ⊎_elim, arith, rules}
use Rattle.wmtl.specs.Formula.{next}
use Rattle.wmtl.specs.Residual.{Term, is_true, is_false, fresh_observed}
use Rattle.rule.specs.declared.faults.Condition.TheVariants.{Fields}
use Rattle.rule.specs.declared.kinds.Kind.{Kind}
use Rattle.rule.specs.declared.kinds.Kind.TheVariants.{Mark, NotMark, All, Any, Until, Release, Eventually, Always}
use Rattle.rule.specs.Conditions.{fields_ok, marked}
use Rattle.rule.specs.Rules.{IsRecord, formula_in}
use Rattle.watch.specs.Opening.{chain_observed}
use Rattle.watch.specs.Stored.{joined}
use Rattle.watch.specs.Working.{Builds}
use Rattle.watch.proofs.Opened.{mark_small, is_read, is_front, pick_not, formula_of_lem, chain_observed_lem, next_first}
use Rattle.watch.proofs.builder.Builder.+opening.Goals as goal

some_same : {i j : ℕ} → Some i ≡ Some j → i ≡ j
some_same e = cc

some_none : {i : ℕ} → Some i ≡ None → ⊥
some_none e = let z : ◌≡◌ {A = ℕ} 0 1 = cc in omega arith

pub open-has_mark-requires : goal.open-has_mark-requires
open-has_mark-requires g t c =
    let s = c.args.seen.now.rule.now in
    let q = c.in-Some-record.ensures in
    mark_small c.in-Some-record.r (ap fields_ok q.value ∙ s.lawful Fields c.args.k q.number.1) (ap marked c.in-Mark.is)

pub open-has_mark-requires-in-NotMark : goal.open-has_mark-requires-in-NotMark
open-has_mark-requires-in-NotMark g t c =
    let s = c.args.seen.now.rule.now in
    let q = c.in-Some-record.ensures in
    mark_small c.in-Some-record.r (ap fields_ok q.value ∙ s.lawful Fields c.args.k q.number.1) (ap marked c.in-NotMark.is)

pub open-open_chain-requires : goal.open-open_chain-requires
open-open_chain-requires g t c κs within =
    let s = c.args.seen.now.rule.now in
    let q = c.in-Some-record.ensures in
    let x = is_read s c.args.k c.in-Some-record.r q.number q.value in
    let i = x.inside in
    let r = x.reaches in
    let w = x.weighs in
    search rules

pub open-open_chain-requires-in-Any : goal.open-open_chain-requires-in-Any
open-open_chain-requires-in-Any g t c κs within =
    let s = c.args.seen.now.rule.now in
    let q = c.in-Some-record.ensures in
    let x = is_read s c.args.k c.in-Some-record.r q.number q.value in
    let i = x.inside in
    let r = x.reaches in
    let w = x.weighs in
    search rules

pub open-returns-in-Mark : goal.open-returns-in-Mark
open-returns-in-Mark g t c =
    let s = c.args.seen.now.rule.now in
    let q = c.in-Some-record.ensures in
    let m = g.G.Gauge.meaning c.args.seen.now.gauge.now in
    let e = formula_of_lem s c.args.k q.number.1 c.in-Some-record.r q.value Mark c.in-Mark.is in
    let n = c.push_settled.ensures.count in
    record {
      builds = λ ts b. subst (λ (x : Term). Builds s c.push_settled.new.self (x ∷ ts)) (ap (λ (b : Bool). cond b is_true is_false) c.has_mark.ensures ∙ sym (ap (fresh_observed m c.args.seen.now.marks) e)) (c.push_settled.ensures.builds s ts b);
      count = omega arith;
      depth = c.push_settled.ensures.depth;
    }

pub open-returns-in-NotMark : goal.open-returns-in-NotMark
open-returns-in-NotMark g t c =
    let s = c.args.seen.now.rule.now in
    let q = c.in-Some-record.ensures in
    let m = g.G.Gauge.meaning c.args.seen.now.gauge.now in
    let e = formula_of_lem s c.args.k q.number.1 c.in-Some-record.r q.value NotMark c.in-NotMark.is in
    let n = c.push_settled-in-NotMark.ensures.count in
    record {
      builds = λ ts b. subst (λ (x : Term). Builds s c.push_settled-in-NotMark.new.self (x ∷ ts)) (pick_not c.has_mark-in-NotMark.result is_true is_false ∙ ap (λ (b : Bool). cond b is_false is_true) c.has_mark-in-NotMark.ensures ∙ sym (ap (fresh_observed m c.args.seen.now.marks) e)) (c.push_settled-in-NotMark.ensures.builds s ts b);
      count = omega arith;
      depth = c.push_settled-in-NotMark.ensures.depth;
    }

pub open-returns-in-All : goal.open-returns-in-All
open-returns-in-All g t c =
    let s = c.args.seen.now.rule.now in
    let q = c.in-Some-record.ensures in
    let m = g.G.Gauge.meaning c.args.seen.now.gauge.now in
    let e = formula_of_lem s c.args.k q.number.1 c.in-Some-record.r q.value All c.in-All.is in
    let w = (is_read s c.args.k c.in-Some-record.r q.number q.value).weighs in
    let n = c.open_chain.ensures.count in
    record {
      builds = λ ts b. subst (λ (x : Term). Builds s c.open_chain.new.self (x ∷ ts)) (sym (ap (fresh_observed m c.args.seen.now.marks) e)) (c.open_chain.ensures.builds ts b);
      count = omega arith;
      depth = c.open_chain.ensures.depth;
    }

pub open-returns-in-Any : goal.open-returns-in-Any
open-returns-in-Any g t c =
    let s = c.args.seen.now.rule.now in
    let q = c.in-Some-record.ensures in
    let m = g.G.Gauge.meaning c.args.seen.now.gauge.now in
    let e = formula_of_lem s c.args.k q.number.1 c.in-Some-record.r q.value Any c.in-Any.is in
    let w = (is_read s c.args.k c.in-Some-record.r q.number q.value).weighs in
    let n = c.open_chain-in-Any.ensures.count in
    record {
      builds = λ ts b. subst (λ (x : Term). Builds s c.open_chain-in-Any.new.self (x ∷ ts)) (sym (ap (fresh_observed m c.args.seen.now.marks) e)) (c.open_chain-in-Any.ensures.builds ts b);
      count = omega arith;
      depth = c.open_chain-in-Any.ensures.depth;
    }

pub open-returns-in-Some-first : goal.open-returns-in-Some-first
open-returns-in-Some-first g t c =
    let s = c.args.seen.now.rule.now in
    let q = c.in-Some-record.ensures in
    let x = next_first s c.args.k q.number.1 c.in-Some-record.r q.value c.in-Next.is in
    let same : x.0 ≡ c.in-Some-first.first = some_same (sym x.1 ∙ c.in-Some-first.is) in
    let n = c.push_fresh.ensures.count in
    record {
      builds = λ ts b. subst (λ (y : Term). Builds s c.push_fresh.new.self (y ∷ ts))
          (sym (ap (fresh_observed (g.G.Gauge.meaning c.args.seen.now.gauge.now) c.args.seen.now.marks) (x.3 ∙ ap (λ (j : ℕ). next (formula_in s j)) same)))
          (c.push_fresh.ensures.builds s (subst (IsRecord s) same x.2) ts b);
      count = omega arith;
      depth = c.push_fresh.ensures.depth;
    }

pub open-returns-in_default-first : goal.open-returns-in_default-first
open-returns-in_default-first g t c =
    let s = c.args.seen.now.rule.now in
    let q = c.in-Some-record.ensures in
    let x = next_first s c.args.k q.number.1 c.in-Some-record.r q.value c.in-Next.is in
    absurd (some_none (sym x.1 ∙ c.in_default-first.is))

pub open-returns-in-Until : goal.open-returns-in-Until
open-returns-in-Until g t c =
    let s = c.args.seen.now.rule.now in
    let q = c.in-Some-record.ensures in
    let by : (k : Kind) → c.in-Some-record.r.kind ≡ k → _ = formula_of_lem s c.args.k q.number.1 c.in-Some-record.r q.value in
    let no = c.in_default.ensures in
    let range = c.requires.range in
    absurd
    (⊎_elim (λ e. no _ range (by Until e)) (⊎_elim (λ e. no _ range (by Release e)) (⊎_elim (λ e. no _ range (by Eventually e)) (λ e. no _ range (by Always e))))
    c.in-Until.is)

pub open_chain-open_chain-requires : goal.open_chain-open_chain-requires
open_chain-open_chain-requires g t c κs within =
    let s = c.args.seen.now.rule.now in
    let f = is_front s c.in-Some.j c.args.link c.behind.result c.in-Some.is c.requires.range c.behind.ensures in
    let f0 = f.known.0 in
    let f1 = f.known.1 in
    let i = f.inside in
    let r = f.reaches in
    let r' = f.reached in
    let w = f.weighs in
    search rules

pub open_chain-open-requires : goal.open_chain-open-requires
open_chain-open-requires g t c κs within =
    let s = c.args.seen.now.rule.now in
    let f = is_front s c.in-Some.j c.args.link c.behind.result c.in-Some.is c.requires.range c.behind.ensures in
    let f0 = f.known.0 in
    let f1 = f.known.1 in
    let i = f.inside in
    let r = f.reaches in
    let r' = f.reached in
    let w = f.weighs in
    search rules

pub open_chain-combine-requires : goal.open_chain-combine-requires
open_chain-combine-requires g t c =
    let s = c.args.seen.now.rule.now in
    let f = is_front s c.in-Some.j c.args.link c.behind.result c.in-Some.is c.requires.range c.behind.ensures in
    let f0 = f.known.0 in
    let f1 = f.known.1 in
    let i = f.inside in
    let r = f.reaches in
    let r' = f.reached in
    let w = f.weighs in
    search rules

pub open_chain-returns : goal.open_chain-returns
open_chain-returns g t c =
    let s = c.args.seen.now.rule.now in
    let f = is_front s c.in-Some.j c.args.link c.behind.result c.in-Some.is c.requires.range c.behind.ensures in
    let f0 = f.known.0 in
    let f1 = f.known.1 in
    let i = f.inside in
    let r = f.reaches in
    let r' = f.reached in
    let w = f.weighs in
    let m = g.G.Gauge.meaning c.args.seen.now.gauge.now in
    let o = c.args.op in
    let a = c.open_chain.ensures.count in
    let b = c.open.ensures.count in
    let d = c.combine.ensures.count in
    let x = c.open_chain.ensures.depth in
    let y = c.open.ensures.depth in
    let e = ap (chain_observed o m c.args.seen.now.marks s) c.in-Some.is
    ∙ chain_observed_lem s o m c.args.seen.now.marks c.in-Some.j f1
    ∙ ap (λ (l : Option ℕ). joined o (fresh_observed m c.args.seen.now.marks (formula_in s c.in-Some.j)) (chain_observed o m c.args.seen.now.marks s l))
    (sym f.is) in
    record {
      builds = λ ts h. subst (λ (z : Term). Builds s c.combine.new.self (z ∷ ts)) (sym e)
          (c.combine.ensures.builds s _ _ ts (c.open.ensures.builds _ (c.open_chain.ensures.builds ts h)));
      count = omega arith;
      depth = (let z = c.combine.ensures.depth.1 (omega arith) in omega arith);
    }
