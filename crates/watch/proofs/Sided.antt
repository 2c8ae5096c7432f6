-- Records with a window: which they are, and their sides.
use Rattle.std.proofs.Common.{◌≡◌, ℕ, suc, ◌+◌, ◌<◌, ◌≤◌, true, false, take, Some, None, Option, sym, refl, ap, ◌∙◌, subst, arith, MatchOption}
use borrow.Author.Tests.{clash}
use Rattle.std.specs.Option.{option_map}
use Rattle.wmtl.specs.Formula.{Window, Formula, Operands, more, mark, not_mark, all, any, next, timed, Timed, until, release}
use Rattle.wmtl.specs.Residual.{window_of}
use Rattle.rule.specs.declared.kinds.Kind.{Kind}
use Rattle.rule.specs.declared.kinds.Kind.TheVariants.{Mark, NotMark, All, Any, Next, Until, Release, Eventually, Always}
use Rattle.rule.specs.declared.kinds.Record.{Record}
use Rattle.rule.specs.declared.rules.Rule.{Rule}
use Rattle.rule.specs.Conditions.{led, spans, count_ok}
use Rattle.rule.specs.Formulas.{first_of, window_of_record, formula_over}
use Rattle.rule.proofs.Back.{Ahead}
use Rattle.rule.specs.Rules.{IsRecord, record_in, formula_in, weight_in}
use Rattle.watch.specs.declared.cells.Operator.{Operator}
use Rattle.watch.specs.declared.cells.Operator.TheVariants.{Both, Either}
use Rattle.watch.specs.declared.windows.Windowed.{Windowed}
use Rattle.watch.specs.Windows.{parts, timed_of, Sides, IsWindowed, own_weight}
use Rattle.watch.proofs.Trees.{chain_of, formula_at_lem, chain_at, weight_at, first_behind, next_behind, counted, span_one}

-- the kinds with a left side, and without
abbrev pub two_sided : Operator → Kind
two_sided Both = Until
two_sided Either = Release

abbrev pub one_sided : Operator → Kind
one_sided Both = Eventually
one_sided Either = Always

-- a kind without a window
pub no_window : (q : Kind) (r : Record) (fs : Operands) (t : Timed) → (q ≡ Until → ⊥) → (q ≡ Release → ⊥) → (q ≡ Eventually → ⊥) → (q ≡ Always → ⊥)
    → formula_over q r fs ≡ timed t → ⊥
no_window Mark r fs t a b c d e = (let z : ◌≡◌ {A = ℕ} 0 1 = cc in omega arith)
no_window NotMark r fs t a b c d e = (let z : ◌≡◌ {A = ℕ} 0 1 = cc in omega arith)
no_window All r fs t a b c d e = (let z : ◌≡◌ {A = ℕ} 0 1 = cc in omega arith)
no_window Any r fs t a b c d e = (let z : ◌≡◌ {A = ℕ} 0 1 = cc in omega arith)
no_window Next r fs t a b c d e = (let z : ◌≡◌ {A = ℕ} 0 1 = cc in omega arith)
no_window Until r fs t a b c d e = a refl
no_window Release r fs t a b c d e = b refl
no_window Eventually r fs t a b c d e = c refl
no_window Always r fs t a b c d e = d refl

-- the window of a formula, and none of a formula that has none
abbrev window_in : Formula → Window
window_in (mark k) = record { clock = 0; lower = 0; upper = 0 }
window_in (not_mark k) = record { clock = 0; lower = 0; upper = 0 }
window_in (all fs) = record { clock = 0; lower = 0; upper = 0 }
window_in (any fs) = record { clock = 0; lower = 0; upper = 0 }
window_in (next f) = record { clock = 0; lower = 0; upper = 0 }
window_in (timed t) = window_of t

own_window : (q : Kind) (r : Record) (fs : Operands) (t : Timed) → formula_over q r fs ≡ timed t → window_of t ≡ window_of_record r
own_window Mark r fs t e = absurd (let z : ◌≡◌ {A = ℕ} 0 1 = cc in omega arith)
own_window NotMark r fs t e = absurd (let z : ◌≡◌ {A = ℕ} 0 1 = cc in omega arith)
own_window All r fs t e = absurd (let z : ◌≡◌ {A = ℕ} 0 1 = cc in omega arith)
own_window Any r fs t e = absurd (let z : ◌≡◌ {A = ℕ} 0 1 = cc in omega arith)
own_window Next r fs t e = absurd (let z : ◌≡◌ {A = ℕ} 0 1 = cc in omega arith)
own_window Until r fs t e = ap window_in (sym e)
own_window Release r fs t e = ap window_in (sym e)
own_window Eventually r fs t e = ap window_in (sym e)
own_window Always r fs t e = ap window_in (sym e)

-- a kind with a window has an operand
no_operand : (q : Kind) (r : Record) (fs : Operands) (t : Timed) → count_ok q 0 ≡ true → formula_over q r fs ≡ timed t → ⊥
no_operand q r fs t h e =
    no_window q r fs t (λ p. none_of Until p refl) (λ p. none_of Release p refl) (λ p. none_of Eventually p refl) (λ p. none_of Always p refl) e
  where
    none_of : (p : Kind) → q ≡ p → count_ok p 0 ≡ false → ⊥
    none_of p i z = clash (sym z ∙ ap (λ (x : Kind). count_ok x 0) (sym i) ∙ h)

module _ (rule : Rule) where
  -- a record's formula has the record's window
  pub window_at : (k : ℕ) → k ≤ rule.last → (t : Timed) → formula_in rule k ≡ timed t → window_of t ≡ window_of_record (record_in rule k)
  window_at k le t e = own_window (record_in rule k).kind (record_in rule k) _ t (sym (formula_at_lem rule k le) ∙ e)

  pub has_operand : (k : ℕ) → k ≤ rule.last → (t : Timed) → formula_in rule k ≡ timed t → (record_in rule k).first ≡ None → ⊥
  has_operand k le t e n =
      no_operand (record_in rule k).kind (record_in rule k) _ t
      (ap (λ (l : Option ℕ). count_ok (record_in rule k).kind (led 0 (spans (take (rule.last + 1) rule.records)) l)) (sym n) ∙ counted rule k le)
      (sym (formula_at_lem rule k le) ∙ e)

  module _ (k j : ℕ) (le : k ≤ rule.last) (f : (record_in rule k).first ≡ Some j) where
    ahead : (k < j) × (j ≤ rule.last)
    ahead = subst (Ahead rule.last k) f (first_behind rule k le)

    -- the record's formula over the chain from j on
    over : (q : Kind) → (record_in rule k).kind ≡ q → formula_in rule k ≡ formula_over q (record_in rule k) (more (formula_in rule j) (chain_of rule (record_in rule j).next))
    over q e =
        formula_at_lem rule k le
        ∙ ap (λ (x : Kind). formula_over x (record_in rule k) (chain_of rule (record_in rule k).first)) e
        ∙ ap (λ (l : Option ℕ). formula_over q (record_in rule k) (chain_of rule l)) f
        ∙ ap (λ (fs : Operands). formula_over q (record_in rule k) fs) (chain_at rule j ahead.1)

    weight : weight_in rule (record_in rule k).first ≡ own_weight rule j + weight_in rule (record_in rule j).next
    weight = ap (weight_in rule) f ∙ weight_at rule j ahead.1

    spanned : (q : Kind) → (record_in rule k).kind ≡ q → count_ok q (suc (led 0 (spans (take (rule.last + 1) rule.records)) (record_in rule j).next)) ≡ true
    spanned q e =
        ap (λ (n : ℕ). count_ok q n) (sym (span_one rule j ahead.1))
        ∙ ap (λ (l : Option ℕ). count_ok q (led 0 (spans (take (rule.last + 1) rule.records)) l)) (sym f)
        ∙ ap (λ (x : Kind). count_ok x (led 0 (spans (take (rule.last + 1) rule.records)) (record_in rule k).first)) (sym e) ∙ counted rule k le

    -- one side
    pub one_side : (o : Operator) → (record_in rule k).kind ≡ one_sided o → (x : Windowed)
        → x ≡ parts (record_in rule k) o None j
        → (formula_in rule k ≡ timed (timed_of rule x)) × Sides rule k x
    one_side o e x is =
        subst (λ (x : Windowed). (formula_in rule k ≡ timed (timed_of rule x)) × Sides rule k x) (sym is)
        (by o e, record { right_behind = ahead; left_behind = tt; weigh = (let w = weight in omega arith) })
      where
        by : (o : Operator) → (record_in rule k).kind ≡ one_sided o
            → formula_in rule k ≡ timed (timed_of rule (parts (record_in rule k) o None j))
        by Both e = over Eventually e
        by Either e = over Always e

    -- two sides
    pub two_sides : (o : Operator) → (record_in rule k).kind ≡ two_sided o → (n : Option ℕ) → (record_in rule j).next ≡ n
        → MatchOption (option_map (parts (record_in rule k) o (Some j)) n)
        ⊥ (λ x. (formula_in rule k ≡ timed (timed_of rule x)) × Sides rule k x)
    two_sides o e None h = none_of o e
      where
        none_of : (o : Operator) → (record_in rule k).kind ≡ two_sided o → ⊥
        none_of Both e = clash (ap (λ (l : Option ℕ). count_ok Until (suc (led 0 (spans (take (rule.last + 1) rule.records)) l))) (sym h) ∙ spanned Until e)
        none_of Either e = clash (ap (λ (l : Option ℕ). count_ok Release (suc (led 0 (spans (take (rule.last + 1) rule.records)) l))) (sym h) ∙ spanned Release e)
    two_sides o e (Some i) h =
        let a = subst (Ahead rule.last j) h (next_behind rule j ahead.1) in
        let lo = ahead.0 in
        let w = weight in
        let v = ap (weight_in rule) h ∙ weight_at rule i a.1 in (
          by o e,
          record { right_behind = (let b = a.0 in omega arith, a.1); left_behind = ahead; weigh = omega arith },
        )
      where
        chain : formula_in rule i ≡ first_of (chain_of rule (record_in rule j).next)
        chain =
            let a = subst (Ahead rule.last j) h (next_behind rule j ahead.1) in
            sym (ap (λ (l : Option ℕ). first_of (chain_of rule l)) h ∙ ap first_of (chain_at rule i a.1))

        by : (o : Operator) → (record_in rule k).kind ≡ two_sided o
            → formula_in rule k ≡ timed (timed_of rule (parts (record_in rule k) o (Some j) i))
        by Both e = over Until e ∙ ap (λ (g : Formula). timed (until (window_of_record (record_in rule k)) (formula_in rule j) g)) (sym chain)
        by Either e = over Release e ∙ ap (λ (g : Formula). timed (release (window_of_record (record_in rule k)) (formula_in rule j) g)) (sym chain)

  -- the same of a record that was read from the rule
  module _ (k j : ℕ) (known : IsRecord rule k) (r : Record) (is : r ≡ record_in rule k) (f : r.first ≡ Some j) where
    first_is : (record_in rule k).first ≡ Some j
    first_is = ap (λ (q : Record). q.first) (sym is) ∙ f

    kind_is : (q : Kind) → r.kind ≡ q → (record_in rule k).kind ≡ q
    kind_is q e = ap (λ (x : Record). x.kind) (sym is) ∙ e

    pub one_found : (o : Operator) → r.kind ≡ one_sided o → (x : Windowed) → x ≡ parts r o None j → IsWindowed rule k x
    one_found o e x h =
        let y = one_side k j known.1 first_is o (kind_is _ e) x (h ∙ ap (λ (q : Record). parts q o None j) is) in
        record { known = known; shape = y.0; sides = y.1 }

    pub two_found : (o : Operator) → r.kind ≡ two_sided o → (x : Option Windowed)
        → (IsRecord rule j → x ≡ option_map (parts r o (Some j)) (record_in rule j).next)
        → (P : Type 0) → MatchOption x P (IsWindowed rule k)
    two_found o e x h P =
        let a = ahead k j known.1 first_is in
        let lt = a.0 in
        subst (λ (y : Option Windowed). MatchOption y P (IsWindowed rule k))
        (sym (h (omega arith, a.1) ∙ ap (λ (q : Record). option_map (parts q o (Some j)) (record_in rule j).next) is))
        (by (record_in rule j).next (two_sides k j known.1 first_is o (kind_is _ e) (record_in rule j).next refl))
      where
        by : (n : Option ℕ) → MatchOption (option_map (parts (record_in rule k) o (Some j)) n) ⊥ (λ x. (formula_in rule k ≡ timed (timed_of rule x)) × Sides rule k x)
            → MatchOption (option_map (parts (record_in rule k) o (Some j)) n) P (IsWindowed rule k)
        by None y = absurd y
        by (Some i) y = record { known = known; shape = y.0; sides = y.1 }
