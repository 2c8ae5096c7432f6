-- What an advance makes of a waiting formula: another clock's nothing, and its own a new number or the end of the window.
use Rattle.std.proofs.Common.{◌≡◌, ℕ, ◌<◌, ◌≤◌, Bool, true, false, cond, eqb, sym, ap, ◌∙◌, le-ltb, lt-ltb, eq-eqb, ne_eqb}
use Rattle.gauge.specs.Meaning.{Meaning}
use Rattle.wmtl.specs.Formula.{Window, Timed, past}
use Rattle.wmtl.specs.Run.{Advance}
use Rattle.wmtl.specs.Residual.{waiting, window_of, expired, waiting_at, waiting_advanced}

module _ (m : Meaning) (a : Advance) (t : Timed) (x : ℕ) (w : Window) (e : window_of t ≡ w) where
  pub other_clock : (a.clock ≡ w.clock → ⊥) → waiting_advanced m a t x ≡ waiting t x
  other_clock n =
      ap (λ (b : Bool). cond b (waiting_at m t (m.add (window_of t).clock x a.amount)) (waiting t x))
      (ap (λ (v : Window). eqb a.clock v.clock) e ∙ ne_eqb a.clock w.clock n)

  own_clock : (b : Bool) → a.clock ≡ w.clock → past w (m.read a.clock (m.add a.clock x a.amount)) ≡ b
      → waiting_advanced m a t x ≡ cond b (expired t) (waiting t (m.add a.clock x a.amount))
  own_clock b c p =
      let own : a.clock ≡ (window_of t).clock = c ∙ ap (λ (v : Window). v.clock) (sym e) in
      let y : ℕ = m.add a.clock x a.amount in
      ap (λ (b : Bool). cond b (waiting_at m t (m.add (window_of t).clock x a.amount)) (waiting t x)) (eq-eqb a.clock (window_of t).clock own)
      ∙ ap (λ (k : ℕ). cond (past (window_of t) (m.read k (m.add k x a.amount))) (expired t) (waiting t (m.add k x a.amount))) (sym own)
      ∙ ap (λ (b : Bool). cond b (expired t) (waiting t y)) (ap (λ (v : Window). past v (m.read a.clock y)) e ∙ p)

  pub not_past : a.clock ≡ w.clock → m.read a.clock (m.add a.clock x a.amount) ≤ w.upper
      → waiting_advanced m a t x ≡ waiting t (m.add a.clock x a.amount)
  not_past c le = own_clock false c (le-ltb w.upper (m.read a.clock (m.add a.clock x a.amount)) le)

  pub now_past : a.clock ≡ w.clock → w.upper < m.read a.clock (m.add a.clock x a.amount) → waiting_advanced m a t x ≡ expired t
  now_past c lt = own_clock true c (lt-ltb w.upper (m.read a.clock (m.add a.clock x a.amount)) lt)
