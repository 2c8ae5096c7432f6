-- What the proofs ask of a window, and nothing else.
use Prim.Native.Nat.{ℕ, ◌≤◌}
use mathlib.Core.Path.{◌≡◌, refl}
use mathlib.Core.Bool.{Bool, true, false}
use native.Mathlib.Omega.{arith}
use borrow.Author.Tests.{ltb-true, lt-ltb, le-ltb, both_ways}
use Rattle.wmtl.specs.Formula.{Window, before, past, Inside}

pub past_rises : (w : Window) (x y : ℕ) → x ≤ y → past w x ≡ true → past w y ≡ true
past_rises w x y l h = lt-ltb _ _ (let p = ltb-true _ _ h in omega arith)

pub zero_not_past : (w : Window) → past w 0 ≡ false
zero_not_past w = le-ltb _ _ (omega arith)

pub inside_not_past : (w : Window) (x : ℕ) → Inside w x → past w x ≡ true → ⊥
inside_not_past w x i h = both_ways (past w x) i.1 h

pub dec_inside : (w : Window) (x : ℕ) → Dec (Inside w x)
dec_inside w x = go (before w x) (past w x) refl refl
  where
    go : (b p : Bool) → before w x ≡ b → past w x ≡ p → Dec (Inside w x)
    go false false h k = yes (h, k)
    go false true h k = no (λ i. both_ways (past w x) i.1 k)
    go true p h k = no (λ i. both_ways (before w x) i.0 h)
