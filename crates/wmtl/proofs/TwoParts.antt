-- An advance in two parts makes of a term what the joined advance makes of it.
use Prim.Native.Nat.{ℕ}
use mathlib.Core.Path.{◌≡◌, refl, sym, ◌∙◌, ap, ap₂}
use mathlib.Core.Bool.{Bool, true, false, cond}
use native.Mathlib.Omega.{arith}
use borrow.Author.Tests.{eqb-true}
use lib.Dec.{eqb}
use Rattle.gauge.specs.Meaning.{Meaning, Lawful, Fits}
use Rattle.wmtl.specs.Formula.{Timed, until, release, eventually, always, past}
use Rattle.wmtl.specs.Run.{Advance}
use Rattle.wmtl.specs.Residual.{Term, is_true, is_false, fresh, waiting, both, either, both_of, either_of, window_of, expired, waiting_at, advanced, NumbersFit}
use Rattle.wmtl.proofs.Terms.{fuse, Fusing, fusing, fuse_same, fuse_other}
use Rattle.wmtl.proofs.Windows.{past_rises}

module _ (m : Meaning) (a : Advance) where
  advanced_fuse : (q : Bool) (t u : Term) → advanced m a (fuse q t u) ≡ fuse q (advanced m a t) (advanced m a u)
  advanced_fuse q t u = fusing q (λ t u r. advanced m a r ≡ fuse q (advanced m a t) (advanced m a u)) (cases q) t u
    where
      cases : (q : Bool) → Fusing q (λ t u r. advanced m a r ≡ fuse q (advanced m a t) (advanced m a u))
      cases true =
          record {
            same_left = λ u. refl;
            other_left = λ u. refl;
            same_right = λ t. sym (fuse_same true (advanced m a t));
            other_right = λ t. sym (fuse_other true (advanced m a t));
            both_open = λ t u o o'. refl;
          }
      cases false =
          record {
            same_left = λ u. refl;
            other_left = λ u. refl;
            same_right = λ t. sym (fuse_same false (advanced m a t));
            other_right = λ t. sym (fuse_other false (advanced m a t));
            both_open = λ t u o o'. refl;
          }

  advanced_expired : (t : Timed) → advanced m a (expired t) ≡ expired t
  advanced_expired (until w l r) = refl
  advanced_expired (release w l r) = refl
  advanced_expired (eventually w r) = refl
  advanced_expired (always w r) = refl

module _ (m : Meaning) (law : Lawful m) (k y z : ℕ) (fy : Fits y) (fz : Fits z) where
  abbrev first : Advance
  first = record { clock = k; amount = y }

  abbrev second : Advance
  second = record { clock = k; amount = z }

  abbrev joined : Advance
  joined = record { clock = k; amount = m.join k y z }

  module _ (t : Timed) (x : ℕ) (fx : Fits x) where
    abbrev c : ℕ
    c = (window_of t).clock

    abbrev over : ℕ → Bool
    over n = past (window_of t) (m.read c n)

    sum : eqb k c ≡ true → m.add c (m.add c x y) z ≡ m.add c x (m.join k y z)
    sum e = law.joins c x y z fx fy fz ∙ ap (λ (h : ℕ). m.add c x (m.join h y z)) (sym (eqb-true k c e))

    still_over : eqb k c ≡ true → over (m.add c x y) ≡ true → over (m.add c x (m.join k y z)) ≡ true
    still_over e h =
        let b = law.rises c (m.add c x y) z (law.add_fits c x y fx fy) fz in
        let d = ap (m.read c) (sum e) in
        past_rises (window_of t) _ _ (omega arith) h

    -- the clock is the window's: by whether the first part already passes the window
    same_clock : eqb k c ≡ true → (o : Bool) → over (m.add c x y) ≡ o
        → advanced m second (cond o (expired t) (waiting t (m.add c x y))) ≡ waiting_at m t (m.add c x (m.join k y z))
    same_clock e true h =
        let j = m.add c x (m.join k y z) in
        advanced_expired m second t ∙ sym (ap (λ (b : Bool). cond b (expired t) (waiting t j)) (still_over e h))
    same_clock e false h =
        let y' = m.add c x y in
        ap (λ (b : Bool). cond b (waiting_at m t (m.add c y' z)) (waiting t y')) e ∙ ap (waiting_at m t) (sum e)

    waiting_parts : (e : Bool) → eqb k c ≡ e
        → advanced m second (cond e (waiting_at m t (m.add c x y)) (waiting t x))
        ≡ cond e (waiting_at m t (m.add c x (m.join k y z))) (waiting t x)
    waiting_parts false e = ap (λ (b : Bool). cond b (waiting_at m t (m.add c x z)) (waiting t x)) e
    waiting_parts true e = same_clock e (over (m.add c x y)) refl

  pub two_parts : (t : Term) → NumbersFit t → advanced m second (advanced m first t) ≡ advanced m joined t
  two_parts is_true h = refl
  two_parts is_false h = refl
  two_parts (fresh f) h = refl
  two_parts (waiting t x) h = waiting_parts t x h (eqb k (window_of t).clock) refl
  two_parts (both t u) h =
      advanced_fuse m second true (advanced m first t) (advanced m first u)
      ∙ ap₂ both_of (two_parts t h.0) (two_parts u h.1)
  two_parts (either t u) h =
      advanced_fuse m second false (advanced m first t) (advanced m first u)
      ∙ ap₂ either_of (two_parts t h.0) (two_parts u h.1)
