-- Terms by a flag of polarity: the constants, and both and either, simplified.
use Prim.Native.Nat.{ℕ}
use mathlib.Core.Bool.{Bool, true, false, not, cond}
use mathlib.Core.Path.{◌≡◌, refl, sym, subst}
use native.Mathlib.Omega.{arith}
use Rattle.wmtl.specs.Residual.{Term, is_true, is_false, fresh, waiting, both, either, both_of, both_open, either_of, either_open}

abbrev pub constant : Bool → Term
constant true = is_true
constant false = is_false

abbrev pub pair : Bool → Term → Term → Term
pair true t u = both t u
pair false t u = either t u

abbrev pub fuse : Bool → Term → Term → Term
fuse true t u = both_of t u
fuse false t u = either_of t u

abbrev fuse_open : Bool → Term → Term → Term
fuse_open true t u = both_open t u
fuse_open false t u = either_open t u

-- what a waiting W becomes, with L and R what its operands become; b: its reading is before the window
abbrev pub turn : Bool → Bool → Term → Term → Term → Term
turn b p L R W = cond b (fuse p L W) (fuse (not p) R (fuse p L W))

-- a term that is no constant
abbrev pub Open : Term → Type 0
Open is_true = ⊥
Open is_false = ⊥
Open (fresh f) = Unit {0}
Open (waiting t x) = Unit {0}
Open (both t u) = Unit {0}
Open (either t u) = Unit {0}

-- what is to be shown of two terms and their pair, simplified: a constant on the left, one on the right, and none
pub record Fusing (q : Bool) (P : Term → Term → Term → Type 0) : Type 0 where
  pub same_left : (u : Term) → P (constant q) u u
  pub other_left : (u : Term) → P (constant (not q)) u (constant (not q))
  pub same_right : (t : Term) → P t (constant q) t
  pub other_right : (t : Term) → P t (constant (not q)) (constant (not q))
  pub both_open : (t u : Term) → Open t → Open u → P t u (pair q t u)

by_right : (q : Bool) (P : Term → Term → Term → Type 0) → Fusing q P → (t u : Term) → Open t → P t u (fuse_open q t u)
by_right true P c t is_true o = c.same_right t
by_right true P c t is_false o = c.other_right t
by_right true P c t (fresh f) o = c.both_open t (fresh f) o tt
by_right true P c t (waiting f x) o = c.both_open t (waiting f x) o tt
by_right true P c t (both u v) o = c.both_open t (both u v) o tt
by_right true P c t (either u v) o = c.both_open t (either u v) o tt
by_right false P c t is_true o = c.other_right t
by_right false P c t is_false o = c.same_right t
by_right false P c t (fresh f) o = c.both_open t (fresh f) o tt
by_right false P c t (waiting f x) o = c.both_open t (waiting f x) o tt
by_right false P c t (both u v) o = c.both_open t (both u v) o tt
by_right false P c t (either u v) o = c.both_open t (either u v) o tt

pub fusing : (q : Bool) (P : Term → Term → Term → Type 0) → Fusing q P → (t u : Term) → P t u (fuse q t u)
fusing true P c is_true u = c.same_left u
fusing true P c is_false u = c.other_left u
fusing true P c (fresh f) u = by_right true P c (fresh f) u tt
fusing true P c (waiting f x) u = by_right true P c (waiting f x) u tt
fusing true P c (both s t) u = by_right true P c (both s t) u tt
fusing true P c (either s t) u = by_right true P c (either s t) u tt
fusing false P c is_true u = c.other_left u
fusing false P c is_false u = c.same_left u
fusing false P c (fresh f) u = by_right false P c (fresh f) u tt
fusing false P c (waiting f x) u = by_right false P c (waiting f x) u tt
fusing false P c (both s t) u = by_right false P c (both s t) u tt
fusing false P c (either s t) u = by_right false P c (either s t) u tt

-- a constant is not open, and the two constants differ
constant_shut : (b : Bool) → Open (constant b) → ⊥
constant_shut true o = o
constant_shut false o = o

constants_differ : (q : Bool) → constant (not q) ≡ constant q → ⊥
constants_differ true e = let z : ◌≡◌ {A = ℕ} 0 1 = cc in omega arith
constants_differ false e = let z : ◌≡◌ {A = ℕ} 0 1 = cc in omega arith

-- a constant on the right of any term
pub fuse_same : (q : Bool) (t : Term) → fuse q t (constant q) ≡ t
fuse_same q t =
    fusing q (λ t u r. u ≡ constant q → r ≡ t)
    (record {
      same_left = λ u e. e;
      other_left = λ u e. refl;
      same_right = λ t e. refl;
      other_right = λ t e. absurd (constants_differ q e);
      both_open = λ t u o o' e. absurd (constant_shut q (subst Open e o'));
    })
    t (constant q) refl

pub fuse_other : (q : Bool) (t : Term) → fuse q t (constant (not q)) ≡ constant (not q)
fuse_other q t =
    fusing q (λ t u r. u ≡ constant (not q) → r ≡ constant (not q))
    (record {
      same_left = λ u e. e;
      other_left = λ u e. refl;
      same_right = λ t e. absurd (constants_differ q (sym e));
      other_right = λ t e. refl;
      both_open = λ t u o o' e. absurd (constant_shut (not q) (subst Open e o'));
    })
    t (constant (not q)) refl
