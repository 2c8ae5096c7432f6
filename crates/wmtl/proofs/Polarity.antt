-- One flag for what comes in dual pairs: true and false, both and either, until and release.
use mathlib.Core.Bool.{Bool, true, false, not}
use mathlib.Core.Logic.Iff
use mathlib.Core.Logic.{◌⊎◌, inl, inr, ⊎_elim, ◌↔◌}
use lib.Dec.{T}
use Rattle.std.proofs.Math.Logic.{⊎_map}

-- the two flags are the same
abbrev pub same : Bool → Bool → Bool
same true p = p
same false p = not p

-- both, or one of the two
abbrev pub Join : Bool → Type 0 → Type 0 → Type 0
Join true A B = A × B
Join false A B = A ⊎ B

pub join_iff : {A A' B B' : Type 0} → (e : Bool) → A ↔ A' → B ↔ B' → Join e A B ↔ Join e A' B'
join_iff true h k = (λ x. (h.0 x.0, k.0 x.1), λ x. (h.1 x.0, k.1 x.1))
join_iff false h k = (⊎_map h.0 k.0, ⊎_map h.1 k.1)

-- with a constant on one side
pub const_left : (X : Type 0) (e : Bool) → X ↔ Join e (T e) X
const_left X true = (λ x. (tt, x), λ y. y.1)
const_left X false = (λ x. inr x, ⊎_elim (λ z. absurd z) (λ x. x))

pub const_right : (X : Type 0) (e : Bool) → X ↔ Join e X (T e)
const_right X true = (λ x. (x, tt), λ y. y.0)
const_right X false = (λ x. inl x, ⊎_elim (λ x. x) (λ z. absurd z))

zero_left : (X : Type 0) (e : Bool) → T (not e) ↔ Join e (T (not e)) X
zero_left X true = (λ z. absurd z, λ y. y.0)
zero_left X false = (λ z. inl tt, λ y. tt)

zero_right : (X : Type 0) (e : Bool) → T (not e) ↔ Join e X (T (not e))
zero_right X true = (λ z. absurd z, λ y. y.1)
zero_right X false = (λ z. inr tt, λ y. tt)

pub neither : {A B : Type 0} → (e : Bool) → (A → ⊥) → (B → ⊥) → Join e A B → ⊥
neither true a b x = a x.0
neither false a b x = ⊎_elim a b x

-- a flag or its denial; and of two things that each go one way or the other
pub flag_or : (b : Bool) → T b ⊎ T (not b)
flag_or true = inl tt
flag_or false = inr tt

pub joins_or : {A A' B B' : Type 0} → (p : Bool) → A ⊎ A' → B ⊎ B' → Join p A B ⊎ Join (not p) A' B'
joins_or true (inl a) (inl b) = inl (a, b)
joins_or true (inl a) (inr b) = inr (inr b)
joins_or true (inr a) y = inr (inl a)
joins_or false (inl a) y = inl (inl a)
joins_or false (inr a) (inl b) = inl (inr b)
joins_or false (inr a) (inr b) = inr (a, b)

-- the same, where the flag is a comparison
pub null_left : (X : Type 0) (v q : Bool) → T (same v (not q)) ↔ Join (same v q) (T (same v (not q))) X
null_left X true q = zero_left X q
null_left X false q = zero_left X (not q)

pub null_right : (X : Type 0) (v q : Bool) → T (same v (not q)) ↔ Join (same v q) X (T (same v (not q)))
null_right X true q = zero_right X q
null_right X false q = zero_right X (not q)

pub same_not : (v p : Bool) → T (not (same v p)) ↔ T (same v (not p))
same_not true p = Iff.rfl
same_not false p = Iff.rfl
